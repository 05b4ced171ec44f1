-- What is read as a rule has a derivation tree: of its tokens, value, levels and operators, and of its numbers in cuts.
use Rattle.std.proofs.Common.{◌≡◌, ℕ, ◌<◌, ◌≤◌, List, [], ◌∷◌, ◌++◌, flat_map, map, None, Some, sym, ◌∙◌, ap, subst, refl, append-nil, arith}
use Rattle.std.proofs.lemmas.Option.{none-some, same_Some}
use Rattle.toy_imp.specs.declared.condition.Condition.{Condition}
use Rattle.toy_imp.specs.declared.param.Param.{Param}
use Rattle.toy_imp.specs.declared.rule.Method.{Method}
use Rattle.toy_imp.specs.Block.{Block}
use Rattle.toy_imp.specs.BlockGrammar.{StmtsTree, stmts_value, stmts_levels, stmts_operators}
use Rattle.toy_imp.specs.RuleGrammar.{ConditionTree, condition_value, MethodTree, method_value, CutsTree, declared_by, RuleTree, rule_value, rule_levels, rule_operators, rule_nesting}
use Rattle.pec_text.specs.declared.token.Token.{Token}
use Rattle.pec_text.specs.declared.token.Token.TheVariants as t
use Rattle.pec_text.specs.declared.token.Word.TheVariants as w
use Rattle.program_reader.specs.Read.{ReadStmt, and_next, most_operators}
use Rattle.program_reader.specs.TreeTokens.{in_braces, stmts_tokens}
use Rattle.program_reader.specs.RuleTokens.{declaration_tokens, given_tokens, method_tokens, cuts_tokens, rule_tokens}
use Rattle.program_reader.proofs.ReadSteps.{next_some}
use Rattle.program_reader.proofs.BlockSound.{HasBlock, block_has}
use Rattle.program_reader.proofs.ProgramAnswers.{nesting_within}
use Rattle.rule_reader.specs.Front.{valued}
use Rattle.rule_reader.specs.DeclarationReading.{params_read}
use Rattle.rule_reader.specs.ConditionReading.{conditions_read}
use Rattle.rule_reader.specs.CutReading.{method_read, cuts_read, cut_line}
use Rattle.rule_reader.specs.RuleReading.{head_read, left_read, right_read, sides_read, written, parts_read, all_of, all_parts, rule_read}
use Rattle.rule_reader.specs.declared.rule_parts.Head.{Head}
use Rattle.rule_reader.specs.declared.rule_parts.Sides.{Sides}
use Rattle.rule_reader.specs.declared.rule_parts.WrittenRule.{WrittenRule}
use Rattle.rule_reader.proofs.DeclarationTrees.{params_have}
use Rattle.rule_reader.proofs.ConditionTrees.{HasConditions, conditions_have}
use Rattle.rule_reader.proofs.CutTrees.{HasMethod, method_has, cuts_have}
use Rattle.rule_reader.proofs.ItemTrees.{valued_some, HasTrees}

-- ---- between the declarations and the sides
-- the tokens of conditions, method and cuts, behind which others stand
abbrev pub head_tokens : List ConditionTree → MethodTree → CutsTree → List Token → List Token
head_tokens conditions m c rest = flat_map given_tokens conditions ++ (method_tokens m ++ (cuts_tokens c ++ rest))

abbrev pub head_value : List Param → List ConditionTree → MethodTree → CutsTree → Head
head_value ps conditions m c = record { conditions = map (condition_value ps) conditions; method = method_value m; line = cut_line c }

pub record HasHead (ps : List Param) (tokens : List Token) (p : Head × List Token) : Type 0 where
  pub conditions : List ConditionTree
  pub method : MethodTree
  pub cuts : CutsTree
  pub in_front : tokens ≡ head_tokens conditions method cuts p.1
  pub value_is : head_value ps conditions method cuts ≡ p.0

-- the head of these parts
abbrev head_of : List Condition → Method → CutsTree → Head
head_of conditions m c = record { conditions = conditions; method = m; line = cut_line c }

head_made : (ps : List Param) (tokens : List Token) (q : List Condition × List Token) (m : Method × List Token) (c : CutsTree × List Token)
    → HasConditions ps tokens q → HasMethod q.1 m → m.1 ≡ cuts_tokens c.0 ++ c.1 → HasHead ps tokens (head_of q.0 m.0 c.0, c.1)
head_made ps tokens q m c has middle last = record {
  conditions = has.trees;
  method = middle.tree;
  cuts = c.0;
  in_front = has.in_front ∙ ap (λ z. flat_map given_tokens has.trees ++ z) (middle.in_front ∙ ap (λ z. method_tokens middle.tree ++ z) last);
  value_is = λ i. head_of (has.values_are i) (middle.value_is i) c.0;
}

head_end : (ps : List Param) (tokens : List Token) (q : List Condition × List Token) (m : Method × List Token) (c : CutsTree × List Token) (p : Head × List Token)
    → HasConditions ps tokens q → HasMethod q.1 m → m.1 ≡ cuts_tokens c.0 ++ c.1 → ◌≡◌ {A = Head × List Token} (head_of q.0 m.0 c.0, c.1) p → HasHead ps tokens p
head_end ps tokens q m c p has middle last same = subst (HasHead ps tokens) same (head_made ps tokens q m c has middle last)

pub head_has : (ps : List Param) (tokens : List Token) (p : Head × List Token) → head_read ps tokens ≡ Some p → HasHead ps tokens p
unfolding head_read
head_has ps tokens p h =
    let q = next_some (conditions_read ps tokens) (λ cs rest. and_next (method_read rest) (λ m rest. and_next (cuts_read rest) (λ c rest. Some (head_of cs m c, rest)))) p h in
    let m = next_some (method_read q.0.1) (λ m rest. and_next (cuts_read rest) (λ c rest. Some (head_of q.0.0 m c, rest))) p q.2 in
    let c = next_some (cuts_read m.0.1) (λ c rest. Some (head_of q.0.0 m.0.0 c, rest)) p m.2 in
    head_end ps tokens q.0 m.0 c.0 p (conditions_have ps tokens q.0 q.1) (method_has q.0.1 m.0 m.1) (cuts_have m.0.1 c.0 c.1) (same_Some (head_of q.0.0 m.0.0 c.0.0, c.0.1) p c.2)

-- ---- the sides
left_has : (ps : List Param) (tokens : List Token) (p : Block × List Token) → left_read ps tokens ≡ Some p → (rest : List Token) × (tokens ≡ t.Word w.Left ∷ rest) × HasBlock ps 64 rest p
unfolding left_read
left_has ps (t.Word w.Left ∷ rest) p h = (rest, refl, block_has ps 64 64 rest p h)
left_has ps _ p h = absurd (none-some _ h)

right_has : (ps : List Param) (tokens : List Token) (p : Block × List Token) → right_read ps tokens ≡ Some p → (rest : List Token) × (tokens ≡ t.Word w.Right ∷ rest) × HasBlock ps 64 rest p
unfolding right_read
right_has ps (t.Word w.Right ∷ rest) p h = (rest, refl, block_has ps 64 64 rest p h)
right_has ps _ p h = absurd (none-some _ h)

-- the tokens of the sides, behind which others stand
abbrev pub sides_tokens : StmtsTree → StmtsTree → List Token → List Token
sides_tokens l r rest = t.Word w.Left ∷ (in_braces (stmts_tokens l) ++ (t.Word w.Right ∷ (in_braces (stmts_tokens r) ++ rest)))

abbrev pub sides_value : List Param → StmtsTree → StmtsTree → Sides
sides_value ps l r = record { left = stmts_value ps l; right = stmts_value ps r }

-- a side whose block has at most 64 levels
pub record IsShallow (a : StmtsTree) : Type 0 where
  pub shallow : stmts_levels a < 64
  pub few : stmts_operators a ≤ most_operators

pub record HasSides (ps : List Param) (tokens : List Token) (p : Sides × List Token) : Type 0 where
  pub left : StmtsTree
  pub right : StmtsTree
  pub in_front : tokens ≡ sides_tokens left right p.1
  pub value_is : sides_value ps left right ≡ p.0
  pub left_shallow : IsShallow left
  pub right_shallow : IsShallow right

-- the sides of these blocks
abbrev sides_of : Block → Block → Sides
sides_of l r = record { left = l; right = r }

sides_made : (ps : List Param) (tokens first second : List Token) (l r : Block × List Token) → tokens ≡ t.Word w.Left ∷ first → HasBlock ps 64 first l → l.1 ≡ t.Word w.Right ∷ second
    → HasBlock ps 64 second r → HasSides ps tokens (sides_of l.0 r.0, r.1)
sides_made ps tokens first second l r is left next right = record {
  left = left.tree;
  right = right.tree;
  in_front = is ∙ ap (λ z. t.Word w.Left ∷ z) (left.spelled ∙ ap (λ z. in_braces (stmts_tokens left.tree) ++ z) (next ∙ ap (λ z. t.Word w.Right ∷ z) right.spelled));
  value_is = λ i. sides_of (left.value i) (right.value i);
  left_shallow = record { shallow = left.shallow; few = left.few };
  right_shallow = record { shallow = right.shallow; few = right.few };
}

pub sides_have : (ps : List Param) (tokens : List Token) (p : Sides × List Token) → sides_read ps tokens ≡ Some p → HasSides ps tokens p
unfolding sides_read
sides_have ps tokens p h =
    let l = next_some (left_read ps tokens) (λ l rest. and_next (right_read ps rest) (λ r rest. Some (sides_of l r, rest))) p h in
    let r = next_some (right_read ps l.0.1) (λ r rest. Some (sides_of l.0.0 r, rest)) p l.2 in
    let left = left_has ps tokens l.0 l.1 in
    let right = right_has ps l.0.1 r.0 r.1 in
    subst (HasSides ps tokens) (same_Some (sides_of l.0.0 r.0.0, r.0.1) p r.2) (sides_made ps tokens left.0 right.0 l.0 r.0 left.1 left.2 right.1 right.2)

-- ---- the rule
-- what is written by a tree under a title
abbrev pub tree_written : List ℕ → RuleTree → WrittenRule
tree_written title tree = record { rule = rule_value title tree; is_beyond = (cut_line tree.cuts).is_beyond }

-- a tree of all tokens, whose nesting is at most 64
pub record HasRule (title : List ℕ) (tokens : List Token) (written : WrittenRule) : Type 0 where
  pub tree : RuleTree
  pub tokens_are : rule_tokens tree ≡ tokens
  pub shallow : rule_nesting tree ≤ 64
  pub value_is : tree_written title tree ≡ written

abbrev tree_of : {ps : List Param} {front middle last : List Token} {q : List Param × List Token} {head : Head × List Token} {sides : Sides × List Token}
    → HasTrees declaration_tokens declared_by front q → HasHead ps middle head → HasSides ps last sides → RuleTree
tree_of declared head sides = record {
  declarations = declared.trees;
  conditions = head.conditions;
  method = head.method;
  cuts = head.cuts;
  left = sides.left;
  right = sides.right;
}

nesting_of : (l r : StmtsTree) → IsShallow l → IsShallow r → (tree : RuleTree) → tree.left ≡ l → tree.right ≡ r → rule_nesting tree ≤ 64
nesting_of l r left right tree first second =
    let low : stmts_levels tree.left < 64 = subst (λ z. stmts_levels z < 64) (sym first) left.shallow in
    let high : stmts_levels tree.right < 64 = subst (λ z. stmts_levels z < 64) (sym second) right.shallow in
    let few : stmts_operators tree.left ≤ most_operators = subst (λ z. stmts_operators z ≤ most_operators) (sym first) left.few in
    let less : stmts_operators tree.right ≤ most_operators = subst (λ z. stmts_operators z ≤ most_operators) (sym second) right.few in
    nesting_within (rule_levels tree) (rule_operators tree) (omega arith) (omega arith)

rule_made : (title : List ℕ) (tokens : List Token) (q : List Param × List Token) (head : Head × List Token) (sides : Sides) → HasTrees declaration_tokens declared_by tokens q
    → HasHead q.0 q.1 head → HasSides q.0 head.1 (sides, []) → HasRule title tokens (written title q.0 (head.0, sides))
rule_made title tokens q head sides declared middle last =
    let tree : RuleTree = tree_of declared middle last in
    record {
      tree = tree;
      tokens_are =
          ap (λ z. flat_map declaration_tokens declared.trees ++ (head_tokens middle.conditions middle.method middle.cuts (t.Word w.Left ∷ (in_braces (stmts_tokens last.left) ++ (t.Word w.Right ∷ z)))))
          (sym (append-nil (in_braces (stmts_tokens last.right))))
          ∙ ap (λ z. flat_map declaration_tokens declared.trees ++ (head_tokens middle.conditions middle.method middle.cuts z)) (sym last.in_front)
          ∙ ap (λ z. flat_map declaration_tokens declared.trees ++ z) (sym middle.in_front)
          ∙ sym declared.in_front;
      shallow = nesting_of last.left last.right last.left_shallow last.right_shallow tree refl refl;
      value_is =
          ap (λ ps. written title ps (head_value ps middle.conditions middle.method middle.cuts, sides_value ps last.left last.right)) declared.values_are
          ∙ (λ i. written title q.0 (middle.value_is i, last.value_is i));
    }

all_some : {A : Type 0} (r : ReadStmt A) (a : A) → all_of r ≡ Some a → r ≡ Some (a, [])
all_some None a h = absurd (none-some _ h)
all_some (Some (b, [])) a h = ap (λ z. Some (z, [])) (same_Some _ _ h)
all_some (Some (b, token ∷ rest)) a h = absurd (none-some _ h)

parts_have : (title : List ℕ) (tokens : List Token) (q : List Param × List Token) (parts : Head × Sides) → HasTrees declaration_tokens declared_by tokens q
    → parts_read q.0 q.1 ≡ Some (parts, []) → HasRule title tokens (written title q.0 parts)
unfolding parts_read
parts_have title tokens q parts declared h =
    let head = next_some (head_read q.0 q.1) (λ head rest. and_next (sides_read q.0 rest) (λ sides rest. Some ((head, sides), rest))) (parts, []) h in
    let sides = next_some (sides_read q.0 head.0.1) (λ sides rest. Some ((head.0.0, sides), rest)) (parts, []) head.2 in
    let same : ((head.0.0, sides.0.0), sides.0.1) ≡ (parts, []) = same_Some _ _ sides.2 in
    let last : HasSides q.0 head.0.1 (sides.0.0, []) = subst (λ z. HasSides q.0 head.0.1 (sides.0.0, z)) (ap (λ z. z.1) same) (sides_have q.0 head.0.1 sides.0 sides.1) in
    subst (λ z. HasRule title tokens (written title q.0 z)) (ap (λ z. z.0) same) (rule_made title tokens q head.0 sides.0.0 declared (head_has q.0 q.1 head.0 head.1) last)

all_parts_have : (title : List ℕ) (tokens : List Token) (all : List Param × (Head × Sides)) → all_parts tokens ≡ Some (all, []) → HasRule title tokens (written title all.0 all.1)
unfolding all_parts
all_parts_have title tokens all h =
    let q = next_some (params_read tokens) (λ ps rest. and_next (parts_read ps rest) (λ parts rest. Some ((ps, parts), rest))) (all, []) h in
    let parts = next_some (parts_read q.0.0 q.0.1) (λ parts rest. Some ((q.0.0, parts), rest)) (all, []) q.2 in
    let same : ((q.0.0, parts.0.0), parts.0.1) ≡ (all, []) = same_Some _ _ parts.2 in
    let whole : parts_read q.0.0 q.0.1 ≡ Some (parts.0.0, []) = parts.1 ∙ ap (λ z. Some (parts.0.0, z.1)) same in
    subst (λ z. HasRule title tokens (written title z.0 z.1)) (ap (λ z. z.0) same) (parts_have title tokens q.0 parts.0.0 (params_have tokens q.0 q.1) whole)

pub rule_has : (title : List ℕ) (tokens : List Token) (found : WrittenRule) → rule_read title tokens ≡ Some found → HasRule title tokens found
unfolding rule_read
rule_has title tokens found h =
    let whole = all_some (valued (λ p. written title p.0 p.1) (all_parts tokens)) found h in
    let all = valued_some (λ p. written title p.0 p.1) (all_parts tokens) (found, []) whole in
    let ends : all_parts tokens ≡ Some (all.0.0, []) = all.1 ∙ ap (λ z. Some (all.0.0, z.1)) all.2 in
    subst (HasRule title tokens) (ap (λ z. z.0) all.2) (all_parts_have title tokens all.0.0 ends)
