-- The tokens of the derivation tree of a rule are read as what it writes.
use Rattle.std.proofs.Common.{◌≡◌, ℕ, ◌<◌, ◌≤◌, false, List, [], ◌∷◌, ◌++◌, flat_map, map, Some, sym, ◌∙◌, ap, refl, append-nil, arith}
use Rattle.toy_imp.specs.declared.condition.Condition.{Condition}
use Rattle.toy_imp.specs.declared.param.Param.{Param}
use Rattle.toy_imp.specs.declared.rule.Method.{Method}
use Rattle.toy_imp.specs.declared.rule.Method.TheVariants as method
use Rattle.toy_imp.specs.Block.{Block}
use Rattle.toy_imp.specs.BlockGrammar.{StmtsTree, stmts_value}
use Rattle.toy_imp.specs.RuleGrammar.{ConditionTree, condition_value, MethodTree, no_method, simulated, permuted, chained, tiled, method_value, CutsTree, no_cuts, cuts_none, cuts_at, params_value, RuleTree, rule_levels, rule_operators, rule_nesting}
use Rattle.pec_text.specs.declared.token.Token.{Token}
use Rattle.pec_text.specs.declared.token.Token.TheVariants as t
use Rattle.pec_text.specs.declared.token.Word.TheVariants as w
use Rattle.program_reader.specs.Read.{and_next, most_operators}
use Rattle.program_reader.specs.TreeTokens.{in_braces, stmts_tokens}
use Rattle.program_reader.specs.RuleTokens.{declaration_tokens, method_tokens, cuts_tokens, rule_tokens}
use Rattle.program_reader.proofs.BlockComplete.{block_reads}
use Rattle.program_reader.proofs.ProgramAnswers.{levels_within, operators_within}
use Rattle.rule_reader.specs.Front.{valued}
use Rattle.rule_reader.specs.DeclarationReading.{is_declared, params_read}
use Rattle.rule_reader.specs.ConditionReading.{is_given}
use Rattle.rule_reader.specs.CutReading.{method_read, cuts_read, cut_line}
use Rattle.rule_reader.specs.RuleReading.{head_read, left_read, right_read, sides_read, written, parts_read, all_of, all_parts, rule_read}
use Rattle.rule_reader.specs.declared.cut_lines.CutLine.{CutLine}
use Rattle.rule_reader.specs.declared.rule_parts.Head.{Head}
use Rattle.rule_reader.specs.declared.rule_parts.Sides.{Sides}
use Rattle.rule_reader.proofs.DeclarationTrees.{params_are_read}
use Rattle.rule_reader.proofs.ConditionTrees.{conditions_are_read}
use Rattle.rule_reader.proofs.CutTrees.{method_is_read, cuts_are_read, same_line}
use Rattle.rule_reader.proofs.RuleSound.{head_tokens, head_value, sides_tokens, sides_value, IsShallow, tree_written}

-- ---- each part ends before the next
no_kind : (cs : List ConditionTree) (m : MethodTree) (c : CutsTree) (rest : List Token) → is_declared (head_tokens cs m c (t.Word w.Left ∷ rest)) ≡ false
no_kind (a ∷ cs) m c rest = refl
no_kind [] simulated c rest = refl
no_kind [] permuted c rest = refl
no_kind [] chained c rest = refl
no_kind [] tiled c rest = refl
no_kind [] no_method no_cuts rest = refl
no_kind [] no_method cuts_none rest = refl
no_kind [] no_method (cuts_at a more) rest = refl

no_given : (m : MethodTree) (c : CutsTree) (rest : List Token) → is_given (method_tokens m ++ (cuts_tokens c ++ (t.Word w.Left ∷ rest))) ≡ false
no_given simulated c rest = refl
no_given permuted c rest = refl
no_given chained c rest = refl
no_given tiled c rest = refl
no_given no_method no_cuts rest = refl
no_given no_method cuts_none rest = refl
no_given no_method (cuts_at a more) rest = refl

no_method_word : (c : CutsTree) (rest : List Token) → method_read (cuts_tokens c ++ (t.Word w.Left ∷ rest)) ≡ Some (method.Simulate, cuts_tokens c ++ (t.Word w.Left ∷ rest))
unfolding method_read
no_method_word no_cuts rest = refl
no_method_word cuts_none rest = refl
no_method_word (cuts_at a more) rest = refl

no_cuts_word : (rest : List Token) → cuts_read (t.Word w.Left ∷ rest) ≡ Some (no_cuts, t.Word w.Left ∷ rest)
unfolding cuts_read
no_cuts_word rest = refl

-- ---- conditions, method and cuts
-- the head of these parts
abbrev head_of : List Condition → Method → CutLine → Head
head_of cs m line = record { conditions = cs; method = m; line = line }

head_is_read : (ps : List Param) (cs : List ConditionTree) (m : MethodTree) (c : CutsTree) (rest : List Token)
    → head_read ps (head_tokens cs m c (t.Word w.Left ∷ rest)) ≡ Some (head_value ps cs m c, t.Word w.Left ∷ rest)
unfolding head_read
head_is_read ps cs m c rest =
    let behind : List Token = t.Word w.Left ∷ rest in
    ap (λ r. and_next r (λ cs rest. and_next (method_read rest) (λ m rest. and_next (cuts_read rest) (λ c rest. Some (head_of cs m (cut_line c), rest)))))
    (conditions_are_read ps cs (method_tokens m ++ (cuts_tokens c ++ behind)) (no_given m c rest))
    ∙ ap (λ r. and_next r (λ m rest. and_next (cuts_read rest) (λ c rest. Some (head_of (map (condition_value ps) cs) m (cut_line c), rest))))
    (method_is_read m (cuts_tokens c ++ behind) (no_method_word c rest))
    ∙ ap (λ r. and_next r (λ c rest. Some (head_of (map (condition_value ps) cs) (method_value m) (cut_line c), rest))) (cuts_are_read c behind (no_cuts_word rest))
    ∙ ap (λ z. Some (head_of (map (condition_value ps) cs) (method_value m) z, behind)) (same_line c)

-- ---- the sides
left_is_read : (ps : List Param) (l : StmtsTree) (rest : List Token) → IsShallow l → left_read ps (t.Word w.Left ∷ (in_braces (stmts_tokens l) ++ rest)) ≡ Some (stmts_value ps l, rest)
unfolding left_read
left_is_read ps l rest is = block_reads ps 64 64 l rest is.shallow is.few

right_is_read : (ps : List Param) (r : StmtsTree) (rest : List Token) → IsShallow r → right_read ps (t.Word w.Right ∷ (in_braces (stmts_tokens r) ++ rest)) ≡ Some (stmts_value ps r, rest)
unfolding right_read
right_is_read ps r rest is = block_reads ps 64 64 r rest is.shallow is.few

-- the sides of these blocks
abbrev sides_of : Block → Block → Sides
sides_of l r = record { left = l; right = r }

sides_are_read : (ps : List Param) (l r : StmtsTree) (rest : List Token) → IsShallow l → IsShallow r → sides_read ps (sides_tokens l r rest) ≡ Some (sides_value ps l r, rest)
unfolding sides_read
sides_are_read ps l r rest left right =
    ap (λ q. and_next q (λ l rest. and_next (right_read ps rest) (λ r rest. Some (sides_of l r, rest)))) (left_is_read ps l (t.Word w.Right ∷ (in_braces (stmts_tokens r) ++ rest)) left)
    ∙ ap (λ q. and_next q (λ r rest. Some (sides_of (stmts_value ps l) r, rest))) (right_is_read ps r rest right)

-- ---- the rule
left_shallow : (tree : RuleTree) → rule_nesting tree ≤ 64 → IsShallow tree.left
left_shallow tree h =
    let low : rule_levels tree < 65 = levels_within (rule_levels tree) (rule_operators tree) h in
    let few : rule_operators tree ≤ most_operators = operators_within (rule_levels tree) (rule_operators tree) h in
    record { shallow = omega (arith, low); few = omega (arith, few) }

right_shallow : (tree : RuleTree) → rule_nesting tree ≤ 64 → IsShallow tree.right
right_shallow tree h =
    let low : rule_levels tree < 65 = levels_within (rule_levels tree) (rule_operators tree) h in
    let few : rule_operators tree ≤ most_operators = operators_within (rule_levels tree) (rule_operators tree) h in
    record { shallow = omega (arith, low); few = omega (arith, few) }

-- the tokens behind the declarations, with nothing behind them
abbrev behind_declarations : RuleTree → List Token → List Token
behind_declarations tree rest = head_tokens tree.conditions tree.method tree.cuts (sides_tokens tree.left tree.right rest)

-- the values of the parts of a tree
abbrev parts_of : RuleTree → Head × Sides
parts_of tree =
    (head_value (params_value tree.declarations) tree.conditions tree.method tree.cuts, sides_value (params_value tree.declarations) tree.left tree.right)

parts_are_read : (tree : RuleTree) → rule_nesting tree ≤ 64 → parts_read (params_value tree.declarations) (behind_declarations tree []) ≡ Some (parts_of tree, [])
unfolding parts_read
parts_are_read tree h =
    let ps : List Param = params_value tree.declarations in
    ap (λ r. and_next r (λ head rest. and_next (sides_read ps rest) (λ sides rest. Some ((head, sides), rest))))
    (head_is_read ps tree.conditions tree.method tree.cuts (in_braces (stmts_tokens tree.left) ++ (t.Word w.Right ∷ (in_braces (stmts_tokens tree.right) ++ []))))
    ∙ ap (λ r. and_next r (λ sides rest. Some ((head_value ps tree.conditions tree.method tree.cuts, sides), rest)))
    (sides_are_read ps tree.left tree.right [] (left_shallow tree h) (right_shallow tree h))

same_tokens : (tree : RuleTree) → rule_tokens tree ≡ flat_map declaration_tokens tree.declarations ++ behind_declarations tree []
same_tokens tree =
    ap (λ z. flat_map declaration_tokens tree.declarations ++ head_tokens tree.conditions tree.method tree.cuts (t.Word w.Left ∷ (in_braces (stmts_tokens tree.left) ++ (t.Word w.Right ∷ z))))
    (sym (append-nil (in_braces (stmts_tokens tree.right))))

all_parts_are_read : (tree : RuleTree) → rule_nesting tree ≤ 64 → all_parts (rule_tokens tree) ≡ Some ((params_value tree.declarations, parts_of tree), [])
unfolding all_parts
all_parts_are_read tree h =
    ap (λ z. and_next (params_read z) (λ ps rest. and_next (parts_read ps rest) (λ parts rest. Some ((ps, parts), rest)))) (same_tokens tree)
    ∙ ap (λ r. and_next r (λ ps rest. and_next (parts_read ps rest) (λ parts rest. Some ((ps, parts), rest))))
    (params_are_read tree.declarations (behind_declarations tree [])
    (no_kind tree.conditions tree.method tree.cuts (in_braces (stmts_tokens tree.left) ++ (t.Word w.Right ∷ (in_braces (stmts_tokens tree.right) ++ [])))))
    ∙ ap (λ r. and_next r (λ parts rest. Some ((params_value tree.declarations, parts), rest))) (parts_are_read tree h)

pub rule_is_read : (title : List ℕ) (tree : RuleTree) → rule_nesting tree ≤ 64 → rule_read title (rule_tokens tree) ≡ Some (tree_written title tree)
unfolding rule_read
rule_is_read title tree h = ap (λ r. all_of (valued (λ p. written title p.0 p.1) r)) (all_parts_are_read tree h)
