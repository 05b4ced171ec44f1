-- What bytes spell as a rule with which nothing is wrong is spellable: its own tree shows it.
use Rattle.std.proofs.Common.{◌≡◌, ℕ, suc, ◌≤◌, ◌<◌, ◌^◌, ◌-◌, max, min, Bool, true, false, cond, ◌||◌, nat_le, List, [], ◌∷◌, ◌++◌, map, flat_map, length, Option, Some, None, Result, Ok, Err, IfOk, refl, sym, subst, arith}
use Rattle.std.specs.List.{AllByRecursion, list_all, list_any}
use Rattle.std.proofs.lemmas.Bool.{and_from, or_parts, leb-false, lt-ltb}
use Rattle.std.proofs.lemmas.Option.{none-some}
use Rattle.toy_imp.specs.declared.param.Kind.{Kind}
use Rattle.toy_imp.specs.declared.param.Param.{Param}
use Rattle.toy_imp.specs.declared.rule.Rule.{Rule}
use Rattle.toy_imp.specs.Expr.{Expr, num, at, add, sub, mul, par_expr, Exprs, no_exprs, expr}
use Rattle.toy_imp.specs.Test.{Test, less, less_eq, equal, not_of, and_of, or_of, par_test}
use Rattle.toy_imp.specs.Block.{Stmt, skip, put, assert_that, if_then, while_do, for_to, let_in, par_stmt, Block, empty, stmt}
use Rattle.toy_imp.specs.BlockCanonical.{canonical_block}
use Rattle.toy_imp.specs.BlockGrammar.{StmtsTree, stmts_value, stmts_levels, stmts_operators}
use Rattle.toy_imp.specs.Faults.{is_undeclared, condition_numbers, uses_undeclared, first_fault}
use Rattle.toy_imp.specs.Parameters.{number_of}
use Rattle.toy_imp.specs.RuleGrammar.{Declaration, ConditionTree, keeps, ignores, commutes, positive, constant, distinct, quiet, swaps_over_1, swaps_over_2, no_cuts, cuts_none, cuts_at, CutsTree, RuleTree, declared_by, params_value, condition_value, cut_value, cuts_value, rule_value, rule_nesting}
use Rattle.toy_imp.specs.Spellable.{is_first, is_missing, is_spellable_block}
use Rattle.toy_imp.specs.Uses.{Use, own_name, parameter, expr_any, exprs_any, test_any, stmt_any, block_any, name_use}
use Rattle.toy_imp.proofs.SpellableValues.{block-spellable, first-spellable}
use Rattle.pec_text.specs.Id.{is_id}
use Rattle.pec_text.specs.Spelling.{IsName}
use Rattle.pec_text.specs.declared.token.Sign.TheVariants as s
use Rattle.pec_text.specs.declared.token.Token.{Token}
use Rattle.pec_text.specs.declared.token.Token.TheVariants as t
use Rattle.pec_text.specs.declared.token.Word.TheVariants as w
use Rattle.program_reader.specs.RuleCanonical.{canonical_rule}
use Rattle.program_reader.specs.RuleText.{RuleAnswer}
use Rattle.program_reader.specs.declared.refusal.ReadRule.{ReadRule}
use Rattle.program_reader.specs.RuleTokens.{declaration_tokens, given_tokens, method_tokens, cuts_tokens, rule_tokens}
use Rattle.program_reader.specs.SpellableRule.{is_spellable_condition, is_narrow_pair, are_narrow_cuts, IsSpellableRule, ReadRuleIsSpellable}
use Rattle.program_reader.specs.TreeTokens.{in_braces, stmts_tokens}
use Rattle.program_reader.proofs.CanonicalIsLeast.{stmts-low, stmts-few, nesting-grows}
use Rattle.program_reader.proofs.ReadNames.{NamesAre, front, back, spelled_names, stmts_names, within, inside}
use Rattle.program_reader.proofs.ReadSpellable.{neither}

-- ---- nothing is undeclared
second_fails : (a b : Bool) (rest : Option ℕ) → cond a (Some 1) (cond b (Some 2) rest) ≡ None → b ≡ false
second_fails true b rest h = absurd (none-some _ (sym h))
second_fails false true rest h = absurd (none-some _ (sym h))
second_fails false false rest h = refl

all_declared : (rule : Rule) → first_fault rule ≡ None → uses_undeclared rule ≡ false
unfolding first_fault
all_declared rule h = second_fails _ _ _ h

-- ---- what no place passes, no place passes a stronger test
module _ (p q : Use → Bool) (h : (u : Use) → q u ≡ false → p u ≡ false) where
  mutual
    expr_less : (e : Expr) → expr_any q e ≡ false → expr_any p e ≡ false
    expr_less (num z) g = refl
    expr_less (at x es) g = neither _ _ (h (name_use x) ((or_parts _ _ g).0)) (exprs_less es ((or_parts _ _ g).1))
    expr_less (add a b) g = neither _ _ (expr_less a ((or_parts _ _ g).0)) (expr_less b ((or_parts _ _ g).1))
    expr_less (sub a b) g = neither _ _ (expr_less a ((or_parts _ _ g).0)) (expr_less b ((or_parts _ _ g).1))
    expr_less (mul a b) g = neither _ _ (expr_less a ((or_parts _ _ g).0)) (expr_less b ((or_parts _ _ g).1))
    expr_less (par_expr k) g = h _ g

    exprs_less : (es : Exprs) → exprs_any q es ≡ false → exprs_any p es ≡ false
    exprs_less no_exprs g = refl
    exprs_less (expr e es) g = neither _ _ (expr_less e ((or_parts _ _ g).0)) (exprs_less es ((or_parts _ _ g).1))

  test_less : (c : Test) → test_any q c ≡ false → test_any p c ≡ false
  test_less (less a b) g = neither _ _ (expr_less a ((or_parts _ _ g).0)) (expr_less b ((or_parts _ _ g).1))
  test_less (less_eq a b) g = neither _ _ (expr_less a ((or_parts _ _ g).0)) (expr_less b ((or_parts _ _ g).1))
  test_less (equal a b) g = neither _ _ (expr_less a ((or_parts _ _ g).0)) (expr_less b ((or_parts _ _ g).1))
  test_less (not_of c) g = test_less c g
  test_less (and_of c d) g = neither _ _ (test_less c ((or_parts _ _ g).0)) (test_less d ((or_parts _ _ g).1))
  test_less (or_of c d) g = neither _ _ (test_less c ((or_parts _ _ g).0)) (test_less d ((or_parts _ _ g).1))
  test_less (par_test k) g = h _ g

  mutual
    stmt_less : (a : Stmt) → stmt_any q a ≡ false → stmt_any p a ≡ false
    stmt_less skip g = refl
    stmt_less (put x es e) g =
        let later : (exprs_any q es || expr_any q e) ≡ false = (or_parts _ _ g).1 in
        neither _ _ (h (name_use x) ((or_parts _ _ g).0)) (neither _ _ (exprs_less es ((or_parts _ _ later).0)) (expr_less e ((or_parts _ _ later).1)))
    stmt_less (assert_that c) g = test_less c g
    stmt_less (if_then c a b) g =
        let later : (block_any q a || block_any q b) ≡ false = (or_parts _ _ g).1 in
        neither _ _ (test_less c ((or_parts _ _ g).0)) (neither _ _ (block_less a ((or_parts _ _ later).0)) (block_less b ((or_parts _ _ later).1)))
    stmt_less (while_do c a) g = neither _ _ (test_less c ((or_parts _ _ g).0)) (block_less a ((or_parts _ _ g).1))
    stmt_less (for_to x lo hi a) g =
        let later : (expr_any q lo || (expr_any q hi || block_any q a)) ≡ false = (or_parts _ _ g).1 in
        let last : (expr_any q hi || block_any q a) ≡ false = (or_parts _ _ later).1 in
        neither _ _ (h (name_use x) ((or_parts _ _ g).0)) (neither _ _ (expr_less lo ((or_parts _ _ later).0)) (neither _ _ (expr_less hi ((or_parts _ _ last).0)) (block_less a ((or_parts _ _ last).1))))
    stmt_less (let_in x e a) g =
        let later : (expr_any q e || block_any q a) ≡ false = (or_parts _ _ g).1 in
        neither _ _ (h (name_use x) ((or_parts _ _ g).0)) (neither _ _ (expr_less e ((or_parts _ _ later).0)) (block_less a ((or_parts _ _ later).1)))
    stmt_less (par_stmt k) g = h _ g

    block_less : (b : Block) → block_any q b ≡ false → block_any p b ≡ false
    block_less empty g = refl
    block_less (stmt a b) g = neither _ _ (stmt_less a ((or_parts _ _ g).0)) (block_less b ((or_parts _ _ g).1))

missing_is_undeclared : (count : ℕ) (u : Use) → is_undeclared count u ≡ false → is_missing count u ≡ false
missing_is_undeclared count own_name h = refl
missing_is_undeclared count (parameter wanted k) h = h

side_spellable : (ps : List Param) (a : StmtsTree) → block_any (is_undeclared (length ps)) (stmts_value ps a) ≡ false → is_spellable_block ps (stmts_value ps a) ≡ true
side_spellable ps a h = block-spellable ps a (block_less (is_missing (length ps)) (is_undeclared (length ps)) (missing_is_undeclared (length ps)) (stmts_value ps a) h)

-- ---- declared names
all_append : {A : Type 0} (P : A → Type 0) (xs ys : List A) → AllByRecursion P xs → AllByRecursion P ys → AllByRecursion P (xs ++ ys)
all_append P [] ys h g = g
all_append P (x ∷ xs) ys h g = (h.0, all_append P xs ys h.1 g)

others_named : (P : List ℕ → Type 0) (k : Kind) (xs : List (List ℕ)) (rest : List Token) → NamesAre P (map t.Name xs ++ rest) → AllByRecursion {X = Param} (λ p. P p.name) (map (λ x. record { kind = k; name = x }) xs)
others_named P k [] rest h = tt
others_named P k (x ∷ xs) rest h = (h.0, others_named P k xs rest h.1)

declaration_named : (P : List ℕ → Type 0) (d : Declaration) → NamesAre P (declaration_tokens d) → AllByRecursion {X = Param} (λ p. P p.name) (declared_by d)
declaration_named P d h = (h.0, others_named P d.kind d.others (t.Sign s.Semicolon ∷ []) h.1)

params_named : (P : List ℕ → Type 0) (ds : List Declaration) → NamesAre P (flat_map declaration_tokens ds) → AllByRecursion {X = Param} (λ p. P p.name) (params_value ds)
params_named P [] h = tt
params_named P (d ∷ ds) h =
    all_append {A = Param} (λ p. P p.name) (declared_by d) (params_value ds)
    (declaration_named P d (front P (declaration_tokens d) (flat_map declaration_tokens ds) h)) (params_named P ds (back P (declaration_tokens d) (flat_map declaration_tokens ds) h))

-- ---- conditions
declared-first : (ps : List Param) (x : List ℕ) → nat_le (length ps) (number_of ps x) ≡ false → is_first ps (number_of ps x) ≡ true
declared-first ps x h = first-spellable ps x (leb-false _ _ h)

one_number : (ps : List Param) (x : List ℕ) → list_any (nat_le (length ps)) (number_of ps x ∷ []) ≡ false → list_all (is_first ps) (number_of ps x ∷ []) ≡ true
one_number ps x h = and_from _ _ (declared-first ps x ((or_parts _ _ h).0)) refl

more_numbers : (ps : List Param) (x : List ℕ) (ks : List ℕ) → (list_any (nat_le (length ps)) ks ≡ false → list_all (is_first ps) ks ≡ true)
    → list_any (nat_le (length ps)) (number_of ps x ∷ ks) ≡ false → list_all (is_first ps) (number_of ps x ∷ ks) ≡ true
more_numbers ps x ks f h = and_from _ _ (declared-first ps x ((or_parts _ _ h).0)) (f ((or_parts _ _ h).1))

two_numbers : (ps : List Param) (x y : List ℕ) → list_any (nat_le (length ps)) (number_of ps x ∷ number_of ps y ∷ []) ≡ false → list_all (is_first ps) (number_of ps x ∷ number_of ps y ∷ []) ≡ true
two_numbers ps x y h = more_numbers ps x (number_of ps y ∷ []) (one_number ps y) h

three_numbers : (ps : List Param) (x y z : List ℕ) → list_any (nat_le (length ps)) (number_of ps x ∷ number_of ps y ∷ number_of ps z ∷ []) ≡ false
    → list_all (is_first ps) (number_of ps x ∷ number_of ps y ∷ number_of ps z ∷ []) ≡ true
three_numbers ps x y z h = more_numbers ps x (number_of ps y ∷ number_of ps z ∷ []) (two_numbers ps y z) h

four_numbers : (ps : List Param) (x y z v : List ℕ) → list_any (nat_le (length ps)) (number_of ps x ∷ number_of ps y ∷ number_of ps z ∷ number_of ps v ∷ []) ≡ false
    → list_all (is_first ps) (number_of ps x ∷ number_of ps y ∷ number_of ps z ∷ number_of ps v ∷ []) ≡ true
four_numbers ps x y z v h = more_numbers ps x (number_of ps y ∷ number_of ps z ∷ number_of ps v ∷ []) (three_numbers ps y z v) h

condition_spellable : (ps : List Param) (c : ConditionTree) → list_any (nat_le (length ps)) (condition_numbers (condition_value ps c)) ≡ false → is_spellable_condition ps (condition_value ps c) ≡ true
condition_spellable ps (keeps x y) h = and_from _ _ (two_numbers ps x y h) refl
condition_spellable ps (ignores x y) h = and_from _ _ (two_numbers ps x y h) refl
condition_spellable ps (commutes x y) h = and_from _ _ (two_numbers ps x y h) refl
condition_spellable ps (positive x) h = and_from _ _ (one_number ps x h) refl
condition_spellable ps (constant x) h = and_from _ _ (one_number ps x h) refl
condition_spellable ps (distinct x y) h = and_from _ _ (two_numbers ps x y h) refl
condition_spellable ps (quiet x) h = and_from _ _ (one_number ps x h) refl
condition_spellable ps (swaps_over_1 x y k region) h = and_from _ _ (three_numbers ps x y k h) refl
condition_spellable ps (swaps_over_2 x y k l region) h = and_from _ _ (four_numbers ps x y k l h) refl

conditions_spellable : (ps : List Param) (cs : List ConditionTree) → list_any (λ c. list_any (nat_le (length ps)) (condition_numbers c)) (map (condition_value ps) cs) ≡ false
    → list_all (is_spellable_condition ps) (map (condition_value ps) cs) ≡ true
conditions_spellable ps [] h = refl
conditions_spellable ps (c ∷ cs) h = and_from _ _ (condition_spellable ps c ((or_parts _ _ h).0)) (conditions_spellable ps cs ((or_parts _ _ h).1))

-- ---- cuts
pair_narrow : (a : ℕ × ℕ) → is_narrow_pair (cut_value a) ≡ true
pair_narrow a =
    let left : min a.0 (2 ^ 32 - 1) < 2 ^ 32 = omega arith in
    let right : min a.1 (2 ^ 32 - 1) < 2 ^ 32 = omega arith in
    and_from _ _ (lt-ltb _ _ left) (lt-ltb _ _ right)

pairs_narrow : (pairs : List (ℕ × ℕ)) → list_all is_narrow_pair (map cut_value pairs) ≡ true
pairs_narrow [] = refl
pairs_narrow (a ∷ pairs) = and_from _ _ (pair_narrow a) (pairs_narrow pairs)

cuts_narrow : (c : CutsTree) → are_narrow_cuts (cuts_value c) ≡ true
cuts_narrow no_cuts = refl
cuts_narrow cuts_none = refl
cuts_narrow (cuts_at a more) = pairs_narrow (a ∷ more)

-- ---- the rule of a tree
abbrev right_tokens : RuleTree → List Token
right_tokens tree = t.Word w.Right ∷ in_braces (stmts_tokens tree.right)

abbrev side_tokens : RuleTree → List Token
side_tokens tree = t.Word w.Left ∷ (in_braces (stmts_tokens tree.left) ++ right_tokens tree)

abbrev behind_declarations : RuleTree → List Token
behind_declarations tree = flat_map given_tokens tree.conditions ++ (method_tokens tree.method ++ (cuts_tokens tree.cuts ++ side_tokens tree))

sides_named : (P : List ℕ → Type 0) (tree : RuleTree) → NamesAre P (rule_tokens tree) → NamesAre P (in_braces (stmts_tokens tree.left) ++ right_tokens tree)
sides_named P tree h =
    let given : NamesAre P (behind_declarations tree) = back P (flat_map declaration_tokens tree.declarations) (behind_declarations tree) h in
    let method : NamesAre P (method_tokens tree.method ++ (cuts_tokens tree.cuts ++ side_tokens tree)) =
    back P (flat_map given_tokens tree.conditions) (method_tokens tree.method ++ (cuts_tokens tree.cuts ++ side_tokens tree)) given in
    let cuts : NamesAre P (cuts_tokens tree.cuts ++ side_tokens tree) = back P (method_tokens tree.method) (cuts_tokens tree.cuts ++ side_tokens tree) method in
    back P (cuts_tokens tree.cuts) (side_tokens tree) cuts

tree_is_least : (title : List ℕ) (tree : RuleTree) → rule_nesting (canonical_rule (rule_value title tree)) ≤ rule_nesting tree
tree_is_least title tree =
    let ps = params_value tree.declarations in
    let low : max (suc (stmts_levels (canonical_block ps (stmts_value ps tree.left)))) (suc (stmts_levels (canonical_block ps (stmts_value ps tree.right))))
    ≤ max (suc (stmts_levels tree.left)) (suc (stmts_levels tree.right)) = omega (arith, stmts-low ps tree.left, stmts-low ps tree.right) in
    let few : max (stmts_operators (canonical_block ps (stmts_value ps tree.left))) (stmts_operators (canonical_block ps (stmts_value ps tree.right)))
    ≤ max (stmts_operators tree.left) (stmts_operators tree.right) = omega (arith, stmts-few ps tree.left, stmts-few ps tree.right) in
    nesting-grows _ _ _ _ low few

tree_spellable : (title : List ℕ) (tree : RuleTree) → is_id title ≡ true → NamesAre IsName (rule_tokens tree) → rule_nesting tree ≤ 64
    → uses_undeclared (rule_value title tree) ≡ false → IsSpellableRule (rule_value title tree)
tree_spellable title tree id names shallow none =
    let ps = params_value tree.declarations in
    let both : (block_any (is_undeclared (length ps)) (stmts_value ps tree.left) || block_any (is_undeclared (length ps)) (stmts_value ps tree.right)) ≡ false = (or_parts _ _ none).0 in
    let sides = sides_named IsName tree names in
    let least : rule_nesting (canonical_rule (rule_value title tree)) ≤ rule_nesting tree = tree_is_least title tree in
    record {
      title_is_id = id;
      declared = params_named IsName tree.declarations (front IsName (flat_map declaration_tokens tree.declarations) (behind_declarations tree) names);
      conditions = conditions_spellable ps tree.conditions ((or_parts _ _ none).1);
      cuts = cuts_narrow tree.cuts;
      left = side_spellable ps tree.left ((or_parts _ _ both).0);
      right = side_spellable ps tree.right ((or_parts _ _ both).1);
      left_names = stmts_names IsName ps tree.left (inside IsName (stmts_tokens tree.left) (right_tokens tree) sides);
      right_names = stmts_names IsName ps tree.right (within IsName (stmts_tokens tree.right) (back IsName (in_braces (stmts_tokens tree.left)) (right_tokens tree) sides));
      shallow = omega (arith, least, shallow);
    }

pub read_rule_is_spellable : ReadRuleIsSpellable
read_rule_is_spellable title bytes rule id spelled none =
    let names : NamesAre IsName (rule_tokens spelled.tree) = subst (NamesAre IsName) (sym spelled.text.tokens_are) (spelled_names bytes spelled.tokens spelled.text.spelled) in
    let declared : uses_undeclared (rule_value title spelled.tree) ≡ false = subst (λ z. uses_undeclared z ≡ false) (sym spelled.value) (all_declared rule none) in
    subst IsSpellableRule spelled.value (tree_spellable title spelled.tree id names spelled.text.shallow declared)

-- what is answered is spellable
pub rule_answer_is_spellable : (title bytes : List ℕ) (r : Result Rule ReadRule) → RuleAnswer title bytes r → is_id title ≡ true → IfOk r IsSpellableRule
rule_answer_is_spellable title bytes (Ok rule) h id = read_rule_is_spellable title bytes rule id h.0 h.1
rule_answer_is_spellable title bytes (Err refusal) h id = tt
