-- A spellable value is the value of its canonical tree.
-- Parentheses and brackets change no value, and a name is read as what it stands for.
use Rattle.std.proofs.Common.{◌≡◌, ℕ, ◌-◌, ◌^◌, true, false, ◌&&◌, List, length, ℤ, pos, negsuc, refl, ◌∙◌, ap, arith, Option, None, Some, nat_lt, ◌==◌}
use Rattle.std.proofs.lemmas.Bool.{ltb-true, eqb-true, not-true, cond-true, cond-false, and_parts}
use Rattle.toy_imp.specs.declared.name.Name.{Name}
use Rattle.toy_imp.specs.declared.name.Name.TheVariants.{Own, Par}
use Rattle.toy_imp.specs.declared.param.Kind.{Kind}
use Rattle.toy_imp.specs.declared.param.Kind.TheVariants as kind
use Rattle.toy_imp.specs.declared.param.Param.{Param}
use Rattle.toy_imp.specs.Expr.{Expr, num, at, add, sub, mul, par_expr, Exprs, no_exprs, expr}
use Rattle.toy_imp.specs.Test.{Test, less, less_eq, equal, not_of, and_of, or_of, par_test}
use Rattle.toy_imp.specs.Block.{Stmt, skip, put, assert_that, if_then, while_do, for_to, let_in, par_stmt, Block, empty, stmt}
use Rattle.toy_imp.specs.Parameters.{number_of, name_value, cell_by, cell_value}
use Rattle.toy_imp.specs.ExprGrammar.{ExprTree, term, plus, minus, factor, times, place_name, expr_value, term_value, factor_value, indices_value}
use Rattle.toy_imp.specs.TestGrammar.{TestTree, both, either, one, also, test_tree_value, both_value, one_value}
use Rattle.toy_imp.specs.BlockGrammar.{stmt_tree_value, stmts_value}
use Rattle.toy_imp.specs.ExprCanonical.{declared_name, written_name, as_term, as_factor, canonical_number, canonical_expr, canonical_place}
use Rattle.toy_imp.specs.TestCanonical.{as_both, as_one, canonical_test}
use Rattle.toy_imp.specs.BlockCanonical.{canonical_stmt, canonical_block}
use Rattle.toy_imp.specs.Spellable.{is_first, is_spellable_name, is_expr_kind, is_spellable, are_spellable_indices, is_spellable_test, is_spellable_stmt, is_spellable_block}

-- ---- parentheses and brackets
pub as_term-value : (ps : List Param) (a : ExprTree) → term_value ps (as_term a) ≡ expr_value ps a
as_term-value ps (term a) = refl
as_term-value ps (plus a b) = refl
as_term-value ps (minus a b) = refl

pub as_factor-value : (ps : List Param) (a : ExprTree) → factor_value ps (as_factor a) ≡ expr_value ps a
as_factor-value ps (term (factor a)) = refl
as_factor-value ps (term (times a b)) = refl
as_factor-value ps (plus a b) = refl
as_factor-value ps (minus a b) = refl

pub as_both-value : (ps : List Param) (a : TestTree) → both_value ps (as_both a) ≡ test_tree_value ps a
as_both-value ps (both a) = refl
as_both-value ps (either a b) = refl

pub as_one-value : (ps : List Param) (a : TestTree) → one_value ps (as_one a) ≡ test_tree_value ps a
as_one-value ps (both (one a)) = refl
as_one-value ps (both (also a b)) = refl
as_one-value ps (either a b) = refl

-- ---- numbers
pub number-value : (ps : List Param) (z : ℤ) → is_spellable ps (num z) ≡ true → factor_value ps (canonical_number z) ≡ num z
number-value ps (pos n) h = ap (λ m. num (pos m)) (omega (arith, ltb-true n (2 ^ 63) h))
number-value ps (negsuc n) h = ap (λ m. num (negsuc m)) (omega (arith, ltb-true n (2 ^ 63 - 1) ((and_parts _ _ h).0)))

-- ---- names
pub number_of-first : (ps : List Param) (k : ℕ) → is_first ps k ≡ true → number_of ps (declared_name ps k) ≡ k
number_of-first ps k h = eqb-true _ _ ((and_parts _ _ h).1)

pub name-value : (ps : List Param) (x : Name) → is_spellable_name ps x ≡ true → name_value ps (written_name ps x) ≡ x
name-value ps (Own x) h = cond-false _ _ _ (not-true _ h)
name-value ps (Par k) h =
    let parts : (nat_lt k (length ps) ≡ true) × ((number_of ps (declared_name ps k) == k) ≡ true) = and_parts _ _ h in
    rw (number_of-first ps k h) (cond-true (nat_lt k (length ps)) (Par k) (Own (declared_name ps k)) parts.0)

-- ---- cells
cell_by-variable : (o : Option Kind) (ps : List Param) (x : List ℕ) → is_expr_kind o ≡ false → cell_by o ps x no_exprs ≡ at (name_value ps x) no_exprs
cell_by-variable None ps x h = refl
cell_by-variable (Some kind.Name) ps x h = refl
cell_by-variable (Some kind.Expr) ps x h = cc
cell_by-variable (Some kind.Test) ps x h = refl
cell_by-variable (Some kind.Stmt) ps x h = refl

cell_by-parameter : (o : Option Kind) (ps : List Param) (x : List ℕ) → is_expr_kind o ≡ true → cell_by o ps x no_exprs ≡ par_expr (number_of ps x)
cell_by-parameter None ps x h = cc
cell_by-parameter (Some kind.Name) ps x h = cc
cell_by-parameter (Some kind.Expr) ps x h = refl
cell_by-parameter (Some kind.Test) ps x h = cc
cell_by-parameter (Some kind.Stmt) ps x h = cc

cell_by-indexed : (o : Option Kind) (ps : List Param) (x : List ℕ) (e : Expr) (es : Exprs) → cell_by o ps x (expr e es) ≡ at (name_value ps x) (expr e es)
cell_by-indexed None ps x e es = refl
cell_by-indexed (Some kind.Name) ps x e es = refl
cell_by-indexed (Some kind.Expr) ps x e es = refl
cell_by-indexed (Some kind.Test) ps x e es = refl
cell_by-indexed (Some kind.Stmt) ps x e es = refl

place-name : (ps : List Param) (x : List ℕ) (es : Exprs) → place_name (canonical_place ps x es) ≡ x
place-name ps x no_exprs = refl
place-name ps x (expr a no_exprs) = refl
place-name ps x (expr a (expr b no_exprs)) = refl
place-name ps x (expr a (expr b (expr c more))) = refl

-- ---- expressions
mutual
  pub expr-value : (ps : List Param) (e : Expr) → is_spellable ps e ≡ true → expr_value ps (canonical_expr ps e) ≡ e
  expr-value ps (num z) h = number-value ps z h
  expr-value ps (at x no_exprs) h =
      cell_by-variable _ ps (written_name ps x) (not-true _ ((and_parts _ _ h).1))
      ∙ ap (λ y. at y no_exprs) (name-value ps x ((and_parts _ _ h).0))
  expr-value ps (at x (expr a es)) h =
      ap (λ y. cell_value ps y (indices_value ps (canonical_place ps (written_name ps x) (expr a es)))) (place-name ps (written_name ps x) (expr a es))
      ∙ ap (λ is. cell_value ps (written_name ps x) is) (indices-value ps (written_name ps x) (expr a es) ((and_parts _ _ h).1))
      ∙ cell_by-indexed _ ps (written_name ps x) a es
      ∙ ap (λ y. at y (expr a es)) (name-value ps x ((and_parts _ _ h).0))
  expr-value ps (add a b) h = λ i. add (expr-value ps a ((and_parts _ _ h).0) i) ((as_term-value ps (canonical_expr ps b) ∙ expr-value ps b ((and_parts _ _ h).1)) i)
  expr-value ps (sub a b) h = λ i. sub (expr-value ps a ((and_parts _ _ h).0) i) ((as_term-value ps (canonical_expr ps b) ∙ expr-value ps b ((and_parts _ _ h).1)) i)
  expr-value ps (mul a b) h = λ i. mul ((as_term-value ps (canonical_expr ps a) ∙ expr-value ps a ((and_parts _ _ h).0)) i) ((as_factor-value ps (canonical_expr ps b) ∙ expr-value ps b ((and_parts _ _ h).1)) i)
  expr-value ps (par_expr k) h = cell_by-parameter _ ps (declared_name ps k) ((and_parts _ _ h).1) ∙ ap par_expr (number_of-first ps k ((and_parts _ _ h).0))

  pub indices-value : (ps : List Param) (x : List ℕ) (es : Exprs) → are_spellable_indices ps es ≡ true → indices_value ps (canonical_place ps x es) ≡ es
  indices-value ps x no_exprs h = refl
  indices-value ps x (expr a no_exprs) h = λ i. expr (expr-value ps a h i) no_exprs
  indices-value ps x (expr a (expr b no_exprs)) h = λ i. expr (expr-value ps a ((and_parts _ _ h).0) i) (expr (expr-value ps b ((and_parts _ _ h).1) i) no_exprs)
  indices-value ps x (expr a (expr b (expr c no_exprs))) h =
      let later : (is_spellable ps b && is_spellable ps c) ≡ true = (and_parts _ _ h).1 in
      λ i. expr (expr-value ps a ((and_parts _ _ h).0) i) (expr (expr-value ps b ((and_parts _ _ later).0) i) (expr (expr-value ps c ((and_parts _ _ later).1) i) no_exprs))
  indices-value ps x (expr a (expr b (expr c (expr d more)))) h = cc

-- ---- tests
pub test-value : (ps : List Param) (t : Test) → is_spellable_test ps t ≡ true → test_tree_value ps (canonical_test ps t) ≡ t
test-value ps (less a b) h = λ i. less (expr-value ps a ((and_parts _ _ h).0) i) (expr-value ps b ((and_parts _ _ h).1) i)
test-value ps (less_eq a b) h = λ i. less_eq (expr-value ps a ((and_parts _ _ h).0) i) (expr-value ps b ((and_parts _ _ h).1) i)
test-value ps (equal a b) h = λ i. equal (expr-value ps a ((and_parts _ _ h).0) i) (expr-value ps b ((and_parts _ _ h).1) i)
test-value ps (not_of t) h = λ i. not_of ((as_one-value ps (canonical_test ps t) ∙ test-value ps t h) i)
test-value ps (and_of t u) h = λ i. and_of ((as_both-value ps (canonical_test ps t) ∙ test-value ps t ((and_parts _ _ h).0)) i) ((as_one-value ps (canonical_test ps u) ∙ test-value ps u ((and_parts _ _ h).1)) i)
test-value ps (or_of t u) h = λ i. or_of (test-value ps t ((and_parts _ _ h).0) i) ((as_both-value ps (canonical_test ps u) ∙ test-value ps u ((and_parts _ _ h).1)) i)
test-value ps (par_test k) h = ap par_test (number_of-first ps k h)

-- ---- statements and blocks
mutual
  pub stmt-value : (ps : List Param) (s : Stmt) → is_spellable_stmt ps s ≡ true → stmt_tree_value ps (canonical_stmt ps s) ≡ s
  stmt-value ps skip h = refl
  stmt-value ps (put x es e) h =
      let later : (are_spellable_indices ps es && is_spellable ps e) ≡ true = (and_parts _ _ h).1 in
      let name : name_value ps (place_name (canonical_place ps (written_name ps x) es)) ≡ x = ap (name_value ps) (place-name ps (written_name ps x) es) ∙ name-value ps x ((and_parts _ _ h).0) in
      λ i. put (name i) (indices-value ps (written_name ps x) es ((and_parts _ _ later).0) i) (expr-value ps e ((and_parts _ _ later).1) i)
  stmt-value ps (assert_that t) h = λ i. assert_that (test-value ps t h i)
  stmt-value ps (if_then t b c) h =
      let later : (is_spellable_block ps b && is_spellable_block ps c) ≡ true = (and_parts _ _ h).1 in
      λ i. if_then (test-value ps t ((and_parts _ _ h).0) i) (block-value ps b ((and_parts _ _ later).0) i) (block-value ps c ((and_parts _ _ later).1) i)
  stmt-value ps (while_do t b) h = λ i. while_do (test-value ps t ((and_parts _ _ h).0) i) (block-value ps b ((and_parts _ _ h).1) i)
  stmt-value ps (for_to x lo hi b) h =
      let later : (is_spellable ps lo && (is_spellable ps hi && is_spellable_block ps b)) ≡ true = (and_parts _ _ h).1 in
      let last : (is_spellable ps hi && is_spellable_block ps b) ≡ true = (and_parts _ _ later).1 in
      λ i. for_to (name-value ps x ((and_parts _ _ h).0) i) (expr-value ps lo ((and_parts _ _ later).0) i) (expr-value ps hi ((and_parts _ _ last).0) i) (block-value ps b ((and_parts _ _ last).1) i)
  stmt-value ps (let_in x e b) h =
      let later : (is_spellable ps e && is_spellable_block ps b) ≡ true = (and_parts _ _ h).1 in
      λ i. let_in (name-value ps x ((and_parts _ _ h).0) i) (expr-value ps e ((and_parts _ _ later).0) i) (block-value ps b ((and_parts _ _ later).1) i)
  stmt-value ps (par_stmt k) h = ap par_stmt (number_of-first ps k h)

  pub block-value : (ps : List Param) (b : Block) → is_spellable_block ps b ≡ true → stmts_value ps (canonical_block ps b) ≡ b
  block-value ps empty h = refl
  block-value ps (stmt s b) h = λ i. stmt (stmt-value ps s ((and_parts _ _ h).0) i) (block-value ps b ((and_parts _ _ h).1) i)
