-- A fold over the places of a text, of whose value a test holds exactly where it held before and no place is bad.
use Rattle.std.specs.Prelude.{◌≡◌, Bool, true, false, not, ◌&&◌, ◌||◌, refl}
use Rattle.std.proofs.Common.{sym, ◌∙◌, ap}
use Rattle.toy_imp.specs.declared.name.Name.{Name}
use Rattle.toy_imp.specs.Expr.{Expr, num, at, add, sub, mul, par_expr, Exprs, no_exprs, expr}
use Rattle.toy_imp.specs.Test.{Test, less, less_eq, equal, not_of, and_of, or_of, par_test}
use Rattle.toy_imp.specs.Block.{Stmt, skip, put, assert_that, if_then, while_do, for_to, let_in, par_stmt, Block, empty, stmt}
use Rattle.side_conditions.specs.Places.{expr_has, exprs_have, test_has}
use Rattle.swap_conditions.specs.Standing.{stmt_has, block_has}
use Rattle.swap_conditions.specs.Folding.{expr_fold, exprs_fold, test_fold, stmt_fold, block_fold}

pub and_true : (h : Bool) → (h && true) ≡ h
and_true true = refl
and_true false = refl

nor : (h a b : Bool) → ((h && not a) && not b) ≡ (h && not (a || b))
nor true true b = refl
nor true false b = refl
nor false a b = refl

-- one part after the other
both : (h i j a b : Bool) → i ≡ (h && not a) → j ≡ (i && not b) → j ≡ (h && not (a || b))
both h i j a b p q = q ∙ ap (λ k. k && not b) p ∙ nor h a b

module _ (A : Type 0) (turn : Name → Exprs → A → A) (holds : A → Bool) (bad : Name → Exprs → Bool)
    (one : (x : Name) (es : Exprs) (a : A) → holds (turn x es a) ≡ (holds a && not (bad x es))) where
  none : (a : A) → holds a ≡ (holds a && true)
  none a = sym (and_true (holds a))

  mutual
    expr_passes : (e : Expr) (a : A) → holds (expr_fold turn e a) ≡ (holds a && not (expr_has bad e))
    expr_passes (num z) a = none a
    expr_passes (at x es) a = both _ _ _ (bad x es) (exprs_have bad es) (one x es a) (exprs_pass es (turn x es a))
    expr_passes (add e f) a = both _ _ _ (expr_has bad e) (expr_has bad f) (expr_passes e a) (expr_passes f (expr_fold turn e a))
    expr_passes (sub e f) a = both _ _ _ (expr_has bad e) (expr_has bad f) (expr_passes e a) (expr_passes f (expr_fold turn e a))
    expr_passes (mul e f) a = both _ _ _ (expr_has bad e) (expr_has bad f) (expr_passes e a) (expr_passes f (expr_fold turn e a))
    expr_passes (par_expr k) a = none a

    exprs_pass : (es : Exprs) (a : A) → holds (exprs_fold turn es a) ≡ (holds a && not (exprs_have bad es))
    exprs_pass no_exprs a = none a
    exprs_pass (expr e es) a = both _ _ _ (expr_has bad e) (exprs_have bad es) (expr_passes e a) (exprs_pass es (expr_fold turn e a))

  test_passes : (t : Test) (a : A) → holds (test_fold turn t a) ≡ (holds a && not (test_has bad t))
  test_passes (less e f) a = both _ _ _ (expr_has bad e) (expr_has bad f) (expr_passes e a) (expr_passes f (expr_fold turn e a))
  test_passes (less_eq e f) a = both _ _ _ (expr_has bad e) (expr_has bad f) (expr_passes e a) (expr_passes f (expr_fold turn e a))
  test_passes (equal e f) a = both _ _ _ (expr_has bad e) (expr_has bad f) (expr_passes e a) (expr_passes f (expr_fold turn e a))
  test_passes (not_of t) a = test_passes t a
  test_passes (and_of t u) a = both _ _ _ (test_has bad t) (test_has bad u) (test_passes t a) (test_passes u (test_fold turn t a))
  test_passes (or_of t u) a = both _ _ _ (test_has bad t) (test_has bad u) (test_passes t a) (test_passes u (test_fold turn t a))
  test_passes (par_test k) a = none a

  mutual
    stmt_passes : (s : Stmt) (a : A) → holds (stmt_fold turn s a) ≡ (holds a && not (stmt_has bad s))
    stmt_passes skip a = none a
    stmt_passes (put x is e) a =
        let after : A = exprs_fold turn is (turn x is a) in
        both _ _ _ (bad x is) (exprs_have bad is || expr_has bad e) (one x is a)
        (both _ _ _ (exprs_have bad is) (expr_has bad e) (exprs_pass is (turn x is a)) (expr_passes e after))
    stmt_passes (assert_that t) a = test_passes t a
    stmt_passes (if_then t b c) a =
        let first : A = test_fold turn t a in
        both _ _ _ (test_has bad t) (block_has bad b || block_has bad c) (test_passes t a)
        (both _ _ _ (block_has bad b) (block_has bad c) (block_passes b first) (block_passes c (block_fold turn b first)))
    stmt_passes (while_do t b) a = both _ _ _ (test_has bad t) (block_has bad b) (test_passes t a) (block_passes b (test_fold turn t a))
    stmt_passes (for_to x lo hi b) a =
        let first : A = turn x no_exprs a in
        let second : A = expr_fold turn lo first in
        both _ _ _ (bad x no_exprs) (expr_has bad lo || (expr_has bad hi || block_has bad b)) (one x no_exprs a)
        (both _ _ _ (expr_has bad lo) (expr_has bad hi || block_has bad b) (expr_passes lo first)
        (both _ _ _ (expr_has bad hi) (block_has bad b) (expr_passes hi second) (block_passes b (expr_fold turn hi second))))
    stmt_passes (let_in x e b) a =
        let first : A = turn x no_exprs a in
        both _ _ _ (bad x no_exprs) (expr_has bad e || block_has bad b) (one x no_exprs a)
        (both _ _ _ (expr_has bad e) (block_has bad b) (expr_passes e first) (block_passes b (expr_fold turn e first)))
    stmt_passes (par_stmt k) a = none a

    pub block_passes : (b : Block) (a : A) → holds (block_fold turn b a) ≡ (holds a && not (block_has bad b))
    block_passes empty a = none a
    block_passes (stmt s b) a = both _ _ _ (stmt_has bad s) (block_has bad b) (stmt_passes s a) (block_passes b (stmt_fold turn s a))
