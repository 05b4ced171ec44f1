-- Each parameter of a tree passes a test exactly where each parameter that occurs in it does.
-- By the structure of the tree, both ways.
use Rattle.std.specs.Prelude.{◌≡◌, ◌⊎◌, ◌↔◌, ℕ, Bool, true, ◌&&◌, refl}
use Rattle.std.proofs.Common.{◌∙◌, ap₂, inl, inr}
use Rattle.std.proofs.lemmas.Bool.{and_from, and_parts}
use Rattle.toy_imp.specs.declared.name.Name.{Name}
use Rattle.toy_imp.specs.declared.name.Name.TheVariants.{Own, Par}
use Rattle.toy_imp.specs.declared.param.Kind.{Kind}
use Rattle.toy_imp.specs.declared.param.Kind.TheVariants as kind
use Rattle.toy_imp.specs.Expr.{Expr, num, at, add, sub, mul, par_expr, Exprs, no_exprs, expr}
use Rattle.toy_imp.specs.Test.{Test, less, less_eq, equal, not_of, and_of, or_of, par_test}
use Rattle.toy_imp.specs.Block.{Stmt, skip, put, assert_that, if_then, while_do, for_to, let_in, par_stmt, Block, empty, stmt}
use Rattle.param_meaning.specs.Each.{each_in_name, each_in_expr, each_in_exprs, each_in_test, each_in_stmt, each_in}
use Rattle.param_meaning.specs.Occurs.{OccursInName, OccursInExpr, OccursInExprs, OccursInTest, OccursInStmt, Occurs}

-- of two parts that pass, one in which the parameter occurs
part : (a b r : Bool) {P Q : Type 0} → (a && b) ≡ true → (a ≡ true → P → r ≡ true) → (b ≡ true → Q → r ≡ true) → P ⊎ Q → r ≡ true
part a b r h f g (inl p) = f (and_parts a b h).0 p
part a b r h f g (inr q) = g (and_parts a b h).1 q

-- ---- what each passes, each that occurs passes
pub name_occurring : (q : Kind → ℕ → Bool) (x : Name) → each_in_name q x ≡ true → (c : Kind) (k : ℕ) → OccursInName c k x → q c k ≡ true
name_occurring q (Own bytes) h c k o = absurd o
name_occurring q (Par j) h c k o = ap₂ q o.0 o.1 ∙ h

mutual
  unfolding each_in_expr each_in_exprs

  pub expr_occurring : (q : Kind → ℕ → Bool) (e : Expr) → each_in_expr q e ≡ true → (c : Kind) (k : ℕ) → OccursInExpr c k e → q c k ≡ true
  expr_occurring q (num z) h c k o = absurd o
  expr_occurring q (at x es) h c k o = part (each_in_name q x) (each_in_exprs q es) (q c k) h (λ p. name_occurring q x p c k) (λ p. exprs_occurring q es p c k) o
  expr_occurring q (add a b) h c k o = part (each_in_expr q a) (each_in_expr q b) (q c k) h (λ p. expr_occurring q a p c k) (λ p. expr_occurring q b p c k) o
  expr_occurring q (sub a b) h c k o = part (each_in_expr q a) (each_in_expr q b) (q c k) h (λ p. expr_occurring q a p c k) (λ p. expr_occurring q b p c k) o
  expr_occurring q (mul a b) h c k o = part (each_in_expr q a) (each_in_expr q b) (q c k) h (λ p. expr_occurring q a p c k) (λ p. expr_occurring q b p c k) o
  expr_occurring q (par_expr j) h c k o = ap₂ q o.0 o.1 ∙ h

  pub exprs_occurring : (q : Kind → ℕ → Bool) (es : Exprs) → each_in_exprs q es ≡ true → (c : Kind) (k : ℕ) → OccursInExprs c k es → q c k ≡ true
  exprs_occurring q no_exprs h c k o = absurd o
  exprs_occurring q (expr e es) h c k o = part (each_in_expr q e) (each_in_exprs q es) (q c k) h (λ p. expr_occurring q e p c k) (λ p. exprs_occurring q es p c k) o

pub test_occurring : (q : Kind → ℕ → Bool) (t : Test) → each_in_test q t ≡ true → (c : Kind) (k : ℕ) → OccursInTest c k t → q c k ≡ true
unfolding each_in_test
test_occurring q (less a b) h c k o = part (each_in_expr q a) (each_in_expr q b) (q c k) h (λ p. expr_occurring q a p c k) (λ p. expr_occurring q b p c k) o
test_occurring q (less_eq a b) h c k o = part (each_in_expr q a) (each_in_expr q b) (q c k) h (λ p. expr_occurring q a p c k) (λ p. expr_occurring q b p c k) o
test_occurring q (equal a b) h c k o = part (each_in_expr q a) (each_in_expr q b) (q c k) h (λ p. expr_occurring q a p c k) (λ p. expr_occurring q b p c k) o
test_occurring q (not_of t) h c k o = test_occurring q t h c k o
test_occurring q (and_of t u) h c k o = part (each_in_test q t) (each_in_test q u) (q c k) h (λ p. test_occurring q t p c k) (λ p. test_occurring q u p c k) o
test_occurring q (or_of t u) h c k o = part (each_in_test q t) (each_in_test q u) (q c k) h (λ p. test_occurring q t p c k) (λ p. test_occurring q u p c k) o
test_occurring q (par_test j) h c k o = ap₂ q o.0 o.1 ∙ h

mutual
  unfolding each_in_stmt each_in

  stmt_occurring : (q : Kind → ℕ → Bool) (s : Stmt) → each_in_stmt q s ≡ true → (c : Kind) (k : ℕ) → OccursInStmt c k s → q c k ≡ true
  stmt_occurring q skip h c k o = absurd o
  stmt_occurring q (put x es e) h c k o = part (each_in_name q x) (each_in_exprs q es && each_in_expr q e) (q c k) h (λ p. name_occurring q x p c k)
      (λ r. part (each_in_exprs q es) (each_in_expr q e) (q c k) r (λ p. exprs_occurring q es p c k) (λ p. expr_occurring q e p c k)) o
  stmt_occurring q (assert_that t) h c k o = test_occurring q t h c k o
  stmt_occurring q (if_then t b d) h c k o = part (each_in_test q t) (each_in q b && each_in q d) (q c k) h (λ p. test_occurring q t p c k)
      (λ r. part (each_in q b) (each_in q d) (q c k) r (λ p. occurring q b p c k) (λ p. occurring q d p c k)) o
  stmt_occurring q (while_do t b) h c k o = part (each_in_test q t) (each_in q b) (q c k) h (λ p. test_occurring q t p c k) (λ p. occurring q b p c k) o
  stmt_occurring q (for_to x lo hi b) h c k o = part (each_in_name q x) (each_in_expr q lo && (each_in_expr q hi && each_in q b)) (q c k) h (λ p. name_occurring q x p c k)
      (λ r. part (each_in_expr q lo) (each_in_expr q hi && each_in q b) (q c k) r (λ p. expr_occurring q lo p c k)
      (λ u. part (each_in_expr q hi) (each_in q b) (q c k) u (λ p. expr_occurring q hi p c k) (λ p. occurring q b p c k))) o
  stmt_occurring q (let_in x e b) h c k o = part (each_in_name q x) (each_in_expr q e && each_in q b) (q c k) h (λ p. name_occurring q x p c k)
      (λ r. part (each_in_expr q e) (each_in q b) (q c k) r (λ p. expr_occurring q e p c k) (λ p. occurring q b p c k)) o
  stmt_occurring q (par_stmt j) h c k o = ap₂ q o.0 o.1 ∙ h

  pub occurring : (q : Kind → ℕ → Bool) (b : Block) → each_in q b ≡ true → (c : Kind) (k : ℕ) → Occurs c k b → q c k ≡ true
  occurring q empty h c k o = absurd o
  occurring q (stmt s b) h c k o = part (each_in_stmt q s) (each_in q b) (q c k) h (λ p. stmt_occurring q s p c k) (λ p. occurring q b p c k) o

-- ---- what each that occurs passes, each passes
pub name_each : (q : Kind → ℕ → Bool) (x : Name) → ((c : Kind) (k : ℕ) → OccursInName c k x → q c k ≡ true) → each_in_name q x ≡ true
name_each q (Own bytes) h = refl
name_each q (Par j) h = h kind.Name j (refl, refl)

mutual
  unfolding each_in_expr each_in_exprs

  pub expr_each : (q : Kind → ℕ → Bool) (e : Expr) → ((c : Kind) (k : ℕ) → OccursInExpr c k e → q c k ≡ true) → each_in_expr q e ≡ true
  expr_each q (num z) h = refl
  expr_each q (at x es) h = and_from (each_in_name q x) (each_in_exprs q es) (name_each q x (λ c k o. h c k (inl o))) (exprs_each q es (λ c k o. h c k (inr o)))
  expr_each q (add a b) h = and_from (each_in_expr q a) (each_in_expr q b) (expr_each q a (λ c k o. h c k (inl o))) (expr_each q b (λ c k o. h c k (inr o)))
  expr_each q (sub a b) h = and_from (each_in_expr q a) (each_in_expr q b) (expr_each q a (λ c k o. h c k (inl o))) (expr_each q b (λ c k o. h c k (inr o)))
  expr_each q (mul a b) h = and_from (each_in_expr q a) (each_in_expr q b) (expr_each q a (λ c k o. h c k (inl o))) (expr_each q b (λ c k o. h c k (inr o)))
  expr_each q (par_expr j) h = h kind.Expr j (refl, refl)

  pub exprs_each : (q : Kind → ℕ → Bool) (es : Exprs) → ((c : Kind) (k : ℕ) → OccursInExprs c k es → q c k ≡ true) → each_in_exprs q es ≡ true
  exprs_each q no_exprs h = refl
  exprs_each q (expr e es) h = and_from (each_in_expr q e) (each_in_exprs q es) (expr_each q e (λ c k o. h c k (inl o))) (exprs_each q es (λ c k o. h c k (inr o)))

pub test_each : (q : Kind → ℕ → Bool) (t : Test) → ((c : Kind) (k : ℕ) → OccursInTest c k t → q c k ≡ true) → each_in_test q t ≡ true
unfolding each_in_test
test_each q (less a b) h = and_from (each_in_expr q a) (each_in_expr q b) (expr_each q a (λ c k o. h c k (inl o))) (expr_each q b (λ c k o. h c k (inr o)))
test_each q (less_eq a b) h = and_from (each_in_expr q a) (each_in_expr q b) (expr_each q a (λ c k o. h c k (inl o))) (expr_each q b (λ c k o. h c k (inr o)))
test_each q (equal a b) h = and_from (each_in_expr q a) (each_in_expr q b) (expr_each q a (λ c k o. h c k (inl o))) (expr_each q b (λ c k o. h c k (inr o)))
test_each q (not_of t) h = test_each q t h
test_each q (and_of t u) h = and_from (each_in_test q t) (each_in_test q u) (test_each q t (λ c k o. h c k (inl o))) (test_each q u (λ c k o. h c k (inr o)))
test_each q (or_of t u) h = and_from (each_in_test q t) (each_in_test q u) (test_each q t (λ c k o. h c k (inl o))) (test_each q u (λ c k o. h c k (inr o)))
test_each q (par_test j) h = h kind.Test j (refl, refl)

mutual
  unfolding each_in_stmt each_in

  stmt_each : (q : Kind → ℕ → Bool) (s : Stmt) → ((c : Kind) (k : ℕ) → OccursInStmt c k s → q c k ≡ true) → each_in_stmt q s ≡ true
  stmt_each q skip h = refl
  stmt_each q (put x es e) h = and_from (each_in_name q x) (each_in_exprs q es && each_in_expr q e) (name_each q x (λ c k o. h c k (inl o)))
      (and_from (each_in_exprs q es) (each_in_expr q e) (exprs_each q es (λ c k o. h c k (inr (inl o)))) (expr_each q e (λ c k o. h c k (inr (inr o)))))
  stmt_each q (assert_that t) h = test_each q t h
  stmt_each q (if_then t b d) h = and_from (each_in_test q t) (each_in q b && each_in q d) (test_each q t (λ c k o. h c k (inl o)))
      (and_from (each_in q b) (each_in q d) (each q b (λ c k o. h c k (inr (inl o)))) (each q d (λ c k o. h c k (inr (inr o)))))
  stmt_each q (while_do t b) h = and_from (each_in_test q t) (each_in q b) (test_each q t (λ c k o. h c k (inl o))) (each q b (λ c k o. h c k (inr o)))
  stmt_each q (for_to x lo hi b) h = and_from (each_in_name q x) (each_in_expr q lo && (each_in_expr q hi && each_in q b)) (name_each q x (λ c k o. h c k (inl o)))
      (and_from (each_in_expr q lo) (each_in_expr q hi && each_in q b) (expr_each q lo (λ c k o. h c k (inr (inl o))))
      (and_from (each_in_expr q hi) (each_in q b) (expr_each q hi (λ c k o. h c k (inr (inr (inl o))))) (each q b (λ c k o. h c k (inr (inr (inr o)))))))
  stmt_each q (let_in x e b) h = and_from (each_in_name q x) (each_in_expr q e && each_in q b) (name_each q x (λ c k o. h c k (inl o)))
      (and_from (each_in_expr q e) (each_in q b) (expr_each q e (λ c k o. h c k (inr (inl o)))) (each q b (λ c k o. h c k (inr (inr o)))))
  stmt_each q (par_stmt j) h = h kind.Stmt j (refl, refl)

  pub each : (q : Kind → ℕ → Bool) (b : Block) → ((c : Kind) (k : ℕ) → Occurs c k b → q c k ≡ true) → each_in q b ≡ true
  each q empty h = refl
  each q (stmt s b) h = and_from (each_in_stmt q s) (each_in q b) (stmt_each q s (λ c k o. h c k (inl o))) (each q b (λ c k o. h c k (inr o)))

pub each_is_occurring : (q : Kind → ℕ → Bool) (b : Block) → (each_in q b ≡ true) ↔ ((c : Kind) (k : ℕ) → Occurs c k b → q c k ≡ true)
each_is_occurring q b = (occurring q b, each q b)
