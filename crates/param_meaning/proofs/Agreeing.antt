-- Filling depends only on what stands for the parameters that occur.
-- By the structure of the tree.
use Rattle.std.specs.Prelude.{◌≡◌, ℕ, slice_get, refl}
use Rattle.std.proofs.Common.{ap, inl, inr}
use Rattle.toy_imp.specs.declared.name.Name.{Name}
use Rattle.toy_imp.specs.declared.name.Name.TheVariants.{Own, Par}
use Rattle.toy_imp.specs.declared.param.Kind.{Kind}
use Rattle.toy_imp.specs.declared.param.Kind.TheVariants as kind
use Rattle.toy_imp.specs.declared.instance.Instance.{Instance}
use Rattle.toy_imp.specs.Expr.{Expr, num, at, add, sub, mul, par_expr, Exprs, no_exprs, expr}
use Rattle.toy_imp.specs.Test.{Test, less, less_eq, equal, not_of, and_of, or_of, par_test}
use Rattle.toy_imp.specs.Block.{Stmt, skip, put, assert_that, if_then, while_do, for_to, let_in, par_stmt, Block, empty, stmt, append}
use Rattle.toy_imp.specs.Fill.{name_by, expr_by, test_by, block_by, fill_name, fill_expr, fill_exprs, fill_test, fill_stmt, fill}
use Rattle.param_meaning.specs.FillLaws.{StandsAlike}
use Rattle.param_meaning.specs.Occurs.{OccursInName, OccursInExpr, OccursInExprs, OccursInTest, OccursInStmt, Occurs}

-- the same stands where the fillings are the same
pub stands_alike : (i j : Instance) (c : Kind) (k : ℕ) → slice_get i.fillings k ≡ slice_get j.fillings k → StandsAlike i j c k
stands_alike i j kind.Name k e = ap (name_by k) e
stands_alike i j kind.Expr k e = ap (expr_by k) e
stands_alike i j kind.Test k e = ap (test_by k) e
stands_alike i j kind.Stmt k e = ap (block_by k) e

pub name_filled_alike : (i j : Instance) (x : Name) → ((c : Kind) (k : ℕ) → OccursInName c k x → StandsAlike i j c k) → fill_name i x ≡ fill_name j x
unfolding fill_name
name_filled_alike i j (Own bytes) h = refl
name_filled_alike i j (Par k) h = h kind.Name k (refl, refl)

mutual
  unfolding fill_expr fill_exprs

  pub expr_filled_alike : (i j : Instance) (e : Expr) → ((c : Kind) (k : ℕ) → OccursInExpr c k e → StandsAlike i j c k) → fill_expr i e ≡ fill_expr j e
  expr_filled_alike i j (num z) h = refl
  expr_filled_alike i j (at x es) h = λ t. at (name_filled_alike i j x (λ c k o. h c k (inl o)) t) (exprs_filled_alike i j es (λ c k o. h c k (inr o)) t)
  expr_filled_alike i j (add a b) h = λ t. add (expr_filled_alike i j a (λ c k o. h c k (inl o)) t) (expr_filled_alike i j b (λ c k o. h c k (inr o)) t)
  expr_filled_alike i j (sub a b) h = λ t. sub (expr_filled_alike i j a (λ c k o. h c k (inl o)) t) (expr_filled_alike i j b (λ c k o. h c k (inr o)) t)
  expr_filled_alike i j (mul a b) h = λ t. mul (expr_filled_alike i j a (λ c k o. h c k (inl o)) t) (expr_filled_alike i j b (λ c k o. h c k (inr o)) t)
  expr_filled_alike i j (par_expr k) h = h kind.Expr k (refl, refl)

  pub exprs_filled_alike : (i j : Instance) (es : Exprs) → ((c : Kind) (k : ℕ) → OccursInExprs c k es → StandsAlike i j c k) → fill_exprs i es ≡ fill_exprs j es
  exprs_filled_alike i j no_exprs h = refl
  exprs_filled_alike i j (expr e es) h = λ t. expr (expr_filled_alike i j e (λ c k o. h c k (inl o)) t) (exprs_filled_alike i j es (λ c k o. h c k (inr o)) t)

pub test_filled_alike : (i j : Instance) (t : Test) → ((c : Kind) (k : ℕ) → OccursInTest c k t → StandsAlike i j c k) → fill_test i t ≡ fill_test j t
unfolding fill_test
test_filled_alike i j (less a b) h = λ t. less (expr_filled_alike i j a (λ c k o. h c k (inl o)) t) (expr_filled_alike i j b (λ c k o. h c k (inr o)) t)
test_filled_alike i j (less_eq a b) h = λ t. less_eq (expr_filled_alike i j a (λ c k o. h c k (inl o)) t) (expr_filled_alike i j b (λ c k o. h c k (inr o)) t)
test_filled_alike i j (equal a b) h = λ t. equal (expr_filled_alike i j a (λ c k o. h c k (inl o)) t) (expr_filled_alike i j b (λ c k o. h c k (inr o)) t)
test_filled_alike i j (not_of u) h = λ t. not_of (test_filled_alike i j u h t)
test_filled_alike i j (and_of u v) h = λ t. and_of (test_filled_alike i j u (λ c k o. h c k (inl o)) t) (test_filled_alike i j v (λ c k o. h c k (inr o)) t)
test_filled_alike i j (or_of u v) h = λ t. or_of (test_filled_alike i j u (λ c k o. h c k (inl o)) t) (test_filled_alike i j v (λ c k o. h c k (inr o)) t)
test_filled_alike i j (par_test k) h = h kind.Test k (refl, refl)

mutual
  unfolding fill_stmt fill

  stmt_filled_alike : (i j : Instance) (s : Stmt) (p q : Block) → ((c : Kind) (k : ℕ) → OccursInStmt c k s → StandsAlike i j c k) → p ≡ q → fill_stmt i s p ≡ fill_stmt j s q
  stmt_filled_alike i j skip p q h r = ap (stmt skip) r
  stmt_filled_alike i j (put x es e) p q h r = λ t. stmt (put (name_filled_alike i j x (λ c k o. h c k (inl o)) t) (exprs_filled_alike i j es (λ c k o. h c k (inr (inl o))) t) (expr_filled_alike i j e (λ c k o. h c k (inr (inr o))) t)) (r t)
  stmt_filled_alike i j (assert_that u) p q h r = λ t. stmt (assert_that (test_filled_alike i j u h t)) (r t)
  stmt_filled_alike i j (if_then u b d) p q h r = λ t. stmt (if_then (test_filled_alike i j u (λ c k o. h c k (inl o)) t) (filled_alike i j b (λ c k o. h c k (inr (inl o))) t) (filled_alike i j d (λ c k o. h c k (inr (inr o))) t)) (r t)
  stmt_filled_alike i j (while_do u b) p q h r = λ t. stmt (while_do (test_filled_alike i j u (λ c k o. h c k (inl o)) t) (filled_alike i j b (λ c k o. h c k (inr o)) t)) (r t)
  stmt_filled_alike i j (for_to x lo hi b) p q h r = λ t. stmt (for_to (name_filled_alike i j x (λ c k o. h c k (inl o)) t) (expr_filled_alike i j lo (λ c k o. h c k (inr (inl o))) t) (expr_filled_alike i j hi (λ c k o. h c k (inr (inr (inl o)))) t) (filled_alike i j b (λ c k o. h c k (inr (inr (inr o)))) t)) (r t)
  stmt_filled_alike i j (let_in x e b) p q h r = λ t. stmt (let_in (name_filled_alike i j x (λ c k o. h c k (inl o)) t) (expr_filled_alike i j e (λ c k o. h c k (inr (inl o))) t) (filled_alike i j b (λ c k o. h c k (inr (inr o))) t)) (r t)
  stmt_filled_alike i j (par_stmt k) p q h r = λ t. append (h kind.Stmt k (refl, refl) t) (r t)

  pub filled_alike : (i j : Instance) (b : Block) → ((c : Kind) (k : ℕ) → Occurs c k b → StandsAlike i j c k) → fill i b ≡ fill j b
  filled_alike i j empty h = refl
  filled_alike i j (stmt s b) h = stmt_filled_alike i j s (fill i b) (fill j b) (λ c k o. h c k (inl o)) (filled_alike i j b (λ c k o. h c k (inr o)))
