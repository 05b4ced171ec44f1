-- What holds no parameter stays as it is when it is filled.
-- By the structure of the tree.
use Rattle.std.specs.Prelude.{◌≡◌, true, ◌&&◌, refl}
use Rattle.std.proofs.Common.{ap}
use Rattle.std.proofs.lemmas.Bool.{and_parts}
use Rattle.toy_imp.specs.declared.name.Name.{Name}
use Rattle.toy_imp.specs.declared.name.Name.TheVariants.{Own, Par}
use Rattle.toy_imp.specs.declared.instance.Instance.{Instance}
use Rattle.toy_imp.specs.Expr.{Expr, num, at, add, sub, mul, par_expr, Exprs, no_exprs, expr}
use Rattle.toy_imp.specs.Test.{Test, less, less_eq, equal, not_of, and_of, or_of, par_test}
use Rattle.toy_imp.specs.Block.{Stmt, skip, put, assert_that, if_then, while_do, for_to, let_in, par_stmt, Block, empty, stmt}
use Rattle.toy_imp.specs.Fill.{fill_name, fill_expr, fill_exprs, fill_test, fill_stmt, fill}
use Rattle.toy_imp.specs.Program.{is_own, is_closed, are_closed, is_closed_test, is_closed_stmt, is_program}

name_stays : (i : Instance) (x : Name) → is_own x ≡ true → fill_name i x ≡ x
unfolding fill_name
name_stays i (Own bytes) h = refl
name_stays i (Par k) h = cc

mutual
  unfolding fill_expr fill_exprs

  pub expr_stays : (i : Instance) (e : Expr) → is_closed e ≡ true → fill_expr i e ≡ e
  expr_stays i (num z) h = refl
  expr_stays i (at x es) h = λ t. at (name_stays i x (and_parts (is_own x) (are_closed es) h).0 t) (exprs_stay i es (and_parts (is_own x) (are_closed es) h).1 t)
  expr_stays i (add a b) h = λ t. add (expr_stays i a (and_parts (is_closed a) (is_closed b) h).0 t) (expr_stays i b (and_parts (is_closed a) (is_closed b) h).1 t)
  expr_stays i (sub a b) h = λ t. sub (expr_stays i a (and_parts (is_closed a) (is_closed b) h).0 t) (expr_stays i b (and_parts (is_closed a) (is_closed b) h).1 t)
  expr_stays i (mul a b) h = λ t. mul (expr_stays i a (and_parts (is_closed a) (is_closed b) h).0 t) (expr_stays i b (and_parts (is_closed a) (is_closed b) h).1 t)
  expr_stays i (par_expr k) h = cc

  exprs_stay : (i : Instance) (es : Exprs) → are_closed es ≡ true → fill_exprs i es ≡ es
  exprs_stay i no_exprs h = refl
  exprs_stay i (expr e es) h = λ t. expr (expr_stays i e (and_parts (is_closed e) (are_closed es) h).0 t) (exprs_stay i es (and_parts (is_closed e) (are_closed es) h).1 t)

pub test_stays : (i : Instance) (t : Test) → is_closed_test t ≡ true → fill_test i t ≡ t
unfolding fill_test
test_stays i (less a b) h = λ t. less (expr_stays i a (and_parts (is_closed a) (is_closed b) h).0 t) (expr_stays i b (and_parts (is_closed a) (is_closed b) h).1 t)
test_stays i (less_eq a b) h = λ t. less_eq (expr_stays i a (and_parts (is_closed a) (is_closed b) h).0 t) (expr_stays i b (and_parts (is_closed a) (is_closed b) h).1 t)
test_stays i (equal a b) h = λ t. equal (expr_stays i a (and_parts (is_closed a) (is_closed b) h).0 t) (expr_stays i b (and_parts (is_closed a) (is_closed b) h).1 t)
test_stays i (not_of u) h = ap not_of (test_stays i u h)
test_stays i (and_of u v) h = λ t. and_of (test_stays i u (and_parts (is_closed_test u) (is_closed_test v) h).0 t) (test_stays i v (and_parts (is_closed_test u) (is_closed_test v) h).1 t)
test_stays i (or_of u v) h = λ t. or_of (test_stays i u (and_parts (is_closed_test u) (is_closed_test v) h).0 t) (test_stays i v (and_parts (is_closed_test u) (is_closed_test v) h).1 t)
test_stays i (par_test k) h = cc

mutual
  unfolding fill_stmt fill

  stmt_stays : (i : Instance) (s : Stmt) (p q : Block) → is_closed_stmt s ≡ true → p ≡ q → fill_stmt i s p ≡ stmt s q
  stmt_stays i skip p q h r = ap (stmt skip) r
  stmt_stays i (put x es e) p q h r =
      let name : (is_own x ≡ true) × ((are_closed es && is_closed e) ≡ true) = and_parts (is_own x) (are_closed es && is_closed e) h in
      let value : (are_closed es ≡ true) × (is_closed e ≡ true) = and_parts (are_closed es) (is_closed e) name.1 in
      λ t. stmt (put (name_stays i x name.0 t) (exprs_stay i es value.0 t) (expr_stays i e value.1 t)) (r t)
  stmt_stays i (assert_that u) p q h r = λ t. stmt (assert_that (test_stays i u h t)) (r t)
  stmt_stays i (if_then u b d) p q h r =
      let test : (is_closed_test u ≡ true) × ((is_program b && is_program d) ≡ true) = and_parts (is_closed_test u) (is_program b && is_program d) h in
      let blocks : (is_program b ≡ true) × (is_program d ≡ true) = and_parts (is_program b) (is_program d) test.1 in
      λ t. stmt (if_then (test_stays i u test.0 t) (program_stays i b blocks.0 t) (program_stays i d blocks.1 t)) (r t)
  stmt_stays i (while_do u b) p q h r =
      let parts : (is_closed_test u ≡ true) × (is_program b ≡ true) = and_parts (is_closed_test u) (is_program b) h in
      λ t. stmt (while_do (test_stays i u parts.0 t) (program_stays i b parts.1 t)) (r t)
  stmt_stays i (for_to x lo hi b) p q h r =
      let name : (is_own x ≡ true) × ((is_closed lo && (is_closed hi && is_program b)) ≡ true) = and_parts (is_own x) (is_closed lo && (is_closed hi && is_program b)) h in
      let low : (is_closed lo ≡ true) × ((is_closed hi && is_program b) ≡ true) = and_parts (is_closed lo) (is_closed hi && is_program b) name.1 in
      let high : (is_closed hi ≡ true) × (is_program b ≡ true) = and_parts (is_closed hi) (is_program b) low.1 in
      λ t. stmt (for_to (name_stays i x name.0 t) (expr_stays i lo low.0 t) (expr_stays i hi high.0 t) (program_stays i b high.1 t)) (r t)
  stmt_stays i (let_in x e b) p q h r =
      let name : (is_own x ≡ true) × ((is_closed e && is_program b) ≡ true) = and_parts (is_own x) (is_closed e && is_program b) h in
      let value : (is_closed e ≡ true) × (is_program b ≡ true) = and_parts (is_closed e) (is_program b) name.1 in
      λ t. stmt (let_in (name_stays i x name.0 t) (expr_stays i e value.0 t) (program_stays i b value.1 t)) (r t)
  stmt_stays i (par_stmt k) p q h r = cc

  pub program_stays : (i : Instance) (b : Block) → is_program b ≡ true → fill i b ≡ b
  program_stays i empty h = refl
  program_stays i (stmt s b) h =
      let parts : (is_closed_stmt s ≡ true) × (is_program b ≡ true) = and_parts (is_closed_stmt s) (is_program b) h in
      stmt_stays i s (fill i b) b parts.0 (program_stays i b parts.1)
