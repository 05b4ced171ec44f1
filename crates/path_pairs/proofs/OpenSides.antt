-- The sides of a rule that is well formed: every name is a parameter, and under simulation there is no `for` and no `let`.
use Rattle.std.specs.Prelude.{◌≡◌, ℕ, Bool, true, false, not, ◌&&◌, ◌||◌, nat_le, length, refl}
use Rattle.std.specs.List.{list_any}
use Rattle.toy_imp.specs.declared.name.Name.{Name}
use Rattle.toy_imp.specs.declared.name.Name.TheVariants.{Own, Par}
use Rattle.toy_imp.specs.declared.rule.Rule.{Rule}
use Rattle.toy_imp.specs.Expr.{Expr, num, at, add, sub, mul, par_expr, Exprs, no_exprs, expr}
use Rattle.toy_imp.specs.Test.{Test, less, less_eq, equal, not_of, and_of, or_of, par_test}
use Rattle.toy_imp.specs.Block.{Stmt, skip, put, assert_that, if_then, while_do, for_to, let_in, par_stmt, Block, empty, stmt}
use Rattle.toy_imp.specs.Uses.{name_use, expr_any, exprs_any, test_any, stmt_any, block_any}
use Rattle.toy_imp.specs.Faults.{repeats_name, is_undeclared, condition_numbers, uses_undeclared, misplaces_parameter, omits_parameter, has_scope, is_swaps, is_simulate, simulates_scopes, has_wrong_cuts, is_too_large, well_formed}
use Rattle.rule_terms.specs.ValueAt.{is_open, names_are_open, all_names_are_open}
use Rattle.path_pairs.specs.declared.cut_points.Side.{Side}
use Rattle.path_pairs.specs.declared.cut_points.Side.TheVariants.{Left, Right}
use Rattle.path_pairs.specs.Open.{test_is_open, stmt_is_open, block_is_open}
use Rattle.path_pairs.specs.Paths.{side_of}
use Rattle.path_pairs.proofs.Stopping.{or_neither}

-- from two parts that are not undeclared, two parts that are open
both_open : (x y a b : Bool) → (x || y) ≡ false → (x ≡ false → a ≡ true) → (y ≡ false → b ≡ true) → (a && b) ≡ true
both_open x y a b h f g =
    let parts : (x ≡ false) × (y ≡ false) = or_neither x y h in
    λ i. f parts.0 i && g parts.1 i

open_name : (n : ℕ) (x : Name) → is_undeclared n (name_use x) ≡ false → is_open x ≡ true
open_name n (Own bytes) h = cc
open_name n (Par k) h = refl

mutual
  pub open_expr : (n : ℕ) (e : Expr) → expr_any (is_undeclared n) e ≡ false → names_are_open e ≡ true
  open_expr n (num z) h = refl
  open_expr n (at x es) h = both_open (is_undeclared n (name_use x)) (exprs_any (is_undeclared n) es) (is_open x) (all_names_are_open es) h (open_name n x) (open_exprs n es)
  open_expr n (add a b) h = both_open (expr_any (is_undeclared n) a) (expr_any (is_undeclared n) b) (names_are_open a) (names_are_open b) h (open_expr n a) (open_expr n b)
  open_expr n (sub a b) h = both_open (expr_any (is_undeclared n) a) (expr_any (is_undeclared n) b) (names_are_open a) (names_are_open b) h (open_expr n a) (open_expr n b)
  open_expr n (mul a b) h = both_open (expr_any (is_undeclared n) a) (expr_any (is_undeclared n) b) (names_are_open a) (names_are_open b) h (open_expr n a) (open_expr n b)
  open_expr n (par_expr k) h = refl

  pub open_exprs : (n : ℕ) (es : Exprs) → exprs_any (is_undeclared n) es ≡ false → all_names_are_open es ≡ true
  open_exprs n no_exprs h = refl
  open_exprs n (expr e es) h = both_open (expr_any (is_undeclared n) e) (exprs_any (is_undeclared n) es) (names_are_open e) (all_names_are_open es) h (open_expr n e) (open_exprs n es)

pub open_test : (n : ℕ) (t : Test) → test_any (is_undeclared n) t ≡ false → test_is_open t ≡ true
open_test n (less a b) h = both_open (expr_any (is_undeclared n) a) (expr_any (is_undeclared n) b) (names_are_open a) (names_are_open b) h (open_expr n a) (open_expr n b)
open_test n (less_eq a b) h = both_open (expr_any (is_undeclared n) a) (expr_any (is_undeclared n) b) (names_are_open a) (names_are_open b) h (open_expr n a) (open_expr n b)
open_test n (equal a b) h = both_open (expr_any (is_undeclared n) a) (expr_any (is_undeclared n) b) (names_are_open a) (names_are_open b) h (open_expr n a) (open_expr n b)
open_test n (not_of t) h = open_test n t h
open_test n (and_of t u) h = both_open (test_any (is_undeclared n) t) (test_any (is_undeclared n) u) (test_is_open t) (test_is_open u) h (open_test n t) (open_test n u)
open_test n (or_of t u) h = both_open (test_any (is_undeclared n) t) (test_any (is_undeclared n) u) (test_is_open t) (test_is_open u) h (open_test n t) (open_test n u)
open_test n (par_test k) h = refl

mutual
  pub open_stmt : (n : ℕ) (s : Stmt) → stmt_any (is_undeclared n) s ≡ false → stmt_is_open s ≡ true
  open_stmt n skip h = refl
  open_stmt n (put x is e) h =
      both_open (is_undeclared n (name_use x)) (exprs_any (is_undeclared n) is || expr_any (is_undeclared n) e) (is_open x) (all_names_are_open is && names_are_open e) h (open_name n x)
      (λ k. both_open (exprs_any (is_undeclared n) is) (expr_any (is_undeclared n) e) (all_names_are_open is) (names_are_open e) k (open_exprs n is) (open_expr n e))
  open_stmt n (assert_that t) h = open_test n t h
  open_stmt n (if_then t b c) h =
      both_open (test_any (is_undeclared n) t) (block_any (is_undeclared n) b || block_any (is_undeclared n) c) (test_is_open t) (block_is_open b && block_is_open c) h (open_test n t)
      (λ k. both_open (block_any (is_undeclared n) b) (block_any (is_undeclared n) c) (block_is_open b) (block_is_open c) k (open_block n b) (open_block n c))
  open_stmt n (while_do t b) h = both_open (test_any (is_undeclared n) t) (block_any (is_undeclared n) b) (test_is_open t) (block_is_open b) h (open_test n t) (open_block n b)
  open_stmt n (for_to x lo hi b) h =
      both_open (is_undeclared n (name_use x)) (expr_any (is_undeclared n) lo || (expr_any (is_undeclared n) hi || block_any (is_undeclared n) b))
      (is_open x) (names_are_open lo && (names_are_open hi && block_is_open b)) h (open_name n x)
      (λ k. both_open (expr_any (is_undeclared n) lo) (expr_any (is_undeclared n) hi || block_any (is_undeclared n) b) (names_are_open lo) (names_are_open hi && block_is_open b) k (open_expr n lo)
      (λ j. both_open (expr_any (is_undeclared n) hi) (block_any (is_undeclared n) b) (names_are_open hi) (block_is_open b) j (open_expr n hi) (open_block n b)))
  open_stmt n (let_in x e b) h =
      both_open (is_undeclared n (name_use x)) (expr_any (is_undeclared n) e || block_any (is_undeclared n) b) (is_open x) (names_are_open e && block_is_open b) h (open_name n x)
      (λ k. both_open (expr_any (is_undeclared n) e) (block_any (is_undeclared n) b) (names_are_open e) (block_is_open b) k (open_expr n e) (open_block n b))
  open_stmt n (par_stmt k) h = refl

  pub open_block : (n : ℕ) (b : Block) → block_any (is_undeclared n) b ≡ false → block_is_open b ≡ true
  open_block n empty h = refl
  open_block n (stmt s b) h = both_open (stmt_any (is_undeclared n) s) (block_any (is_undeclared n) b) (stmt_is_open s) (block_is_open b) h (open_stmt n s) (open_block n b)

-- none of seven holds, so neither does the second or the fifth
second_of : (a b c d e f g : Bool) → not (a || b || c || d || e || f || g) ≡ true → b ≡ false
second_of true b c d e f g h = cc
second_of false true c d e f g h = cc
second_of false false c d e f g h = refl

fifth_of : (a b c d e f g : Bool) → not (a || b || c || d || e || f || g) ≡ true → e ≡ false
fifth_of true b c d e f g h = cc
fifth_of false true c d e f g h = cc
fifth_of false false true d e f g h = cc
fifth_of false false false true e f g h = cc
fifth_of false false false false true f g h = cc
fifth_of false false false false false f g h = refl

first_two : (x y z : Bool) → (x || y || z) ≡ false → (x ≡ false) × (y ≡ false)
first_two true y z h = cc
first_two false true z h = cc
first_two false false z h = (refl, refl)

first_two_if : (m x y z : Bool) → m ≡ true → (m && (x || y || z)) ≡ false → (x ≡ false) × (y ≡ false)
first_two_if true x y z h k = first_two x y z k
first_two_if false x y z h k = cc

none_undeclared : (rule : Rule) → well_formed rule ≡ true → uses_undeclared rule ≡ false
unfolding well_formed
none_undeclared rule h =
    second_of (repeats_name rule.params) (uses_undeclared rule) (misplaces_parameter rule) (omits_parameter rule) (simulates_scopes rule) (has_wrong_cuts rule) (is_too_large rule) h

no_scopes : (rule : Rule) → well_formed rule ≡ true → simulates_scopes rule ≡ false
unfolding well_formed
no_scopes rule h =
    fifth_of (repeats_name rule.params) (uses_undeclared rule) (misplaces_parameter rule) (omits_parameter rule) (simulates_scopes rule) (has_wrong_cuts rule) (is_too_large rule) h

declared_sides : (rule : Rule) → well_formed rule ≡ true
    → (block_any (is_undeclared (length rule.params)) rule.left ≡ false) × (block_any (is_undeclared (length rule.params)) rule.right ≡ false)
declared_sides rule h =
    first_two (block_any (is_undeclared (length rule.params)) rule.left) (block_any (is_undeclared (length rule.params)) rule.right)
    (list_any (λ c. list_any (nat_le (length rule.params)) (condition_numbers c)) rule.conditions) (none_undeclared rule h)

scopeless_sides : (rule : Rule) → well_formed rule ≡ true → is_simulate rule.method ≡ true → (has_scope rule.left ≡ false) × (has_scope rule.right ≡ false)
scopeless_sides rule h k =
    first_two_if (is_simulate rule.method) (has_scope rule.left) (has_scope rule.right) (list_any is_swaps rule.conditions) k (no_scopes rule h)

pub sides_are_open : (rule : Rule) (side : Side) → well_formed rule ≡ true → block_is_open (side_of rule side) ≡ true
sides_are_open rule Left h = open_block (length rule.params) rule.left (declared_sides rule h).0
sides_are_open rule Right h = open_block (length rule.params) rule.right (declared_sides rule h).1

pub sides_have_no_scope : (rule : Rule) (side : Side) → well_formed rule ≡ true → is_simulate rule.method ≡ true → has_scope (side_of rule side) ≡ false
sides_have_no_scope rule Left h k = (scopeless_sides rule h k).0
sides_have_no_scope rule Right h k = (scopeless_sides rule h k).1
