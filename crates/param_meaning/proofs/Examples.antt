-- Worked examples: a table of blocks with each kind of parameter at each place, and what they are filled to.
-- Worked out by hand; two parameters of each kind, of which no two stand for the same.
use Rattle.std.specs.Prelude.{◌≡◌, pos, ◌+ℤ◌, true, false, [], ◌∷◌, refl}
use Rattle.toy_imp.specs.declared.name.Name.{Name}
use Rattle.toy_imp.specs.declared.name.Name.TheVariants.{Own, Par}
use Rattle.toy_imp.specs.declared.instance.Filling.TheVariants as filling
use Rattle.toy_imp.specs.declared.instance.Instance.{Instance}
use Rattle.toy_imp.specs.Cell.{variable}
use Rattle.toy_imp.specs.Store.{Store, read}
use Rattle.toy_imp.specs.Value.{value}
use Rattle.toy_imp.specs.Expr.{Expr, num, at, add, sub, mul, par_expr, no_exprs, expr}
use Rattle.toy_imp.specs.Test.{Test, less, less_eq, equal, not_of, and_of, or_of, par_test}
use Rattle.toy_imp.specs.Block.{Stmt, skip, put, assert_that, if_then, while_do, for_to, let_in, par_stmt, Block, empty, stmt}
use Rattle.toy_imp.specs.Fill.{fill_name, fill_expr, fill_exprs, fill_test, fill_stmt, fill}
use Rattle.param_meaning.specs.Covers.{covers}
use Rattle.param_meaning.specs.Each.{each_in_expr, each_in_exprs, each_in_test, each_in_stmt, each_in}
use Rattle.param_meaning.specs.Under.{value_under}

abbrev a : Name
a = Own (97 ∷ [])

abbrev p : Name
p = Own (112 ∷ [])

abbrev q : Name
q = Own (113 ∷ [])

abbrev r : Name
r = Own (114 ∷ [])

abbrev var : Name → Expr
var x = at x no_exprs

-- the variable of a name, set to an expression
abbrev set : Name → Expr → Stmt
set x e = put x no_exprs e

abbrev one : Stmt → Block
one s = stmt s empty

abbrev two : Stmt → Stmt → Block
two s u = stmt s (stmt u empty)

-- `q + 1`
abbrev next : Expr
next = add (var q) (num (pos 1))

abbrev seven : Expr
seven = num (pos 7)

-- `q < 9`
abbrev low : Test
low = less (var q) (num (pos 9))

-- `a[q] == 0`
abbrev clear : Test
clear = equal (at a (expr (var q) no_exprs)) (num (pos 0))

-- `p := 1; q := 2;`
abbrev pair : Block
pair = two (set p (num (pos 1))) (set q (num (pos 2)))

-- X, E, B and S are the parameters 0 to 3, and Y, F, C and T are 4 to 7; T stands for no statement
abbrev by : Instance
by = record {
  fillings = filling.Name p ∷ filling.Expr next ∷ filling.Test low ∷ filling.Stmt pair
      ∷ filling.Name r ∷ filling.Expr seven ∷ filling.Test clear ∷ filling.Stmt empty ∷ [];
}

abbrev X : Name
X = Par 0

abbrev E : Expr
E = par_expr 1

abbrev B : Test
B = par_test 2

abbrev S : Stmt
S = par_stmt 3

abbrev Y : Name
Y = Par 4

abbrev F : Expr
F = par_expr 5

abbrev C : Test
C = par_test 6

abbrev T : Stmt
T = par_stmt 7

abbrev Fills : Block → Block → Type 0
Fills from to = fill by from ≡ to

-- `S; skip;` has three statements then, and `skip; S;` too; S twice; S that stands for no statement
spliced : Fills (two S skip) (stmt (set p (num (pos 1))) (stmt (set q (num (pos 2))) (one skip)))
    × Fills (two skip S) (stmt skip pair)
    × Fills (two S S) (stmt (set p (num (pos 1))) (stmt (set q (num (pos 2))) pair))
    × Fills (one T) empty
    × Fills (stmt skip (two T skip)) (two skip skip)
    × Fills (stmt T (two S T)) pair
unfolding fill fill_stmt fill_test fill_expr fill_exprs fill_name
spliced = (refl, refl, refl, refl, refl, refl)

-- the name, the indices and the value of a write
written : Fills (one (set X E)) (one (set p next))
    × Fills (one (put Y (expr F (expr (var q) no_exprs)) E)) (one (put r (expr seven (expr (var q) no_exprs)) next))
    × Fills (one (put X (expr (at Y (expr F no_exprs)) no_exprs) (sub E F))) (one (put p (expr (at r (expr seven no_exprs)) no_exprs) (sub next seven)))
    × Fills (one (set q (mul (var X) (add (var Y) E)))) (one (set q (mul (var p) (add (var r) next))))
unfolding fill fill_stmt fill_test fill_expr fill_exprs fill_name
written = (refl, refl, refl, refl)

-- the counter, the bounds and the body of a `for`; the name, the value and the body of a `let`; one in another
bound : Fills (one (for_to X E F (one S))) (one (for_to p next seven pair))
    × Fills (one (for_to Y F E (one T))) (one (for_to r seven next empty))
    × Fills (one (for_to q (num (pos 0)) (var X) (one (for_to Y (var q) F (one S))))) (one (for_to q (num (pos 0)) (var p) (one (for_to r (var q) seven pair))))
    × Fills (one (let_in Y E (one (let_in X F (two T skip))))) (one (let_in r next (one (let_in p seven (one skip)))))
unfolding fill fill_stmt fill_test fill_expr fill_exprs fill_name
bound = (refl, refl, refl, refl)

-- tests, also under `not`, `and` and `or`, the sides of comparisons, and both branches
tested : Fills (one (if_then B (one S) (one T))) (one (if_then low pair empty))
    × Fills (one (if_then (not_of C) (one T) (one S))) (one (if_then (not_of clear) empty pair))
    × Fills (one (while_do (and_of B C) (two skip S))) (one (while_do (and_of low clear) (stmt skip pair)))
    × Fills (one (while_do (or_of C (not_of B)) empty)) (one (while_do (or_of clear (not_of low)) empty))
    × Fills (one (while_do (less E F) empty)) (one (while_do (less next seven) empty))
    × Fills (one (while_do (less_eq F (var X)) empty)) (one (while_do (less_eq seven (var p)) empty))
    × Fills (one (while_do (equal (at Y (expr E no_exprs)) F) empty)) (one (while_do (equal (at r (expr next no_exprs)) seven) empty))
unfolding fill fill_stmt fill_test fill_expr fill_exprs fill_name
tested = (refl, refl, refl, refl, refl, refl, refl)

-- the test of an `assert`
asserted : Fills (two (assert_that B) S) (stmt (assert_that low) pair)
    × Fills (one (assert_that (and_of (not_of C) (less E F)))) (one (assert_that (and_of (not_of clear) (less next seven))))
    × Fills (one (assert_that (par_test 3))) (one (assert_that (par_test 3)))
unfolding fill fill_stmt fill_test fill_expr fill_exprs fill_name
asserted = (refl, refl, refl)

-- what has no filling of its kind, or none at all, stays
left_open : Fills (one (set (Par 1) (par_expr 0))) (one (set (Par 1) (par_expr 0)))
    × Fills (two (par_stmt 2) (par_stmt 8)) (two (par_stmt 2) (par_stmt 8))
    × Fills (one (while_do (par_test 3) (one S))) (one (while_do (par_test 3) pair))
unfolding fill fill_stmt fill_test fill_expr fill_exprs fill_name
left_open = (refl, refl, refl)

-- an instance covers a block where each parameter has a filling of its kind
covered : (covers by (one (for_to X E F (two S (put Y (expr E no_exprs) F)))) ≡ true)
    × (covers by (one (if_then (not_of B) (one T) (one skip))) ≡ true)
    × (covers by (one (set (Par 1) E)) ≡ false)
    × (covers by (two S (par_stmt 8)) ≡ false)
    × (covers by (one (while_do C (one (par_stmt 6)))) ≡ false)
unfolding each_in each_in_stmt each_in_test each_in_expr each_in_exprs
covered = (refl, refl, refl, refl, refl)

-- `X + E` has under the instance the value of `p + (q + 1)`
valued : (s : Store) → value_under by (add (var X) E) s ≡ read s (variable p) +ℤ (read s (variable q) +ℤ pos 1)
unfolding value_under fill_name value
valued s = refl
