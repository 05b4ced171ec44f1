-- Worked runs: each statement where it ends and, with a false `assert`, where it halts, from any store.
-- A run that halts leaves the store as it stands: nothing is given back.
use Rattle.std.specs.Prelude.{◌≡◌, ℕ, pos, false, cond, [], ◌∷◌, Some, None, refl, int_lt}
use Rattle.std.proofs.Common.{◌∙◌, ap, sym}
use Rattle.toy_imp.specs.declared.instance.Filling.TheVariants as filling
use Rattle.toy_imp.specs.declared.instance.Instance.{Instance}
use Rattle.toy_imp.specs.Cell.{variable}
use Rattle.toy_imp.specs.Store.{Store, read, write}
use Rattle.toy_imp.specs.Value.{value}
use Rattle.toy_imp.specs.Truth.{truth}
use Rattle.toy_imp.specs.Run.{act, halt, step, Outcome, halted, run}
use Rattle.toy_imp.specs.Ends.{ComesOut, Ends, Halts, IsQuiet}
use Rattle.toy_imp.specs.Keeps.{StmtsCommute}
use Rattle.toy_imp.specs.Fill.{fill_name, fill_exprs, fill_expr, fill_test, fill_stmt, fill}
use Rattle.toy_imp.specs.Expr.{num, at, no_exprs}
use Rattle.toy_imp.specs.Test.{Test, less}
use Rattle.toy_imp.specs.Block.{Block, empty, stmt, skip, put, assert_that, if_then, while_do, for_to, let_in, par_stmt, append}
use Rattle.toy_imp.proofs.Stores.{write_is_read}
use Rattle.toy_imp.proofs.Runs.{open_never_ends}
use Rattle.toy_imp.proofs.Examples.{x, y, blank, fails, fails_halts}

abbrev holds : Test
holds = less (num (pos 0)) (num (pos 1))

abbrev fails_always : Test
fails_always = less (num (pos 1)) (num (pos 0))

-- `x := 1; assert 1 < 0;`
abbrev one_then_halt : Block
one_then_halt = stmt (put x no_exprs (num (pos 1))) fails

-- `skip;`
skip_ends : (s : Store) → Ends (stmt skip empty) s s
unfolding run step
skip_ends s = record { steps = 1; reached = refl }

-- `assert 0 < 1; x := 1;` goes on
true_assert_goes_on : (s : Store) → Ends (stmt (assert_that holds) (stmt (put x no_exprs (num (pos 1))) empty)) s (write s (variable x) (pos 1))
unfolding run step truth value
true_assert_goes_on s = record { steps = 2; reached = refl }

-- `assert 1 < 0; x := 1;` halts at once
false_assert_halts : (s : Store) → Halts (append fails (stmt (put x no_exprs (num (pos 1))) empty)) s s
unfolding run step truth value
false_assert_halts s = record { steps = 1; reached = refl }

-- `x := 1; assert x < 1;` halts at its second step, and one step gives nothing
x_below_1 : Test
x_below_1 = less (at x no_exprs) (num (pos 1))

is_false : (s : Store) → truth x_below_1 (write s (variable x) (pos 1)) ≡ false
unfolding x_below_1 truth value
is_false s = ap (λ v. int_lt v (pos 1)) (write_is_read s (variable x) (pos 1))

one_step_gives_nothing : (s : Store) → run 1 (act (put x no_exprs (num (pos 1))) ∷ act (assert_that x_below_1) ∷ []) s ≡ None
unfolding run step value
one_step_gives_nothing s = refl

halts_at_the_second : (s : Store) → run 2 (act (put x no_exprs (num (pos 1))) ∷ act (assert_that x_below_1) ∷ []) s ≡ Some (halted (write s (variable x) (pos 1)))
unfolding run step truth value
halts_at_the_second s = ap (λ c. run 0 (cond c [] (halt ∷ [])) (write s (variable x) (pos 1))) (is_false s)

-- `if`, whose test chooses between a block that ends and one that halts
true_branch_ends : (s : Store) → Ends (stmt (if_then holds empty fails) empty) s s
unfolding run step truth value
true_branch_ends s = record { steps = 1; reached = refl }

false_branch_halts : (s : Store) → Halts (stmt (if_then fails_always empty fails) empty) s s
unfolding run step truth value
false_branch_halts s = record { steps = 2; reached = refl }

-- `while`: without a turn it ends, and a halt in a turn is a halt of the whole
while_ends : (s : Store) → Ends (stmt (while_do fails_always fails) empty) s s
unfolding run step truth value
while_ends s = record { steps = 1; reached = refl }

while_halts : (s : Store) → Halts (stmt (while_do holds one_then_halt) empty) s (write s (variable x) (pos 1))
unfolding run step truth value
while_halts s = record { steps = 3; reached = refl }

-- `for x = 0 to 1 { y := 7; }` gives x its old value back
for_gives_back : (s : Store) → Ends (stmt (for_to x (num (pos 0)) (num (pos 1)) (stmt (put y no_exprs (num (pos 7))) empty)) empty) s
    (write (write (write s (variable x) (pos 0)) (variable y) (pos 7)) (variable x) (read s (variable x)))
unfolding run step value
for_gives_back s = record { steps = 5; reached = refl }

-- `for x = 0 to 2 { assert 1 < 0; }` leaves x at 0
for_halts : (s : Store) → Halts (stmt (for_to x (num (pos 0)) (num (pos 2)) fails) empty) s (write s (variable x) (pos 0))
unfolding run step truth value
for_halts s = record { steps = 3; reached = refl }

-- `let x = 5 { let y = 6 { assert 1 < 0; } }` leaves both set; a `let` that ends is among the examples of programs
let_halts : (s : Store) → Halts (stmt (let_in x (num (pos 5)) (stmt (let_in y (num (pos 6)) fails) empty)) empty) s (write (write s (variable x) (pos 5)) (variable y) (pos 6))
unfolding run step truth value
let_halts s = record { steps = 3; reached = refl }

-- of two blocks the second halts, in the store that the first leaves
second_halts : (s : Store) → Halts (append (stmt (put x no_exprs (num (pos 1))) empty) fails) s (write s (variable x) (pos 1))
unfolding run step truth value
second_halts s = record { steps = 2; reached = refl }

-- a parameter that stands for no statement neither ends nor halts
open_comes_out_nowhere : (k : ℕ) (s : Store) (o : Outcome) → ComesOut (stmt (par_stmt k) empty) s o → ⊥
open_comes_out_nowhere k s o r = let e : None ≡ Some o = sym (open_never_ends r.steps k [] s) ∙ r.reached in cc

-- `S; y := 2;` with `x := 1; assert 1 < 0;` for S halts in S
abbrev side : Block
side = stmt (par_stmt 0) (stmt (put y no_exprs (num (pos 2))) empty)

abbrev by_halting : Instance
by_halting = record { fillings = filling.Stmt one_then_halt ∷ [] }

instance_halts : (s : Store) → Halts (fill by_halting side) s (write s (variable x) (pos 1))
unfolding run step truth value fill fill_stmt fill_name fill_exprs fill_expr fill_test
instance_halts s = record { steps = 2; reached = refl }

-- what may halt is not quiet, and commutes with nothing
not_quiet : IsQuiet fails → ⊥
not_quiet quiet = quiet.never blank blank fails_halts

commutes_with_nothing : (c : Block) → StmtsCommute fails c → ⊥
commutes_with_nothing c commutes = not_quiet commutes.first_quiet
