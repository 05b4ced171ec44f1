-- Worked examples: the definitions compute what the language's description says.
-- Three programs that end, one that halts, a loop that never ends, a rule that is valid and two that are not.
use Rattle.std.specs.Prelude.{◌≡◌, ◌≢◌, ℕ, zero, suc, ℤ, pos, ◌+ℤ◌, [], ◌∷◌, slice_index_or, Option, Some, None, refl}
use Rattle.std.proofs.Common.{sym, ◌∙◌, ap, arith}
use Rattle.std.proofs.lemmas.Int.{ints}
use Rattle.std.specs.FinMap as map
use Rattle.toy_imp.specs.declared.name.Name.{Name}
use Rattle.toy_imp.specs.declared.name.Name.TheVariants.{Own}
use Rattle.toy_imp.specs.declared.rule.Rule.{Rule}
use Rattle.toy_imp.specs.declared.rule.Method.TheVariants.{Simulate}
use Rattle.toy_imp.specs.declared.rule.CutList.TheVariants.{Default}
use Rattle.toy_imp.specs.declared.instance.Instance.{Instance}
use Rattle.toy_imp.specs.Cell.{Cell, cell_cmp, variable}
use Rattle.toy_imp.specs.Store.{Store, held, read, write}
use Rattle.toy_imp.specs.Value.{value}
use Rattle.toy_imp.specs.Truth.{truth}
use Rattle.toy_imp.specs.Run.{act, step, ended, run}
use Rattle.toy_imp.specs.Ends.{Ends, Halts}
use Rattle.toy_imp.specs.Fill.{fill_name, fill_exprs, fill_expr, fill_test, fill_stmt, fill}
use Rattle.toy_imp.specs.Valid.{Valid}
use Rattle.toy_imp.specs.Expr.{num, at, add, no_exprs}
use Rattle.toy_imp.specs.Test.{less}
use Rattle.toy_imp.specs.Block.{Stmt, Block, empty, stmt, skip, put, assert_that, while_do, for_to, let_in}
use Rattle.toy_imp.proofs.Stores.{write_is_read, write_keeps_others, write-read}
use Rattle.toy_imp.proofs.Runs.{one_final_store, never_both}
use Rattle.toy_imp.proofs.Alikes.{skip_drops}

abbrev pub x : Name
x = Own (120 ∷ [])

abbrev pub y : Name
y = Own (121 ∷ [])

apart : variable x ≢ variable y
apart e = let same : ◌≡◌ {A = ℕ} 120 121 = ap (λ (c : Cell). slice_index_or c.0 0 0) e in absurd (omega arith)

-- a program, a store that it ends in, and what x and y hold there
record EndsWith (b : Block) (s : Store) (in_x in_y : ℤ) : Type 0 where
  final : Store
  ends : Ends b s final
  x_holds : read final (variable x) ≡ in_x
  y_holds : read final (variable y) ≡ in_y

-- `x := 1; y := 2;`
abbrev two_writes : Block
two_writes = stmt (put x no_exprs (num (pos 1))) (stmt (put y no_exprs (num (pos 2))) empty)

two_writes_end : (s : Store) → EndsWith two_writes s (pos 1) (pos 2)
unfolding run step value
two_writes_end s =
    record {
      final = write (write s (variable x) (pos 1)) (variable y) (pos 2);
      ends = record { steps = 2; reached = refl };
      x_holds = write_keeps_others (write s (variable x) (pos 1)) (variable y) (pos 2) (variable x) apart ∙ write_is_read s (variable x) (pos 1);
      y_holds = write_is_read (write s (variable x) (pos 1)) (variable y) (pos 2);
    }

-- `for x = 3 to 1 { skip; }` makes no turn and leaves the store as it was
abbrev no_turns : Block
no_turns = stmt (for_to x (num (pos 3)) (num (pos 1)) (stmt skip empty)) empty

no_turns_end : (s : Store) → Ends no_turns s s
unfolding run step value
no_turns_end s = record { steps = 3; reached = ap (λ u. Some (ended u)) (write-read s (variable x)) }

-- `let x = 5 { y := x + 1; }` writes 6 and gives x its old value back
abbrev set_inside : Block
set_inside = stmt (let_in x (num (pos 5)) (stmt (put y no_exprs (add (at x no_exprs) (num (pos 1)))) empty)) empty

six : (s : Store) → value (add (at x no_exprs) (num (pos 1))) (write s (variable x) (pos 5)) ≡ pos 6
unfolding value
six s = ap (λ v. v +ℤ pos 1) (write_is_read s (variable x) (pos 5))

set_inside_ends : (s : Store) → EndsWith set_inside s (read s (variable x)) (pos 6)
unfolding run step value
set_inside_ends s =
    let inside : Store = write s (variable x) (pos 5) in
    let after : Store = write inside (variable y) (pos 6) in
    record {
      final = write after (variable x) (read s (variable x));
      ends = record { steps = 3; reached = ap (λ v. Some (ended (write (write inside (variable y) v) (variable x) (read s (variable x))))) (six s) };
      x_holds = write_is_read after (variable x) (read s (variable x));
      y_holds = write_keeps_others after (variable x) (read s (variable x)) (variable y) (λ e. apart (sym e)) ∙ write_is_read inside (variable y) (pos 6);
    }

-- `let x = 5 { assert 1 < 0; }` halts in two steps, with x set to 5: nothing is given back
abbrev halts_inside : Block
halts_inside = stmt (let_in x (num (pos 5)) (stmt (assert_that (less (num (pos 1)) (num (pos 0)))) empty)) empty

halts_inside_halts : (s : Store) → Halts halts_inside s (write s (variable x) (pos 5))
unfolding run step truth value
halts_inside_halts s = record { steps = 2; reached = refl }

-- `while 0 < 1 { skip; }` never ends
abbrev forever : Stmt
forever = while_do (less (num (pos 0)) (num (pos 1))) (stmt skip empty)

record NoEnd (n : ℕ) (s : Store) : Type 0 where
  at_test : run n (act forever ∷ []) s ≡ None
  at_skip : run n (act skip ∷ act forever ∷ []) s ≡ None

forever_runs : (n : ℕ) (s : Store) → NoEnd n s
unfolding run step truth value
forever_runs zero s = record { at_test = refl; at_skip = refl }
forever_runs (suc n) s = let later : NoEnd n s = forever_runs n s in record { at_test = later.at_skip; at_skip = later.at_test }

-- a rule without parameters and conditions
abbrev plain_rule : Block → Block → Rule
plain_rule left right = record { title = []; params = []; conditions = []; method = Simulate; cuts = Default; left = left; right = right }

-- `skip;` may go
skip_may_go : Valid (plain_rule (stmt skip empty) empty)
unfolding fill fill_stmt
skip_may_go = record { same = λ i fitting met. skip_drops empty empty }

-- the store in which every cell holds 0
pub blank : Store
blank = record { cells = map.empty; nonzero = λ c e. none_is_some (sym (map.get-empty cell_cmp c) ∙ e) }
  where
    none_is_some : ◌≡◌ {A = Option ℤ} None (Some (pos 0)) → ⊥
    none_is_some e = cc

pub blank_holds : (c : Cell) → read blank c ≡ pos 0
unfolding read blank
blank_holds c = ap held (map.get-empty cell_cmp c)

does_nothing : Ends empty blank blank
unfolding run
does_nothing = record { steps = 0; reached = refl }

-- `assert 1 < 0;` may not come from nothing: then the rule's right side would halt, and its left side ends
abbrev pub fails : Block
fails = stmt (assert_that (less (num (pos 1)) (num (pos 0)))) empty

pub fails_halts : Halts fails blank blank
unfolding run step truth value
fails_halts = record { steps = 1; reached = refl }

assert_may_not_come : Valid (plain_rule empty fails) → ⊥
unfolding fill fill_stmt fill_test fill_expr
assert_may_not_come valid =
    let none : Instance = record { fillings = [] } in
    let ends : Ends fails blank blank = (valid.same none refl (λ k d h. absurd (omega arith))).to blank (ended blank) does_nothing in
    never_both _ blank _ _ ends fails_halts

-- `x := 1;` may not come from nothing
writes_one : Ends (stmt (put x no_exprs (num (pos 1))) empty) blank (write blank (variable x) (pos 1))
unfolding run step value
writes_one = record { steps = 1; reached = refl }

write_may_not_come : Valid (plain_rule empty (stmt (put x no_exprs (num (pos 1))) empty)) → ⊥
unfolding fill fill_stmt fill_name fill_exprs fill_expr
write_may_not_come valid =
    let none : Instance = record { fillings = [] } in
    let both : Ends (stmt (put x no_exprs (num (pos 1))) empty) blank blank = (valid.same none refl (λ k d h. absurd (omega arith))).to blank (ended blank) does_nothing in
    let same : blank ≡ write blank (variable x) (pos 1) = one_final_store _ blank _ _ both writes_one in
    let holds : pos 0 ≡ pos 1 = sym (blank_holds (variable x)) ∙ ap (λ s. read s (variable x)) same ∙ write_is_read blank (variable x) (pos 1) in
    absurd (omega (arith, ints))
