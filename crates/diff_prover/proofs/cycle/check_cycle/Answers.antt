use Rattle.std.proofs.Common.{rules, ◌^◌, length, ◌≡◌, ◌+◌, ◌<◌, arith, get_or, refl}
use mir.Syntax.{w128}
use mir.Val.{SFits}
use Rattle.std.proofs.lemmas.Int.{ints}
use Rattle.std.proofs.lemmas.Bool.{false≢true}
use Rattle.diff_prover.specs.Row.{IsWithin}
use Rattle.diff_prover.specs.Cycle.{row_at}
use Rattle.diff_prover.proofs.Closing.{closes_first, closes_last, closes_next, not_in_range, no_solution}
use Rattle.diff_prover.proofs.cycle.check_cycle.Goals as goal

pub loop-place-init : goal.loop-place-init
loop-place-init c =
    let fits : SFits w128 c.in-Some-get.start.now.by = search rules in
    let row : c.in-Some-get.start.now ≡ row_at c.args.rows.now c.in-Some.first.now = search rules in
    let lt : c.in-Some.first.now < length c.args.rows.now = search rules in
    let m : IsWithin (2 ^ 65) c.in-Some-get.start.now.by = rw row (c.requires.magnitudes c.in-Some.first.now _ lt) in
    record {
      small = record { above = omega (arith, ints); below = omega (arith, ints) };
      left_over = closes_first _ _ _ _ _ _ c.in-Some.ensures.cases.0 lt row (omega (arith, ints));
    }

pub returns-in_default-get-2-clause-exact : goal.returns-in_default-get-2-clause-exact
returns-in_default-get-2-clause-exact c = (
  λ no. absurd (false≢true no),
  λ h. absurd (not_in_range _ _ _ _ _ _ _ _ c.loop-place-test.true refl c.in_default-get-2.ensures.lookup.3 c.loop-place.invariant.left_over h),
)

pub overflow_add-sum : goal.overflow_add-sum
overflow_add-sum c =
    let fits : SFits w128 c.in-Some-get-2.row.now.by = search rules in
    let place = get_or c.in-Some.others.now c.loop-place.place-index 0 in
    let row : c.in-Some-get-2.row.now ≡ row_at c.args.rows.now place = search rules in
    let lt : place < length c.args.rows.now = search rules in
    let m : IsWithin (2 ^ 65) c.in-Some-get-2.row.now.by = rw row (c.requires.magnitudes place _ lt) in
    let s = c.loop-place.invariant.small in
    let short : c.loop-place.place-index + 1 < 65536 = search rules in
    omega (arith, ints)

pub loop-place-preserved : goal.loop-place-preserved
loop-place-preserved c =
    let fits : SFits w128 c.in-Some-get-2.row.now.by = search rules in
    let place = get_or c.in-Some.others.now c.loop-place.place-index 0 in
    let row : c.in-Some-get-2.row.now ≡ row_at c.args.rows.now place = search rules in
    let lt : place < length c.args.rows.now = search rules in
    let m : IsWithin (2 ^ 65) c.in-Some-get-2.row.now.by = rw row (c.requires.magnitudes place _ lt) in
    let s = c.loop-place.invariant.small in
    let short : c.loop-place.place-index + 1 < 65536 = search rules in
    record {
      small = record { above = omega (arith, ints); below = omega (arith, ints) };
      left_over = closes_next _ _ _ _ _ _ _ _ _ _ c.loop-place-test.true refl lt row c.if-row-at.false (omega (arith, ints)) c.loop-place.invariant.left_over;
    }

pub returns-then-at-start-clause-refutes : goal.returns-then-at-start-clause-refutes
returns-then-at-start-clause-refutes c = λ yes.
    no_solution c.args.rows.now c.args.cycle.now
    (closes_last _ _ _ _ _ _ _ c.loop-place-test.false c.if-at-start.true yes c.loop-place.invariant.left_over)
