use Rattle.std.proofs.Common.{arith, ◌≡◌, ◌+◌, ◌-◌, suc, sym, ap, ◌∙◌}
use Rattle.std.specs.Prelude.{is_some}
use Rattle.linear_rows.specs.Lines.{lines_of}
use Rattle.linear_rows.proofs.Outcomes.{outcome_goes_on}
use Rattle.linear_rows.specs.Recorded.{RecordsFound, StaysFound}
use Rattle.linear_rows.proofs.Gathered.{if_ok_then}
use Rattle.linear_rows.proofs.Recorders.{found_next, never_found}
use Rattle.linear_rows.proofs.elimination.+outcome.Goals as goal

pub returns-in_ok-found-in-Whole-clause-found : goal.returns-in_ok-found-in-Whole-clause-found
returns-in_ok-found-in-Whole-clause-found t c =
    let before : c.args.n ≡ suc (c.args.n - 1) = omega (arith, c.if-n-eq0.false) in
    outcome_goes_on c.with_first.result c.args.n c.args.k (c.args.n - 1) (lines_of c.args.stage.now) (lines_of c.in-Whole.next) c.in_ok-found-in-Whole.found before
    (sym (rw c.as_slice.ensures.keys at c.never_met.ensures.found) ∙ ap is_some c.in_default.is)
    (rw c.in-Whole.is at c.in_ok-what.ensures.next).0
    c.in_ok-found-in-Whole.ensures.found
    (rw c.as_slice-in-Whole.ensures.keys at c.with_first.ensures.found)

pub returns-in_ok-found-in-Whole-clause-recorded : goal.returns-in_ok-found-in-Whole-clause-recorded
returns-in_ok-found-in-Whole-clause-recorded t c =
    let before : c.args.n ≡ suc (c.args.n - 1) = omega (arith, c.if-n-eq0.false) in
    if_ok_then c.with_first.result (StaysFound c.in_ok-found-in-Whole.found) (RecordsFound c.args.n c.args.k c.args.stage.now c.args.history.now c.outcome.new.history) c.with_first.ensures.stays
    (λ more stays. found_next c.args.n c.args.k (c.args.n - 1) (c.args.k + 1) c.args.stage.now c.in-Whole.next c.args.history.now c.next_stage.new.history c.outcome.new.history c.in_ok-found-in-Whole.found more
    before (omega arith) (rw c.in-Whole.is at c.in_ok-what.ensures.recorded) c.in_ok-found-in-Whole.ensures.recorded stays)

pub returns-in-Some-clause-recorded : goal.returns-in-Some-clause-recorded
returns-in-Some-clause-recorded t c =
    never_found c.args.n c.args.k c.args.stage.now c.args.history.now c.in-Some.number (rw (c.deref.ensures.value, c.as_slice.ensures.keys) at c.in-Some.ensures.number)
