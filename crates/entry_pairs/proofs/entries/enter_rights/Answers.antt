use Rattle.std.proofs.Common.{rules, ◌≡◌, Err, refl, sym, subst}
use Rattle.entry_pairs.specs.CutAnswers.{EntriesAnswer, entered_or_mark}
use Rattle.entry_pairs.specs.PointKinds.{right_meetings}
use Rattle.entry_pairs.proofs.MeetingSteps.{right_goes_on, right_marks, right_done, handed_on}
use Rattle.entry_pairs.proofs.entries.enter_rights.Goals as goal

pub returns-in_err-enter_stops : goal.returns-in_err-enter_stops
returns-in_err-enter_stops c =
    let e : c.from_residual.result ≡ Err c.in_err-enter_stops.field-0.0 = search rules in
    subst (λ r. EntriesAnswer (entered_or_mark c.args.i c.args.entries.now (right_meetings c.args.table.now c.args.left c.args.rights.now)) c.enter_stops.new.entries r) (sym e)
    (handed_on _ _ c.enter_stops.new.entries c.enter_stops.new.entries c.in_err-enter_stops.field-0.0 c.in_err-enter_stops.ensures
    (λ m d. right_marks c.args.i c.args.table.now c.args.left c.r-item.result.stop c.args.rights.now c.loop-r.r-index c.r-item.result c.loop-r.entries m _ c.loop-r-test.true c.r-item.is refl d c.loop-r.invariant))

pub loop-r-preserved : goal.loop-r-preserved
loop-r-preserved c =
    right_goes_on c.args.i c.args.table.now c.args.left c.r-item.result.stop c.args.rights.now c.loop-r.r-index c.r-item.result c.loop-r.entries c.enter_stops.new.entries _
    c.loop-r-test.true c.r-item.is refl c.in_ok-enter_stops.ensures c.loop-r.invariant

pub returns : goal.returns
returns c = right_done c.args.i c.args.table.now c.args.left c.args.rights.now c.loop-r.r-index c.loop-r.entries _ c.loop-r-test.false c.loop-r.invariant
