use Rattle.std.proofs.Common.{rules, ◌≡◌, Err, refl, sym, subst}
use Rattle.entry_pairs.specs.CutAnswers.{EntriesAnswer, entered_or_mark}
use Rattle.entry_pairs.specs.PointKinds.{meetings}
use Rattle.entry_pairs.proofs.MeetingSteps.{left_goes_on, left_marks, left_done, handed_on}
use Rattle.entry_pairs.proofs.entries.enter_all.Goals as goal

pub returns-in_err-enter_rights : goal.returns-in_err-enter_rights
returns-in_err-enter_rights c =
    let e : c.from_residual.result ≡ Err c.in_err-enter_rights.field-0.0 = search rules in
    subst (λ r. EntriesAnswer (entered_or_mark c.args.i c.args.entries.now (meetings c.args.table.now c.args.lefts.now c.args.rights.now)) c.enter_rights.new.entries r) (sym e)
    (handed_on _ _ c.enter_rights.new.entries c.enter_rights.new.entries c.in_err-enter_rights.field-0.0 c.in_err-enter_rights.ensures
    (λ m d. left_marks c.args.i c.args.table.now c.l-item.result.stop c.args.lefts.now c.args.rights.now c.loop-l.l-index c.l-item.result c.loop-l.entries m _ c.loop-l-test.true c.l-item.is refl d c.loop-l.invariant))

pub loop-l-preserved : goal.loop-l-preserved
loop-l-preserved c =
    left_goes_on c.args.i c.args.table.now c.l-item.result.stop c.args.lefts.now c.args.rights.now c.loop-l.l-index c.l-item.result c.loop-l.entries c.enter_rights.new.entries _
    c.loop-l-test.true c.l-item.is refl c.in_ok-enter_rights.ensures c.loop-l.invariant

pub returns : goal.returns
returns c = left_done c.args.i c.args.table.now c.args.lefts.now c.args.rights.now c.loop-l.l-index c.loop-l.entries _ c.loop-l-test.false c.loop-l.invariant
