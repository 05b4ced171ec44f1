use Rattle.std.proofs.Common.{rules, ◌≡◌, ◌<◌, Err, slice_get, sym, ◌∙◌, ap, subst, arith}
use Rattle.entry_pairs.specs.Cuts.{walked}
use Rattle.entry_pairs.specs.CutAnswers.{EntriesAnswer, may_be_entry}
use Rattle.entry_pairs.proofs.EntriesInside.{entry_may, entries_stay_inside}
use Rattle.entry_pairs.proofs.EntrySteps.{walk_goes_on, walk_marks, walk_ends, walk_full}
use Rattle.entry_pairs.proofs.MeetingSteps.{handed_on}
use Rattle.entry_pairs.proofs.entry_search.walk_entries.Goals as goal

pub returns-in-None : goal.returns-in-None
returns-in-None c =
    walk_ends c.args.rule.now c.args.points.now c.loop-i.i c.loop-i.entries _ (omega arith)
    (sym (c.entry_at.ensures ∙ ap (λ xs. slice_get xs c.loop-i.i) c.as_slice.ensures) ∙ c.in-None.is) c.loop-i.invariant.left

pub walk_entry-requires-clause-before : goal.walk_entry-requires-clause-before
walk_entry-requires-clause-before c =
    entry_may (may_be_entry c.args.rule.now) c.loop-i.entries c.loop-i.i c.in-Some.a c.loop-i.invariant.before
    (sym (c.entry_at.ensures ∙ ap (λ xs. slice_get xs c.loop-i.i) c.as_slice.ensures) ∙ c.in-Some.is)

pub returns-in_err-walk_entry-in-Some : goal.returns-in_err-walk_entry-in-Some
returns-in_err-walk_entry-in-Some c =
    let e : c.from_residual.result ≡ Err c.in_err-walk_entry-in-Some.field-0.0 = search rules in
    let small : c.loop-i.i < 64 = omega arith in
    subst (λ r. EntriesAnswer (walked 64 c.args.rule.now c.args.points.now 0 c.args.entries.now) c.walk_entry.new.entries r) (sym e)
    (handed_on _ _ c.walk_entry.new.entries c.walk_entry.new.entries c.in_err-walk_entry-in-Some.field-0.0 c.in_err-walk_entry-in-Some.ensures
    (λ m d. walk_marks c.args.rule.now c.args.points.now c.loop-i.i c.in-Some.a c.loop-i.entries m _ small
    (sym (c.entry_at.ensures ∙ ap (λ xs. slice_get xs c.loop-i.i) c.as_slice.ensures) ∙ c.in-Some.is) d c.loop-i.invariant.left))

pub loop-i-preserved : goal.loop-i-preserved
loop-i-preserved c =
    let small : c.loop-i.i < 64 = omega arith in
    record {
      left =
          walk_goes_on c.args.rule.now c.args.points.now c.loop-i.i c.in-Some.a c.loop-i.entries c.walk_entry.new.entries _ small
          (sym (c.entry_at.ensures ∙ ap (λ xs. slice_get xs c.loop-i.i) c.as_slice.ensures) ∙ c.in-Some.is)
          c.in_ok-walk_entry-in-Some.ensures c.loop-i.invariant.left;
      before = entries_stay_inside c.args.rule.now c.args.points.now c.loop-i.i c.in-Some.a c.loop-i.entries c.walk_entry.new.entries c.loop-i.invariant.before c.in_ok-walk_entry-in-Some.ensures;
    }

pub returns : goal.returns
returns c = walk_full c.args.rule.now c.args.points.now c.loop-i.i c.loop-i.entries _ (omega arith) c.loop-i.invariant.left
