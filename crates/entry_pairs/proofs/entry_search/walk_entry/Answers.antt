use Rattle.std.proofs.Common.{false, ◌∙◌, subst}
use Rattle.entry_pairs.specs.CutAnswers.{EntriesAnswer}
use Rattle.entry_pairs.proofs.EntriesInside.{left_before, right_before}
use Rattle.entry_pairs.proofs.EntrySteps.{not_exits, paired_at}
use Rattle.entry_pairs.proofs.entry_search.walk_entry.Goals as goal

pub entry_paths-requires-clause-inside : goal.entry_paths-requires-clause-inside
entry_paths-requires-clause-inside c =
    left_before c.args.rule.now c.args.a c.requires.before
    (not_exits c.args.rule.now c.args.table.now c.args.a false c.is_same.result c.requires.table c.is_same.ensures c.if-is_same.false)

pub entry_paths-requires-2-clause-inside : goal.entry_paths-requires-2-clause-inside
entry_paths-requires-2-clause-inside c =
    right_before c.args.rule.now c.args.a c.requires.before
    (not_exits c.args.rule.now c.args.table.now c.args.a false c.is_same.result c.requires.table c.is_same.ensures c.if-is_same.false)

pub returns : goal.returns
returns c =
    subst (λ x. EntriesAnswer x c.enter_pairs.new.entries c.enter_pairs.result)
    (paired_at c.args.rule.now c.args.points.now c.args.i c.args.a c.args.entries.now c.args.table.now c.as_slice.result.now c.as_slice-2.result.now
    (not_exits c.args.rule.now c.args.table.now c.args.a false c.is_same.result c.requires.table c.is_same.ensures c.if-is_same.false)
    c.in_ok-lefts.ensures.0 c.in_ok-rights.ensures.0 c.requires.table
    (c.as_slice.ensures ∙ c.in_ok-lefts.ensures.1) (c.as_slice-2.ensures ∙ c.in_ok-rights.ensures.1))
    c.enter_pairs.ensures
