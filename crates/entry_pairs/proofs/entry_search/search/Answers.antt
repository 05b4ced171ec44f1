use Rattle.std.proofs.Common.{◌∙◌, ap}
use Rattle.std.specs.List.{list_all}
use Rattle.path_pairs.specs.declared.cut_points.CutPoints.{CutPoints}
use Rattle.entry_pairs.specs.CutAnswers.{may_be_entry}
use Rattle.entry_pairs.proofs.EntriesInside.{first_may}
use Rattle.entry_pairs.proofs.entry_search.search.Goals as goal

pub walk_entries-requires-clause-before : goal.walk_entries-requires-clause-before
walk_entries-requires-clause-before c =
    ap (list_all (may_be_entry c.args.rule.now)) (c.in_ok-entries.ensures ∙ c.as_slice.ensures ∙ ap (λ (p : CutPoints). p.pairs) c.requires.points)
    ∙ first_may c.args.rule.now c.requires.well_formed c.requires.simulates
