use Rattle.std.proofs.Common.{[], take}
use Rattle.pec_top.specs.RunReport.{Reports}
use Rattle.pec_top.proofs.run_report.run_report.Given as goal

-- the programs among the items so far were run and reported on
abbrev pub invariant-loop-item : goal.invariant-loop-item
invariant-loop-item l = Reports l.steps (take l.item-index l.items) [] l.outcomes.items [] l.out.items
