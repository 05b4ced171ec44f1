use Rattle.std.proofs.Common.{◌-◌}
use Rattle.toy_run.specs.Place.{cell_of}
use Rattle.toy_run.proofs.InOrder.{IsBetween}
use Rattle.toy_run.proofs.ascending.find.Given as goal

abbrev pub invariant-loop-low : goal.invariant-loop-low
invariant-loop-low l = IsBetween l.cells (cell_of l.place) l.low l.high

abbrev pub decreases-loop-low : goal.decreases-loop-low
decreases-loop-low l = l.high - l.low
