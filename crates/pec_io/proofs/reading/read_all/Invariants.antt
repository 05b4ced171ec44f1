use Rattle.std.proofs.Common.{◌≡◌, ◌≤◌, ◌-◌, length}
use Rattle.std.specs.Io.KnownBytes.{Consumes}
use Rattle.pec_io.proofs.reading.read_all.Given as goal

-- what was taken stands in `all`, within the limit, and no read has failed
abbrev pub invariant-loop-all : goal.invariant-loop-all
invariant-loop-all g l = record {
  within : length l.all.items ≤ l.most;
  taken : Consumes (g.S.Source.left l.fn.source) (g.S.Source.left l.source) l.all.items;
  kept : g.S.Source.faults l.source ≡ g.S.Source.faults l.fn.source;
}

abbrev pub decreases-loop-all : goal.decreases-loop-all
decreases-loop-all g l = l.most - length l.all.items
