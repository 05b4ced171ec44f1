use Rattle.std.proofs.Common.{◌≡◌}
use Rattle.claim_table.specs.Chairs.{Passes}
use Rattle.claim_table.proofs.table.ClaimTable.take.Given as goal

abbrev pub invariant-loop-slot : goal.invariant-loop-slot
invariant-loop-slot l = (l.chair.table ≡ l.self) × Passes l.slot l.initial.chair.view l.chair.view
