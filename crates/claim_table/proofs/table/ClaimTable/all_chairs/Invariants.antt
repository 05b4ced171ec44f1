use Rattle.std.proofs.Common.{◌≡◌, ◌-◌}
use Rattle.claim_table.specs.Chairs.{AreNew, IsEmpty}
use Rattle.claim_table.proofs.table.ClaimTable.all_chairs.Given as goal

abbrev pub invariant-loop-number : goal.invariant-loop-number
invariant-loop-number l =
    AreNew l.self 1 (l.number - 1) l.chairs.items
    × (l.first.table ≡ l.self) × (l.first.view.number ≡ 0) × (l.first.view.made ≡ l.number) × IsEmpty l.first.view
