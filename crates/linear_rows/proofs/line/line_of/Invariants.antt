use Rattle.std.proofs.Common.{◌≡◌, ◌∷◌, take}
use Rattle.linear_rows.proofs.line.line_of.Given as goal

abbrev pub invariant-loop-a : goal.invariant-loop-a
invariant-loop-a l = l.line.items ≡ l.row.bound ∷ take l.a-index l.a-items
