use Rattle.std.proofs.Common.{◌≡◌, ◌++◌, drop}
use Rattle.linear_rows.specs.Stage.{mixed, IsWide}
use Rattle.linear_rows.proofs.line.mixed.Given as goal

abbrev pub invariant-loop-i : goal.invariant-loop-i
invariant-loop-i l = record {
  sum : mixed l.a l.p l.b l.q ≡ l.line.items ++ mixed l.a (drop l.i l.p) l.b (drop l.i l.q);
  wide : IsWide l.line.items;
}
