-- What is left of the marks passes exactly where all do.
use Rattle.std.proofs.Common.{◌≡◌, drop}
use Rattle.std.specs.List.{list_all}
use Rattle.escape_laws.specs.WrittenLaw.{written_kept}
use Rattle.escape_laws.proofs.written_law.written_as_these.Given as goal

abbrev pub invariant-loop-n : goal.invariant-loop-n
invariant-loop-n l = list_all (written_kept l.params l.e l.a) (drop l.n-index l.marks) ≡ list_all (written_kept l.params l.e l.a) l.marks
