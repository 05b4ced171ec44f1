-- All that was looked at passes.
use Rattle.std.proofs.Common.{◌≡◌, take, true}
use Rattle.std.specs.List.{list_all}
use Rattle.escape_laws.specs.WrittenLaw.{written_as_all}
use Rattle.escape_laws.proofs.written_law.first_unlike.Given as goal

abbrev pub invariant-loop-k : goal.invariant-loop-k
invariant-loop-k l = list_all (written_as_all l.params l.e) (take l.k l.marks) ≡ true
