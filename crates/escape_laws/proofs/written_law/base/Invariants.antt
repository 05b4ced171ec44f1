-- What is left of the store has the same base.
use Rattle.std.proofs.Common.{◌≡◌}
use Rattle.term_meaning.specs.Writes.{base_of}
use Rattle.escape_laws.proofs.written_law.base.Given as goal

abbrev pub invariant-loop-t : goal.invariant-loop-t
invariant-loop-t l = base_of l.t ≡ base_of l.fn.t
