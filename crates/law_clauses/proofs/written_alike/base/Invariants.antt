-- What is left of the store has the same base.
use Rattle.std.proofs.Common.{◌≡◌}
use Rattle.term_meaning.specs.Writes.{base_of}
use Rattle.law_clauses.proofs.written_alike.base.Given as goal

abbrev pub invariant-loop-t : goal.invariant-loop-t
invariant-loop-t l = base_of l.t ≡ base_of l.fn.t
