use Rattle.std.proofs.Common.{length}
use Rattle.pec_text.proofs.Readings.{IsReadUpTo}
use Rattle.pec_text.proofs.lexer.tokens.Given as goal

abbrev pub invariant-loop-rest : goal.invariant-loop-rest
invariant-loop-rest l = IsReadUpTo l.bytes l.found.items l.rest

abbrev pub decreases-loop-rest : goal.decreases-loop-rest
decreases-loop-rest l = length l.rest
