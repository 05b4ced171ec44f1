use Rattle.std.proofs.Common.{length}
use Rattle.word_text.specs.Lines.{TextSoFar}
use Rattle.word_text.proofs.text.tokens.Given as goal

abbrev pub invariant-loop-line : goal.invariant-loop-line
invariant-loop-line l = TextSoFar l.text l.rest l.found

abbrev pub decreases-loop-line : goal.decreases-loop-line
decreases-loop-line l = length l.rest
