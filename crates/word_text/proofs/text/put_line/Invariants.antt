use Rattle.std.proofs.Common.{length}
use Rattle.word_text.specs.Lines.{LineSoFar}
use Rattle.word_text.proofs.text.put_line.Given as goal

abbrev pub invariant-loop-word : goal.invariant-loop-word
invariant-loop-word l = LineSoFar l.line l.rest l.fn.found l.found

abbrev pub decreases-loop-word : goal.decreases-loop-word
decreases-loop-word l = length l.rest
