use Rattle.pec_top.proofs.Accepted.{AcceptedSoFar}
use Rattle.pec_top.proofs.input.text_input.Given as goal

abbrev pub invariant-loop-section : goal.invariant-loop-section
invariant-loop-section l = AcceptedSoFar l.command l.section-items l.section-index l.number l.items l.titles
