use Rattle.std.proofs.Common.{◌≡◌, ◌≤◌, length}
use Rattle.pec_text.specs.Line.{kept_lines}
use Rattle.pec_text.proofs.line.first_kept.Given as goal

-- the lines that were passed over do not count
abbrev pub invariant-loop-rest : goal.invariant-loop-rest
invariant-loop-rest l = (kept_lines l.rest ≡ kept_lines l.bytes) × (length l.rest ≤ length l.bytes)

abbrev pub decreases-loop-rest : goal.decreases-loop-rest
decreases-loop-rest l = length l.rest
