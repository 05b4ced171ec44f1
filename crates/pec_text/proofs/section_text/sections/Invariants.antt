use Rattle.std.proofs.Common.{◌≡◌, ◌≤◌, ◌+◌, length}
use Rattle.pec_text.specs.Line.{kept_lines}
use Rattle.pec_text.specs.SectionsOf.{sections_of, sections_from}
use Rattle.pec_text.proofs.section_text.sections.Given as goal

-- the whole sections so far, and those of the lines that are left, are all; each took a byte at least
abbrev pub invariant-loop-line : goal.invariant-loop-line
invariant-loop-line l = (sections_from l.whole (kept_lines l.rest) ≡ sections_of l.bytes) × (length l.whole + length l.rest ≤ length l.bytes)

abbrev pub decreases-loop-line : goal.decreases-loop-line
decreases-loop-line l = length l.rest
