use Rattle.std.proofs.Common.{◌≡◌, ◌≤◌, [], length}
use Rattle.pec_text.specs.Line.{kept_lines}
use Rattle.pec_text.specs.SectionsOf.{body_from}
use Rattle.pec_text.proofs.section_text.section_body.Given as goal

-- the body so far, continued with the lines that are left, is the whole body
abbrev pub invariant-loop-line : goal.invariant-loop-line
invariant-loop-line l = (body_from l.body.items (kept_lines l.rest) ≡ body_from [] (kept_lines l.bytes)) × (length l.rest ≤ length l.bytes)

abbrev pub decreases-loop-line : goal.decreases-loop-line
decreases-loop-line l = length l.rest
