use Rattle.std.proofs.Common.{◌≡◌, ◌-◌}
use Rattle.refutation_text.specs.NumberText.{many_read}
use Rattle.term_text.specs.TermReading.{value_read}
use Rattle.refutation_text.specs.StepReading.{row_read}
use Rattle.refutation_text.proofs.Turns.{with_found}
use Rattle.refutation_text.proofs.reason_reading.rows.Given as goal

abbrev pub invariant-loop-turn : goal.invariant-loop-turn
invariant-loop-turn l = with_found l.found (many_read (row_read (value_read 4100)) (l.n - l._turn) l.rest) ≡ many_read (row_read (value_read 4100)) l.n l.tokens
