use Rattle.std.proofs.Common.{◌≡◌, ◌-◌}
use Rattle.refutation_text.specs.NumberText.{many_read}
use Rattle.refutation_text.specs.StepReading.{written_step_read}
use Rattle.refutation_text.proofs.Turns.{with_found}
use Rattle.refutation_text.proofs.part_reading.steps.Given as goal

abbrev pub invariant-loop-turn : goal.invariant-loop-turn
invariant-loop-turn l = with_found l.found (many_read written_step_read (l.n - l._turn) l.rest) ≡ many_read written_step_read l.n l.tokens
