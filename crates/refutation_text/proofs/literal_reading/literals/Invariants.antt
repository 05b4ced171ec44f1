use Rattle.std.proofs.Common.{◌≡◌, ◌-◌}
use Rattle.refutation_text.specs.NumberText.{many_read}
use Rattle.refutation_text.specs.LiteralReading.{written_literal}
use Rattle.refutation_text.proofs.Turns.{with_found}
use Rattle.refutation_text.proofs.literal_reading.literals.Given as goal

abbrev pub invariant-loop-turn : goal.invariant-loop-turn
invariant-loop-turn l = with_found l.found (many_read written_literal (l.n - l._turn) l.rest) ≡ many_read written_literal l.n l.tokens
