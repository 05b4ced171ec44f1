use Rattle.std.proofs.Common.{◌≡◌, ◌≤◌, ◌+◌, ◌-◌, length}
use Rattle.term_text.specs.TermReading.{store_read, value_read}
use Rattle.refutation_text.specs.StepReading.{parts_read}
use Rattle.refutation_text.proofs.Turns.{with_found}
use Rattle.refutation_text.proofs.part_reading.read_parts.Given as goal

abbrev pub invariant-loop-turn : goal.invariant-loop-turn
invariant-loop-turn l =
    (l.wanted ≤ l._turn + 1)
    × (with_found l.found (parts_read (store_read 4100) (value_read 4100) (length l.tokens - l._turn) l.wanted l.rest) ≡ parts_read (store_read 4100) (value_read 4100) (length l.tokens) 1 l.tokens)
