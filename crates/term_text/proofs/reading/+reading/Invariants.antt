use Rattle.std.proofs.Common.{◌≡◌, ◌+◌, ◌-◌, ◌*◌}
use Rattle.term_text.specs.TermReading.{terms_read, value_read}
use Rattle.term_text.proofs.TermTurns.{with_found}
use Rattle.term_text.proofs.reading.+reading.Given as goal

abbrev pub decreases-read_store : goal.decreases-read_store
decreases-read_store l = 8 * l.levels + 1

abbrev pub decreases-store_top : goal.decreases-store_top
decreases-store_top l = 8 * l.levels + 7

abbrev pub decreases-run : goal.decreases-run
decreases-run l = 8 * l.levels + 6

abbrev pub decreases-write : goal.decreases-write
decreases-write l = 8 * l.levels + 6

abbrev pub decreases-read_value : goal.decreases-read_value
decreases-read_value l = 8 * l.levels + 1

abbrev pub decreases-value_top : goal.decreases-value_top
decreases-value_top l = 8 * l.levels + 7

abbrev pub decreases-reading : goal.decreases-reading
decreases-reading l = 8 * l.levels + 6

abbrev pub decreases-evaluation : goal.decreases-evaluation
decreases-evaluation l = 8 * l.levels + 6

abbrev pub decreases-sum : goal.decreases-sum
decreases-sum l = 8 * l.levels + 6

abbrev pub decreases-difference : goal.decreases-difference
decreases-difference l = 8 * l.levels + 6

abbrev pub decreases-product : goal.decreases-product
decreases-product l = 8 * l.levels + 6

abbrev pub decreases-counted : goal.decreases-counted
decreases-counted l = 8 * l.levels + 5

abbrev pub decreases-terms : goal.decreases-terms
decreases-terms l = 8 * l.levels + 4

abbrev pub invariant-terms-loop-turn : goal.invariant-terms-loop-turn
invariant-terms-loop-turn l =
    with_found l.found (terms_read (value_read l.levels) (l.n - l._turn) l.rest) ≡ terms_read (value_read l.levels) l.n l.tokens
