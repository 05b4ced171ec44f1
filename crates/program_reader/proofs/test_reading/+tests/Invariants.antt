use Rattle.std.proofs.Common.{◌≡◌, suc, ◌+◌, ◌-◌, ◌*◌}
use Rattle.program_reader.specs.TestReading.{ands_read, both_read, ors_read, one_read, test_read}
use Rattle.program_reader.proofs.test_reading.+tests.Given as goal

abbrev pub decreases-test : goal.decreases-test
decreases-test l = 8 * l.levels + 7

abbrev pub decreases-both : goal.decreases-both
decreases-both l = 8 * l.levels + 6

abbrev pub decreases-one : goal.decreases-one
decreases-one l = 8 * l.levels + 5

abbrev pub decreases-under_not : goal.decreases-under_not
decreases-under_not l = 8 * l.levels + 1

abbrev pub decreases-in_brackets : goal.decreases-in_brackets
decreases-in_brackets l = 8 * l.levels + 1

abbrev pub invariant-test-loop-turn : goal.invariant-test-loop-turn
invariant-test-loop-turn l =
    ors_read (one_read l.names (suc l.levels)) (l._turn-end - l._turn) l.found l.remaining l.rest ≡ test_read l.names (suc l.levels) l.left l.tokens

abbrev pub invariant-both-loop-turn : goal.invariant-both-loop-turn
invariant-both-loop-turn l =
    ands_read (one_read l.names (suc l.levels)) (l._turn-end - l._turn) l.found l.remaining l.rest ≡ both_read (one_read l.names (suc l.levels)) l.left l.tokens
