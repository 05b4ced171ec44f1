use Rattle.std.proofs.Common.{◌≡◌, suc, ◌+◌, ◌-◌, ◌*◌}
use Rattle.program_reader.specs.BlockReading.{many_read, stmts_read}
use Rattle.program_reader.proofs.BlockTurns.{with_block}
use Rattle.program_reader.proofs.block_reading.+stmts.Given as goal

abbrev pub decreases-statements : goal.decreases-statements
decreases-statements l = 8 * l.levels + 7

abbrev pub decreases-statement : goal.decreases-statement
decreases-statement l = 8 * l.levels + 6

abbrev pub decreases-conditional : goal.decreases-conditional
decreases-conditional l = 8 * l.levels + 5

abbrev pub decreases-repeated : goal.decreases-repeated
decreases-repeated l = 8 * l.levels + 5

abbrev pub decreases-counted : goal.decreases-counted
decreases-counted l = 8 * l.levels + 5

abbrev pub decreases-bound : goal.decreases-bound
decreases-bound l = 8 * l.levels + 5

abbrev pub decreases-else_after : goal.decreases-else_after
decreases-else_after l = 8 * l.levels + 4

abbrev pub decreases-block : goal.decreases-block
decreases-block l = 8 * l.levels + 3

abbrev pub invariant-statements-loop-turn : goal.invariant-statements-loop-turn
invariant-statements-loop-turn l =
    with_block l.found (many_read l.names l.levels (λ rest. stmts_read l.names l.levels rest) (l._turn-end - l._turn) l.rest) ≡ stmts_read l.names (suc l.levels) l.tokens
