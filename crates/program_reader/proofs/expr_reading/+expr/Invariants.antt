use Rattle.std.proofs.Common.{◌≡◌, suc, ◌+◌, ◌-◌, ◌*◌}
use Rattle.program_reader.specs.ExprReading.{sums_read, products_read, term_read, indices_read, expr_read}
use Rattle.program_reader.specs.ExprParts.{index_read}
use Rattle.program_reader.proofs.GrammarTurns.{with_indices}
use Rattle.program_reader.proofs.expr_reading.+expr.Given as goal

abbrev pub decreases-expr : goal.decreases-expr
decreases-expr l = 8 * l.levels + 7

abbrev pub decreases-term : goal.decreases-term
decreases-term l = 8 * l.levels + 6

abbrev pub decreases-factor : goal.decreases-factor
decreases-factor l = 8 * l.levels + 5

abbrev pub decreases-brackets : goal.decreases-brackets
decreases-brackets l = 8 * l.levels + 4

abbrev pub decreases-indices : goal.decreases-indices
decreases-indices l = 8 * l.levels + 3

abbrev pub decreases-index : goal.decreases-index
decreases-index l = 8 * l.levels + 2

abbrev pub decreases-inner : goal.decreases-inner
decreases-inner l = 8 * l.levels + 1

abbrev pub invariant-expr-loop-turn : goal.invariant-expr-loop-turn
invariant-expr-loop-turn l =
    sums_read l.names (λ k rest. expr_read l.names l.levels k rest) (l._turn-end - l._turn) l.found l.remaining l.rest ≡ expr_read l.names (suc l.levels) l.left l.tokens

abbrev pub invariant-term-loop-turn : goal.invariant-term-loop-turn
invariant-term-loop-turn l =
    products_read l.names (λ k rest. expr_read l.names l.levels k rest) (l._turn-end - l._turn) l.found l.remaining l.rest
    ≡ term_read l.names (λ k rest. expr_read l.names l.levels k rest) l.left l.tokens

abbrev pub invariant-indices-loop-turn : goal.invariant-indices-loop-turn
invariant-indices-loop-turn l =
    with_indices l.found (indices_read (index_read l.operators l.names l.levels) (3 - l._turn) l.remaining l.rest) ≡ indices_read (index_read l.operators l.names l.levels) 3 l.left l.tokens
