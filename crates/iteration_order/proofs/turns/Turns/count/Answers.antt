use Rattle.iteration_order.proofs.Counts.{count_some, count_none, count_small}
use Rattle.iteration_order.proofs.turns.Turns.count.Goals as goal

pub returns-then-self-clause-count : goal.returns-then-self-clause-count
returns-then-self-clause-count c = count_some _ _ c.requires.low c.requires.high c.if-self.true

pub returns-then-self-clause-small : goal.returns-then-self-clause-small
returns-then-self-clause-small c = count_small c.args.self.low c.args.self.high c.requires.low c.requires.high

pub returns-else-self-clause-count : goal.returns-else-self-clause-count
returns-else-self-clause-count c = count_none _ _ c.requires.low c.requires.high c.if-self.false
