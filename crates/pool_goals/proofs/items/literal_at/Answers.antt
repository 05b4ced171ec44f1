use Rattle.pool_goals.proofs.ItemSteps.{literal_by}
use Rattle.pool_goals.proofs.items.literal_at.Goals as goal

pub returns-clause-replaced : goal.returns-clause-replaced
returns-clause-replaced c = literal_by c.args.pool.now c.args.left c.args.right c.args.x.now c.in_ok-atom.atom c.in_ok-atom.ensures.replaced
