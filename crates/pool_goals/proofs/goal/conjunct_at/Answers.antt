use Rattle.term_pool.specs.Numbered.{terms_of_nodes, store_numbered}
use Rattle.term_pool.proofs.Grown.{store_found}
use Rattle.pool_goals.proofs.goal.conjunct_at.Goals as goal

pub returns-in-Ok-clause-stands : goal.returns-in-Ok-clause-stands
returns-in-Ok-clause-stands c =
    let ts = terms_of_nodes c.args.pool.now in
    (c.in-Ok.ensures.replaced.at (store_numbered ts c.args.left) (store_numbered ts c.args.right) (store_found ts c.args.left c.requires.left) (store_found ts c.args.right c.requires.right) c.requires.numbers).0
