use Rattle.std.proofs.Common.{subst}
use Rattle.pool_goals.specs.Replaced.{LiteralsAt}
use Rattle.pool_goals.proofs.ItemSteps.{conjunct_by}
use Rattle.pool_goals.proofs.items.put_conjunct_at.Goals as goal

pub returns-clause-replaced : goal.returns-clause-replaced
returns-clause-replaced c =
    conjunct_by c.args.c.now c.in_ok-when.when c.in_ok-gives.gives
    (subst (λ l. LiteralsAt c.args.pool.now c.literals_at.new.pool c.args.left c.args.right l c.in_ok-when.when) c.as_slice.ensures c.in_ok-when.ensures.replaced)
    c.in_ok-when.ensures.kept c.in_ok-gives.ensures.replaced c.in_ok-gives.ensures.kept
