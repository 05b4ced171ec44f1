use Rattle.pool_goals.proofs.ItemSteps.{shaped, none_given, some_given}
use Rattle.pool_goals.proofs.items.gives_at.Goals as goal

pub returns-in_ok-literal_at-in-Some-clause-replaced : goal.returns-in_ok-literal_at-in-Some-clause-replaced
returns-in_ok-literal_at-in-Some-clause-replaced c =
    shaped c.in-Some.is (some_given c.in-Some.x c.in_ok-literal_at-in-Some.field-0 c.in_ok-literal_at-in-Some.ensures.replaced)

pub returns-in-None-clause-replaced : goal.returns-in-None-clause-replaced
returns-in-None-clause-replaced c =
    shaped c.in-None.is (none_given c.args.pool.now c.args.left c.args.right)
