use Rattle.std.proofs.Common.{rules}
use Rattle.pool_goals.proofs.ItemSteps.{shaped, same_name_at, same_store_at, same_value_at, at_most_at, ends_at, holds_at}
use Rattle.pool_goals.proofs.items.atom_at.Goals as goal

pub returns-in-SameName-clause-replaced : goal.returns-in-SameName-clause-replaced
returns-in-SameName-clause-replaced c =
    shaped c.in-SameName.is (same_name_at c.args.pool.now c.args.left c.args.right c.in-SameName.x c.in-SameName.y)

pub returns-in_ok-b-in-SameStore-clause-replaced : goal.returns-in_ok-b-in-SameStore-clause-replaced
returns-in_ok-b-in-SameStore-clause-replaced c =
    shaped c.in-SameStore.is
    (same_store_at c.args.pool.now c.args.left c.args.right c.in-SameStore.a c.in-SameStore.b c.in_ok-a-in-SameStore.a c.in_ok-b-in-SameStore.b c.in_ok-a-in-SameStore.ensures.replaced c.in_ok-a-in-SameStore.ensures.kept c.in_ok-b-in-SameStore.ensures.replaced)

pub returns-in_ok-b-in-SameValue-clause-replaced : goal.returns-in_ok-b-in-SameValue-clause-replaced
returns-in_ok-b-in-SameValue-clause-replaced c =
    shaped c.in-SameValue.is
    (same_value_at c.args.pool.now c.args.left c.args.right c.in-SameValue.a c.in-SameValue.b c.in_ok-a-in-SameValue.a c.in_ok-b-in-SameValue.b c.in_ok-a-in-SameValue.ensures.replaced c.in_ok-a-in-SameValue.ensures.kept c.in_ok-b-in-SameValue.ensures.replaced)

pub returns-in_ok-b-in-AtMost-clause-replaced : goal.returns-in_ok-b-in-AtMost-clause-replaced
returns-in_ok-b-in-AtMost-clause-replaced c =
    shaped c.in-AtMost.is
    (at_most_at c.args.pool.now c.args.left c.args.right c.in-AtMost.a c.in-AtMost.b c.in_ok-a-in-AtMost.a c.in_ok-b-in-AtMost.b c.in-AtMost.by _ c.in_ok-a-in-AtMost.ensures.replaced c.in_ok-a-in-AtMost.ensures.kept c.in_ok-b-in-AtMost.ensures.replaced (search rules))

pub returns-in_ok-s-in-Ends-clause-replaced : goal.returns-in_ok-s-in-Ends-clause-replaced
returns-in_ok-s-in-Ends-clause-replaced c =
    shaped c.in-Ends.is (ends_at c.args.pool.now c.args.left c.args.right c.in-Ends.s c.in_ok-s-in-Ends.s c.in_ok-s-in-Ends.ensures.replaced)

pub returns-in_ok-s-in-Holds-clause-replaced : goal.returns-in_ok-s-in-Holds-clause-replaced
returns-in_ok-s-in-Holds-clause-replaced c =
    shaped c.in-Holds.is (holds_at c.args.pool.now c.args.left c.args.right c.in-Holds.k c.in-Holds.s c.in_ok-s-in-Holds.s c.in_ok-s-in-Holds.ensures.replaced)
