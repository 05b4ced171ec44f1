-- The plain tree of a test, from its top node whose children are trees already.
-- Each variant has the constructor of its name.
use Rattle.toy_imp.specs.Test.{Test, less, less_eq, equal, not_of, and_of, or_of, par_test}
use Rattle.toy_imp.specs.declared.test.TestNode.{TestNode}
use Rattle.toy_imp.specs.declared.test.TestNode.TheVariants.{Less, LessEq, Equal, Not, And, Or, Par}

abbrev pub test_of : TestNode → Test
test_of (Less a b) = less a b
test_of (LessEq a b) = less_eq a b
test_of (Equal a b) = equal a b
test_of (Not t) = not_of t
test_of (And t u) = and_of t u
test_of (Or t u) = or_of t u
test_of (Par k) = par_test k
