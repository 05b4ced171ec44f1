-- A child of a test is of less depth than the test.
-- This is why a recursion over tests ends.
use Rattle.std.specs.Prelude.{◌≤◌, max}
use Rattle.std.proofs.Common.{arith}
use Rattle.toy_imp.specs.Test.{test_depth}
use Rattle.toy_imp.specs.TestView.{test_of}
use Rattle.toy_imp.specs.declared.test.TestNode.{TestNode}
use Rattle.toy_imp.specs.declared.test.TestNode.TheVariants.{Less, LessEq, Equal, Not, And, Or, Par}
use Rattle.toy_imp.specs.declared.test.Test.TheDeep.{deep-TestNode}

pub test_falls : (a : TestNode) → max (deep-TestNode a) 0 ≤ test_depth (test_of a)
test_falls (Less a b) = omega arith
test_falls (LessEq a b) = omega arith
test_falls (Equal a b) = omega arith
test_falls (Not t) = omega arith
test_falls (And t u) = omega arith
test_falls (Or t u) = omega arith
test_falls (Par k) = omega arith
