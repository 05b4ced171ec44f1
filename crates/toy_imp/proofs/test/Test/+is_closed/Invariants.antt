use Rattle.toy_imp.specs.Test.{test_depth}
use Rattle.toy_imp.proofs.test.Test.+is_closed.Given as goal

abbrev pub decreases-is_closed : goal.decreases-is_closed
decreases-is_closed l = test_depth l.self.now
