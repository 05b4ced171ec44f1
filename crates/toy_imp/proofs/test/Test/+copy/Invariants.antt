use Rattle.toy_imp.specs.Test.{test_depth}
use Rattle.toy_imp.proofs.test.Test.+copy.Given as goal

abbrev pub decreases-copy : goal.decreases-copy
decreases-copy l = test_depth l.self.now
