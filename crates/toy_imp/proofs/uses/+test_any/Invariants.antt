use Rattle.toy_imp.specs.Test.{test_depth}
use Rattle.toy_imp.proofs.uses.+test_any.Given as goal

abbrev pub decreases-test_any : goal.decreases-test_any
decreases-test_any l = test_depth l.t.now
