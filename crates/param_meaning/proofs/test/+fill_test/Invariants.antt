use Rattle.toy_imp.specs.Test.{test_depth}
use Rattle.param_meaning.proofs.test.+fill_test.Given as goal

abbrev pub decreases-fill_test : goal.decreases-fill_test
decreases-fill_test l = test_depth l.t.now
