use Rattle.toy_imp.specs.Test.{test_depth}
use Rattle.rule_faults.proofs.marking.+mark_test.Given as goal

abbrev pub decreases-mark_test : goal.decreases-mark_test
decreases-mark_test l = test_depth l.t.now
