use Rattle.toy_imp.specs.Test.{test_depth}
use Rattle.side_conditions.proofs.places.+test_has.Given as goal

abbrev pub decreases-test_has : goal.decreases-test_has
decreases-test_has l = test_depth l.t.now
