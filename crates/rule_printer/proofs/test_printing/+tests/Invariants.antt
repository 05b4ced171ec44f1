use Rattle.std.proofs.Common.{◌+◌, ◌*◌, max}
use Rattle.toy_imp.specs.Test.{test_depth}
use Rattle.rule_printer.proofs.test_printing.+tests.Given as goal

abbrev pub decreases-put_test : goal.decreases-put_test
decreases-put_test l = 4 * test_depth l.t.now

abbrev pub decreases-put_and : goal.decreases-put_and
decreases-put_and l = 4 * max (test_depth l.t.now) (test_depth l.u.now) + 2

abbrev pub decreases-put_both : goal.decreases-put_both
decreases-put_both l = 4 * max (test_depth l.t.now) (test_depth l.u.now) + 1

abbrev pub decreases-put_or : goal.decreases-put_or
decreases-put_or l = 4 * max (test_depth l.t.now) (test_depth l.u.now) + 2

abbrev pub decreases-put_either : goal.decreases-put_either
decreases-put_either l = 4 * max (test_depth l.t.now) (test_depth l.u.now) + 1
