use Rattle.path_pairs.proofs.Joining.{both_next}
use Rattle.path_pairs.proofs.test_outcome.both.Goals as goal

pub loop-first-preserved : goal.loop-first-preserved
loop-first-preserved c =
    both_next _ _ _ c.args.firsts.now c.args.seconds.now c.loop-first.first-index c.first-item.result _
    c.loop-first-test.true c.first-item.is c.as_slice.ensures c.in_ok-add_each.ensures c.loop-first.invariant
