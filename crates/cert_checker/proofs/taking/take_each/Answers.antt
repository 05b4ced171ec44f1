use Rattle.std.proofs.Common.{sym, ◌∙◌}
use Rattle.cert_checker.specs.Taking.{pair_of, taken_numbered}
use Rattle.cert_checker.proofs.AlongList.{goes_on, stops, done}
use Rattle.cert_checker.proofs.taking.take_each.Goals as goal

pub returns-in-None : goal.returns-in-None
returns-in-None c =
    stops (taken_numbered (pair_of c.args.here)) c.args.goals.now c.loop-c.c c.index-goals-c.result c.loop-c.next _ c.loop-c-test.true c.index-goals-c.is
    (sym c.in_ok-take_one.ensures ∙ c.in-None.is) c.loop-c.invariant

pub loop-c-preserved : goal.loop-c-preserved
loop-c-preserved c =
    goes_on (taken_numbered (pair_of c.args.here)) c.args.goals.now c.loop-c.c c.index-goals-c.result c.loop-c.next c.in-Some.n _ c.loop-c-test.true c.index-goals-c.is
    (sym c.in_ok-take_one.ensures ∙ c.in-Some.is) c.loop-c.invariant

pub returns : goal.returns
returns c = done (taken_numbered (pair_of c.args.here)) c.args.goals.now c.loop-c.c c.loop-c.next _ c.loop-c-test.false c.loop-c.invariant
