use Rattle.std.proofs.Common.{sym, ◌∙◌}
use Rattle.cert_checker.specs.Taking.{around_of, taken_left}
use Rattle.cert_checker.proofs.AlongList.{goes_on, stops, done}
use Rattle.cert_checker.proofs.taking.take_paths.Goals as goal

pub returns-in-None : goal.returns-in-None
returns-in-None c =
    stops (taken_left (around_of c.args.around) c.args.rights.now) c.args.lefts.now c.loop-a.a c.index-lefts-a.result c.loop-a.next _ c.loop-a-test.true c.index-lefts-a.is
    (sym c.in_ok-take_rights.ensures ∙ c.in-None.is) c.loop-a.invariant

pub loop-a-preserved : goal.loop-a-preserved
loop-a-preserved c =
    goes_on (taken_left (around_of c.args.around) c.args.rights.now) c.args.lefts.now c.loop-a.a c.index-lefts-a.result c.loop-a.next c.in-Some.n _ c.loop-a-test.true c.index-lefts-a.is
    (sym c.in_ok-take_rights.ensures ∙ c.in-Some.is) c.loop-a.invariant

pub returns : goal.returns
returns c = done (taken_left (around_of c.args.around) c.args.rights.now) c.args.lefts.now c.loop-a.a c.loop-a.next _ c.loop-a-test.false c.loop-a.invariant
