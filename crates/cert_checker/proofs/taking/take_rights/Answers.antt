use Rattle.std.proofs.Common.{sym, ◌∙◌}
use Rattle.cert_checker.specs.Taking.{around_of, taken_right}
use Rattle.cert_checker.proofs.AlongList.{goes_on, stops, done}
use Rattle.cert_checker.proofs.taking.take_rights.Goals as goal

pub returns-in-None : goal.returns-in-None
returns-in-None c =
    stops (taken_right (around_of c.args.around) c.args.left_number c.args.left.now) c.args.rights.now c.loop-b.b c.index-rights-b.result c.loop-b.next _ c.loop-b-test.true c.index-rights-b.is
    (sym c.in_ok-take_pair.ensures ∙ c.in-None.is) c.loop-b.invariant

pub loop-b-preserved : goal.loop-b-preserved
loop-b-preserved c =
    goes_on (taken_right (around_of c.args.around) c.args.left_number c.args.left.now) c.args.rights.now c.loop-b.b c.index-rights-b.result c.loop-b.next c.in-Some.n _ c.loop-b-test.true c.index-rights-b.is
    (sym c.in_ok-take_pair.ensures ∙ c.in-Some.is) c.loop-b.invariant

pub returns : goal.returns
returns c = done (taken_right (around_of c.args.around) c.args.left_number c.args.left.now) c.args.rights.now c.loop-b.b c.loop-b.next _ c.loop-b-test.false c.loop-b.invariant
