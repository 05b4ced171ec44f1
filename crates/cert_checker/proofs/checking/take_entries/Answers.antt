use Rattle.std.proofs.Common.{sym, ◌∙◌}
use Rattle.cert_checker.specs.Taking.{taken_entry}
use Rattle.cert_checker.proofs.AlongList.{goes_on, stops, done}
use Rattle.cert_checker.proofs.checking.take_entries.Goals as goal

pub returns-in-None : goal.returns-in-None
returns-in-None c =
    stops (taken_entry c.args.rule.now c.args.points.now c.args.entries.now c.args.proofs.now) c.args.entries.now c.loop-k.k c.index-entries-k.result c.loop-k.next _ c.loop-k-test.true c.index-entries-k.is
    (sym c.in_ok-take_entry.ensures ∙ c.in-None.is) c.loop-k.invariant

pub loop-k-preserved : goal.loop-k-preserved
loop-k-preserved c =
    goes_on (taken_entry c.args.rule.now c.args.points.now c.args.entries.now c.args.proofs.now) c.args.entries.now c.loop-k.k c.index-entries-k.result c.loop-k.next c.in-Some.n _ c.loop-k-test.true c.index-entries-k.is
    (sym c.in_ok-take_entry.ensures ∙ c.in-Some.is) c.loop-k.invariant

pub returns : goal.returns
returns c = done (taken_entry c.args.rule.now c.args.points.now c.args.entries.now c.args.proofs.now) c.args.entries.now c.loop-k.k c.loop-k.next _ c.loop-k-test.false c.loop-k.invariant
