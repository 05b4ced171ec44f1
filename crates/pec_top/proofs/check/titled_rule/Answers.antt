use Rattle.std.proofs.Common.{◌-◌, sym, ap, arith, ◌∙◌}
use Rattle.std.specs.Option.{option_map}
use Rattle.pec_top.proofs.Checking.{found_at, not_at}
use Rattle.pec_top.proofs.check.titled_rule.Goals as goal

pub returns-in-Some : goal.returns-in-Some
returns-in-Some c =
    sym (found_at c.args.title.now c.args.items.now c.loop-n.n (c.loop-n.n - 1) c.index-items-n.result c.in-Some.rule.now (omega (arith, c.loop-n-test.true)) c.loop-n.invariant.0
    c.index-items-n.is c.loop-n.invariant.1 (sym c.own_rule.ensures ∙ ap (option_map (λ rule. rule.now)) c.in-Some.is))

pub loop-n-preserved : goal.loop-n-preserved
loop-n-preserved c = (
  omega (arith, c.loop-n.invariant.0),
  not_at c.args.title.now c.args.items.now c.loop-n.n (c.loop-n.n - 1) c.index-items-n.result (omega (arith, c.loop-n-test.true)) c.loop-n.invariant.0
      c.index-items-n.is c.loop-n.invariant.1 (sym c.own_rule.ensures ∙ ap (option_map (λ rule. rule.now)) c.in-None.is),
)
