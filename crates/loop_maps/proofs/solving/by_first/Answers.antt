use Rattle.std.proofs.Common.{rules, true, is_some, ◌≡◌, ◌<◌, ◌∙◌, sym}
use Rattle.loop_maps.proofs.Firsts.{found_first, is_some_told}
use Rattle.loop_maps.specs.Maps.{by_names}
use Rattle.loop_maps.proofs.solving.by_first.Goals as goal

pub returns-then-is_some-clause-is : goal.returns-then-is_some-clause-is
returns-then-is_some-clause-is c =
    let below : c.loop-y.y < c.args.count = search rules in
    let some : is_some c.by_names-found.result ≡ true = search rules in
    c.by_names-found.ensures.is
    ∙ sym (found_first (by_names c.args.to.now c.args.from.now c.args.x) c.args.count c.loop-y.y below c.loop-y.invariant (is_some_told _ _ c.by_names-found.ensures.is some))
