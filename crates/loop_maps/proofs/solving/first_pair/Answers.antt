use Rattle.std.proofs.Common.{rules, true, is_some, ◌≡◌, ◌<◌, ◌∙◌, sym}
use Rattle.loop_maps.proofs.Firsts.{found_first, is_some_told}
use Rattle.loop_maps.specs.Maps.{by_first}
use Rattle.loop_maps.proofs.solving.first_pair.Goals as goal

pub returns-then-is_some-clause-is : goal.returns-then-is_some-clause-is
returns-then-is_some-clause-is c =
    let below : c.loop-x.x < c.args.count = search rules in
    let some : is_some c.by_first-found.result ≡ true = search rules in
    c.by_first-found.ensures.is
    ∙ sym (found_first (by_first c.args.count c.args.to.now c.args.from.now) c.args.count c.loop-x.x below c.loop-x.invariant (is_some_told _ _ c.by_first-found.ensures.is some))
