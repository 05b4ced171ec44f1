use Rattle.std.proofs.Common.{rules, true, is_some, ◌≡◌, ◌<◌, ◌∙◌, sym}
use Rattle.loop_maps.proofs.Firsts.{found_first, is_some_told}
use Rattle.loop_maps.specs.Maps.{by_name}
use Rattle.loop_maps.proofs.solving.first_name.Goals as goal

pub returns-then-is_some-clause-is : goal.returns-then-is_some-clause-is
returns-then-is_some-clause-is c =
    let below : c.loop-x.x < c.args.count = search rules in
    let some : is_some c.by_name-found.result ≡ true = search rules in
    c.by_name-found.ensures.is
    ∙ sym (found_first (by_name c.args.to.now c.args.from.now) c.args.count c.loop-x.x below c.loop-x.invariant (is_some_told _ _ c.by_name-found.ensures.is some))
