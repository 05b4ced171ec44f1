use Rattle.std.proofs.Common.{rules, ◌≡◌, ◌<◌, true, length, sym}
use Rattle.loop_sides.specs.Required.{lacks_for_pair}
use Rattle.loop_sides.proofs.Belows.{found_below}
use Rattle.loop_sides.proofs.required.lacks_some.Goals as goal

pub returns-then-lacks_for_pair : goal.returns-then-lacks_for_pair
returns-then-lacks_for_pair c =
    let below : c.loop-b.b < length c.args.rule.now.params = search rules in
    let missing : lacks_for_pair c.args.rule.now c.args.a c.loop-b.b ≡ true = search rules in
    sym (found_below (lacks_for_pair c.args.rule.now c.args.a) _ _ below missing)
