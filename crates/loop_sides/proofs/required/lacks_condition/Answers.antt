use Rattle.std.proofs.Common.{rules, ◌≡◌, ◌<◌, true, length, sym}
use Rattle.loop_sides.specs.Required.{lacks_of, lacks_condition}
use Rattle.loop_sides.proofs.Belows.{found_below}
use Rattle.loop_sides.proofs.required.lacks_condition.Goals as goal

pub returns-then-lacks_of : goal.returns-then-lacks_of
unfolding lacks_condition
returns-then-lacks_of c =
    let below : c.loop-k.k < length c.args.rule.now.params = search rules in
    let missing : lacks_of c.args.rule.now c.loop-k.k ≡ true = search rules in
    sym (found_below (lacks_of c.args.rule.now) _ _ below missing)
