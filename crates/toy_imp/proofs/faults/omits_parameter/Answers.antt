use Rattle.std.proofs.Common.{rules, ◌≡◌, ◌<◌, false, length, sym}
use Rattle.toy_imp.specs.Faults.{occurs}
use Rattle.toy_imp.proofs.Faultless.{omitted}
use Rattle.toy_imp.proofs.faults.omits_parameter.Goals as goal

pub returns-then-not-block_any : goal.returns-then-not-block_any
returns-then-not-block_any c =
    let below : c.loop-k.k < length c.args.rule.now.params = search rules in
    let missing : occurs c.loop-k.k c.args.rule.now.left ≡ false = search rules in
    sym (omitted _ _ _ below missing)
