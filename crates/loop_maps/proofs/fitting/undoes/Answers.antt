use Rattle.std.proofs.Common.{rules, ◌≡◌, length, arith}
use Rattle.loop_maps.proofs.Fits.{undoes_told}
use Rattle.loop_maps.proofs.fitting.undoes.Goals as goal

pub returns : goal.returns
returns c =
    let n : length c.args.back.now ≡ 4 = search rules in
    undoes_told c.args.loops c.args.back.now c.args.there.now c.undoes.result (omega (arith, n, c.requires.loops)) c.undoes.ensures
