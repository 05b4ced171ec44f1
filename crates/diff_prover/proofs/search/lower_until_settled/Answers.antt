use Rattle.std.proofs.Common.{rules, ◌≤◌, length, All}
use Rattle.diff_prover.specs.Row.{IsRowOver}
use Rattle.diff_prover.proofs.Descents.{explained_placed}
use Rattle.diff_prover.proofs.Settling.{below_settles}
use Rattle.diff_prover.proofs.search.lower_until_settled.Goals as goal

pub follow_alone-requires-clause-placed : goal.follow_alone-requires-clause-placed
follow_alone-requires-clause-placed c = explained_placed _ _ _ _ c.lower_all.ensures.explained

pub returns-in-Below : goal.returns-in-Below
returns-in-Below c =
    let few : length c.loop-variable.values ≤ 65536 = search rules in
    let over : All (IsRowOver (length c.loop-variable.values)) c.args.rows.now = rw c.loop-variable.auto.values c.requires.rows in
    below_settles _ _ _ _ c.lower_all.ensures.explained _ _ c.follow_alone.result c.in-Below.variable few over
    c.in-Below.ensures.lowered.1 c.follow_alone.ensures.trail c.follow_alone.ensures.found
