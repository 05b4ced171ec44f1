use Rattle.std.proofs.Common.{rules, ◌≡◌, ◌≤◌, length, All, true}
use Rattle.std.specs.Prelude.{is_some}
use Rattle.diff_prover.specs.Row.{IsRowOver}
use Rattle.diff_prover.proofs.Descents.{explained_placed}
use Rattle.diff_prover.proofs.Settling.{cycle_falls, below_falls}
use Rattle.diff_prover.proofs.search.lower_along_parents.Goals as goal

pub follow-requires-clause-placed : goal.follow-requires-clause-placed
follow-requires-clause-placed c = explained_placed _ _ _ _ c.loop-variable.invariant.explained

pub follow_alone-requires-clause-placed : goal.follow_alone-requires-clause-placed
follow_alone-requires-clause-placed c = explained_placed _ _ _ _ c.lower_walk.ensures.explained

pub returns-then-is_some-clause-fallen : goal.returns-then-is_some-clause-fallen
returns-then-is_some-clause-fallen c =
    let some : is_some c.in_ok-found.found ≡ true = search rules in
    cycle_falls _ _ _ _ c.loop-variable.invariant.explained _ _ c.args.values.now _ _ c.in_ok-found.found some c.in_ok-found.ensures.trail c.in_ok-found.ensures.found

pub returns-in-Some-clause-fallen : goal.returns-in-Some-clause-fallen
returns-in-Some-clause-fallen c =
    let few : length c.loop-variable.values ≤ 65536 = search rules in
    let over : All (IsRowOver (length c.loop-variable.values)) c.args.rows.now = rw c.loop-variable.auto.values c.requires.rows in
    below_falls _ _ _ _ c.lower_walk.ensures.explained _ _ c.args.values.now c.follow_alone.result c.in-Some.below few over
    c.in-Some.ensures.fallen.1 c.follow_alone.ensures.trail c.follow_alone.ensures.found
