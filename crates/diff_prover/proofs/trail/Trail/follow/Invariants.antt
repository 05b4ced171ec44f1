use Rattle.std.proofs.Common.{◌≡◌, ◌-◌, ◌<◌, ◌≤◌, length, drop}
use Rattle.diff_prover.specs.Cycle.{IsWalk, rows_at}
use Rattle.diff_prover.specs.Search.{IsTrail}
use Rattle.diff_prover.proofs.trail.Trail.follow.Given as goal

abbrev pub invariant-loop-place : goal.invariant-loop-place
invariant-loop-place l = record {
  base_is : l.base ≡ length l.fn.self.places.items;
  base_below : l.base ≤ length l.self.places.items;
  at_below : l.at < length l.parents;
  trail : IsTrail l.rows l.parents l.self.visits.items l.self.places.items;
  walk : IsWalk l.start (rows_at l.rows (drop l.base l.self.places.items)) l.at;
}

abbrev pub decreases-loop-place : goal.decreases-loop-place
decreases-loop-place l = length l.parents - length l.self.places.items
