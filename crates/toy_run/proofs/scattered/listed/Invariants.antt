use Rattle.std.proofs.Common.{◌≡◌}
use Rattle.std.specs.Prelude.{map}
use Rattle.toy_run.proofs.Listing.{to_cell}
use Rattle.toy_run.proofs.scattered.listed.Given as goal

abbrev pub invariant-loop-place : goal.invariant-loop-place
invariant-loop-place l = l.all ≡ map to_cell l.yielded
