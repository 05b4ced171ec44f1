use Rattle.std.proofs.Common.{ℤ}
use Rattle.std.proofs.lemmas.Map.Iter.{iter_end}
use Rattle.toy_run.specs.declared.place.Place.{Place}
use Rattle.toy_run.proofs.Listing.{all_listed}
use Rattle.toy_run.proofs.scattered.listed.Goals as goal

pub returns : goal.returns
returns c =
    let gives = c.into_iter-place-iterator.ensures.into_iter_gives in
    let ended = iter_end (λ (p : Place × ℤ). p) c.args.cells.entries c.loop-place.yielded _ _ _ _ gives.0 c.loop-place.yielded_by c.in-None.is c.next.ensures.steps in
    all_listed c.args.cells.entries c.loop-place.yielded c.loop-place.all ended.0 c.loop-place.invariant gives.5 c.requires
