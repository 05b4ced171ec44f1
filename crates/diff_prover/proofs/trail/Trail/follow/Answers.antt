use Rattle.std.proofs.Common.{◌≡◌, ◌+◌, ◌-◌, ◌<◌, [], ◌∷◌, Some, length, drop, get_or, sym, ap, ◌∙◌, arith}
use Rattle.std.proofs.lemmas.List.{length_push, drop-append-le, get_or_read}
use Rattle.diff_prover.specs.Row.{IsRowOver}
use Rattle.diff_prover.specs.Cycle.{row_at}
use Rattle.diff_prover.specs.Search.{parent_of}
use Rattle.diff_prover.proofs.Trails.{not_all_visited, walk_push, walk_closes, trail_push}
use Rattle.diff_prover.proofs.trail.Trail.follow.Goals as goal

pub loop-place-smaller : goal.loop-place-smaller
loop-place-smaller c =
    let inv = c.loop-place.invariant in
    let visits = c.loop-place.self.visits.items in
    let places = c.loop-place.self.places.items in
    let inside : c.loop-place.at < length visits = omega (arith, inv.trail.count, inv.at_below) in
    let fresh : get_or visits c.loop-place.at 0 ≡ 0 = sym (get_or_read visits c.loop-place.at c.index.result.now inside c.index.ensures 0) ∙ c.loop-place-test.true in
    let some = not_all_visited visits c.loop-place.at inside fresh in
    let count = inv.trail.count in
    let visited = inv.trail.visited in
    let longer : length c.push.new.self.items ≡ length places + 1 = ap length c.in_ok-push.ensures.items ∙ length_push places c.in-Some.place in
    let less : length c.args.parents.now - length c.push.new.self.items < length c.args.parents.now - length places = omega arith in
    less

pub loop-place-preserved : goal.loop-place-preserved
loop-place-preserved c =
    let inv = c.loop-place.invariant in
    let visits = c.loop-place.self.visits.items in
    let places = c.loop-place.self.places.items in
    let inside : c.loop-place.at < length visits = omega (arith, inv.trail.count, inv.at_below) in
    let fresh : get_or visits c.loop-place.at 0 ≡ 0 = sym (get_or_read visits c.loop-place.at c.index.result.now inside c.index.ensures 0) ∙ c.loop-place-test.true in
    let longer = length_push places c.in-Some.place in
    let pushed = ap length c.in_ok-push.ensures.items in
    let len = c.len.ensures in
    let items = c.push.new.self.ok.0 in
    let number : c.len.result ≡ length places + 1 = omega arith in
    let parent : parent_of c.args.parents.now c.loop-place.at ≡ Some c.in-Some.place = c.in-Some.is in
    let within = c.requires.placed.in_range c.loop-place.at c.in-Some.place parent in
    let over : IsRowOver (length c.args.parents.now) (row_at c.args.rows.now c.in-Some.place) = c.requires.rows c.in-Some.place _ within in
    let left = c.requires.placed.left c.loop-place.at c.in-Some.place parent in
    let below = inv.base_below in
    rw c.in_ok-push.ensures.items (record {
      base_is = inv.base_is;
      base_below = omega arith;
      at_below = over.right_below;
      trail = trail_push _ _ visits places c.loop-place.at c.in-Some.place c.len.result c.requires.placed inv.trail inv.at_below fresh parent number;
      walk = rw (drop-append-le c.len-base.result places (c.in-Some.place ∷ []) below)
          (walk_push c.args.rows.now (drop c.len-base.result places) c.in-Some.place c.args.start c.loop-place.at inv.walk left);
    })

pub returns-then-number-base-clause-found : goal.returns-then-number-base-clause-found
returns-then-number-base-clause-found c =
    let inv = c.loop-place.invariant in
    let visits = c.loop-place.self.visits.items in
    let places = c.loop-place.self.places.items in
    let inside : c.loop-place.at < length visits = omega (arith, inv.trail.count, inv.at_below) in
    let is : c.index-number.result.now ≡ get_or visits c.loop-place.at 0 = get_or_read visits c.loop-place.at c.index-number.result.now inside c.index-number.ensures 0 in
    let base = c.if-number-base.true in
    let number = inv.trail.number c.loop-place.at (omega arith) in
    let left = inv.trail.left c.loop-place.at (omega arith) in
    walk_closes c.args.rows.now places c.len-base.result (c.index-number.result.now - 1) c.args.start c.loop-place.at (omega arith) (omega arith) inv.walk (rw is left)
