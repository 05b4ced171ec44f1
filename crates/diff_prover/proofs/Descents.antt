-- Along the parents the values fall by at least what the rows add up to: a cycle among them is negative, and a walk to a root bounds the value.
use Rattle.std.proofs.Common.{◌≡◌, ℕ, ◌+◌, ◌*◌, ◌^◌, ◌<◌, ◌≤◌, ℤ, pos, neg_ℤ, ◌+ℤ◌, ◌≤ℤ◌, ◌<ℤ◌, List, [], ◌∷◌, length, All, Option, arith, refl, ap, drop}
use Rattle.std.specs.Prelude.{nat_lt}
use Rattle.std.proofs.lemmas.List.{length-drop}
use Rattle.std.proofs.lemmas.List.Sums.{count_by-le-length}
use Rattle.std.proofs.lemmas.Int.{ints, by_lt_z}
use Rattle.std.proofs.lemmas.List.Elements.{All-head, All-tail, All-drop}
use Rattle.diff_prover.specs.declared.row.DiffRow.{DiffRow}
use Rattle.diff_prover.specs.Row.{IsRowOver, assignment}
use Rattle.diff_prover.specs.Cycle.{IsWalk, IsCycle, sum_of, row_at, rows_at, IsNegativeCycle}
use Rattle.diff_prover.specs.Search.{AreExplained, ArePlaced, IsParent, IsTrail, ReachesRoot}
use Rattle.diff_prover.specs.Answer.{IsRefutation}

-- the parents are placed
pub explained_placed : (n : ℕ) (rows : List DiffRow) (values : List ℤ) (parents : List (Option ℕ)) → AreExplained n rows values parents → ArePlaced rows parents
explained_placed n rows values parents explained = record {
  in_range = λ v place is. (explained.parent v place is).in_range;
  left = λ v place is. (explained.parent v place is).left;
}

module _ (n : ℕ) (rows : List DiffRow) (values : List ℤ) (parents : List (Option ℕ)) (explained : AreExplained n rows values parents) where
  -- from a to b the value falls by the sum or more, and where it falls by the sum alone b was set earlier by the walk's length
  record Descends (places : List ℕ) (a b : ℕ) : Type 0 where
    falls : (assignment values b +ℤ sum_of (rows_at rows places)) ≤ℤ assignment values a
    earlier : assignment values b +ℤ sum_of (rows_at rows places) ≡ assignment values a → explained.rank b + length places ≤ explained.rank a

  walk_descends : (places : List ℕ) (a b : ℕ) → All (IsParent rows parents) places → IsWalk a (rows_at rows places) b → Descends places a b
  walk_descends [] a b are walk =
      let e : assignment values a ≡ assignment values b = ap (assignment values) walk in
      let r : explained.rank a ≡ explained.rank b = ap explained.rank walk in
      record { falls = omega (arith, ints); earlier = λ _. omega arith }
  walk_descends (place ∷ places) a b are walk =
      let row = row_at rows place in
      let here = explained.parent row.left place (All-head (IsParent rows parents) place places are) in
      let rest = walk_descends places row.right b (All-tail (IsParent rows parents) place places are) walk.1 in
      let e : assignment values row.left ≡ assignment values a = ap (assignment values) walk.0 in
      let r : explained.rank row.left ≡ explained.rank a = ap explained.rank walk.0 in
      let reaches = here.tight.reaches in
      let falls = rest.falls in
      record {
        falls = omega (arith, ints);
        earlier = λ exact.
            let first = here.tight.earlier (omega (arith, ints)) in
            let others = rest.earlier (omega (arith, ints)) in
            omega arith;
      }

  parents_in_range : (places : List ℕ) → All (IsParent rows parents) places → All (λ place. place < length rows) places
  parents_in_range places are k d lt = (explained.parent _ _ (are k d lt)).in_range

  -- a cycle among the parents has a negative sum
  pub negative_cycle : (places : List ℕ) → All (IsParent rows parents) places → IsCycle (rows_at rows places) → IsNegativeCycle rows places
  negative_cycle [] are cycle = absurd cycle
  negative_cycle (place ∷ places) are cycle =
      let row = row_at rows place in
      let whole = walk_descends (place ∷ places) row.left row.left are (refl, cycle) in
      let falls = whole.falls in
      record {
        in_range = parents_in_range (place ∷ places) are;
        closes = cycle;
        negative = by_lt_z (sum_of (rows_at rows (place ∷ places))) (pos 0)
            (λ below. below)
            (λ above. let earlier = whole.earlier (omega (arith, ints)) in absurd (omega arith));
      }

  -- a walk of so many rows has a sum that is not lower than as many times the greatest magnitude
  sum_above : (places : List ℕ) → All (IsRowOver n) rows → All (IsParent rows parents) places →
      neg_ℤ (pos (length places * 2 ^ 65)) ≤ℤ sum_of (rows_at rows places)
  sum_above [] over are = omega (arith, ints)
  sum_above (place ∷ places) over are =
      let lt = (explained.parent _ _ (All-head (IsParent rows parents) place places are)).in_range in
      let row : IsRowOver n (row_at rows place) = over place _ lt in
      let by = row.magnitude.above in
      let rest = sum_above places over (All-tail (IsParent rows parents) place places are) in
      omega (arith, ints)

  -- a variable from which a short walk reaches a root is not below the lowest value
  pub root_bounds : (trail : List ℕ) (start : ℕ) → length trail ≤ 65536 → All (IsRowOver n) rows → All (IsParent rows parents) trail →
      ReachesRoot rows parents trail start → neg_ℤ (pos (2 ^ 81)) ≤ℤ assignment values start
  root_bounds trail start short over are reaches =
      let walk = walk_descends trail start reaches.root are reaches.walk in
      let falls = walk.falls in
      let above = sum_above trail over are in
      let zero_there = explained.root reaches.root reaches.none in
      omega (arith, ints)

  -- the trail has no more rows than there are variables
  pub trail_short : (visits trail : List ℕ) → IsTrail rows parents visits trail → length trail ≤ n
  trail_short visits trail is =
      let most = count_by-le-length (λ number. nat_lt 0 number) visits in
      let visited = is.visited in
      let count = is.count in
      let parent_count = explained.parent_count in
      omega arith

  -- a cycle on the trail refutes the rows
  pub refutation : (visits trail : List ℕ) (number : ℕ) → IsTrail rows parents visits trail → IsCycle (rows_at rows (drop number trail)) →
      IsRefutation n rows (drop number trail)
  refutation visits trail number is cycle =
      let short = trail_short visits trail is in
      let part = length-drop number trail in
      record {
        count = omega arith;
        cycle = negative_cycle (drop number trail) (All-drop (IsParent rows parents) number trail is.parent) cycle;
      }

  -- a walk from a variable below the lowest value never reaches a root
  pub no_root : (visits trail : List ℕ) (start : ℕ) → n ≤ 65536 → All (IsRowOver n) rows → IsTrail rows parents visits trail →
      assignment values start <ℤ neg_ℤ (pos (2 ^ 81)) → ReachesRoot rows parents trail start → ⊥
  no_root visits trail start few over is low reaches =
      let short = trail_short visits trail is in
      let bound = root_bounds trail start (omega arith) over is.parent reaches in
      omega (arith, ints)
