-- The count of a side's points is the number of their places.
use Rattle.std.proofs.Common.{◌≡◌, ◌≤◌, ℕ, suc, ◌+◌, ◌-◌, ◌^◌, min, List, ◌∷◌, length, map, drop, refl, ap, subst, arith}
use Rattle.std.proofs.lemmas.List.{length-append, length-map, drop_all}
use Rattle.toy_imp.specs.Block.{Stmt, skip, put, assert_that, if_then, while_do, for_to, let_in, par_stmt, Block, empty, stmt}
use Rattle.toy_imp.specs.BlockView.{block_of}
use Rattle.toy_imp.specs.Points.{Place, stmt_points, points_from, stmt_count, point_count}

mutual
  pub as_many_inside : (s : Stmt) → length (stmt_points s) ≡ stmt_count s
  as_many_inside skip = refl
  as_many_inside (put x is e) = refl
  as_many_inside (assert_that t) = refl
  as_many_inside (if_then t b c) = rw (length-append (map (λ place. 0 ∷ place) (points_from 0 b)) (map (λ place. 1 ∷ place) (points_from 0 c)), length-map (points_from 0 b) (λ (place : Place). 0 ∷ place), length-map (points_from 0 c) (λ (place : Place). 1 ∷ place), as_many_places 0 b, as_many_places 0 c) refl
  as_many_inside (while_do t b) = ap suc (rw (length-map (points_from 0 b) (λ (place : Place). 0 ∷ place), as_many_places 0 b) refl)
  as_many_inside (for_to x lo hi b) = rw (length-map (points_from 0 b) (λ (place : Place). 0 ∷ place), as_many_places 0 b) refl
  as_many_inside (let_in x e b) = rw (length-map (points_from 0 b) (λ (place : Place). 0 ∷ place), as_many_places 0 b) refl
  as_many_inside (par_stmt k) = refl

  pub as_many_places : (n : ℕ) (b : Block) → length (points_from n b) ≡ point_count b
  as_many_places n empty = refl
  as_many_places n (stmt s b) = rw (length-append (map (λ place. n ∷ place) (stmt_points s)) (points_from (suc n) b), length-map (stmt_points s) (λ (place : Place). n ∷ place), as_many_inside s, as_many_places (suc n) b) refl

-- the count once all statements are counted
pub counted_all : (count i : ℕ) (items : List Stmt) → count ≤ 2 ^ 64 - 1 → length items ≤ i
    → min (count + point_count (block_of (drop i items))) (2 ^ 64 - 1) ≡ min (point_count (block_of items)) (2 ^ 64 - 1)
    → count ≡ min (point_count (block_of items)) (2 ^ 64 - 1)
counted_all count i items small done h =
    let e : min (count + 0) (2 ^ 64 - 1) ≡ min (point_count (block_of items)) (2 ^ 64 - 1) = subst (λ rest. min (count + point_count (block_of rest)) (2 ^ 64 - 1) ≡ min (point_count (block_of items)) (2 ^ 64 - 1)) (drop_all i items done) h in
    omega (arith, e, small)
