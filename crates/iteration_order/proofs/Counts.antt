-- The number of turns as the code counts it, between bounds of at most 2^110 in magnitude.
use Rattle.std.specs.Prelude.{◌≡◌, ◌^◌, ℤ, pos, ◌-ℤ◌, ◌≤ℤ◌, true, false, length}
use Rattle.std.proofs.Common.{sym, ◌∙◌, ap, ap₂, arith, to_z, of_z, lit<}
use Rattle.std.specs.Int.{w128}
use Rattle.std.specs.Int.Signed.{lt_z}
use Rattle.std.proofs.lemmas.Int.{ints}
use Rattle.iteration_order.specs.Affine.{IsAtMost}
use Rattle.iteration_order.specs.RunningOrder.{turns_between}
use Rattle.iteration_order.proofs.Weights.{at_most, above, below, kept}
use Rattle.iteration_order.proofs.Ranges.{length-turns, length-no_turns}

module _ (low high : ℤ) (low_small : IsAtMost (2 ^ 110) low) (high_small : IsAtMost (2 ^ 110) high) where
  low_kept : to_z w128 (of_z w128 low) ≡ low
  low_kept = kept (2 ^ 110) low low_small (lit< tt)

  high_kept : to_z w128 (of_z w128 high) ≡ high
  high_kept = kept (2 ^ 110) high high_small (lit< tt)

  pub difference_small : IsAtMost (2 ^ 111) (high -ℤ low)
  difference_small =
      let a = above low in
      let b = below low in
      let c = above high in
      let d = below high in
      at_most (2 ^ 111) (high -ℤ low) (omega (arith, ints)) (omega (arith, ints))

  difference_kept : to_z w128 (of_z w128 (high -ℤ low)) ≡ high -ℤ low
  difference_kept = kept (2 ^ 111) (high -ℤ low) difference_small (lit< tt)

  test_kept : lt_z (to_z w128 (of_z w128 low)) (to_z w128 (of_z w128 high)) ≡ lt_z low high
  test_kept = ap₂ lt_z low_kept high_kept

  pub count_some : lt_z (to_z w128 (of_z w128 low)) (to_z w128 (of_z w128 high)) ≡ true →
      to_z w128 (of_z w128 (to_z w128 (of_z w128 high) -ℤ to_z w128 (of_z w128 low))) ≡ pos (length (turns_between low high))
  count_some tested =
      let test : lt_z low high ≡ true = sym test_kept ∙ tested in
      let le : low ≤ℤ high = grind (arith, ints) in
      ap₂ (λ x y. to_z w128 (of_z w128 (x -ℤ y))) high_kept low_kept ∙ difference_kept ∙ sym (length-turns low high le)

  pub count_none : lt_z (to_z w128 (of_z w128 low)) (to_z w128 (of_z w128 high)) ≡ false → pos 0 ≡ pos (length (turns_between low high))
  count_none tested =
      let test : lt_z low high ≡ false = sym test_kept ∙ tested in
      let le : high ≤ℤ low = grind (arith, ints) in
      ap pos (sym (length-no_turns low high le))

  pub count_small : IsAtMost (2 ^ 111) (to_z w128 (of_z w128 (to_z w128 (of_z w128 high) -ℤ to_z w128 (of_z w128 low))))
  count_small =
      let is : to_z w128 (of_z w128 (to_z w128 (of_z w128 high) -ℤ to_z w128 (of_z w128 low))) ≡ high -ℤ low =
      ap₂ (λ x y. to_z w128 (of_z w128 (x -ℤ y))) high_kept low_kept ∙ difference_kept in
      rw is difference_small
