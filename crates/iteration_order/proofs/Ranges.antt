-- The turns of one loop: none where the upper bound is not above the lower one, else the lower bound and then the turns from the next number on.
-- So there are as many as the bounds are apart, and they are the numbers between them.
use Rattle.std.specs.Prelude.{◌≡◌, ℕ, zero, suc, ℤ, pos, negsuc, ◌+ℤ◌, ◌-ℤ◌, ◌≤ℤ◌, ◌<ℤ◌, [], ◌∷◌, length, refl}
use Rattle.std.proofs.Common.{◌∙◌, ap, subst, inl, inr, arith}
use Rattle.std.proofs.lemmas.Int.{ints, by_lt_z}
use Rattle.iteration_order.specs.RunningOrder.{count_up, or_zero, turns_between}
use Rattle.iteration_order.proofs.Standing.{Stands}
use Rattle.iteration_order.proofs.Pieces.{Ascends}

pub or_zero-positive : (z : ℤ) → pos 0 ≤ℤ z → pos (or_zero z) ≡ z
or_zero-positive (pos n) le = refl
or_zero-positive (negsuc n) le = absurd (omega (arith, ints))

or_zero-negative : (z : ℤ) → z ≤ℤ pos 0 → or_zero z ≡ 0
or_zero-negative (pos n) le = omega (arith, ints)
or_zero-negative (negsuc n) le = refl

pub turns-none : (low high : ℤ) → high ≤ℤ low → turns_between low high ≡ []
unfolding turns_between
turns-none low high le = ap (count_up low) (or_zero-negative (high -ℤ low) (omega (arith, ints)))

or_zero-next : (low high : ℤ) → low <ℤ high → or_zero (high -ℤ low) ≡ suc (or_zero (high -ℤ (low +ℤ pos 1)))
or_zero-next low high lt =
    let here = or_zero-positive (high -ℤ low) (omega (arith, ints)) in
    let next = or_zero-positive (high -ℤ (low +ℤ pos 1)) (omega (arith, ints)) in
    omega (arith, ints)

pub turns-next : (low high : ℤ) → low <ℤ high → turns_between low high ≡ low ∷ turns_between (low +ℤ pos 1) high
unfolding turns_between
turns-next low high lt = ap (count_up low) (or_zero-next low high lt)

length-count_up : (low : ℤ) (n : ℕ) → length (count_up low n) ≡ n
length-count_up low zero = refl
length-count_up low (suc n) = ap suc (length-count_up (low +ℤ pos 1) n)

pub length-turns : (low high : ℤ) → low ≤ℤ high → pos (length (turns_between low high)) ≡ high -ℤ low
unfolding turns_between
length-turns low high le = ap pos (length-count_up low _) ∙ or_zero-positive (high -ℤ low) (omega (arith, ints))

pub length-no_turns : (low high : ℤ) → high ≤ℤ low → length (turns_between low high) ≡ 0
length-no_turns low high le = ap length (turns-none low high le)

-- ---- the numbers between the bounds
pub record Between (low high v : ℤ) : Type 0 where
  pub above : low ≤ℤ v
  pub below : v <ℤ high

counted : (low : ℤ) (n : ℕ) (v : ℤ) → Stands (count_up low n) v → Between low (low +ℤ pos n) v
counted low zero v s = absurd s
counted low (suc n) v (inl e) = record { above = omega (arith, ints); below = omega (arith, ints) }
counted low (suc n) v (inr s) =
    let b : Between (low +ℤ pos 1) ((low +ℤ pos 1) +ℤ pos n) v = counted (low +ℤ pos 1) n v s in
    let above = b.above in
    let below = b.below in
    record { above = omega (arith, ints); below = omega (arith, ints) }

counts : (low : ℤ) (n : ℕ) (v : ℤ) → low ≤ℤ v → v <ℤ (low +ℤ pos n) → Stands (count_up low n) v
counts low zero v le lt = absurd (omega (arith, ints))
counts low (suc n) v le lt =
    by_lt_z low v
    (λ (above : low <ℤ v). inr (counts (low +ℤ pos 1) n v (omega (arith, ints)) (omega (arith, ints))))
    (λ (here : v ≤ℤ low). inl (omega (arith, ints)))

-- the turns are the numbers from the lower bound on that are below the upper one
pub turns_between_bounds : (low high v : ℤ) → Stands (turns_between low high) v → Between low high v
unfolding turns_between
turns_between_bounds low high v s = by_lt_z low high
    (λ (lt : low <ℤ high).
    let size = or_zero-positive (high -ℤ low) (omega (arith, ints)) in
    let b = counted low (or_zero (high -ℤ low)) v s in
    let above = b.above in
    let below = b.below in
    record { above = omega (arith, ints); below = omega (arith, ints) })
    (λ (le : high ≤ℤ low). absurd (subst (λ l. Stands l v) (turns-none low high le) s))

pub bounds_between_turns : (low high v : ℤ) → low ≤ℤ v → v <ℤ high → Stands (turns_between low high) v
unfolding turns_between
bounds_between_turns low high v le lt =
    let size = or_zero-positive (high -ℤ low) (omega (arith, ints)) in
    counts low (or_zero (high -ℤ low)) v le (omega (arith, ints))

-- and they ascend
count_up_ascends : (low : ℤ) (n : ℕ) → Ascends (λ v w. v <ℤ w) (count_up low n)
count_up_ascends low zero = tt
count_up_ascends low (suc n) = (
  λ v s.
      let b = counted (low +ℤ pos 1) n v s in
      let above = b.above in
      omega (arith, ints),
  count_up_ascends (low +ℤ pos 1) n,
)

pub turns_ascend : (low high : ℤ) → Ascends (λ v w. v <ℤ w) (turns_between low high)
unfolding turns_between
turns_ascend low high = count_up_ascends low _
