-- Products and sums of counts that stand still at 2^64 - 1.
use Rattle.std.specs.Prelude.{◌≡◌, ℕ, zero, suc, ◌+◌, ◌*◌, ◌-◌, ◌^◌, ◌≤◌, ◌⊎◌}
use Rattle.std.proofs.Common.{inl, inr, arith}
use Rattle.std.proofs.Math.Nat.{mul-suc}
use Rattle.rule_terms.specs.Counts.{saturated}

above : (a b m : ℕ) → m ≤ a → 1 ≤ b → m ≤ a * b
above a zero m h k = absurd (omega (arith, k))
above a (suc b) m h k = omega (arith, mul-suc a b, h)

split_next : (a b : ℕ) → (a ≤ b) ⊎ (b ≤ a) → (suc a ≤ suc b) ⊎ (suc b ≤ suc a)
split_next a b (inl h) = inl (omega (arith, h))
split_next a b (inr h) = inr (omega (arith, h))

split : (a b : ℕ) → (a ≤ b) ⊎ (b ≤ a)
split zero b = inl (omega arith)
split (suc a) zero = inr (omega arith)
split (suc a) (suc b) = split_next a b (split a b)

abbrev most : ℕ
most = 2 ^ 64 - 1

product_of : (a b : ℕ) → (a ≤ most) ⊎ (most ≤ a) → (b ≤ most) ⊎ (most ≤ b) → saturated (saturated a * saturated b) ≡ saturated (a * b)
product_of zero b h k = let small : saturated zero ≡ 0 = omega arith in rw small (omega arith)
product_of (suc a) zero h k = let small : saturated zero ≡ 0 = omega arith in rw small (omega arith)
product_of (suc a) (suc b) (inl h) (inl k) =
    let e : saturated (suc a) ≡ suc a = omega (arith, h) in
    let d : saturated (suc b) ≡ suc b = omega (arith, k) in
    λ i. saturated (e i * d i)
product_of (suc a) (suc b) (inr h) k =
    let large : most ≤ suc a * suc b = above (suc a) (suc b) most h (omega arith) in
    let also : most ≤ saturated (suc a) * saturated (suc b) = above (saturated (suc a)) (saturated (suc b)) most (omega (arith, h)) (omega arith) in
    omega (arith, large, also)
product_of (suc a) (suc b) (inl h) (inr k) =
    let large : most ≤ suc b * suc a = above (suc b) (suc a) most k (omega arith) in
    let also : most ≤ saturated (suc b) * saturated (suc a) = above (saturated (suc b)) (saturated (suc a)) most (omega (arith, k)) (omega arith) in
    omega (arith, large, also)

pub saturated_product : (a b : ℕ) → saturated (saturated a * saturated b) ≡ saturated (a * b)
saturated_product a b = product_of a b (split a most) (split b most)

pub saturated_sum : (a b c : ℕ) → saturated (saturated c + saturated (saturated a * saturated b)) ≡ saturated (c + a * b)
saturated_sum a b c = let e : saturated (saturated a * saturated b) ≡ saturated (a * b) = saturated_product a b in omega (arith, e)
