-- The laws of products over whole numbers of any size: order, grouping, and products of sums.
-- Linear facts need no law of ours.
use Rattle.std.specs.Prelude.{◌≡◌, ℤ, ◌+ℤ◌, ◌-ℤ◌, ◌*ℤ◌}

abbrev pub ProductCommutes : Type 0
ProductCommutes = (a b : ℤ) → a *ℤ b ≡ b *ℤ a

abbrev pub ProductAssociates : Type 0
ProductAssociates = (a b c : ℤ) → (a *ℤ b) *ℤ c ≡ a *ℤ (b *ℤ c)

abbrev pub ProductOfSum : Type 0
ProductOfSum = (a b c : ℤ) → a *ℤ (b +ℤ c) ≡ (a *ℤ b) +ℤ (a *ℤ c)

abbrev pub SumTimes : Type 0
SumTimes = (a b c : ℤ) → (a +ℤ b) *ℤ c ≡ (a *ℤ c) +ℤ (b *ℤ c)

abbrev pub ProductOfDifference : Type 0
ProductOfDifference = (a b c : ℤ) → a *ℤ (b -ℤ c) ≡ (a *ℤ b) -ℤ (a *ℤ c)

abbrev pub DifferenceTimes : Type 0
DifferenceTimes = (a b c : ℤ) → (a -ℤ b) *ℤ c ≡ (a *ℤ c) -ℤ (b *ℤ c)
