-- Whether each number below another passes a test, or some does.
use Rattle.std.specs.Prelude.{ℕ, zero, suc, Bool, true, false, ◌&&◌, ◌||◌, Option, None}
use Rattle.std.specs.Option.{option_or}

abbrev pub all_below : (ℕ → Bool) → ℕ → Bool
all_below test zero = true
all_below test (suc n) = all_below test n && test n

abbrev pub any_below : (ℕ → Bool) → ℕ → Bool
any_below test zero = false
any_below test (suc n) = any_below test n || test n

-- what the first number gives that gives something
abbrev pub first_below : {A : Type 0} → (ℕ → Option A) → ℕ → Option A
first_below give zero = None
first_below give (suc n) = option_or (first_below give n) (give n)
