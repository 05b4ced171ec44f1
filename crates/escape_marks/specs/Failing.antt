-- The first item of a list that fails a test, or that all pass it.
use Rattle.std.specs.Prelude.{◌≡◌, ℕ, Bool, true, false, List, take, Option, slice_get, MatchOption}
use Rattle.std.specs.List.{list_all}
use Rattle.std.specs.Option.{option_map_or}

-- the item at this place is the first that fails a test
pub record IsFirstFailing {X : Type 0} (passes : X → Bool) (items : List X) (k : ℕ) : Type 0 where
  pub before : list_all passes (take k items) ≡ true
  pub here : option_map_or passes (slice_get items k) true ≡ false

-- the first item that fails a test is found, or all pass
abbrev pub FindsFailing : {X : Type 0} → (X → Bool) → List X → Option ℕ → Type 0
FindsFailing passes items found = MatchOption found (list_all passes items ≡ true) (IsFirstFailing passes items)
