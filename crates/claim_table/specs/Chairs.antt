-- What contracts see of a chair, and what they say of it.
use Rattle.std.specs.Prelude.{◌≡◌, ℕ, ◌+◌, ◌-◌, ◌<◌, ◌≤◌, List, [], ◌∷◌, map, All}
use Rattle.std.specs.List.{range_with_len}
use Rattle.atomic_table.specs.Seated.{TableId}
use Rattle.claim_table.specs.declared.view.View.{View}
use Rattle.claim_table.specs.Views.{Holds, HasLookedAt}
use Rattle.claim_table.specs.Steps.{Place}

-- the table that the chair was made with, and what it knows
pub record ChairView : Type 0 where
  pub table : TableId
  pub view : View

-- how many slots the table has: each has a word, and the count is one more
abbrev pub slot_count : TableId → ℕ
slot_count table = table.words - 1

-- so many slots, of which there are at most 524,288
abbrev pub HasSlots : ℕ → TableId → Type 0
HasSlots slots table = (slots + 1 ≡ table.words) × (slots ≤ 524288)

-- each slot that the chair holds is below the count that it has seen
abbrev pub HeldBelow : View → Type 0
HeldBelow v = (slot : ℕ) → Holds v slot → slot < v.seen

-- what is true of a chair of this number at this table: it carries no values, and it knows its number and the number of slots
pub record IsSeated (number : ℕ) (table : TableId) (me : Place) : Type 0 where
  pub carries_none : me.1 ≡ []
  pub number_is : me.0.number ≡ number
  pub few : number < 65
  pub slots_are : HasSlots me.0.slots table
  pub seen_within : me.0.seen ≤ me.0.slots
  pub held_below : HeldBelow me.0

-- since its last load of the count the chair found each of the first n slots held or done
abbrev pub LookedBelow : ℕ → View → Type 0
LookedBelow n v = (slot : ℕ) → slot < n → HasLookedAt v slot

-- one more load of the count, which is no less than before; the number and the finished list stay
pub record LoadsOnce (v w : View) : Type 0 where
  pub number : w.number ≡ v.number
  pub loads : w.loads ≡ v.loads + 1
  pub seen : v.seen ≤ w.seen
  pub finished : w.finished ≡ v.finished

-- since v, from the last load on, the first n slots were found held or done, and nothing else changed
pub record Passes (n : ℕ) (v w : View) : Type 0 where
  pub number : w.number ≡ v.number
  pub loads : w.loads ≡ v.loads
  pub seen : w.seen ≡ v.seen
  pub held : w.held ≡ v.held
  pub finished : w.finished ≡ v.finished
  pub looked : LookedBelow n w

-- nothing was seen, loaded, held, finished or looked at
pub record IsEmpty (v : View) : Type 0 where
  pub seen : v.seen ≡ 0
  pub loads : v.loads ≡ 0
  pub held : v.held ≡ []
  pub finished : v.finished ≡ []
  pub looked : v.looked ≡ []

-- n chairs of the table, numbered in order from the first number on, which know nothing yet
pub record AreNew (table : TableId) (first n : ℕ) (chairs : List ChairView) : Type 0 where
  pub tables : All (λ c. c.table ≡ table) chairs
  pub numbers : map (λ c. c.view.number) chairs ≡ range_with_len first n
  pub empty : All (λ c. IsEmpty c.view) chairs

-- these are all n chairs that were made, as the first of them knows
abbrev pub AreAll : ℕ → List ChairView → Type 0
AreAll n [] = n ≡ 0
AreAll n (c ∷ chairs) = c.view.made ≡ n
