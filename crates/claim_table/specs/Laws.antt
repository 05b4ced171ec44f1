-- What follows from the rule for any two chairs, at each moment.
use Rattle.std.specs.Prelude.{◌≡◌, ℕ, ◌<◌, ◌++◌, ◌∷◌, [], List}
use Rattle.claim_table.specs.declared.view.View.{View}
use Rattle.claim_table.specs.Occurrences.{times, without}
use Rattle.claim_table.specs.Views.{Holds, HasFinished}
use Rattle.claim_table.specs.Rule.{Moment, Knows, count_of, slot_word, IsOwned, Kept}
use Rattle.claim_table.specs.Chairs.{IsEmpty}

-- no slot is held by two chairs
abbrev pub HeldByOne : Type 0
HeldByOne =
    (slots : ℕ) (s : Moment) → Kept slots s
    → (slot j k : ℕ) (v w : View) → Knows s j v → Knows s k w
    → Holds v slot → Holds w slot → j ≡ k

-- a finished slot is done, no chair holds it, and no other chair has finished it
abbrev pub FinishedStays : Type 0
FinishedStays =
    (slots : ℕ) (s : Moment) → Kept slots s
    → (slot j k : ℕ) (v w : View) → Knows s j v → Knows s k w
    → HasFinished v slot
    → (slot_word s.words slot ≡ 1) × (times slot w.held ≡ 0) × (HasFinished w slot → j ≡ k)

-- each slot that is not free has a chair that holds it or has finished it
abbrev pub IsTakenByAChair : Type 0
IsTakenByAChair = (slots : ℕ) (s : Moment) → Kept slots s → (slot : ℕ) → 0 < slot_word s.words slot → IsOwned s slot

-- where the chairs have seen, held and finished nothing, all slots are free and none is published
abbrev pub StartsFree : Type 0
StartsFree =
    (slots : ℕ) (s : Moment) → Kept slots s
    → ((chair : ℕ) (v : View) → Knows s chair v → IsEmpty v)
    → (count_of s.words ≡ 0) × ((slot : ℕ) → slot_word s.words slot ≡ 0)

-- a slot that comes onto the held list fresh and is taken off it leaves the list as it was
abbrev pub FreshSlotComesOff : Type 0
FreshSlotComesOff = (slot : ℕ) (held : List ℕ) → times slot held ≡ 0 → without slot (held ++ slot ∷ []) ≡ held
