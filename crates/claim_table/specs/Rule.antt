-- The rule of the table, which holds between any two steps.
-- Word 0 is the count of the slots that are published. Word i + 1 is slot i: 0 is free, 1 is done, and h + 2 is held by chair h.
use Rattle.std.specs.Prelude.{◌≡◌, ℕ, ◌+◌, ◌<◌, ◌≤◌, ◌⊎◌, List, length, slice_index}
use mathlib.Core.Option.{some}
use lib.ListN.{get_elem?}
use Rattle.atomic_table.specs.Table.{State}
use Rattle.claim_table.specs.declared.view.View.{View}
use Rattle.claim_table.specs.Occurrences.{times}
use Rattle.claim_table.specs.Views.{Holds, HasFinished}

-- the table at one moment: its words, and what each chair knows
abbrev pub Moment : Type 0
Moment = State (Unit {0}) View

-- the chair of this number knows this
abbrev pub Knows : Moment → ℕ → View → Type 0
Knows s number v = get_elem? s.views number ≡ some v

-- how many slots are published
abbrev pub count_of : List ℕ → ℕ
count_of words = slice_index words 0

abbrev pub slot_word : List ℕ → ℕ → ℕ
slot_word words slot = slice_index words (slot + 1)

-- no more slots are published than there are, and only a published one is held or done
pub record AreWords (slots : ℕ) (words : List ℕ) : Type 0 where
  pub length_is : length words ≡ slots + 1
  pub room : count_of words ≤ slots
  pub published : (slot : ℕ) → 0 < slot_word words slot → slot < count_of words

-- what the chair of this number knows is true of the words
pub record Fits (slots : ℕ) (words : List ℕ) (chair : ℕ) (v : View) : Type 0 where
  pub slots_are : v.slots ≡ slots
  pub number : v.number ≡ chair
  pub seen : v.seen ≤ count_of words
  pub held : (slot : ℕ) → Holds v slot → slot_word words slot ≡ chair + 2
  pub finished : (slot : ℕ) → HasFinished v slot → slot_word words slot ≡ 1
  pub held_once : (slot : ℕ) → times slot v.held ≤ 1
  pub finished_once : (slot : ℕ) → times slot v.finished ≤ 1

-- a slot is finished by one chair at most
abbrev pub FinishedByOne : Moment → Type 0
FinishedByOne s =
    (slot j k : ℕ) (v w : View) → Knows s j v → Knows s k w
    → HasFinished v slot → HasFinished w slot → j ≡ k

-- the slot's word names the chair, which holds it; or it is done, and the chair has finished it
abbrev pub Owns : List ℕ → ℕ → View → ℕ → Type 0
Owns words chair v slot =
    ((slot_word words slot ≡ chair + 2) × Holds v slot) ⊎ ((slot_word words slot ≡ 1) × HasFinished v slot)

-- some chair holds the slot, or has finished it
abbrev pub IsOwned : Moment → ℕ → Type 0
IsOwned s slot = (chair : ℕ) × (v : View) × Knows s chair v × Owns s.words chair v slot

-- some chair has seen how many slots are published
abbrev pub CountIsSeen : Moment → Type 0
CountIsSeen s = (chair : ℕ) × (v : View) × Knows s chair v × (v.seen ≡ count_of s.words)

-- the rule: of the words, of how many chairs were made, which chair 0 knows, and of what the chairs know
pub record Kept (slots : ℕ) (s : Moment) : Type 0 where
  pub words : AreWords slots s.words
  pub made : (v : View) → Knows s 0 v → v.made ≡ length s.views
  pub fits : (chair : ℕ) (v : View) → Knows s chair v → Fits slots s.words chair v
  pub finished_by_one : FinishedByOne s
  pub owned : (slot : ℕ) → 0 < slot_word s.words slot → IsOwned s slot
  pub count_seen : CountIsSeen s
