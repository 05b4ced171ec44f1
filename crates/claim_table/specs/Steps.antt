-- What each kind of step tells the chair that makes it: of the step, of the chair before, of the word found, and of the chair after.
-- A step on word i + 1 is one on slot i.
use Rattle.std.specs.Prelude.{◌≡◌, ℕ, ◌+◌, ◌-◌, ◌≤◌, max, ◌==◌, MatchBool}
use Rattle.atomic_table.specs.Table.{Me, Step}
use Rattle.claim_table.specs.declared.view.View.{View}
use Rattle.claim_table.specs.Occurrences.{times}
use Rattle.claim_table.specs.Views.{after_load, after_look, after_claim, after_finish, after_free, after_publish}

-- what a chair knows, beside values that it was lent, of which there are none
abbrev pub Place : Type 0
Place = Me (Unit {0}) View

abbrev pub Told : Type 1
Told = Step (Unit {0}) → Place → ℕ → Place → Type 0

abbrev pub slot_of : Step (Unit {0}) → ℕ
slot_of s = s.word - 1

-- the count is no less than the chair had seen
abbrev pub LoadsCount : Told
LoadsCount s v n w = (w ≡ (after_load n v.0, v.1)) × (v.0.seen ≤ n) × (n ≤ v.0.slots)

-- the slot is free, or the chair has looked at it
abbrev pub LooksAt : Told
LooksAt s v n w = MatchBool (n == 0) (w ≡ v) (w ≡ (after_look (slot_of s) v.0, v.1))

-- the slot was free, so that the chair did not hold it, and now does; or the chair has looked at it
abbrev pub Claims : Told
Claims s v n w =
    MatchBool (n == 0)
    ((w ≡ (after_claim (slot_of s) v.0, v.1)) × (times (slot_of s) v.0.held ≡ 0))
    (w ≡ (after_look (slot_of s) v.0, v.1))

-- the chair's own number was found
abbrev pub Finishes : Told
Finishes s v n w = (n ≡ v.0.number + 2) × (w ≡ (after_finish (slot_of s) v.0, v.1))

abbrev pub Frees : Told
Frees s v n w = (n ≡ v.0.number + 2) × (w ≡ (after_free (slot_of s) v.0, v.1))

-- the greater of the count before and the one that is published
abbrev pub Publishes : Told
Publishes s v n w = (w ≡ (after_publish (max n s.first) v.0, v.1)) × (v.0.seen ≤ n) × (n ≤ v.0.slots)
