-- What a chair knows at first, and after each kind of step.
use Rattle.std.specs.Prelude.{ℕ, ◌+◌, ◌<◌, [], ◌∷◌, ◌++◌}
use Rattle.claim_table.specs.declared.view.View.{View}
use Rattle.claim_table.specs.Occurrences.{times, without}

abbrev pub Holds : View → ℕ → Type 0
Holds v slot = 0 < times slot v.held

abbrev pub HasFinished : View → ℕ → Type 0
HasFinished v slot = 0 < times slot v.finished

-- since its last load of the count the chair found the slot held or done
abbrev pub HasLookedAt : View → ℕ → Type 0
HasLookedAt v slot = 0 < times slot v.looked

-- chair 0 of a table of so many slots, as long as it is the only one
abbrev pub first_view : ℕ → View
first_view slots = record {
  slots = slots;
  number = 0;
  made = 1;
  seen = 0;
  loads = 0;
  held = [];
  finished = [];
  looked = [];
}

-- chair 0 once it has made one more chair
abbrev pub after_split : View → View
after_split v = record v { made = v.made + 1 }

-- the chair that it made: its number is how many there were
abbrev pub new_view : View → View
new_view v = record {
  slots = v.slots;
  number = v.made;
  made = 0;
  seen = 0;
  loads = 0;
  held = [];
  finished = [];
  looked = [];
}

-- the count was loaded: it is `count`, and nothing has been looked at since
abbrev pub after_load : ℕ → View → View
after_load count v = record v { seen = count; loads = v.loads + 1; looked = [] }

-- the slot was found held or done
abbrev pub after_look : ℕ → View → View
after_look slot v = record v { looked = v.looked ++ slot ∷ [] }

-- the slot was free, and the chair holds it
abbrev pub after_claim : ℕ → View → View
after_claim slot v = record v { held = v.held ++ slot ∷ [] }

-- the chair finished the slot, which it held
abbrev pub after_finish : ℕ → View → View
after_finish slot v = record v { held = without slot v.held; finished = v.finished ++ slot ∷ [] }

-- the chair freed the slot, which it held
abbrev pub after_free : ℕ → View → View
after_free slot v = record v { held = without slot v.held }

-- `count` slots are published, as the chair has seen
abbrev pub after_publish : ℕ → View → View
after_publish count v = record v { seen = count }
