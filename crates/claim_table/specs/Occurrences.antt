-- How often a slot stands on a list, and a list without a slot.
use Rattle.std.specs.Prelude.{ℕ, ◌+◌, ◌==◌, Bool, true, false, cond, List, [], ◌∷◌}

abbrev pub hit : Bool → ℕ
hit true = 1
hit false = 0

-- how often the slot stands on the list
abbrev pub times : ℕ → List ℕ → ℕ
times slot [] = 0
times slot (x ∷ xs) = hit (x == slot) + times slot xs

-- the list without the slot
abbrev pub without : ℕ → List ℕ → List ℕ
without slot [] = []
without slot (x ∷ xs) = cond (x == slot) (without slot xs) (x ∷ without slot xs)
