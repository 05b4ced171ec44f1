-- Parts of a refutation as they are read one by one: how far in front of the next part the split stands whose branch it begins, and
-- which splits wait for their second branch, the latest first. Nothing is wanted where the refutation is whole.
use Rattle.std.specs.Prelude.{ℕ, suc, ◌-◌, List, [], ◌∷◌, Option, Some, None}
use Rattle.std.specs.Option.{option_map}
use Rattle.refutations.specs.declared.refutation.Part.{Part}
use Rattle.refutations.specs.declared.refutation.Part.TheVariants.{Split, Leaf}

-- behind a leaf the next part begins the second branch of the latest split that waits for one
abbrev pub after_leaf : ℕ → List ℕ → Option (ℕ × List ℕ)
after_leaf n [] = None
after_leaf n (p ∷ waiting) = Some (n - p, waiting)

abbrev pub after_part : ℕ → Part → List ℕ → Option (ℕ × List ℕ)
after_part n (Split x) waiting = Some (1, n ∷ waiting)
after_part n (Leaf steps) waiting = after_leaf (suc n) waiting

abbrev pub with_waiting : Option ℕ → List ℕ → Option (ℕ × List ℕ)
with_waiting far waiting = option_map (λ k. (k, waiting)) far

abbrev pub in_front : ℕ → Option (List ℕ) → Option (List ℕ)
in_front far o = option_map (λ back. far ∷ back) o

-- the distances at parts from this number on, if they end one refutation
abbrev pub placed : ℕ → Option (ℕ × List ℕ) → List Part → Option (List ℕ)
placed n None [] = Some []
placed n None (part ∷ more) = None
placed n (Some next) [] = None
placed n (Some next) (part ∷ more) = in_front next.0 (placed (suc n) (after_part n part next.1) more)
