-- The spots of a relation, in order of entry, left path, right path and conjunct. The exits have none.
use Rattle.std.specs.Prelude.{ℕ, suc, cond, List, [], ◌∷◌, ◌++◌, map, Option}
use Rattle.toy_imp.specs.declared.rule.Rule.{Rule}
use Rattle.rule_terms.specs.declared.path.Path.{Path}
use Rattle.path_pairs.specs.declared.cut_points.CutPoints.{CutPoints}
use Rattle.spot_obligations.specs.declared.entry.Entry.{Entry}
use Rattle.spot_obligations.specs.declared.entry.Spot.{Spot}
use Rattle.spot_obligations.specs.Owed.{owed, owed_numbers}
use Rattle.spot_obligations.specs.PathsOfEntry.{lefts, rights, is_exit}

abbrev pub spot_at : ℕ → ℕ → ℕ → Option ℕ → Spot
spot_at k a b c = record { entry = k; left = a; right = b; conjunct = c }

-- of a list whose items have numbers, from the number n on: those of each item, one after another
unfoldable pub over_numbered : {X : Type 0} → (ℕ → X → List Spot) → ℕ → List X → List Spot
over_numbered spots_of n [] = []
over_numbered spots_of n (x ∷ xs) = spots_of n x ++ over_numbered spots_of (suc n) xs

-- of left path a and right path b of entry k
abbrev pub pair_spots : Rule → List Entry → ℕ → ℕ → Path → ℕ → Path → List Spot
pair_spots rule entries k a l b r = map (spot_at k a b) (owed_numbers (owed rule.conditions entries l.stop r.stop))

-- of left path a with each right path
abbrev pub left_spots : Rule → List Entry → ℕ → List Path → ℕ → Path → List Spot
left_spots rule entries k others a l = over_numbered (pair_spots rule entries k a l) 0 others

abbrev pub entry_spots : Rule → CutPoints → List Entry → ℕ → Entry → List Spot
entry_spots rule points entries k e = cond (is_exit rule e) [] (over_numbered (left_spots rule entries k (rights rule points e)) 0 (lefts rule points e))

abbrev pub spots : Rule → CutPoints → List Entry → List Spot
spots rule points entries = over_numbered (entry_spots rule points entries) 0 entries
