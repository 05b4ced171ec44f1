-- A list to which items are added at the end, each only where no equal one is there.
use Rattle.std.specs.Prelude.{Bool, cond, List, [], ◌∷◌, ◌++◌}
use Rattle.std.specs.List.{list_any}

abbrev pub added : {X : Type 0} → (X → X → Bool) → List X → X → List X
added same xs x = cond (list_any (same x) xs) xs (xs ++ x ∷ [])

-- the items of a list, one after another
unfoldable pub added_all : {X : Type 0} → (X → X → Bool) → List X → List X → List X
added_all same xs [] = xs
added_all same xs (y ∷ ys) = added_all same (added same xs y) ys
