-- Where terms stand in the list, and the relation that class numbers at places make of them.
use Rattle.std.specs.Prelude.{ℕ, suc, Bool, true, false, cond, ◌==◌, ◌&&◌, List, [], ◌∷◌, map, Option, Some, slice_get}
use Rattle.law_clauses.specs.Arguments.{Argument, identical}
use Rattle.equality_prover.specs.Terms.{arguments}

-- where a term stands first; the number of terms where it stands nowhere
unfoldable pub place_of : List Argument → Argument → ℕ
place_of [] a = 0
place_of (b ∷ bs) a = cond (identical a b) 0 (suc (place_of bs a))

abbrev pub places_of : List Argument → List Argument → List ℕ
places_of terms items = map (place_of terms) items

-- where the arguments of each term stand
abbrev pub table_of : List Argument → List Argument → List (List ℕ)
table_of terms items = map (λ a. places_of terms (arguments a)) items

abbrev pub same_some : Option ℕ → Option ℕ → Bool
same_some (Some c) (Some d) = c == d
same_some _ _ = false

-- the same number at two places
abbrev pub one_class : List ℕ → ℕ → ℕ → Bool
one_class classes p q = same_some (slice_get classes p) (slice_get classes q)

-- .. and at pairs of places
unfoldable pub pairs_in_class : List ℕ → List ℕ → List ℕ → Bool
pairs_in_class classes [] [] = true
pairs_in_class classes [] (q ∷ qs) = false
pairs_in_class classes (p ∷ ps) [] = false
pairs_in_class classes (p ∷ ps) (q ∷ qs) = one_class classes p q && pairs_in_class classes ps qs

-- the same number where two terms stand
abbrev pub in_class : List Argument → List ℕ → Argument → Argument → Bool
in_class terms classes a b = one_class classes (place_of terms a) (place_of terms b)
