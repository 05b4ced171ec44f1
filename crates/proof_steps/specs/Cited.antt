-- What steps that stand before say, and what is cited of them.
use Rattle.std.specs.Prelude.{ℕ, Bool, true, false, ◌&&◌, List, [], ◌∷◌, Option, Some, None, slice_get}
use Rattle.law_clauses.specs.Signed.{Signed, signed_of, signed_same}
use Rattle.refutations.specs.declared.refutation.Step.{Step}

abbrev pub stated : Option Step → Option Signed
stated None = None
stated (Some s) = Some (signed_of s.gives)

-- the literal of the step of this number, if there is one
abbrev pub fact : List Step → ℕ → Option Signed
fact earlier k = stated (slice_get earlier k)

abbrev pub is_that : Option Signed → Signed → Bool
is_that None x = false
is_that (Some y) x = signed_same y x

-- the steps of these numbers give these literals, one for one
unfoldable pub cited : List Step → List ℕ → List Signed → Bool
cited earlier [] [] = true
cited earlier [] (x ∷ xs) = false
cited earlier (k ∷ ks) [] = false
cited earlier (k ∷ ks) (x ∷ xs) = is_that (fact earlier k) x && cited earlier ks xs
