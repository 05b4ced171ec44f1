-- The least congruence over a list of terms in which given equalities hold: what is equal in each such congruence.
use Rattle.std.specs.Prelude.{◌≡◌, Bool, true, false, ◌&&◌, List, [], ◌∷◌, Contains}
use Rattle.std.specs.List.{list_all}
use Rattle.rule_terms.specs.declared.obligation.Atom.TheVariants.{SameName, SameStore, SameValue}
use Rattle.law_clauses.specs.Signed.{Signed, plus}
use Rattle.law_clauses.specs.Arguments.{Argument, of_name, of_store, of_value}
use Rattle.equality_prover.specs.Terms.{arguments, same_top}

-- as many arguments, related one for one
abbrev pub all_related : (Argument → Argument → Bool) → List Argument → List Argument → Bool
all_related r [] [] = true
all_related r [] (b ∷ bs) = false
all_related r (a ∷ more) [] = false
all_related r (a ∷ more) (b ∷ bs) = r a b && all_related r more bs

-- a relation of these terms that is an equivalence, and where equal arguments under one top make equal terms
pub record IsCongruence (terms : List Argument) (r : Argument → Argument → Bool) : Type 0 where
  pub itself : (a : Argument) → Contains terms a → r a a ≡ true
  pub turned : (a b : Argument) → r a b ≡ true → r b a ≡ true
  pub chained : (a b c : Argument) → r a b ≡ true → r b c ≡ true → r a c ≡ true
  pub alike : (a b : Argument) → Contains terms a → Contains terms b → same_top a b ≡ true → all_related r (arguments a) (arguments b) ≡ true → r a b ≡ true

-- an equality that is stated holds in the relation; other literals state none
abbrev pub respects : (Argument → Argument → Bool) → Signed → Bool
respects r (plus (SameName x y)) = r (of_name x) (of_name y)
respects r (plus (SameStore s t)) = r (of_store s) (of_store t)
respects r (plus (SameValue v w)) = r (of_value v) (of_value w)
respects r _ = true

unfoldable pub all_respected : (Argument → Argument → Bool) → List Signed → Bool
all_respected r given = list_all (respects r) given

-- equal in each congruence of the terms in which the given equalities hold
abbrev pub AreEqual : List Argument → List Signed → Argument → Argument → Type 0
AreEqual terms given a b = (r : Argument → Argument → Bool) → IsCongruence terms r → all_respected r given ≡ true → r a b ≡ true
