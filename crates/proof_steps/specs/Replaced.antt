-- Terms with arguments replaced by equal ones: each pair of arguments is identical, or equal by the next cited step.
use Rattle.std.specs.Prelude.{ℕ, Bool, true, false, cond, ◌==◌, ◌&&◌, List, [], ◌∷◌, Option, Some, None}
use Rattle.std.specs.Ordering.{int_eq}
use Rattle.rule_terms.specs.declared.obligation.Atom.{Atom}
use Rattle.rule_terms.specs.declared.obligation.Atom.TheVariants.{SameStore, SameValue, AtMost, Ends, Holds}
use Rattle.law_clauses.specs.Signed.{Signed, plus, minus}
use Rattle.law_clauses.specs.Arguments.{Argument, of_store, of_value, store_arguments, value_arguments, store_top, value_top, identical, equality}
use Rattle.refutations.specs.declared.refutation.Step.{Step}
use Rattle.proof_steps.specs.Cited.{fact, is_that}

abbrev pub says : List Step → ℕ → Option Atom → Bool
says earlier k None = false
says earlier k (Some a) = is_that (fact earlier k) (plus a)

-- the steps that are left when the next one says that the arguments are equal
abbrev pub left_by_equality : List Step → List ℕ → Option Atom → Option (List ℕ)
left_by_equality earlier [] a = None
left_by_equality earlier (k ∷ from) a = cond (says earlier k a) (Some from) None

-- .. behind a pair of arguments, and behind all pairs, where any are left at all
unfoldable pub left_by_pair : List Step → Option (List ℕ) → Argument → Argument → Option (List ℕ)
left_by_pair earlier None a b = None
left_by_pair earlier (Some from) a b = cond (identical a b) (Some from) (left_by_equality earlier from (equality a b))

unfoldable pub left_by_pairs : List Step → Option (List ℕ) → List Argument → List Argument → Option (List ℕ)
left_by_pairs earlier from [] [] = from
left_by_pairs earlier from [] (b ∷ bs) = None
left_by_pairs earlier from (a ∷ more) [] = None
left_by_pairs earlier from (a ∷ more) (b ∷ bs) = left_by_pairs earlier (left_by_pair earlier from a b) more bs

-- none is left
abbrev pub all_used : Option (List ℕ) → Bool
all_used None = false
all_used (Some []) = true
all_used (Some (k ∷ from)) = false

abbrev pub replaced : List Step → List ℕ → List Argument → List Argument → Bool
replaced earlier from more others = all_used (left_by_pairs earlier (Some from) more others)

-- `+` equality of two terms with the same top
unfoldable pub alike : List Step → List ℕ → Signed → Bool
alike earlier from (plus (SameStore a b)) = store_top a b && replaced earlier from (store_arguments a) (store_arguments b)
alike earlier from (plus (SameValue a b)) = value_top a b && replaced earlier from (value_arguments a) (value_arguments b)
alike earlier from _ = false

-- the second atom is the first with its terms replaced
abbrev pub carried_atom : List Step → List ℕ → Atom → Atom → Bool
carried_atom earlier from (AtMost a b c) (AtMost d e f) = int_eq c f && replaced earlier from (of_value a ∷ of_value b ∷ []) (of_value d ∷ of_value e ∷ [])
carried_atom earlier from (Ends s) (Ends t) = replaced earlier from (of_store s ∷ []) (of_store t ∷ [])
carried_atom earlier from (Holds j s) (Holds k t) = j == k && replaced earlier from (of_store s ∷ []) (of_store t ∷ [])
carried_atom earlier from _ _ = false

-- .. with its sign
unfoldable pub carried : List Step → List ℕ → Option Signed → Signed → Bool
carried earlier from (Some (plus a)) (plus b) = carried_atom earlier from a b
carried earlier from (Some (minus a)) (minus b) = carried_atom earlier from a b
carried earlier from _ _ = false
