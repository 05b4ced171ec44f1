-- How class numbers change where classes are joined. The class number of a term is the place of a term that is equal to it.
use Rattle.std.specs.Prelude.{◌≡◌, ℕ, ◌<◌, Bool, true, false, cond, ◌==◌, ◌&&◌, List, [], length, slice_index_or, sum, Option, Some, None}
use Rattle.std.specs.List.{list_any}
use Rattle.law_clauses.specs.Signed.{Signed}
use Rattle.law_clauses.specs.Arguments.{Argument, of_name, identical}
use Rattle.law_clauses.specs.ArgumentView.{argument_of}
use Rattle.law_clauses.specs.declared.arguments.Argument as code
use Rattle.equality_prover.specs.Terms.{arguments, same_top}
use Rattle.equality_prover.specs.Congruence.{all_related, IsCongruence, respects, all_respected}
use Rattle.equality_prover.specs.Places.{in_class}

abbrev pub term_at : List Argument → ℕ → Argument
term_at terms k = slice_index_or terms k (of_name 0)

abbrev pub class_at : List ℕ → ℕ → ℕ
class_at classes k = slice_index_or classes k 0

abbrev pub relabelled : ℕ → ℕ → ℕ → ℕ
relabelled from into c = cond (c == from) into c

-- each term is related to the one at the place that is its class number
abbrev pub IsSound : List Argument → (Argument → Argument → Bool) → List ℕ → Type 0
IsSound terms r classes = (k : ℕ) → k < length classes → r (term_at terms k) (term_at terms (class_at classes k)) ≡ true

-- what had one number has one number
abbrev pub IsCoarser : List ℕ → List ℕ → Type 0
IsCoarser old new = (k l : ℕ) → k < length old → l < length old → class_at old k ≡ class_at old l → class_at new k ≡ class_at new l

-- the classes of the items at two places were made one
pub record IsJoined (i j : ℕ) (old new : List ℕ) : Type 0 where
  pub count : length new ≡ length old
  pub coarser : IsCoarser old new
  pub joined : class_at new i ≡ class_at new j
  pub less : sum new < sum old
  pub sound : (terms : List Argument) (r : Argument → Argument → Bool) → IsCongruence terms r → r (term_at terms i) (term_at terms j) ≡ true → IsSound terms r old → IsSound terms r new

-- classes were joined, by equalities that the literals state and their consequences alone, until all those hold
pub record TakesIn (terms : List Argument) (given : List Signed) (old new : List ℕ) : Type 0 where
  pub count : length new ≡ length old
  pub coarser : IsCoarser old new
  pub respected : all_respected (in_class terms new) given ≡ true
  pub sound : (r : Argument → Argument → Bool) → IsCongruence terms r → all_respected r given ≡ true → IsSound terms r old → IsSound terms r new

-- two terms of one top whose arguments are of one class are of one class
abbrev pub IsSettled : List Argument → List ℕ → ℕ → ℕ → Type 0
IsSettled terms classes i j =
    same_top (term_at terms i) (term_at terms j) ≡ true
    → all_related (in_class terms classes) (arguments (term_at terms i)) (arguments (term_at terms j)) ≡ true → class_at classes i ≡ class_at classes j

-- what a pass did: it joined classes, or it found nothing to join and what it looked at is settled
abbrev pub Passed : List Argument → List ℕ → List ℕ → Type 0 → Bool → Type 0
Passed terms old new looked true = TakesIn terms [] old new × (sum new < sum old)
Passed terms old new looked false = (new ≡ old) × looked

-- the term stands among the others
abbrev pub stands : List Argument → Argument → Bool
stands terms a = list_any (identical a) terms

abbrev pub both_stand : List Argument → Argument → Argument → Bool
both_stand terms a b = stands terms a && stands terms b

-- a literal states the equality of these terms, or states none
abbrev pub AreSides : Signed → Option (code.Argument × code.Argument) → Type 0
AreSides x None = (r : Argument → Argument → Bool) → respects r x ≡ true
AreSides x (Some p) = (r : Argument → Argument → Bool) → respects r x ≡ r (argument_of p.0) (argument_of p.1)

-- two terms were made one class
pub record TakesPair (terms : List Argument) (a b : Argument) (old new : List ℕ) : Type 0 where
  pub count : length new ≡ length old
  pub coarser : IsCoarser old new
  pub joined : in_class terms new a b ≡ true
  pub sound : (r : Argument → Argument → Bool) → IsCongruence terms r → r a b ≡ true → IsSound terms r old → IsSound terms r new

-- all pairs are settled
abbrev pub AreSettled : List Argument → List ℕ → Type 0
AreSettled terms classes = (i j : ℕ) → i < length terms → j < length terms → IsSettled terms classes i j

pub record IsEnd (terms : List Argument) (old new : List ℕ) : Type 0 where
  pub taken : TakesIn terms [] old new
  pub settled : AreSettled terms new
