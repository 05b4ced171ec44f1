-- The laws of refutations: on the first the checking of certificates stands, and on the others the search for refutations.
use Rattle.std.specs.Prelude.{◌≡◌, ℕ, ◌+◌, Bool, true, List, ◌∷◌, ◌++◌, length}
use Rattle.std.specs.List.{list_all}
use Rattle.toy_imp.specs.declared.instance.Instance.{Instance}
use Rattle.toy_imp.specs.Meets.{MeetsAll}
use Rattle.toy_imp.specs.Store.{Store}
use Rattle.rule_terms.specs.declared.obligation.Literal.{Literal}
use Rattle.rule_terms.specs.declared.obligation.Obligation.{Obligation}
use Rattle.term_meaning.specs.Table.{Entry, Faithful}
use Rattle.term_meaning.specs.Meaning.{literal_truth, conjunct_truth, fits_kinds, CoversObligation, Reached, ObligationHolds}
use Rattle.law_clauses.specs.Signed.{Signed, signed_of, negated}
use Rattle.refutations.specs.declared.refutation.Step.{Step}
use Rattle.refutations.specs.Refutation.{Refutation, split}
use Rattle.proof_steps.specs.Moved.{moved}
use Rattle.proof_steps.specs.Steps.{is_given, is_shallow, step_holds}
use Rattle.proof_steps.specs.Refutes.{refutes_under, Refutes}

-- an obligation that is refuted, its goal denied, holds: under every instance that fits the kinds of its parameters and meets its
-- conditions, and every two stores
abbrev pub RefutedHolds : Type 0
RefutedHolds = (ob : Obligation) (proof : Refutation) → Refutes ob proof → ObligationHolds ob

-- what is true under a table that is faithful whatever is to be shown: the goal of an obligation that holds, where its known conjuncts
-- and the literals of its path are true
abbrev pub HeldGoalIsTrue : Type 0
HeldGoalIsTrue =
    (ob : Obligation) → ObligationHolds ob → (i : Instance) → fits_kinds ob.params i.fillings ≡ true → MeetsAll i ob.conditions → (T : List Entry) (l r : Store) → ((f : ℕ → Bool) → Faithful (Reached f) i T) → CoversObligation i T l r ob
    → list_all (conjunct_truth i T l r) ob.known ≡ true → list_all (literal_truth i T l r) ob.path ≡ true → conjunct_truth i T l r ob.goal ≡ true

-- what is given by the first list is given by the second
abbrev pub Included : List Signed → List Signed → Type 0
Included xs ys = (x : Signed) → is_given xs x ≡ true → is_given ys x ≡ true

-- a step that holds still holds where more is given
abbrev pub StepsHoldUnderMore : Type 0
StepsHoldUnderMore = (ob : Obligation) (xs ys : List Signed) → Included xs ys → (earlier : List Step) (s : Step) → step_holds ob xs earlier s ≡ true → step_holds ob ys earlier s ≡ true

-- .. and a refutation under more assumptions
abbrev pub RefutesUnderMore : Type 0
RefutesUnderMore = (ob : Obligation) (r : Refutation) (xs ys : List Signed) → Included xs ys → refutes_under ob r xs ≡ true → refutes_under ob r ys ≡ true

-- two refuted branches make a refuted split
abbrev pub BranchesRefute : Type 0
BranchesRefute =
    (ob : Obligation) (x : Literal) (a b : Refutation) (xs : List Signed) → is_shallow x ≡ true
    → refutes_under ob a (signed_of x ∷ xs) ≡ true → refutes_under ob b (negated (signed_of x) ∷ xs) ≡ true → refutes_under ob (split x a b) xs ≡ true

-- a step that holds behind steps holds, its citations moved by a number, where so many steps stand in front of those and others behind
abbrev pub StepsHoldMoved : Type 0
StepsHoldMoved =
    (ob : Obligation) (given : List Signed) (front earlier behind : List Step) (s : Step) → step_holds ob given earlier s ≡ true
    → step_holds ob given (front ++ (earlier ++ behind)) (moved (λ k. length front + k) s) ≡ true
