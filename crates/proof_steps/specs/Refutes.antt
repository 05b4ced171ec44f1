-- Which refutations of an obligation are right: those whose leaves end in contradictions.
-- A refutation starts from the path, the goal's `when` and the negation of what the goal gives; a split adds a literal in its first
-- branch and the literal's negation in its second.
use Rattle.std.specs.Prelude.{◌≡◌, pos, Bool, true, false, ◌&&◌, ◌||◌, List, [], ◌∷◌, ◌++◌, Option, Some, None, int_lt}
use Rattle.std.specs.List.{list_any}
use Rattle.rule_terms.specs.Order.{value_same}
use Rattle.rule_terms.specs.declared.obligation.Atom.TheVariants.{AtMost}
use Rattle.rule_terms.specs.declared.obligation.Literal.{Literal}
use Rattle.rule_terms.specs.declared.obligation.Obligation.{Obligation}
use Rattle.law_clauses.specs.Signed.{Signed, plus, signed_of, all_signed, negated, signed_same}
use Rattle.refutations.specs.declared.refutation.Step.{Step}
use Rattle.refutations.specs.Refutation.{Refutation, split, leaf}
use Rattle.proof_steps.specs.Steps.{is_shallow, step_holds}

abbrev pub denied : Option Literal → List Signed
denied None = []
denied (Some x) = negated (signed_of x) ∷ []

-- what a refutation starts from
abbrev pub given_first : Obligation → List Signed
given_first ob = all_signed ob.path ++ (all_signed ob.goal.when ++ denied ob.goal.gives)

-- .. behind what is assumed on the way
abbrev pub given_at : Obligation → List Signed → List Signed
given_at ob assumed = assumed ++ given_first ob

-- a value that is at most itself less something
unfoldable pub is_absurd : Signed → Bool
is_absurd (plus (AtMost a b c)) = value_same a b && int_lt c (pos 0)
is_absurd _ = false

abbrev pub denies : Signed → Step → Bool
denies x s = signed_same (signed_of s.gives) (negated x)

-- the last literal is absurd, or an earlier step denies it
abbrev pub closes : List Step → Signed → Bool
closes earlier x = list_any (denies x) earlier || is_absurd x

-- each step follows from those before, and the last one closes the leaf
unfoldable pub leaf_closes : Obligation → List Signed → List Step → List Step → Bool
leaf_closes ob given earlier [] = false
leaf_closes ob given earlier (s ∷ []) = step_holds ob given earlier s && closes earlier (signed_of s.gives)
leaf_closes ob given earlier (s ∷ t ∷ more) = step_holds ob given earlier s && leaf_closes ob given (earlier ++ s ∷ []) (t ∷ more)

-- under literals that are assumed on the way
abbrev pub refutes_under : Obligation → Refutation → List Signed → Bool
refutes_under ob (split x a b) assumed = is_shallow x && (refutes_under ob a (signed_of x ∷ assumed) && refutes_under ob b (negated (signed_of x) ∷ assumed))
refutes_under ob (leaf steps) assumed = leaf_closes ob (given_at ob assumed) [] steps

unfoldable pub refutes : Obligation → Refutation → Bool
refutes ob proof = refutes_under ob proof []

abbrev pub Refutes : Obligation → Refutation → Type 0
Refutes ob proof = refutes ob proof ≡ true
