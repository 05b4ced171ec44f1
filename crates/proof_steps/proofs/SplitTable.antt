-- Leaves and splits: for each a use that is right, and one with a single slip that is wrong. All by computation.
use Rattle.std.specs.Prelude.{◌≡◌, ℕ, pos, negsuc, ℤ, Bool, true, false, List, [], ◌∷◌, Some, refl}
use Rattle.rule_terms.specs.Term.{left_store, right_store}
use Rattle.rule_terms.specs.Order.{store_cmp, value_cmp, terms_cmp}
use Rattle.rule_terms.specs.declared.obligation.Atom.{Atom}
use Rattle.rule_terms.specs.declared.obligation.Atom.TheVariants.{SameName, SameStore, AtMost}
use Rattle.rule_terms.specs.declared.obligation.Literal.{Literal}
use Rattle.rule_terms.specs.declared.obligation.Obligation.{Obligation}
use Rattle.law_clauses.specs.Signed.{atom_same, signed_same}
use Rattle.law_clauses.proofs.TableTerms.{variable, no_goal}
use Rattle.refutations.specs.declared.refutation.By.TheVariants.{Given, Known}
use Rattle.refutations.specs.declared.refutation.Step.{Step}
use Rattle.refutations.specs.Refutation.{split, leaf}
use Rattle.proof_steps.specs.Cited.{cited}
use Rattle.proof_steps.specs.Steps.{by_known, step_holds}
use Rattle.proof_steps.specs.Refutes.{is_absurd, leaf_closes, refutes_under, refutes}
use Rattle.proof_steps.proofs.Examples.{yes, no, fact, step, refutes_by}

abbrev names_equal : Atom
names_equal = SameName 0 1

abbrev stores_equal : Atom
stores_equal = SameStore left_store right_store

-- ---- leaves
-- what is to be impossible: literals of a path
abbrev path_of : List Literal → Obligation
path_of xs = record { params = []; conditions = []; known = []; path = xs; goal = no_goal }

abbrev both_given : Literal → List Step
both_given last = step (yes names_equal) Given ∷ step last Given ∷ []

-- a literal and its negation
denial : refutes (path_of (yes names_equal ∷ no names_equal ∷ [])) (leaf (both_given (no names_equal))) ≡ true
unfolding step_holds is_absurd leaf_closes atom_same signed_same
denial = refutes_by (path_of (yes names_equal ∷ no names_equal ∷ [])) (both_given (no names_equal)) true refl

-- the literal twice
no_denial : refutes (path_of (yes names_equal ∷ no names_equal ∷ [])) (leaf (both_given (yes names_equal))) ≡ false
unfolding step_holds is_absurd leaf_closes atom_same signed_same
no_denial = refutes_by (path_of (yes names_equal ∷ no names_equal ∷ [])) (both_given (yes names_equal)) false refl

-- a value that is at most itself less 1, and one that is at most itself
abbrev itself : ℤ → Literal
itself z = yes (AtMost (variable 0 left_store) (variable 0 left_store) z)

less_than_itself : refutes (path_of (itself (negsuc 0) ∷ [])) (leaf (step (itself (negsuc 0)) Given ∷ [])) ≡ true
unfolding step_holds is_absurd leaf_closes atom_same signed_same store_cmp value_cmp terms_cmp
less_than_itself = refutes_by (path_of (itself (negsuc 0) ∷ [])) (step (itself (negsuc 0)) Given ∷ []) true refl

no_less_than_itself : refutes (path_of (itself (pos 0) ∷ [])) (leaf (step (itself (pos 0)) Given ∷ [])) ≡ false
unfolding step_holds is_absurd leaf_closes atom_same signed_same store_cmp value_cmp terms_cmp
no_less_than_itself = refutes_by (path_of (itself (pos 0) ∷ [])) (step (itself (pos 0)) Given ∷ []) false refl

-- no steps
no_steps : refutes (path_of (yes names_equal ∷ no names_equal ∷ [])) (leaf []) ≡ false
unfolding leaf_closes
no_steps = refutes_by (path_of (yes names_equal ∷ no names_equal ∷ [])) [] false refl

-- ---- splits
refutes_by_cases : (ob : Obligation) (x : Literal) (first second : List Step) (b : Bool) → refutes_under ob (split x (leaf first) (leaf second)) [] ≡ b → refutes ob (split x (leaf first) (leaf second)) ≡ b
unfolding refutes
refutes_by_cases ob x first second b e = e

-- equal stores, known for equal names and for other ones
abbrev either_way : Obligation
either_way =
    record {
      params = [];
      conditions = [];
      known = record { when = yes names_equal ∷ []; gives = Some (yes stores_equal) } ∷ record { when = no names_equal ∷ []; gives = Some (yes stores_equal) } ∷ [];
      path = [];
      goal = fact (yes stores_equal);
    }

abbrev by_case : Literal → ℕ → List Step
by_case x k = step (no stores_equal) Given ∷ step x Given ∷ step (yes stores_equal) (Known k (1 ∷ [])) ∷ []

both_cases : refutes either_way (split (yes names_equal) (leaf (by_case (yes names_equal) 0)) (leaf (by_case (no names_equal) 1))) ≡ true
unfolding step_holds by_known cited is_absurd leaf_closes atom_same signed_same store_cmp
both_cases = refutes_by_cases either_way (yes names_equal) (by_case (yes names_equal) 0) (by_case (no names_equal) 1) true refl

-- the second branch assumes what the first one does
one_case_twice : refutes either_way (split (yes names_equal) (leaf (by_case (yes names_equal) 0)) (leaf (by_case (yes names_equal) 0))) ≡ false
unfolding step_holds by_known cited is_absurd leaf_closes atom_same signed_same store_cmp
one_case_twice = refutes_by_cases either_way (yes names_equal) (by_case (yes names_equal) 0) (by_case (yes names_equal) 0) false refl

-- .. or the first what the second one does
other_case_twice : refutes either_way (split (yes names_equal) (leaf (by_case (no names_equal) 1)) (leaf (by_case (no names_equal) 1))) ≡ false
unfolding step_holds by_known cited is_absurd leaf_closes atom_same signed_same store_cmp
other_case_twice = refutes_by_cases either_way (yes names_equal) (by_case (no names_equal) 1) (by_case (no names_equal) 1) false refl
