-- The ten reasons of a step: for each a use that is right, and one with a single slip that is wrong. All by computation.
use Rattle.std.specs.Prelude.{◌≡◌, ◌+◌, ◌^◌, ℕ, pos, negsuc, ℤ, true, false, List, [], ◌∷◌, map, Option, Some, None, refl}
use Rattle.rule_terms.specs.Term.{StoreTerm, left_store, right_store, run, ValueTerm, num, add}
use Rattle.rule_terms.specs.Order.{store_cmp, value_cmp, terms_cmp}
use Rattle.rule_terms.specs.declared.obligation.Atom.{Atom}
use Rattle.rule_terms.specs.declared.obligation.Atom.TheVariants.{SameName, SameStore, SameValue, AtMost, Ends}
use Rattle.rule_terms.specs.declared.obligation.Literal.{Literal}
use Rattle.rule_terms.specs.declared.obligation.Obligation.{Obligation}
use Rattle.law_clauses.specs.Signed.{all_signed, atom_same, signed_same}
use Rattle.law_clauses.specs.WriteLaws.{law_7, law_8}
use Rattle.law_clauses.specs.Laws.{is_clause}
use Rattle.law_clauses.proofs.TableTerms.{one_value, five, variable, set, no_goal, plain}
use Rattle.refutations.specs.declared.refutation.By.TheVariants.{Given, Known, Refl, Flip, Chain, Alike, Carry, Law, Meet, Sum}
use Rattle.refutations.specs.declared.refutation.Step.{Step}
use Rattle.refutations.specs.declared.refutation.SumRow.{SumRow}
use Rattle.refutations.specs.declared.refutation.SumRow.TheVariants.{Of, Back, Num, Off, OffBack}
use Rattle.proof_steps.specs.Cited.{cited}
use Rattle.law_clauses.specs.Arguments.{store_top, value_top}
use Rattle.proof_steps.specs.Replaced.{left_by_pair, left_by_pairs, alike, carried}
use Rattle.law_clauses.specs.Offsets.{offset}
use Rattle.proof_steps.specs.Sums.{bound_of, bound_back, row_bound, adds_up}
use Rattle.proof_steps.specs.Steps.{by_known, by_itself, flipped, chained, by_law, all_negated, met, summed, step_holds}
use Rattle.proof_steps.proofs.Examples.{yes, no, step}

-- steps before, of which the literals alone matter
abbrev said : List Literal → List Step
said xs = map (λ x. step x Given) xs

-- a right step and a wrong one behind the same steps
abbrev StepRow : Obligation → List Literal → List Literal → Step → Step → Type 0
StepRow ob given earlier right wrong =
    (step_holds ob (all_signed given) (said earlier) right ≡ true) × (step_holds ob (all_signed given) (said earlier) wrong ≡ false)

abbrev stores_equal : Atom
stores_equal = SameStore left_store right_store

-- Given: a literal and its negation
given_row : StepRow plain (yes stores_equal ∷ []) [] (step (yes stores_equal) Given) (step (no stores_equal) Given)
unfolding step_holds atom_same signed_same store_cmp
given_row = (refl, refl)

-- Known: a conjunct that is there and one that is not; with its `when` cited and without
abbrev knowing : Option Literal → Obligation
knowing gives = record { params = []; conditions = []; known = record { when = yes (Ends left_store) ∷ []; gives = gives } ∷ []; path = []; goal = no_goal }

abbrev by_conjunct : ℕ → List ℕ → Step
by_conjunct k from = step (yes stores_equal) (Known k from)

known_row : StepRow (knowing (Some (yes stores_equal))) [] (yes (Ends left_store) ∷ []) (by_conjunct 0 (0 ∷ [])) (by_conjunct 1 (0 ∷ []))
unfolding step_holds by_known cited atom_same signed_same store_cmp
known_row = (refl, refl)

known_row_of_when : StepRow (knowing (Some (yes stores_equal))) [] (yes (Ends left_store) ∷ []) (by_conjunct 0 (0 ∷ [])) (by_conjunct 0 [])
unfolding step_holds by_known cited atom_same signed_same store_cmp
known_row_of_when = (refl, refl)

-- .. one that gives nothing gives what is false, and nothing that is true
abbrev by_false : ℤ → Step
by_false c = step (yes (AtMost (num (pos 0)) (num (pos 0)) c)) (Known 0 (0 ∷ []))

known_row_of_false : StepRow (knowing None) [] (yes (Ends left_store) ∷ []) (by_false (negsuc 0)) (by_false (pos 0))
unfolding step_holds by_known cited atom_same signed_same store_cmp value_cmp
known_row_of_false = (refl, refl)

-- Refl: of one store and of two
refl_row : StepRow plain [] [] (step (yes (SameStore left_store left_store)) Refl) (step (yes stores_equal) Refl)
unfolding step_holds by_itself store_cmp
refl_row = (refl, refl)

-- Flip: with the sign kept and with it turned
flip_row : StepRow plain [] (yes stores_equal ∷ []) (step (yes (SameStore right_store left_store)) (Flip 0)) (step (no (SameStore right_store left_store)) (Flip 0))
unfolding step_holds flipped store_cmp
flip_row = (refl, refl)

-- Chain: over one name in the middle and over two
chain_row : StepRow plain [] (yes (SameName 0 1) ∷ yes (SameName 1 2) ∷ yes (SameName 3 2) ∷ []) (step (yes (SameName 0 2)) (Chain 0 1)) (step (yes (SameName 0 2)) (Chain 0 2))
unfolding step_holds chained
chain_row = (refl, refl)

-- Alike: over one parameter and over two
abbrev runs_equal : ℕ → Step
runs_equal k = step (yes (SameStore (run 0 left_store) (run k right_store))) (Alike (0 ∷ []))

alike_row : StepRow plain [] (yes stores_equal ∷ []) (runs_equal 0) (runs_equal 1)
unfolding step_holds cited store_top left_by_pair left_by_pairs alike atom_same signed_same store_cmp
alike_row = (refl, refl)

-- .. of reads, with the equality of the stores and without it
abbrev reads_equal : List ℕ → Step
reads_equal from = step (yes (SameValue (variable 0 left_store) (variable 0 right_store))) (Alike from)

alike_row_of_values : StepRow plain [] (yes stores_equal ∷ []) (reads_equal (0 ∷ [])) (reads_equal [])
unfolding step_holds cited value_top left_by_pair left_by_pairs alike atom_same signed_same store_cmp value_cmp terms_cmp
alike_row_of_values = (refl, refl)

-- Carry: with the sign kept and with it turned
carry_row : StepRow plain [] (yes stores_equal ∷ yes (Ends left_store) ∷ []) (step (yes (Ends right_store)) (Carry 1 (0 ∷ []))) (step (no (Ends right_store)) (Carry 1 (0 ∷ [])))
unfolding step_holds left_by_pair left_by_pairs carried atom_same signed_same store_cmp
carry_row = (refl, refl)

-- Law: with the step that denies the other literal and without it
abbrev written : StoreTerm
written = set 0 five left_store

abbrev by_write : ℕ → ℕ → List ℕ → Step
by_write k p from = step (yes (Ends written)) (Law k (no (Ends left_store) ∷ yes (Ends written) ∷ []) p from)

law_row : StepRow plain [] (yes (Ends left_store) ∷ []) (by_write 7 1 (0 ∷ [])) (by_write 7 1 [])
unfolding step_holds by_law is_clause law_7 all_negated cited atom_same signed_same store_cmp value_cmp terms_cmp
law_row = (refl, refl)

-- .. at the literal's place and at the other's, by that law and by the next one
law_row_of_places : StepRow plain [] (yes (Ends left_store) ∷ []) (by_write 7 1 (0 ∷ [])) (by_write 7 0 (0 ∷ []))
unfolding step_holds by_law is_clause law_7 all_negated cited atom_same signed_same store_cmp value_cmp terms_cmp
law_row_of_places = (refl, refl)

law_row_of_numbers : StepRow plain [] (yes (Ends left_store) ∷ []) (by_write 7 1 (0 ∷ [])) (by_write 8 1 (0 ∷ []))
unfolding step_holds by_law is_clause law_7 law_8 all_negated cited atom_same signed_same store_cmp value_cmp terms_cmp
law_row_of_numbers = (refl, refl)

-- three values
abbrev a : ValueTerm
a = variable 0 left_store

abbrev b : ValueTerm
b = variable 1 left_store

abbrev c : ValueTerm
c = variable 2 left_store

-- Meet: of two bounds by 0, and with one by 1
meet_row : StepRow plain [] (yes (AtMost a b (pos 0)) ∷ yes (AtMost b a (pos 0)) ∷ yes (AtMost b a (pos 1)) ∷ []) (step (yes (SameValue a b)) (Meet 0 1)) (step (yes (SameValue a b)) (Meet 0 2))
unfolding step_holds met store_cmp value_cmp terms_cmp
meet_row = (refl, refl)

-- Sum: of bounds by -1 and by 2, to 1 and to less
abbrev sum_of_two : ℤ → Step
sum_of_two z = step (yes (AtMost a c z)) (Sum (Of 0 ∷ Of 1 ∷ []))

sum_row : StepRow plain [] (yes (AtMost a b (negsuc 0)) ∷ yes (AtMost b c (pos 2)) ∷ []) (sum_of_two (pos 1)) (sum_of_two (pos 0))
unfolding step_holds summed bound_of row_bound adds_up store_cmp value_cmp terms_cmp
sum_row = (refl, refl)

-- .. of a bound of a value by itself: without rows nothing is bounded
abbrev at_most_itself : List SumRow → Step
at_most_itself rows = step (yes (AtMost five five (pos 0))) (Sum rows)

sum_row_without_rows : StepRow plain [] [] (at_most_itself (Num (pos 5) (pos 5) ∷ [])) (at_most_itself [])
unfolding step_holds summed row_bound adds_up value_cmp
sum_row_without_rows = (refl, refl)

-- .. of numbers within 2^100, and one beyond; sums of rows likewise
abbrev sum_of_one : Step
sum_of_one = step (yes (AtMost a b (pos (2 ^ 101)))) (Sum (Of 0 ∷ []))

greatest_row : step_holds plain [] (said (yes (AtMost a b (pos (2 ^ 100))) ∷ [])) sum_of_one ≡ true
unfolding step_holds summed bound_of row_bound adds_up store_cmp value_cmp terms_cmp
greatest_row = refl

greater_row : step_holds plain [] (said (yes (AtMost a b (pos (2 ^ 100 + 1))) ∷ [])) sum_of_one ≡ false
unfolding step_holds summed bound_of row_bound adds_up store_cmp value_cmp terms_cmp
greater_row = refl

-- .. where a sum up to some row passes 2^100 and the whole sum does not
abbrev up_and_down : ℕ → Step
up_and_down n = step (yes (AtMost a a (pos (2 ^ 101)))) (Sum (Of 0 ∷ Of n ∷ Of 2 ∷ Of 3 ∷ []))

abbrev bounds_up_and_down : List Literal
bounds_up_and_down =
    yes (AtMost a b (pos (2 ^ 100))) ∷ yes (AtMost b c (pos 0)) ∷ yes (AtMost c b (negsuc 0)) ∷ yes (AtMost b a (pos 0)) ∷ yes (AtMost b c (pos 1)) ∷ []

sum_row_of_partial_sums : StepRow plain [] bounds_up_and_down (up_and_down 1) (up_and_down 4)
unfolding step_holds summed bound_of row_bound adds_up store_cmp value_cmp terms_cmp
sum_row_of_partial_sums = (refl, refl)

-- .. of an offset by 5, up and back
abbrev up_by : ℤ → Step
up_by z = step (yes (AtMost (add a five) a z)) (Sum (Off (add a five) ∷ []))

sum_row_of_offsets : StepRow plain [] [] (up_by (pos 5)) (up_by (pos 4))
unfolding step_holds summed offset row_bound adds_up store_cmp value_cmp terms_cmp
sum_row_of_offsets = (refl, refl)

abbrev back_by : ℤ → Step
back_by z = step (yes (AtMost a (add a five) z)) (Sum (OffBack (add a five) ∷ []))

sum_row_of_offsets_back : StepRow plain [] [] (back_by (negsuc 4)) (back_by (negsuc 5))
unfolding step_holds summed offset row_bound adds_up store_cmp value_cmp terms_cmp
sum_row_of_offsets_back = (refl, refl)

-- .. of constants
abbrev one_below_five : ℤ → Step
one_below_five z = step (yes (AtMost one_value five z)) (Sum (Num (pos 1) (pos 5) ∷ []))

sum_row_of_constants : StepRow plain [] [] (one_below_five (negsuc 3)) (one_below_five (negsuc 4))
unfolding step_holds summed row_bound adds_up value_cmp
sum_row_of_constants = (refl, refl)

-- .. of an equality the other way round, and of a bound, which has no other way
abbrev back_from : ℕ → Step
back_from k = step (yes (AtMost b a (pos 0))) (Sum (Back k ∷ []))

sum_row_back : StepRow plain [] (yes (SameValue a b) ∷ yes (AtMost a b (pos 0)) ∷ []) (back_from 0) (back_from 1)
unfolding step_holds summed bound_back row_bound adds_up store_cmp value_cmp terms_cmp
sum_row_back = (refl, refl)
