-- Worked examples: which refutations of small obligations are right. They hold by computation alone.
use Rattle.std.specs.Prelude.{◌≡◌, ℕ, pos, Bool, true, false, List, [], ◌∷◌, Some, None, refl, ℤ, negsuc}
use Rattle.toy_imp.specs.declared.param.Kind.TheVariants as kind
use Rattle.rule_terms.specs.Term.{StoreTerm, left_store, right_store, put, run, num, get, no_terms, ValueTerm}
use Rattle.rule_terms.specs.Order.{store_cmp, value_cmp, terms_cmp}
use Rattle.rule_terms.specs.declared.obligation.Atom.{Atom}
use Rattle.rule_terms.specs.declared.obligation.Atom.TheVariants.{SameName, SameStore, SameValue, Ends, AtMost}
use Rattle.rule_terms.specs.declared.obligation.Literal.{Literal}
use Rattle.rule_terms.specs.declared.obligation.Conjunct.{Conjunct}
use Rattle.rule_terms.specs.declared.obligation.Obligation.{Obligation}
use Rattle.law_clauses.specs.Signed.{atom_same, signed_same, all_same}
use Rattle.law_clauses.specs.WriteLaws.{unequal, read_back, law_1}
use Rattle.law_clauses.specs.Laws.{is_clause}
use Rattle.refutations.specs.declared.refutation.By.TheVariants.{Given, Known, Refl, Alike, Carry, Law, Sum}
use Rattle.refutations.specs.declared.refutation.By.{By}
use Rattle.refutations.specs.declared.refutation.Step.{Step}
use Rattle.refutations.specs.declared.refutation.SumRow.TheVariants.{Of}
use Rattle.refutations.specs.Refutation.{leaf}
use Rattle.proof_steps.specs.Cited.{cited}
use Rattle.law_clauses.specs.Arguments.{store_top}
use Rattle.proof_steps.specs.Replaced.{left_by_pair, left_by_pairs, alike, carried}
use Rattle.proof_steps.specs.Sums.{bound_of, row_bound, adds_up}
use Rattle.proof_steps.specs.Steps.{by_known, by_itself, by_law, all_negated, step_holds, summed}
use Rattle.proof_steps.specs.Refutes.{is_absurd, leaf_closes, refutes_under, refutes}

abbrev pub yes : Atom → Literal
yes a = record { sign = true; atom = a }

abbrev pub no : Atom → Literal
no a = record { sign = false; atom = a }

abbrev pub fact : Literal → Conjunct
fact x = record { when = []; gives = Some x }

abbrev pub step : Literal → By → Step
step x why = record { gives = x; by = why }

pub refutes_by : (ob : Obligation) (steps : List Step) (b : Bool) → refutes_under ob (leaf steps) [] ≡ b → refutes ob (leaf steps) ≡ b
unfolding refutes
refutes_by ob steps b e = e

-- ---- equal stores are known to be equal
abbrev stores_equal : Atom
stores_equal = SameStore left_store right_store

abbrev kept : Obligation
kept = record { params = []; conditions = []; known = fact (yes stores_equal) ∷ []; path = []; goal = fact (yes stores_equal) }

abbrev by_known_conjunct : ℕ → List Step
by_known_conjunct k = step (no stores_equal) Given ∷ step (yes stores_equal) (Known k []) ∷ []

right : refutes kept (leaf (by_known_conjunct 0)) ≡ true
unfolding atom_same signed_same cited by_known step_holds is_absurd leaf_closes store_cmp
right = refutes_by kept (by_known_conjunct 0) true refl

-- there is no conjunct of number 1
wrong : refutes kept (leaf (by_known_conjunct 1)) ≡ false
unfolding atom_same signed_same cited by_known step_holds is_absurd leaf_closes store_cmp
wrong = refutes_by kept (by_known_conjunct 1) false refl

-- ---- a run that ends, from equal stores
abbrev ends_alike : Obligation
ends_alike = record { params = kind.Stmt ∷ []; conditions = []; known = fact (yes stores_equal) ∷ []; path = yes (Ends (run 0 left_store)) ∷ no (Ends (run 0 right_store)) ∷ []; goal = record { when = []; gives = None } }

abbrev by_replacing : List ℕ → List Step
by_replacing from =
    step (yes stores_equal) (Known 0 [])
    ∷ step (yes (SameStore (run 0 left_store) (run 0 right_store))) (Alike (0 ∷ []))
    ∷ step (yes (Ends (run 0 left_store))) Given
    ∷ step (yes (Ends (run 0 right_store))) (Carry 2 from)
    ∷ step (no (Ends (run 0 right_store))) Given
    ∷ []

right_ends : refutes ends_alike (leaf (by_replacing (1 ∷ []))) ≡ true
unfolding atom_same signed_same cited by_known store_top left_by_pair left_by_pairs alike carried step_holds is_absurd leaf_closes store_cmp
right_ends = refutes_by ends_alike (by_replacing (1 ∷ [])) true refl

-- a cited step that is not used
one_too_many : refutes ends_alike (leaf (by_replacing (1 ∷ 1 ∷ []))) ≡ false
unfolding atom_same signed_same cited by_known store_top left_by_pair left_by_pairs alike carried step_holds is_absurd leaf_closes store_cmp
one_too_many = refutes_by ends_alike (by_replacing (1 ∷ 1 ∷ [])) false refl

-- ---- what is read after a write, under two names
abbrev written : StoreTerm
written = put left_store 0 no_terms (num (pos 1))

abbrev reads_one : ℕ → Atom
reads_one x = SameValue (get x no_terms written) (num (pos 1))

abbrev read : ℕ → Obligation
read x = record { params = kind.Name ∷ kind.Name ∷ []; conditions = []; known = []; path = yes (Ends written) ∷ []; goal = fact (yes (reads_one x)) }

-- with the equality of the names
abbrev clause : ℕ → List Literal
clause x = no (Ends written) ∷ no (SameName x 0) ∷ yes (reads_one x) ∷ []

abbrev by_law_1 : ℕ → List Step
by_law_1 x = step (no (reads_one x)) Given ∷ step (yes (Ends written)) Given ∷ step (yes (SameName x 0)) Refl ∷ step (yes (reads_one x)) (Law 1 (clause x) 2 (1 ∷ 2 ∷ [])) ∷ []

-- without it
abbrev short_clause : ℕ → List Literal
short_clause x = no (Ends written) ∷ yes (reads_one x) ∷ []

abbrev by_short_law : ℕ → List Step
by_short_law x = step (no (reads_one x)) Given ∷ step (yes (Ends written)) Given ∷ step (yes (reads_one x)) (Law 1 (short_clause x) 1 (1 ∷ [])) ∷ []

-- .. or with a step that is not there
abbrev by_uncited_law : ℕ → List Step
by_uncited_law x = step (no (reads_one x)) Given ∷ step (yes (Ends written)) Given ∷ step (yes (reads_one x)) (Law 1 (clause x) 2 (1 ∷ [])) ∷ []

equal_names : refutes (read 0) (leaf (by_law_1 0)) ≡ true
unfolding atom_same signed_same all_same cited by_itself by_law all_negated is_clause law_1 read_back unequal step_holds is_absurd leaf_closes store_cmp value_cmp terms_cmp
equal_names = refutes_by (read 0) (by_law_1 0) true refl

-- a name is not known to be another one
other_names : refutes (read 1) (leaf (by_law_1 1)) ≡ false
unfolding atom_same signed_same all_same cited by_itself by_law all_negated is_clause law_1 read_back unequal step_holds is_absurd leaf_closes store_cmp value_cmp terms_cmp
other_names = refutes_by (read 1) (by_law_1 1) false refl

no_names : refutes (read 1) (leaf (by_short_law 1)) ≡ false
unfolding atom_same signed_same all_same cited by_law all_negated is_clause law_1 read_back unequal step_holds is_absurd leaf_closes store_cmp value_cmp terms_cmp
no_names = refutes_by (read 1) (by_short_law 1) false refl

uncited_names : refutes (read 1) (leaf (by_uncited_law 1)) ≡ false
unfolding atom_same signed_same all_same cited by_law all_negated is_clause law_1 read_back unequal step_holds is_absurd leaf_closes store_cmp value_cmp terms_cmp
uncited_names = refutes_by (read 1) (by_uncited_law 1) false refl

-- ---- bounds that add up to what can't be
abbrev first_value : ValueTerm
first_value = get 0 no_terms left_store

abbrev second_value : ValueTerm
second_value = get 0 no_terms right_store

abbrev less_and_back : Obligation
less_and_back =
    record {
      params = kind.Name ∷ [];
      conditions = [];
      known = [];
      path = yes (AtMost first_value second_value (negsuc 0)) ∷ yes (AtMost second_value first_value (pos 0)) ∷ [];
      goal = record { when = []; gives = None };
    }

abbrev by_sum : ℤ → List Step
by_sum c =
    step (yes (AtMost first_value second_value (negsuc 0))) Given
    ∷ step (yes (AtMost second_value first_value (pos 0))) Given
    ∷ step (yes (AtMost first_value first_value c)) (Sum (Of 0 ∷ Of 1 ∷ []))
    ∷ []

adds_up_to_less : refutes less_and_back (leaf (by_sum (negsuc 0))) ≡ true
unfolding atom_same signed_same bound_of row_bound adds_up summed step_holds is_absurd leaf_closes store_cmp value_cmp terms_cmp
adds_up_to_less = refutes_by less_and_back (by_sum (negsuc 0)) true refl

-- they add up to no less than -1, and 0 is no contradiction
too_little : refutes less_and_back (leaf (by_sum (negsuc 1))) ≡ false
unfolding atom_same signed_same bound_of row_bound adds_up summed step_holds is_absurd leaf_closes store_cmp value_cmp terms_cmp
too_little = refutes_by less_and_back (by_sum (negsuc 1)) false refl

not_absurd : refutes less_and_back (leaf (by_sum (pos 0))) ≡ false
unfolding atom_same signed_same bound_of row_bound adds_up summed step_holds is_absurd leaf_closes store_cmp value_cmp terms_cmp
not_absurd = refutes_by less_and_back (by_sum (pos 0)) false refl
