-- Worked examples: pairs of paths with a conjunct, what it says where they stop, its precondition, and their nodes, counted by hand.
use Rattle.std.specs.Prelude.{◌≡◌, pos, true, false, List, [], ◌∷◌, Some, None, refl}
use Rattle.rule_terms.specs.Term.{StoreTerm, left_store, right_store, put, run, ValueTerm, num, get, ev, add, no_terms, term}
use Rattle.rule_terms.specs.Counts.{store_nodes, atom_nodes, conjunct_nodes, obligation_nodes}
use Rattle.rule_terms.specs.Substitute.{store_at, atom_at}
use Rattle.rule_terms.specs.declared.obligation.Atom.{Atom}
use Rattle.rule_terms.specs.declared.obligation.Atom.TheVariants.{SameName, SameStore, SameValue, AtMost, Ends, Holds}
use Rattle.rule_terms.specs.declared.obligation.Literal.{Literal}
use Rattle.rule_terms.specs.declared.obligation.Conjunct.{Conjunct}
use Rattle.rule_terms.specs.declared.obligation.Obligation.{Obligation}
use Rattle.rule_terms.specs.declared.path.Path.{Path}
use Rattle.rule_terms.specs.declared.path.Stop.TheVariants.{At, Halted}
use Rattle.parallel_wp.specs.Precondition.{both_literals, goal_at, precondition}

abbrev yes : Atom → Literal
yes a = record { sign = true; atom = a }

abbrev no : Atom → Literal
no a = record { sign = false; atom = a }

abbrev where_true : List Literal → Literal → Conjunct
where_true when x = record { when = when; gives = Some x }

abbrev never : List Literal → Conjunct
never when = record { when = when; gives = None }

abbrev path : List Literal → StoreTerm → Path
path ls s = record { literals = ls; store = s; stop = At 1 }

abbrev equal : StoreTerm → StoreTerm → Conjunct
equal s u = where_true [] (yes (SameStore s u))

-- the variable with the name parameter 0, in a store
abbrev x_in : StoreTerm → ValueTerm
x_in s = get 0 no_terms s

-- walks of no step, the right one from the right side or both turned round
no_steps : precondition (path [] left_store) (path [] right_store) (equal left_store right_store) ≡ equal left_store right_store
unfolding store_at atom_at
no_steps = refl

turned_round : precondition (path [] right_store) (path [] left_store) (equal left_store right_store) ≡ equal right_store left_store
unfolding store_at atom_at
turned_round = refl

-- a statement on each side that ends
abbrev ran : StoreTerm → StoreTerm
ran s = run 2 s

abbrev ran_left : Path
ran_left = path (yes (Ends (ran left_store)) ∷ []) (ran left_store)

abbrev ran_right : Path
ran_right = path (yes (Ends (ran right_store)) ∷ []) (ran right_store)

both_ran : precondition ran_left ran_right (equal left_store right_store)
    ≡ where_true (yes (Ends (ran left_store)) ∷ yes (Ends (ran right_store)) ∷ []) (yes (SameStore (ran left_store) (ran right_store)))
unfolding store_at atom_at
both_ran = refl

both_ran_goal : goal_at ran_left ran_right (equal left_store right_store) ≡ equal (ran left_store) (ran right_store)
unfolding store_at atom_at
both_ran_goal = refl

both_ran_nodes : conjunct_nodes (precondition ran_left ran_right (equal left_store right_store)) ≡ 11
unfolding store_at atom_at store_nodes atom_nodes
both_ran_nodes = refl

-- .. and with `L = R` known, of which the three nodes come to those eleven
abbrev question : Obligation
question = record {
  params = [];
  conditions = [];
  known = equal left_store right_store ∷ [];
  path = both_literals ran_left ran_right;
  goal = goal_at ran_left ran_right (equal left_store right_store);
}

question_nodes : obligation_nodes question ≡ 14
unfolding store_at atom_at store_nodes atom_nodes
question_nodes = refl

-- a write on the left side alone, where a test holds
abbrev wrote : StoreTerm
wrote = put left_store 0 no_terms (num (pos 1))

one_write : precondition (path [] wrote) (path [] right_store) (where_true (yes (Holds 5 left_store) ∷ []) (no (SameValue (x_in left_store) (x_in right_store))))
    ≡ where_true (yes (Holds 5 wrote) ∷ []) (no (SameValue (x_in wrote) (x_in right_store)))
unfolding store_at atom_at
one_write = refl

-- a store that stands in a goal twice
abbrev ran_behind : StoreTerm
ran_behind = run 2 (put left_store 0 no_terms (ev 4 left_store))

abbrev behind_test : Path
behind_test = path (no (Holds 5 left_store) ∷ []) ran_behind

abbrev at_most_seven : StoreTerm → Literal
at_most_seven s = yes (AtMost (add (x_in s) (x_in s)) (num (pos 7)) (pos 0))

twice : precondition behind_test (path [] right_store) (where_true [] (at_most_seven left_store)) ≡ where_true (no (Holds 5 left_store) ∷ []) (at_most_seven ran_behind)
unfolding store_at atom_at
twice = refl

twice_nodes : conjunct_nodes (precondition behind_test (path [] right_store) (where_true [] (at_most_seven left_store))) ≡ 17
unfolding store_at atom_at store_nodes atom_nodes
twice_nodes = refl

-- indices are read in the store that is replaced
abbrev indexed : StoreTerm
indexed = put right_store 0 (term (x_in right_store) no_terms) (num (pos 3))

sides_apart : precondition (path [] left_store) (path (yes (SameName 0 1) ∷ []) indexed) (where_true [] (yes (SameValue (ev 4 right_store) (ev 4 left_store))))
    ≡ where_true (yes (SameName 0 1) ∷ []) (yes (SameValue (ev 4 indexed) (ev 4 left_store)))
unfolding store_at atom_at
sides_apart = refl

-- what is never true where two paths halt: that no run goes along both
abbrev halting : List Literal → StoreTerm → Path
halting ls s = record { literals = ls; store = s; stop = Halted }

never_both : precondition (halting (no (Holds 5 left_store) ∷ []) left_store) (halting (yes (Holds 5 right_store) ∷ []) right_store) (never [])
    ≡ never (no (Holds 5 left_store) ∷ yes (Holds 5 right_store) ∷ [])
unfolding store_at atom_at
never_both = refl
