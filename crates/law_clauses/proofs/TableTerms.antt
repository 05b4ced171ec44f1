-- The notation of the tables of laws and steps: small terms, obligations of which the parameters and conditions alone matter, and rows.
-- A row has a list of literals that is a clause of a law, and one with a single slip that is none, or one list under two obligations.
use Rattle.std.specs.Prelude.{◌≡◌, ℕ, pos, true, false, List, [], None}
use Rattle.toy_imp.specs.declared.condition.Condition.{Condition}
use Rattle.toy_imp.specs.declared.param.Kind.{Kind}
use Rattle.rule_terms.specs.Term.{StoreTerm, put, ValueTerm, num, get, no_terms, term}
use Rattle.rule_terms.specs.declared.obligation.Conjunct.{Conjunct}
use Rattle.rule_terms.specs.declared.obligation.Obligation.{Obligation}
use Rattle.law_clauses.specs.Signed.{Signed}
use Rattle.law_clauses.specs.Laws.{is_clause}

-- ---- terms
abbrev pub zero_value : ValueTerm
zero_value = num (pos 0)

abbrev pub one_value : ValueTerm
one_value = num (pos 1)

abbrev pub five : ValueTerm
five = num (pos 5)

abbrev pub six : ValueTerm
six = num (pos 6)

-- a variable, and a cell with one index
abbrev pub variable : ℕ → StoreTerm → ValueTerm
variable x s = get x no_terms s

abbrev pub item : ℕ → ValueTerm → StoreTerm → ValueTerm
item x i s = get x (term i no_terms) s

abbrev pub set : ℕ → ValueTerm → StoreTerm → StoreTerm
set x v s = put s x no_terms v

abbrev pub set_item : ℕ → ValueTerm → ValueTerm → StoreTerm → StoreTerm
set_item x i v s = put s x (term i no_terms) v

-- ---- obligations
abbrev pub no_goal : Conjunct
no_goal = record { when = []; gives = None }

abbrev pub under : List Kind → List Condition → Obligation
under params conditions = record { params = params; conditions = conditions; known = []; path = []; goal = no_goal }

abbrev pub plain : Obligation
plain = under [] []

-- ---- rows
abbrev pub Row : Obligation → ℕ → List Signed → List Signed → Type 0
Row ob k right wrong = (is_clause ob k right ≡ true) × (is_clause ob k wrong ≡ false)

-- .. and a list that is a clause where the parameters are of the kinds that the law names, and none where one is of another
abbrev pub KindRow : ℕ → List Signed → Obligation → Obligation → Type 0
KindRow k clause right wrong = (is_clause right k clause ≡ true) × (is_clause wrong k clause ≡ false)
