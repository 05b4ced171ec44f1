-- The outcomes of a test at a store term: the ways in which it comes out true, or false, each a list of literals.
-- Of all outcomes of a test, true or false, the literals of exactly one are true in a store.
use Rattle.std.specs.Prelude.{Bool, true, false, not, List, [], ◌∷◌, ◌++◌, map, flat_map, pos, negsuc}
use Rattle.toy_imp.specs.Test.{Test, less, less_eq, equal, not_of, and_of, or_of, par_test}
use Rattle.rule_terms.specs.Term.{StoreTerm}
use Rattle.rule_terms.specs.ValueAt.{value_at}
use Rattle.rule_terms.specs.declared.obligation.Atom.{Atom}
use Rattle.rule_terms.specs.declared.obligation.Atom.TheVariants.{SameValue, AtMost, Holds}
use Rattle.rule_terms.specs.declared.obligation.Literal.{Literal}

-- the one outcome of a test that an atom decides
abbrev pub decided : Bool → Atom → List (List Literal)
decided way a = (record { sign = way; atom = a } ∷ []) ∷ []

-- each outcome of a first test with each of a second one
abbrev pub both : List (List Literal) → List (List Literal) → List (List Literal)
both firsts seconds = flat_map (λ first. map (λ second. first ++ second) seconds) firsts

-- the outcomes in which the test is true, or false
unfoldable pub outcomes : Test → Bool → StoreTerm → List (List Literal)
outcomes (less a b) way s = decided way (AtMost (value_at a s) (value_at b s) (negsuc 0))
outcomes (less_eq a b) way s = decided way (AtMost (value_at a s) (value_at b s) (pos 0))
outcomes (equal a b) way s = decided way (SameValue (value_at a s) (value_at b s))
outcomes (not_of t) way s = outcomes t (not way) s
outcomes (and_of t u) true s = both (outcomes t true s) (outcomes u true s)
outcomes (and_of t u) false s = outcomes t false s ++ both (outcomes t true s) (outcomes u false s)
outcomes (or_of t u) true s = outcomes t true s ++ both (outcomes t false s) (outcomes u true s)
outcomes (or_of t u) false s = both (outcomes t false s) (outcomes u false s)
outcomes (par_test k) way s = decided way (Holds k s)
