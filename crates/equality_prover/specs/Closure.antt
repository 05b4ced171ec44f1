-- When class numbers are the classes of the least congruence.
use Rattle.std.specs.Prelude.{◌≡◌, ◌↔◌, ℕ, ◌<◌, List, ◌++◌, length}
use Rattle.toy_imp.specs.declared.param.Kind.{Kind}
use Rattle.rule_terms.specs.declared.obligation.Literal.{Literal}
use Rattle.law_clauses.specs.Signed.{Signed, all_signed}
use Rattle.law_clauses.specs.Arguments.{Argument}
use Rattle.term_universe.specs.declared.term_universe.TermUniverse.{TermUniverse}
use Rattle.equality_prover.specs.declared.answer.Classes.{Classes}
use Rattle.equality_prover.specs.Terms.{names_from, all_terms}
use Rattle.equality_prover.specs.Congruence.{AreEqual}
use Rattle.equality_prover.specs.Growth.{term_at, class_at}

-- one number for each term, and the same one exactly where two terms are equal in each congruence in which the given equalities hold
pub record AreClasses (terms : List Argument) (given : List Signed) (classes : List ℕ) : Type 0 where
  pub count : length classes ≡ length terms
  pub exact : (i j : ℕ) → i < length terms → j < length terms → (class_at classes i ≡ class_at classes j) ↔ AreEqual terms given (term_at terms i) (term_at terms j)

-- the numbers, name by name, store term by store term and value term by value term
abbrev pub all_numbers : Classes → List ℕ
all_numbers c = c.names ++ (c.stores ++ c.values)

-- one number for each name parameter, each store term and each value term, and together the classes
pub record IsClosure (params : List Kind) (u : TermUniverse) (literals : List Literal) (c : Classes) : Type 0 where
  pub names : length c.names ≡ length (names_from 0 params)
  pub stores : length c.stores ≡ length u.stores
  pub values : length c.values ≡ length u.values
  pub classes : AreClasses (all_terms params u.stores u.values) (all_signed literals) (all_numbers c)

-- the numbers in three parts, of which the first two have these lengths
pub record IsSplit (classes : List ℕ) (first second : ℕ) (c : Classes) : Type 0 where
  pub whole : all_numbers c ≡ classes
  pub names : length c.names ≡ first
  pub stores : length c.stores ≡ second
