-- What law 5 asks of the terms that have marks: two stores that are equal without their writes, and that are read alike at each place
-- written, are equal.
use Rattle.std.specs.Prelude.{◌≡◌, Bool, true, List}
use Rattle.std.specs.List.{list_all}
use Rattle.toy_imp.specs.declared.param.Kind.{Kind}
use Rattle.rule_terms.specs.Term.{StoreTerm}
use Rattle.rule_terms.specs.declared.obligation.Obligation.{Obligation}
use Rattle.law_clauses.specs.ClauseForms.{written_alike}
use Rattle.escape_marks.specs.declared.escape.StoreMark.{StoreMark}
use Rattle.escape_marks.specs.declared.escape.Escape.{Escape}
use Rattle.escape_marks.specs.LawsHold.{LawsHold}
use Rattle.escape_laws.specs.MarkedLaws.{keeps}
use Rattle.escape_laws.specs.KeptLaws.{HoldsIn}

module _ (params : List Kind) (e : Escape) where
  unfoldable pub written_kept : StoreTerm → StoreMark → Bool
  written_kept a n = keeps params e (written_alike a n.store)

  -- 5, of a store and each other one
  unfoldable pub written_as_all : StoreMark → Bool
  written_as_all m = list_all (written_kept m.store) e.stores

-- where the marks pass, each clause of law 5 holds, and the other way round
abbrev pub WrittenLawHolds : Type 0
WrittenLawHolds = (ob : Obligation) (e : Escape) → list_all (written_as_all ob.params e) e.stores ≡ true → (a c : StoreTerm) → HoldsIn ob e (written_alike a c)

abbrev pub WrittenLawPasses : Type 0
WrittenLawPasses = (ob : Obligation) (e : Escape) → LawsHold ob e → list_all (written_as_all ob.params e) e.stores ≡ true
