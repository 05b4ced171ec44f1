-- What law 1 asks of the terms that have marks: a read behind a write to its cell is what was written.
use Rattle.std.specs.Prelude.{◌≡◌, Bool, true, not, ◌==◌, ◌||◌, List}
use Rattle.std.specs.List.{list_all}
use Rattle.toy_imp.specs.declared.param.Kind.{Kind}
use Rattle.rule_terms.specs.Term.{StoreTerm, put, ValueTerm, get, Place}
use Rattle.rule_terms.specs.declared.obligation.Obligation.{Obligation}
use Rattle.term_meaning.specs.Indices.{count}
use Rattle.law_clauses.specs.Shapes.{place}
use Rattle.law_clauses.specs.ClauseForms.{read_back}
use Rattle.escape_marks.specs.declared.escape.ValueMark.{ValueMark}
use Rattle.escape_marks.specs.declared.escape.Escape.{Escape}
use Rattle.escape_marks.specs.LawsHold.{LawsHold}
use Rattle.escape_laws.specs.MarkedLaws.{keeps}
use Rattle.escape_laws.specs.KeptLaws.{HoldsIn}

module _ (params : List Kind) (e : Escape) where
  -- 1, at a read of as many indices
  unfoldable pub back_kept : ValueTerm → Bool
  back_kept (get y js (put s x is v)) = not (count js == count is) || keeps params e (read_back s (place x is) v (place y js))
  back_kept _ = true

-- where the marks pass, each clause of law 1 holds, and the other way round
abbrev pub BackLawHolds : Type 0
BackLawHolds = (ob : Obligation) (e : Escape) → list_all (λ (m : ValueMark). back_kept ob.params e m.value) e.values ≡ true → (s : StoreTerm) (p : Place) (v : ValueTerm) (q : Place) → (count q.indices == count p.indices) ≡ true → HoldsIn ob e (read_back s p v q)

abbrev pub BackLawPasses : Type 0
BackLawPasses = (ob : Obligation) (e : Escape) → LawsHold ob e → list_all (λ (m : ValueMark). back_kept ob.params e m.value) e.values ≡ true
