-- What law 3 asks of the terms that have marks: a read behind a write with another index is the read before the write.
use Rattle.std.specs.Prelude.{◌≡◌, Bool, true, not, ◌==◌, ◌&&◌, ◌||◌, List}
use Rattle.std.specs.List.{list_all}
use Rattle.toy_imp.specs.declared.param.Kind.{Kind}
use Rattle.rule_terms.specs.Term.{StoreTerm, put, ValueTerm, get, ValueTerms, no_terms, term, Place}
use Rattle.rule_terms.specs.declared.obligation.Atom.TheVariants.{SameValue}
use Rattle.rule_terms.specs.declared.obligation.Obligation.{Obligation}
use Rattle.term_meaning.specs.Indices.{count}
use Rattle.law_clauses.specs.Signed.{plus}
use Rattle.law_clauses.specs.Shapes.{place}
use Rattle.law_clauses.specs.ClauseForms.{past_index, is_allowed}
use Rattle.escape_marks.specs.declared.escape.ValueMark.{ValueMark}
use Rattle.escape_marks.specs.declared.escape.Escape.{Escape}
use Rattle.escape_marks.specs.LawsHold.{is_kept, LawsHold}
use Rattle.escape_laws.specs.MarkedLaws.{keeps}
use Rattle.escape_laws.specs.KeptLaws.{HoldsIn}

-- each index beside the other place's
unfoldable pub each_pair : (ValueTerm → ValueTerm → Bool) → ValueTerms → ValueTerms → Bool
each_pair passes (term a more) (term b bs) = passes a b && each_pair passes more bs
each_pair passes _ _ = true

module _ (params : List Kind) (e : Escape) where
  -- 3, at a read of as many indices
  unfoldable pub index_kept : ValueTerm → Bool
  index_kept (get y js (put s x is v)) = not (count js == count is) || each_pair (λ a b. keeps params e (past_index s (place x is) v (place y js) a b)) js is
  index_kept _ = true

  -- no meaning: the two are equal, or the rest holds, as the code asks it
  abbrev pub equal_or : Bool → ValueTerm → ValueTerm → Bool
  equal_or rest a b = is_kept params e (plus (SameValue a b)) || rest

-- where the marks pass, each clause of law 3 holds, and the other way round
abbrev pub IndexLawHolds : Type 0
IndexLawHolds = (ob : Obligation) (e : Escape) → list_all (λ (m : ValueMark). index_kept ob.params e m.value) e.values ≡ true → (s : StoreTerm) (p : Place) (v : ValueTerm) (q : Place) (a b : ValueTerm) → is_allowed ob (past_index s p v q a b) ≡ true → HoldsIn ob e (past_index s p v q a b)

abbrev pub IndexLawPasses : Type 0
IndexLawPasses = (ob : Obligation) (e : Escape) → LawsHold ob e → list_all (λ (m : ValueMark). index_kept ob.params e m.value) e.values ≡ true
