-- What value terms mean one after another, and where all of them are narrow.
use Rattle.std.specs.Prelude.{◌≡◌, ℕ, zero, suc, ℤ, ◌+◌, ◌<◌, List, [], ◌∷◌, ◌++◌, take, length, get_or, refl}
use Rattle.std.proofs.Common.{sym, ◌∙◌, ap, ap₂, subst, arith, add-one}
use Rattle.rule_terms.specs.Term.{ValueTerm}
use Rattle.rule_terms.specs.TermView.{terms_of}
use Rattle.term_meaning.specs.Meaning.{values_of}
use Rattle.term_run.specs.declared.meant.Setting.{Setting}
use Rattle.term_run.specs.Narrow.{NarrowValues}
use Rattle.term_run.specs.Meant.{value_of_term, values_of_terms, IsNarrowValue, AreNarrow}

module _ (w : Setting) where
  values_suc : (vs : List ValueTerm) (n : ℕ) (d : ValueTerm) → n < length vs → values_of_terms w (terms_of (take (suc n) vs)) ≡ values_of_terms w (terms_of (take n vs)) ++ value_of_term w (get_or vs n d) ∷ []
  unfolding values_of
  values_suc [] n d h = absurd (omega arith)
  values_suc (v ∷ vs) zero d h = refl
  values_suc (v ∷ vs) (suc n) d h = ap (λ l. value_of_term w v ∷ l) (values_suc vs n d (omega arith))

  narrow_suc : (vs : List ValueTerm) (n : ℕ) (d : ValueTerm) → n < length vs → AreNarrow w (terms_of (take n vs)) → IsNarrowValue w (get_or vs n d) → AreNarrow w (terms_of (take (suc n) vs))
  unfolding NarrowValues
  narrow_suc [] n d h all here = absurd (omega arith)
  narrow_suc (v ∷ vs) zero d h all here = (here, tt)
  narrow_suc (v ∷ vs) (suc n) d h all here = (all.0, narrow_suc vs n d (omega arith) all.1 here)

  pub narrow_at : (vs : List ValueTerm) (n : ℕ) (d : ValueTerm) → n < length vs → AreNarrow w (terms_of vs) → IsNarrowValue w (get_or vs n d)
  unfolding NarrowValues
  narrow_at [] n d h all = absurd (omega arith)
  narrow_at (v ∷ vs) zero d h all = all.0
  narrow_at (v ∷ vs) (suc n) d h all = narrow_at vs n d (omega arith) all.1

  pub values_none : values_of_terms w (terms_of []) ≡ []
  unfolding values_of
  values_none = refl

  pub narrow_none : AreNarrow w (terms_of [])
  unfolding NarrowValues
  narrow_none = tt

  -- one value term more, with its value
  pub meant_more : (vs : List ValueTerm) (n : ℕ) (v : ValueTerm) (z : ℤ) (all new : List ℤ) → n < length vs → v ≡ get_or vs n v
      → (all ≡ values_of_terms w (terms_of (take n vs))) × AreNarrow w (terms_of (take n vs)) → IsNarrowValue w v × (z ≡ value_of_term w v) → new ≡ all ++ z ∷ []
      → (new ≡ values_of_terms w (terms_of (take (n + 1) vs))) × AreNarrow w (terms_of (take (n + 1) vs))
  meant_more vs n v z all new h is before here pushed =
      let values : new ≡ values_of_terms w (terms_of (take (suc n) vs)) = pushed ∙ ap₂ (λ l y. l ++ y ∷ []) before.0 (here.1 ∙ ap (value_of_term w) is) ∙ sym (values_suc vs n v h) in
      let narrow : AreNarrow w (terms_of (take (suc n) vs)) = narrow_suc vs n v h before.1 (subst (IsNarrowValue w) is here.0) in
      subst (λ m. (new ≡ values_of_terms w (terms_of (take m vs))) × AreNarrow w (terms_of (take m vs))) (sym (add-one n)) (values, narrow)
