-- The clauses of the laws of sums, products and differences, 22 to 24, are true: where all their literals fail, whatever is being
-- shown is so.
use Rattle.std.specs.Prelude.{ℤ, pos, ◌≡◌, true, ◌&&◌, ◌||◌, List, [], ◌∷◌}
use Rattle.std.proofs.Common.{sym, ◌∙◌, ap, inl, inr, true≢false}
use Rattle.std.proofs.lemmas.Bool.{and_parts}
use Rattle.toy_imp.specs.declared.instance.Instance.{Instance}
use Rattle.toy_imp.specs.Store.{Store}
use Rattle.rule_terms.specs.Term.{ValueTerm, num, add, sub, mul}
use Rattle.rule_terms.specs.Order.{value_same}
use Rattle.rule_terms.specs.declared.obligation.Atom.TheVariants.{SameValue}
use Rattle.term_meaning.specs.Table.{Entry}
use Rattle.term_meaning.specs.Meaning.{value_of}
use Rattle.term_meaning.proofs.Arithmetic.{sums_alike, products_alike, sum_with_zero, zero_in_sum, zero_times, times_zero, one_times_is, times_one, difference_of_equals}
use Rattle.law_clauses.specs.Signed.{Signed, plus, minus}
use Rattle.law_clauses.specs.Shapes.{is_num}
use Rattle.law_clauses.specs.NumberLaws.{law_22, law_23, law_24}
use Rattle.law_clauses.proofs.Same.{or_cases, value_is, num_is, add_is, mul_is}
use Rattle.law_clauses.proofs.Each.{Each}
use Rattle.law_clauses.proofs.Meant.{Fails, values_met, values_concluded}

module _ (A : Type 0) (i : Instance) (T : List Entry) (l r : Store) where
  abbrev V : ValueTerm → ValueTerm → Type 0
  V a b = value_of i T l r a ≡ value_of i T l r b

  abbrev Failing : List Signed → Type 0
  Failing clause = Each (Fails i T l r) clause

  -- identical terms have one value
  one_value : (a b : ValueTerm) → value_same a b ≡ true → V a b
  one_value a b e = ap (value_of i T l r) (value_is a b e)

  -- the value is that of the term
  concluded : (a b w : ValueTerm) → V a b → w ≡ b → Fails i T l r (plus (SameValue a w)) → A
  concluded a b w same e fails = values_concluded i T l r A a w (same ∙ sym (ap (value_of i T l r) e)) fails

  pub law_22_true : (clause : List Signed) → law_22 clause ≡ true → Failing clause → A
  unfolding law_22
  law_22_true (minus (SameValue a d) ∷ minus (SameValue b c) ∷ plus (SameValue (add p q) w) ∷ []) e none =
      let f = and_parts (value_same p a) _ e in
      let g = and_parts (value_same q b) _ f.1 in
      let first : V p d = one_value p a f.0 ∙ values_met i T l r a d none.0 in
      let second : V q c = one_value q b g.0 ∙ values_met i T l r b c none.1.0 in
      concluded (add p q) (add c d) w (sums_alike i T l r p q c d first second) (add_is w c d g.1) none.1.1.0
  law_22_true (minus (SameValue a d) ∷ minus (SameValue b c) ∷ plus (SameValue (mul p q) w) ∷ []) e none =
      let f = and_parts (value_same p a) _ e in
      let g = and_parts (value_same q b) _ f.1 in
      let first : V p d = one_value p a f.0 ∙ values_met i T l r a d none.0 in
      let second : V q c = one_value q b g.0 ∙ values_met i T l r b c none.1.0 in
      concluded (mul p q) (mul c d) w (products_alike i T l r p q c d first second) (mul_is w c d g.1) none.1.1.0
  law_22_true _ e none = absurd (true≢false (sym e))

  -- an operand u of a sum or product is equal to z
  module _ (u z a b w : ValueTerm) (met : V u z) where
    -- .. where the operand and the number are these
    is_number : (n : ℤ) (x : ValueTerm) → is_num z n ≡ true → value_same u x ≡ true → V x (num n)
    is_number n x e f = sym (one_value u x f) ∙ met ∙ ap (value_of i T l r) (num_is z n e)

    sum_concluded : is_num z (pos 0) ≡ true → ((value_same u b && value_same w a) || (value_same u a && value_same w b)) ≡ true → Fails i T l r (plus (SameValue (add a b) w)) → A
    sum_concluded none e fails =
        elim (or_cases (value_same u b && value_same w a) (value_same u a && value_same w b) e) as (λ _. A) [
          | inl f ↦ let p = and_parts (value_same u b) _ f in concluded (add a b) a w (sum_with_zero i T l r a b (is_number (pos 0) b none p.0)) (value_is w a p.1) fails
          | inr f ↦ let p = and_parts (value_same u a) _ f in concluded (add a b) b w (zero_in_sum i T l r a b (is_number (pos 0) a none p.0)) (value_is w b p.1) fails
        ]

    no_product : is_num z (pos 0) ≡ true → (value_same u a || value_same u b) ≡ true → is_num w (pos 0) ≡ true → Fails i T l r (plus (SameValue (mul a b) w)) → A
    no_product none e is_zero fails =
        elim (or_cases (value_same u a) (value_same u b) e) as (λ _. A) [
          | inl f ↦ concluded (mul a b) (num (pos 0)) w (zero_times i T l r a b (is_number (pos 0) a none f)) (num_is w (pos 0) is_zero) fails
          | inr f ↦ concluded (mul a b) (num (pos 0)) w (times_zero i T l r a b (is_number (pos 0) b none f)) (num_is w (pos 0) is_zero) fails
        ]

    one_factor : is_num z (pos 1) ≡ true → ((value_same u a && value_same w b) || (value_same u b && value_same w a)) ≡ true → Fails i T l r (plus (SameValue (mul a b) w)) → A
    one_factor one e fails =
        elim (or_cases (value_same u a && value_same w b) (value_same u b && value_same w a) e) as (λ _. A) [
          | inl f ↦ let p = and_parts (value_same u a) _ f in concluded (mul a b) b w (one_times_is i T l r a b (is_number (pos 1) a one p.0)) (value_is w b p.1) fails
          | inr f ↦ let p = and_parts (value_same u b) _ f in concluded (mul a b) a w (times_one i T l r a b (is_number (pos 1) b one p.0)) (value_is w a p.1) fails
        ]

  pub law_23_true : (clause : List Signed) → law_23 clause ≡ true → Failing clause → A
  unfolding law_23
  law_23_true (minus (SameValue u z) ∷ plus (SameValue (add a b) w) ∷ []) e none =
      let p = and_parts (is_num z (pos 0)) _ e in
      sum_concluded u z a b w (values_met i T l r u z none.0) p.0 p.1 none.1.0
  law_23_true (minus (SameValue u z) ∷ plus (SameValue (mul a b) w) ∷ []) e none =
      let met = values_met i T l r u z none.0 in
      elim (or_cases (is_num z (pos 0) && ((value_same u a || value_same u b) && is_num w (pos 0))) (is_num z (pos 1) && ((value_same u a && value_same w b) || (value_same u b && value_same w a))) e) as (λ _. A) [
        | inl f ↦
            let p = and_parts (is_num z (pos 0)) _ f in
            let q = and_parts (value_same u a || value_same u b) _ p.1 in
            no_product u z a b w met p.0 q.0 q.1 none.1.0
        | inr f ↦
            let p = and_parts (is_num z (pos 1)) _ f in
            one_factor u z a b w met p.0 p.1 none.1.0
      ]
  law_23_true _ e none = absurd (true≢false (sym e))

  pub law_24_true : (clause : List Signed) → law_24 clause ≡ true → Failing clause → A
  unfolding law_24
  law_24_true (minus (SameValue a b) ∷ plus (SameValue (sub c d) w) ∷ []) e none =
      let p = and_parts (value_same c a) _ e in
      let q = and_parts (value_same d b) _ p.1 in
      let same : V c d = one_value c a p.0 ∙ values_met i T l r a b none.0 ∙ sym (one_value d b q.0) in
      concluded (sub c d) (num (pos 0)) w (difference_of_equals i T l r c d same) (num_is w (pos 0) q.1) none.1.0
  law_24_true _ e none = absurd (true≢false (sym e))
