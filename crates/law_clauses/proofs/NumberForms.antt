-- Each clause of the laws of sums, products and differences, 22 to 24, has a form: what its letters stand for is read off it.
use Rattle.std.specs.Prelude.{◌≡◌, pos, true, ◌&&◌, ◌||◌, List, [], ◌∷◌, refl}
use Rattle.std.proofs.Common.{sym, inl, inr, true≢false}
use Rattle.std.proofs.lemmas.Bool.{and_parts}
use Rattle.rule_terms.specs.Term.{ValueTerm, num, add, sub, mul}
use Rattle.rule_terms.specs.Order.{value_same}
use Rattle.rule_terms.specs.declared.obligation.Atom.TheVariants.{SameValue}
use Rattle.rule_terms.specs.declared.obligation.Obligation.{Obligation}
use Rattle.law_clauses.specs.Signed.{Signed, plus, minus}
use Rattle.law_clauses.specs.Shapes.{is_num}
use Rattle.law_clauses.specs.NumberLaws.{law_22, law_23, law_24}
use Rattle.law_clauses.specs.ClauseForms as form
use Rattle.law_clauses.specs.ClauseForms.{HasForm}
use Rattle.law_clauses.proofs.Same.{or_cases, value_is, num_is, add_is, mul_is}

module _ (ob : Obligation) where
  pub form_22 : (xs : List Signed) → law_22 xs ≡ true → HasForm ob 22 xs
  unfolding law_22
  form_22 (minus (SameValue a d) ∷ minus (SameValue b c) ∷ plus (SameValue (add p q) w) ∷ []) e =
      let m = and_parts (value_same p a) _ e in
      let n = and_parts (value_same q b) _ m.1 in
      record {
        clause = form.sum_exchanged a b c d;
        law = refl;
        same = λ j. minus (SameValue a d) ∷ minus (SameValue b c) ∷ plus (SameValue (add (value_is p a m.0 j) (value_is q b n.0 j)) (add_is w c d n.1 j)) ∷ [];
        allowed = refl;
      }
  form_22 (minus (SameValue a d) ∷ minus (SameValue b c) ∷ plus (SameValue (mul p q) w) ∷ []) e =
      let m = and_parts (value_same p a) _ e in
      let n = and_parts (value_same q b) _ m.1 in
      record {
        clause = form.product_exchanged a b c d;
        law = refl;
        same = λ j. minus (SameValue a d) ∷ minus (SameValue b c) ∷ plus (SameValue (mul (value_is p a m.0 j) (value_is q b n.0 j)) (mul_is w c d n.1 j)) ∷ [];
        allowed = refl;
      }
  form_22 _ e = absurd (true≢false (sym e))

  -- u = z, and a sum or product that is w
  abbrev UnitLiterals : ValueTerm → ValueTerm → ValueTerm → ValueTerm → List Signed
  UnitLiterals u z x w = minus (SameValue u z) ∷ plus (SameValue x w) ∷ []

  unit_literals : (u z x w a k y : ValueTerm) → u ≡ a → z ≡ k → w ≡ y → UnitLiterals u z x w ≡ UnitLiterals a k x y
  unit_literals u z x w a k y e f g = λ j. minus (SameValue (e j) (f j)) ∷ plus (SameValue x (g j)) ∷ []

  form_23_sum : (u z a b w : ValueTerm) → (is_num z (pos 0) && ((value_same u b && value_same w a) || (value_same u a && value_same w b))) ≡ true → HasForm ob 23 (UnitLiterals u z (add a b) w)
  form_23_sum u z a b w e =
      let m = and_parts (is_num z (pos 0)) _ e in
      let zero = num_is z (pos 0) m.0 in
      elim (or_cases (value_same u b && value_same w a) (value_same u a && value_same w b) m.1) as (λ _. HasForm ob 23 (UnitLiterals u z (add a b) w)) [
        | inl f ↦ let p = and_parts (value_same u b) _ f in record {
          clause = form.plus_zero a b;
          law = refl;
          same = unit_literals u z (add a b) w b (num (pos 0)) a (value_is u b p.0) zero (value_is w a p.1);
          allowed = refl;
        }
        | inr f ↦ let p = and_parts (value_same u a) _ f in record {
          clause = form.zero_plus a b;
          law = refl;
          same = unit_literals u z (add a b) w a (num (pos 0)) b (value_is u a p.0) zero (value_is w b p.1);
          allowed = refl;
        }
      ]

  form_23_zero : (u z a b w : ValueTerm) → (is_num z (pos 0) && ((value_same u a || value_same u b) && is_num w (pos 0))) ≡ true → HasForm ob 23 (UnitLiterals u z (mul a b) w)
  form_23_zero u z a b w e =
      let m = and_parts (is_num z (pos 0)) _ e in
      let zero = num_is z (pos 0) m.0 in
      let n = and_parts (value_same u a || value_same u b) _ m.1 in
      let zero_too = num_is w (pos 0) n.1 in
      elim (or_cases (value_same u a) (value_same u b) n.0) as (λ _. HasForm ob 23 (UnitLiterals u z (mul a b) w)) [
        | inl f ↦ record {
          clause = form.zero_times a b;
          law = refl;
          same = unit_literals u z (mul a b) w a (num (pos 0)) (num (pos 0)) (value_is u a f) zero zero_too;
          allowed = refl;
        }
        | inr f ↦ record {
          clause = form.times_zero a b;
          law = refl;
          same = unit_literals u z (mul a b) w b (num (pos 0)) (num (pos 0)) (value_is u b f) zero zero_too;
          allowed = refl;
        }
      ]

  form_23_one : (u z a b w : ValueTerm) → (is_num z (pos 1) && ((value_same u a && value_same w b) || (value_same u b && value_same w a))) ≡ true → HasForm ob 23 (UnitLiterals u z (mul a b) w)
  form_23_one u z a b w e =
      let m = and_parts (is_num z (pos 1)) _ e in
      let one = num_is z (pos 1) m.0 in
      elim (or_cases (value_same u a && value_same w b) (value_same u b && value_same w a) m.1) as (λ _. HasForm ob 23 (UnitLiterals u z (mul a b) w)) [
        | inl f ↦ let p = and_parts (value_same u a) _ f in record {
          clause = form.one_times a b;
          law = refl;
          same = unit_literals u z (mul a b) w a (num (pos 1)) b (value_is u a p.0) one (value_is w b p.1);
          allowed = refl;
        }
        | inr f ↦ let p = and_parts (value_same u b) _ f in record {
          clause = form.times_one a b;
          law = refl;
          same = unit_literals u z (mul a b) w b (num (pos 1)) a (value_is u b p.0) one (value_is w a p.1);
          allowed = refl;
        }
      ]

  pub form_23 : (xs : List Signed) → law_23 xs ≡ true → HasForm ob 23 xs
  unfolding law_23
  form_23 (minus (SameValue u z) ∷ plus (SameValue (add a b) w) ∷ []) e = form_23_sum u z a b w e
  form_23 (minus (SameValue u z) ∷ plus (SameValue (mul a b) w) ∷ []) e =
      elim (or_cases (is_num z (pos 0) && ((value_same u a || value_same u b) && is_num w (pos 0))) (is_num z (pos 1) && ((value_same u a && value_same w b) || (value_same u b && value_same w a))) e) as (λ _. HasForm ob 23 (UnitLiterals u z (mul a b) w)) [
        | inl f ↦ form_23_zero u z a b w f
        | inr f ↦ form_23_one u z a b w f
      ]
  form_23 _ e = absurd (true≢false (sym e))

  pub form_24 : (xs : List Signed) → law_24 xs ≡ true → HasForm ob 24 xs
  unfolding law_24
  form_24 (minus (SameValue a b) ∷ plus (SameValue (sub c d) w) ∷ []) e =
      let m = and_parts (value_same c a) _ e in
      let n = and_parts (value_same d b) _ m.1 in
      record {
        clause = form.less_itself a b;
        law = refl;
        same = λ j. minus (SameValue a b) ∷ plus (SameValue (sub (value_is c a m.0 j) (value_is d b n.0 j)) (num_is w (pos 0) n.1 j)) ∷ [];
        allowed = refl;
      }
  form_24 _ e = absurd (true≢false (sym e))
