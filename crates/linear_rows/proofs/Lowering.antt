-- What a division by the greatest common divisor leaves: a fraction's value, in lowest terms, and what a line says.
use Rattle.std.proofs.Common.{◌≡◌, ℕ, ◌<◌, ◌≤◌, ◌*◌, ◌/◌, max, ℤ, pos, neg_ℤ, ◌+ℤ◌, ◌*ℤ◌, ◌<ℤ◌, List, [], ◌∷◌, Some, arith, sym, ap, ◌∙◌, subst, ⊎_elim}
use Rattle.std.specs.Prelude.{unsigned_abs, int_div, int_rem}
use Rattle.std.specs.Int.{IsGcd, ◌∣◌}
use Rattle.std.specs.List.{fold, AllByRecursion}
use Rattle.std.proofs.Math.Nat.{mul-dvd-mul_right, dvd_of_mul-dvd-mul_right, dvd-mul_right, mul-div_cancel'}
use Rattle.std.proofs.lemmas.Nat.Gcd.{dvd_trans, dvd_refl, le_of_dvd, mod-eq-zero_of_dvd, same_from_IsGcd, IsGcd-swap}
use Rattle.std.proofs.lemmas.Int.{ints, quot-rem, unsigned_abs-mul}
use Rattle.std.proofs.lemmas.Option.{cond_some}
use Rattle.std.proofs.lemmas.Bool.{cases_eq}
use Rattle.linear_rows.specs.declared.fraction.Fraction.{Fraction}
use Rattle.linear_rows.specs.Divisor.{divisor, common_divisor}
use Rattle.linear_rows.specs.Fractions.{reduced, lowest_terms}
use Rattle.linear_rows.specs.Stage.{cut_of, multiplier}
use Rattle.linear_rows.specs.Solution.{IsInLowestTerms}
use Rattle.linear_rows.proofs.Divisors.{divisor_is, divisor_positive, divisor_most}
use Rattle.linear_rows.proofs.Sizes.{positive_quotient}
use Rattle.linear_rows.proofs.Making.{rem_none}
use Rattle.linear_rows.proofs.Crosswise.{times_neg}
use Rattle.linear_rows.proofs.Products.{product_commutes, first_exchanged}
use Rattle.linear_rows.proofs.Each.{each_weaker}
use lib.IntN.{pos-*ℤ-pos}

-- a division by a divisor is exact
pub exact_quotient : (z : ℤ) (g : ℕ) → g ∣ unsigned_abs z → int_div z (pos g) *ℤ pos g ≡ z
exact_quotient z g divides =
    let none : int_rem z (pos g) ≡ pos 0 = rem_none z g (mod-eq-zero_of_dvd g divides) in
    let whole = quot-rem z (pos g) in
    omega (arith, ints)

-- the quotients by the greatest common divisor have no common divisor
quotients_coprime : (m n g a b : ℕ) → 0 < n → 0 < g → m * g ≡ a → n * g ≡ b → IsGcd a b g → divisor m n ≡ 1
quotients_coprime m n g a b positive g_positive a_is b_is is =
    let e = divisor m n in
    let both = divisor_is m n in
    let first : (e * g) ∣ a = subst (λ (x : ℕ). (e * g) ∣ x) a_is (mul-dvd-mul_right e both.0 g) in
    let second : (e * g) ∣ b = subst (λ (x : ℕ). (e * g) ∣ x) b_is (mul-dvd-mul_right e both.1 g) in
    let one : g ≡ 1 * g = omega arith in
    let whole : (e * g) ∣ (1 * g) = subst (λ (x : ℕ). (e * g) ∣ x) one (is.2 (e * g) first second) in
    let most : e ≤ 1 = le_of_dvd (omega arith) (dvd_of_mul-dvd-mul_right {k = g} e {n = 1} g_positive whole) in
    let least : 0 < e = divisor_positive m n positive in
    omega arith

-- the fraction that over by under is in lowest terms
pub record IsReduced (over under : ℤ) (f : Fraction) : Type 0 where
  pub divided : ℤ
  pub positive : pos 0 <ℤ divided
  pub over_is : f.over *ℤ divided ≡ over
  pub under_is : f.under *ℤ divided ≡ under
  pub lowest : IsInLowestTerms f

lowest_terms_tell : (over under : ℤ) → pos 0 <ℤ under → IsReduced over under (lowest_terms over under)
lowest_terms_tell over under positive =
    let g = divisor (unsigned_abs over) (unsigned_abs under) in
    let some : 0 < unsigned_abs under = omega (arith, ints) in
    let g_positive : 0 < g = divisor_positive (unsigned_abs over) (unsigned_abs under) some in
    let is = divisor_is (unsigned_abs over) (unsigned_abs under) in
    let over_is = exact_quotient over g is.0 in
    let under_is = exact_quotient under g is.1 in
    let under_positive : pos 0 <ℤ int_div under (pos g) = positive_quotient under g positive g_positive (divisor_most (unsigned_abs over) (unsigned_abs under) some) in
    record {
      divided = pos g;
      positive = omega (arith, ints);
      over_is = over_is;
      under_is = under_is;
      lowest = record {
        positive = under_positive;
        lowest = quotients_coprime (unsigned_abs (int_div over (pos g))) (unsigned_abs (int_div under (pos g))) g (unsigned_abs over) (unsigned_abs under)
            (omega (arith, ints)) g_positive
            (sym (unsigned_abs-mul (int_div over (pos g)) (pos g)) ∙ ap unsigned_abs over_is)
            (sym (unsigned_abs-mul (int_div under (pos g)) (pos g)) ∙ ap unsigned_abs under_is) is;
      };
    }

pub reduced_tells : (over under : ℤ) (f : Fraction) → pos 0 <ℤ under → reduced over under ≡ Some f → IsReduced over under f
unfolding reduced
reduced_tells over under f positive is = subst (IsReduced over under) (cond_some _ _ _ is).1 (lowest_terms_tell over under positive)

-- a line's common divisor divides each of its numbers
fold_divides : (g : ℕ) (line : List ℤ) →
    (fold (λ c z. divisor c (unsigned_abs z)) g line ∣ g) × AllByRecursion (λ z. fold (λ c y. divisor c (unsigned_abs y)) g line ∣ unsigned_abs z) line
fold_divides g [] = (dvd_refl g, tt)
fold_divides g (z ∷ line) =
    let rest = fold_divides (divisor g (unsigned_abs z)) line in
    let is = divisor_is g (unsigned_abs z) in
    (dvd_trans _ rest.0 is.0, (dvd_trans _ rest.0 is.1, rest.1))

one_divides : (n : ℕ) → 1 ∣ n
one_divides n = let e : 1 * n ≡ n = omega arith in subst (λ (m : ℕ). 1 ∣ m) e (dvd-mul_right 1 n)

greater_divides : (c n : ℕ) → c ∣ n → max 1 c ∣ n
greater_divides c n divides =
    ⊎_elim
    (λ none. let e : 1 ≡ max 1 c = omega arith in subst (λ (m : ℕ). m ∣ n) e (one_divides n))
    (λ some. let e : c ≡ max 1 c = omega arith in subst (λ (m : ℕ). m ∣ n) e divides)
    (cases_eq c 0)

pub cut_positive : (line : List ℤ) → 0 < cut_of line
cut_positive line = omega arith

pub cut_divides : (line : List ℤ) → AllByRecursion (λ z. cut_of line ∣ unsigned_abs z) line
cut_divides line =
    each_weaker (λ z. common_divisor line ∣ unsigned_abs z) (λ z. cut_of line ∣ unsigned_abs z)
    (λ z divides. greater_divides (common_divisor line) (unsigned_abs z) divides) line (fold_divides 0 line).1

-- so each number is its quotient times what the line is divided by
pub cut_exact : (line : List ℤ) → AllByRecursion (λ z. int_div z (pos (cut_of line)) *ℤ pos (cut_of line) ≡ z) line
cut_exact line =
    each_weaker (λ z. cut_of line ∣ unsigned_abs z) (λ z. int_div z (pos (cut_of line)) *ℤ pos (cut_of line) ≡ z)
    (λ z divides. exact_quotient z (cut_of line) divides) line (cut_divides line)

-- the multipliers of two lines cancel the variable, a in an upper bound and b in a lower one
parts_cancel : (g by times : ℕ) (a b : ℤ) → pos g *ℤ pos by ≡ a → pos g *ℤ pos times ≡ neg_ℤ b → (pos by *ℤ b) +ℤ (pos times *ℤ a) ≡ pos 0
parts_cancel g by times a b a_is b_is =
    let first = times_neg (pos by) b in
    let first' : pos by *ℤ neg_ℤ b ≡ pos by *ℤ (pos g *ℤ pos times) = ap (λ z. pos by *ℤ z) (sym b_is) in
    let second : pos times *ℤ a ≡ pos times *ℤ (pos g *ℤ pos by) = ap (λ z. pos times *ℤ z) (sym a_is) in
    let same : pos by *ℤ (pos g *ℤ pos times) ≡ pos times *ℤ (pos g *ℤ pos by) = first_exchanged (pos by) (pos g) (pos times) ∙ ap (λ z. pos g *ℤ z) (product_commutes (pos by) (pos times)) ∙ first_exchanged (pos g) (pos times) (pos by) in
    omega (arith, ints)

pub record Cancel (by times : ℕ) (a b : ℤ) : Type 0 where
  pub none : (pos by *ℤ b) +ℤ (pos times *ℤ a) ≡ pos 0
  pub some : 0 < times

positive_factor : (g n m : ℕ) → g * n ≡ m → 0 < m → 0 < n
positive_factor g n m e lt =
    ⊎_elim
    (λ none. let e' : g * n ≡ g * 0 = ap (λ k. g * k) none in absurd (omega arith))
    (λ some. omega arith)
    (cases_eq n 0)

pub multipliers_cancel : (a b : ℤ) → pos 0 <ℤ a → b <ℤ pos 0 → Cancel (multiplier a b) (multiplier b a) a b
multipliers_cancel a b positive negative =
    let m = unsigned_abs a in
    let n = unsigned_abs b in
    let g = divisor m n in
    let same : divisor n m ≡ g = same_from_IsGcd m n (divisor n m) g (IsGcd-swap n m (divisor n m) (divisor_is n m)) (divisor_is m n) in
    let by_is : g * multiplier a b ≡ m = mul-div_cancel' g (divisor_is m n).0 in
    let times_is : g * multiplier b a ≡ n = ap (λ h. g * (n / h)) same ∙ mul-div_cancel' g (divisor_is m n).1 in
    let whole : pos g *ℤ pos (multiplier a b) ≡ a = pos-*ℤ-pos g (multiplier a b) ∙ ap pos by_is ∙ omega (arith, ints) in
    let other : pos g *ℤ pos (multiplier b a) ≡ neg_ℤ b = pos-*ℤ-pos g (multiplier b a) ∙ ap pos times_is ∙ omega (arith, ints) in
    record {
      none = parts_cancel g (multiplier a b) (multiplier b a) a b whole other;
      some = positive_factor g (multiplier b a) n times_is (omega (arith, ints));
    }
