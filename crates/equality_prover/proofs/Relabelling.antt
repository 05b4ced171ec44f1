-- Joining two classes by giving the items of one the number of the other.
use Rattle.std.specs.Prelude.{◌≡◌, ◌≢◌, ℕ, zero, suc, ◌+◌, ◌<◌, ◌≤◌, Bool, true, false, cond, ◌==◌, ◌&&◌, List, [], ◌∷◌, length, get_or, sum, refl}
use Rattle.std.proofs.Common.{sym, ap, ◌∙◌, subst, drop, eqb-true, eq-eqb, arith}
use Rattle.std.proofs.lemmas.List.{drop_all, drop_more}
use Rattle.std.proofs.lemmas.List.Sums.{sum_by-cons}
use Rattle.law_clauses.specs.Arguments.{Argument}
use Rattle.equality_prover.specs.Congruence.{IsCongruence}
use Rattle.equality_prover.specs.Places.{one_class, pairs_in_class}
use Rattle.equality_prover.specs.Growth.{term_at, class_at, relabelled, IsSound, IsCoarser, IsJoined}

-- ---- sums of lists whose items fall
sum_is : (x : ℕ) (xs : List ℕ) → sum (x ∷ xs) ≡ x + sum xs
sum_is x xs = sum_by-cons (λ y. y) x xs

no_greater : (xs ys : List ℕ) → length ys ≡ length xs → ((k : ℕ) → k < length xs → get_or ys k 0 ≤ get_or xs k 0) → sum ys ≤ sum xs
no_greater [] [] e falls = omega arith
no_greater [] (y ∷ ys) e falls = absurd (omega arith)
no_greater (x ∷ xs) [] e falls = absurd (omega arith)
no_greater (x ∷ xs) (y ∷ ys) e falls =
    let more : length ys ≡ length xs = omega arith in
    let rest = no_greater xs ys more (λ k h. let g : suc k < length (x ∷ xs) = omega arith in falls (suc k) g) in
    let first : 0 < length (x ∷ xs) = omega arith in
    let head : y ≤ x = falls 0 first in
    omega (arith, sum_is x xs, sum_is y ys, rest, head)

lower : (xs ys : List ℕ) (p : ℕ) → length ys ≡ length xs → ((k : ℕ) → k < length xs → get_or ys k 0 ≤ get_or xs k 0) → p < length xs → get_or ys p 0 < get_or xs p 0 → sum ys < sum xs
lower [] ys p e falls h strict = absurd (omega arith)
lower (x ∷ xs) [] p e falls h strict = absurd (omega arith)
lower (x ∷ xs) (y ∷ ys) zero e falls h strict =
    let more : length ys ≡ length xs = omega arith in
    let rest = no_greater xs ys more (λ k g. let f : suc k < length (x ∷ xs) = omega arith in falls (suc k) f) in
    let head : y < x = strict in
    omega (arith, sum_is x xs, sum_is y ys, rest, head)
lower (x ∷ xs) (y ∷ ys) (suc p) e falls h strict =
    let more : length ys ≡ length xs = omega arith in
    let here : p < length xs = omega arith in
    let rest = lower xs ys p more (λ k g. let f : suc k < length (x ∷ xs) = omega arith in falls (suc k) f) here strict in
    let first : 0 < length (x ∷ xs) = omega arith in
    let head : y ≤ x = falls 0 first in
    omega (arith, sum_is x xs, sum_is y ys, rest, head)

-- ---- a number and what is in its place
at_number : (from into c : ℕ) → c ≡ from → relabelled from into c ≡ into
at_number from into c e = ap (λ b. cond b into c) (eq-eqb c from e)

elsewhere : (from into c : ℕ) → (c == from) ≡ false → relabelled from into c ≡ c
elsewhere from into c e = ap (λ b. cond b into c) e

no_higher : (from into c : ℕ) → into < from → relabelled from into c ≤ c
no_higher from into c h = cases (c == from) refl
  where
    cases : (b : Bool) → (c == from) ≡ b → relabelled from into c ≤ c
    cases true e = let f : c ≡ from = eqb-true c from e in let g : relabelled from into c ≡ into = at_number from into c f in omega arith
    cases false e = let g : relabelled from into c ≡ c = elsewhere from into c e in omega arith

kept_elsewhere : (from into c : ℕ) → c < from → relabelled from into c ≡ c
kept_elsewhere from into c h = cases (c == from) refl
  where
    cases : (b : Bool) → (c == from) ≡ b → relabelled from into c ≡ c
    cases true e = let f : c ≡ from = eqb-true c from e in absurd (omega arith)
    cases false e = elsewhere from into c e

-- ---- what relabelling does
module _ (i j from into : ℕ) (old new : List ℕ) (count : length new ≡ length old) (renamed : (k : ℕ) → k < length old → class_at new k ≡ relabelled from into (class_at old k)) where
  coarser_by : IsCoarser old new
  coarser_by k l h g e = renamed k h ∙ ap (relabelled from into) e ∙ sym (renamed l g)

  less_by : (p : ℕ) → p < length old → class_at old p ≡ from → into < from → sum new < sum old
  less_by p h e below =
      lower old new p count
      (λ k g. let f = renamed k g in let n = no_higher from into (class_at old k) below in omega (arith, f, n))
      h
      (let f = renamed p h in let n = at_number from into (class_at old p) e in omega (arith, f, n, e, below))

  sound_by : (terms : List Argument) (r : Argument → Argument → Bool) → IsCongruence terms r → r (term_at terms from) (term_at terms into) ≡ true → IsSound terms r old → IsSound terms r new
  sound_by terms r c e sound k h = rw (renamed k (subst (λ n. k < n) count h)) (cases (class_at old k == from) refl)
    where
      within : k < length old
      within = subst (λ n. k < n) count h

      cases : (b : Bool) → (class_at old k == from) ≡ b → r (term_at terms k) (term_at terms (relabelled from into (class_at old k))) ≡ true
      cases true f =
          let is : class_at old k ≡ from = eqb-true (class_at old k) from f in
          let first : r (term_at terms k) (term_at terms from) ≡ true = subst (λ n. r (term_at terms k) (term_at terms n) ≡ true) is (sound k within) in
          subst (λ n. r (term_at terms k) (term_at terms n) ≡ true) (sym (at_number from into (class_at old k) is)) (c.chained _ _ _ first e)
      cases false f = subst (λ n. r (term_at terms k) (term_at terms n) ≡ true) (sym (elsewhere from into (class_at old k) f)) (sound k within)

-- of two items that are related, so are the ones at the places of their numbers
meets : (terms : List Argument) (r : Argument → Argument → Bool) (classes : List ℕ) → IsCongruence terms r → (i j : ℕ) → i < length classes → j < length classes → IsSound terms r classes →
    r (term_at terms i) (term_at terms j) ≡ true → r (term_at terms (class_at classes i)) (term_at terms (class_at classes j)) ≡ true
meets terms r classes c i j h g sound e = c.chained _ _ _ (c.turned _ _ (sound i h)) (c.chained _ _ _ e (sound j g))

pub first_higher : (i j : ℕ) (old new : List ℕ) → i < length old → j < length old → length new ≡ length old → class_at old j < class_at old i
    → ((k : ℕ) → k < length old → class_at new k ≡ relabelled (class_at old i) (class_at old j) (class_at old k)) → IsJoined i j old new
first_higher i j old new h g count below renamed = record {
  count = count;
  coarser = coarser_by i j from into old new count renamed;
  joined = renamed i h ∙ at_number from into from refl ∙ sym (renamed j g ∙ kept_elsewhere from into into below);
  less = less_by i j from into old new count renamed i h refl below;
  sound = λ terms r c e sound. sound_by i j from into old new count renamed terms r c (meets terms r old c i j h g sound e) sound;
}
  where
    from : ℕ
    from = class_at old i

    into : ℕ
    into = class_at old j

pub second_higher : (i j : ℕ) (old new : List ℕ) → i < length old → j < length old → length new ≡ length old → class_at old i < class_at old j
    → ((k : ℕ) → k < length old → class_at new k ≡ relabelled (class_at old j) (class_at old i) (class_at old k)) → IsJoined i j old new
second_higher i j old new h g count below renamed =
    let other = first_higher j i old new g h count below renamed in
    record {
      count = count;
      coarser = other.coarser;
      joined = sym other.joined;
      less = other.less;
      sound = λ terms r c e sound. other.sound terms r c (c.turned _ _ e) sound;
    }

-- ---- pairs of places
pub next_pair : (classes ps qs : List ℕ) (k : ℕ) → k < length ps → k < length qs →
    pairs_in_class classes (drop k ps) (drop k qs) ≡ (one_class classes (get_or ps k 0) (get_or qs k 0) && pairs_in_class classes (drop (k + 1) ps) (drop (k + 1) qs))
unfolding pairs_in_class
next_pair classes ps qs k h g = λ j. pairs_in_class classes (drop_more ps k 0 h j) (drop_more qs k 0 g j)

pub no_pair : (classes ps qs : List ℕ) (k : ℕ) → length ps ≤ k → length qs ≤ k → pairs_in_class classes (drop k ps) (drop k qs) ≡ true
unfolding pairs_in_class
no_pair classes ps qs k h g = λ j. pairs_in_class classes (drop_all k ps h j) (drop_all k qs g j)

pub other_count : (classes ps qs : List ℕ) → length ps ≢ length qs → pairs_in_class classes ps qs ≡ false
unfolding pairs_in_class
other_count classes [] [] apart = absurd (apart refl)
other_count classes [] (q ∷ qs) apart = refl
other_count classes (p ∷ ps) [] apart = refl
other_count classes (p ∷ ps) (q ∷ qs) apart = and_not (one_class classes p q) (pairs_in_class classes ps qs) (other_count classes ps qs (λ e. apart (ap suc e)))
  where
    and_not : (b c : Bool) → c ≡ false → (b && c) ≡ false
    and_not true c e = e
    and_not false c e = refl
