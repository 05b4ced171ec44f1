-- Where all that is stated is taken in and all pairs are settled, the classes are those of the least congruence.
use Rattle.std.specs.Prelude.{◌≡◌, ℕ, ◌<◌, Bool, true, List, length, map, Contains, refl}
use Rattle.std.proofs.Common.{sym, ap, ◌∙◌, subst}
use Rattle.std.proofs.lemmas.List.{length-map, get_or-map}
use Rattle.law_clauses.specs.Signed.{Signed}
use Rattle.law_clauses.specs.Arguments.{Argument, of_name}
use Rattle.law_clauses.specs.ArgumentView.{argument_of}
use Rattle.law_clauses.specs.declared.arguments.Argument as code
use Rattle.equality_prover.specs.Terms.{arguments, same_top}
use Rattle.equality_prover.specs.Congruence.{all_related, IsCongruence, all_respected, AreEqual}
use Rattle.equality_prover.specs.Places.{place_of, places_of, in_class}
use Rattle.equality_prover.specs.Growth.{term_at, class_at, IsSound, TakesIn, AreSettled, IsEnd}
use Rattle.equality_prover.specs.Closure.{AreClasses}
use Rattle.equality_prover.proofs.Relating.{place_is, place_contained, contains_at, one_class_is, one_class_from, in_coarser, all_respected_more}
use Rattle.equality_prover.proofs.Taking.{none_respected}

-- ---- classes that are settled are a congruence
in_congruence : (terms : List Argument) (classes : List ℕ) → length classes ≡ length terms → AreSettled terms classes → IsCongruence terms (in_class terms classes)
in_congruence terms classes count settled = record {
  itself = λ a there. one_class_from classes (place_of terms a) (place_of terms a) (inside a there) (inside a there) refl;
  turned = λ a b e. let one = one_class_is classes (place_of terms a) (place_of terms b) e in one_class_from classes (place_of terms b) (place_of terms a) one.second one.first (sym one.same);
  chained = λ a b c e f.
      let one = one_class_is classes (place_of terms a) (place_of terms b) e in
      let two = one_class_is classes (place_of terms b) (place_of terms c) f in
      one_class_from classes (place_of terms a) (place_of terms c) one.first two.second (one.same ∙ two.same);
  alike = λ a b there here top same.
      let first : term_at terms (place_of terms a) ≡ a = place_is terms a (place_contained terms a there) in
      let second : term_at terms (place_of terms b) ≡ b = place_is terms b (place_contained terms b here) in
      one_class_from classes (place_of terms a) (place_of terms b) (inside a there) (inside b here)
      (settled (place_of terms a) (place_of terms b) (place_contained terms a there) (place_contained terms b here)
      ((λ j. same_top (first j) (second j)) ∙ top)
      ((λ j. all_related (in_class terms classes) (arguments (first j)) (arguments (second j))) ∙ same));
}
  where
    inside : (a : Argument) → Contains terms a → place_of terms a < length classes
    inside a there = subst (λ n. place_of terms a < n) (sym count) (place_contained terms a there)

-- ---- the classes before anything is joined
starts_at : (terms : List Argument) (k : ℕ) → k < length terms → class_at (places_of terms terms) k ≡ place_of terms (term_at terms k)
starts_at terms k h = get_or-map (place_of terms) terms k (of_name 0) 0 h

starts_sound : (terms : List Argument) (r : Argument → Argument → Bool) → IsCongruence terms r → IsSound terms r (places_of terms terms)
starts_sound terms r c k h =
    let within : k < length terms = subst (λ n. k < n) (length-map terms (place_of terms)) h in
    let there = place_contained terms (term_at terms k) (contains_at terms k within) in
    subst (λ n. r (term_at terms k) (term_at terms n) ≡ true) (sym (starts_at terms k within))
    (subst (λ a. r (term_at terms k) a ≡ true) (sym (place_is terms (term_at terms k) there)) (c.itself (term_at terms k) (contains_at terms k within)))

-- a term and the first one that is identical are of one class
starts_first : (terms : List Argument) (k : ℕ) → k < length terms → class_at (places_of terms terms) k ≡ class_at (places_of terms terms) (place_of terms (term_at terms k))
starts_first terms k h =
    let there = place_contained terms (term_at terms k) (contains_at terms k h) in
    starts_at terms k h ∙ sym (starts_at terms (place_of terms (term_at terms k)) there ∙ ap (place_of terms) (place_is terms (term_at terms k) there))

-- ---- both directions
module _ (terms : List Argument) (given : List Signed) (mid end : List ℕ) (taken : TakesIn terms given (places_of terms terms) mid) (done : IsEnd terms mid end) where
  count_is : length end ≡ length terms
  count_is = done.taken.count ∙ taken.count ∙ length-map terms (place_of terms)

  sound_at_end : (r : Argument → Argument → Bool) → IsCongruence terms r → all_respected r given ≡ true → IsSound terms r end
  sound_at_end r c e = done.taken.sound r c (none_respected r) (taken.sound r c e (starts_sound terms r c))

  coarser_at_end : (k l : ℕ) → k < length terms → l < length terms → class_at (places_of terms terms) k ≡ class_at (places_of terms terms) l → class_at end k ≡ class_at end l
  coarser_at_end k l h g e =
      let start : length (places_of terms terms) ≡ length terms = length-map terms (place_of terms) in
      let middle : length mid ≡ length terms = taken.count ∙ start in
      done.taken.coarser k l (subst (λ n. k < n) (sym middle) h) (subst (λ n. l < n) (sym middle) g)
      (taken.coarser k l (subst (λ n. k < n) (sym start) h) (subst (λ n. l < n) (sym start) g) e)

  one_class_equal : (i j : ℕ) → i < length terms → j < length terms → class_at end i ≡ class_at end j → AreEqual terms given (term_at terms i) (term_at terms j)
  one_class_equal i j h g e r c f =
      let sound = sound_at_end r c f in
      let first : r (term_at terms i) (term_at terms (class_at end i)) ≡ true = sound i (subst (λ n. i < n) (sym count_is) h) in
      let second : r (term_at terms j) (term_at terms (class_at end j)) ≡ true = sound j (subst (λ n. j < n) (sym count_is) g) in
      c.chained _ _ _ first (c.turned _ _ (subst (λ n. r (term_at terms j) (term_at terms n) ≡ true) (sym e) second))

  equal_one_class : (i j : ℕ) → i < length terms → j < length terms → AreEqual terms given (term_at terms i) (term_at terms j) → class_at end i ≡ class_at end j
  equal_one_class i j h g equal =
      let respected : all_respected (in_class terms end) given ≡ true =
      all_respected_more (in_class terms mid) (in_class terms end) (in_coarser terms mid end done.taken.count done.taken.coarser) given taken.respected in
      let related : in_class terms end (term_at terms i) (term_at terms j) ≡ true = equal (in_class terms end) (in_congruence terms end count_is done.settled) respected in
      let one = one_class_is end (place_of terms (term_at terms i)) (place_of terms (term_at terms j)) related in
      coarser_at_end i (place_of terms (term_at terms i)) h (place_contained terms (term_at terms i) (contains_at terms i h)) (starts_first terms i h)
      ∙ one.same
      ∙ sym (coarser_at_end j (place_of terms (term_at terms j)) g (place_contained terms (term_at terms j) (contains_at terms j g)) (starts_first terms j g))

  are_classes : AreClasses terms given end
  are_classes = record {
    count = count_is;
    exact = λ i j h g. (one_class_equal i j h g, equal_one_class i j h g);
  }

-- ---- what code hands on
pub first_count : (terms : List code.Argument) (classes : List ℕ) → classes ≡ places_of (map argument_of terms) (map argument_of terms) → length classes ≡ length terms
first_count terms classes is = ap length is ∙ length-map (map argument_of terms) (place_of (map argument_of terms)) ∙ length-map terms argument_of

pub classes_are : (terms : List Argument) (given : List Signed) (start mid end : List ℕ) → start ≡ places_of terms terms → TakesIn terms given start mid → IsEnd terms mid end → AreClasses terms given end
classes_are terms given start mid end is taken done = are_classes terms given mid end (subst (λ cs. TakesIn terms given cs mid) is taken) done
