-- Classes that take in the equalities of literals, one after the other.
use Rattle.std.specs.Prelude.{◌≡◌, ℕ, zero, suc, ◌+◌, ◌<◌, Bool, true, List, [], ◌∷◌, ◌++◌, length, get_or, take, map, Some, None, refl}
use Rattle.std.specs.List.{list_all}
use Rattle.std.proofs.Common.{sym, ap, ◌∙◌, subst, arith}
use Rattle.std.proofs.lemmas.Bool.{and_parts, and_from}
use Rattle.std.proofs.lemmas.List.{take_more, length-map, map-append}
use Rattle.rule_terms.specs.declared.obligation.Literal.{Literal}
use Rattle.law_clauses.specs.Signed.{Signed, signed_of, all_signed}
use Rattle.law_clauses.specs.Arguments.{Argument}
use Rattle.law_clauses.specs.ArgumentView.{argument_of}
use Rattle.law_clauses.specs.declared.arguments.Argument as code
use Rattle.equality_prover.specs.Congruence.{respects, all_respected}
use Rattle.equality_prover.specs.Places.{place_of, in_class}
use Rattle.equality_prover.specs.Growth.{term_at, class_at, IsJoined, TakesIn, TakesPair, AreSides, stands, both_stand}
use Rattle.equality_prover.proofs.Relating.{place_stands, place_is, one_class_from, in_coarser, all_respected_more}

-- ---- two terms
pub first_within : (terms : List code.Argument) (a b : Argument) → both_stand (map argument_of terms) a b ≡ true → place_of (map argument_of terms) a < length terms
first_within terms a b e =
    subst (λ n. place_of (map argument_of terms) a < n) (length-map terms argument_of) (place_stands (map argument_of terms) a ((and_parts (stands (map argument_of terms) a) (stands (map argument_of terms) b) e).0))

pub second_within : (terms : List code.Argument) (a b : Argument) → both_stand (map argument_of terms) a b ≡ true → place_of (map argument_of terms) b < length terms
second_within terms a b e =
    subst (λ n. place_of (map argument_of terms) b < n) (length-map terms argument_of) (place_stands (map argument_of terms) b ((and_parts (stands (map argument_of terms) a) (stands (map argument_of terms) b) e).1))

pair_joined : (terms : List code.Argument) (a b : Argument) (old new : List ℕ) → length old ≡ length terms → both_stand (map argument_of terms) a b ≡ true
    → IsJoined (place_of (map argument_of terms) a) (place_of (map argument_of terms) b) old new → TakesPair (map argument_of terms) a b old new
pair_joined terms a b old new count stand joined = record {
  count = joined.count;
  coarser = joined.coarser;
  joined = one_class_from new (place_of named a) (place_of named b) (omega (arith, h, count, joined.count)) (omega (arith, g, count, joined.count)) joined.joined;
  sound = λ r c e sound. joined.sound named r c (subst (λ x. r x (term_at named (place_of named b)) ≡ true) (sym first) (subst (λ y. r a y ≡ true) (sym second) e)) sound;
}
  where
    named : List Argument
    named = map argument_of terms

    h : place_of named a < length terms
    h = first_within terms a b stand

    g : place_of named b < length terms
    g = second_within terms a b stand

    first : term_at named (place_of named a) ≡ a
    first = place_is named a (omega (arith, h, length-map terms argument_of))

    second : term_at named (place_of named b) ≡ b
    second = place_is named b (omega (arith, g, length-map terms argument_of))

pub pair_joined_at : (terms : List code.Argument) (a b : Argument) (old new : List ℕ) (i j : ℕ) → length old ≡ length terms → both_stand (map argument_of terms) a b ≡ true
    → i ≡ place_of (map argument_of terms) a → j ≡ place_of (map argument_of terms) b → IsJoined i j old new → TakesPair (map argument_of terms) a b old new
pair_joined_at terms a b old new i j count stand first second joined =
    pair_joined terms a b old new count stand (subst (λ k. IsJoined k (place_of (map argument_of terms) b) old new) first (subst (λ k. IsJoined i k old new) second joined))

pub pair_of_one : (terms : List code.Argument) (a b : Argument) (classes : List ℕ) → length classes ≡ length terms → both_stand (map argument_of terms) a b ≡ true
    → class_at classes (place_of (map argument_of terms) a) ≡ class_at classes (place_of (map argument_of terms) b) → TakesPair (map argument_of terms) a b classes classes
pair_of_one terms a b classes count stand e = record {
  count = refl;
  coarser = λ k l h g f. f;
  joined =
      one_class_from classes (place_of (map argument_of terms) a) (place_of (map argument_of terms) b)
      (let h = first_within terms a b stand in omega (arith, h, count))
      (let g = second_within terms a b stand in omega (arith, g, count))
      e;
  sound = λ r c f sound. sound;
}

-- ---- one literal
pub sides_stand : (terms : List Argument) (x : Signed) (p : code.Argument × code.Argument) → AreSides x (Some p) → respects (both_stand terms) x ≡ true
    → both_stand terms (argument_of p.0) (argument_of p.1) ≡ true
sides_stand terms x p sides e = sym (sides (both_stand terms)) ∙ e

one_respected : (r : Argument → Argument → Bool) (x : Signed) → all_respected r (x ∷ []) ≡ true → respects r x ≡ true
unfolding all_respected
one_respected r x e = (and_parts (respects r x) true e).0

only_respected : (r : Argument → Argument → Bool) (x : Signed) → respects r x ≡ true → all_respected r (x ∷ []) ≡ true
unfolding all_respected
only_respected r x e = and_from (respects r x) true e refl

pub states_none : (terms : List Argument) (x : Signed) (classes : List ℕ) → AreSides x None → TakesIn terms (x ∷ []) classes classes
states_none terms x classes sides = record {
  count = refl;
  coarser = λ k l h g f. f;
  respected = only_respected (in_class terms classes) x (sides (in_class terms classes));
  sound = λ r c f sound. sound;
}

pub states_one : (terms : List Argument) (x : Signed) (p : code.Argument × code.Argument) (old new : List ℕ) → AreSides x (Some p)
    → TakesPair terms (argument_of p.0) (argument_of p.1) old new → TakesIn terms (x ∷ []) old new
states_one terms x p old new sides taken = record {
  count = taken.count;
  coarser = taken.coarser;
  respected = only_respected (in_class terms new) x (sides (in_class terms new) ∙ taken.joined);
  sound = λ r c f sound. taken.sound r c (sym (sides r) ∙ one_respected r x f) sound;
}

-- ---- literals one after the other
all_both : (test : Signed → Bool) (xs ys : List Signed) → list_all test (xs ++ ys) ≡ true → (list_all test xs ≡ true) × (list_all test ys ≡ true)
all_both test [] ys e = (refl, e)
all_both test (x ∷ xs) ys e =
    let p = and_parts (test x) (list_all test (xs ++ ys)) e in
    let q = all_both test xs ys p.1 in
    (and_from (test x) (list_all test xs) p.0 q.0, q.1)

both_all : (test : Signed → Bool) (xs ys : List Signed) → list_all test xs ≡ true → list_all test ys ≡ true → list_all test (xs ++ ys) ≡ true
both_all test [] ys e f = f
both_all test (x ∷ xs) ys e f = let p = and_parts (test x) (list_all test xs) e in and_from (test x) (list_all test (xs ++ ys)) p.0 (both_all test xs ys p.1 f)

respected_parts : (r : Argument → Argument → Bool) (xs ys : List Signed) → all_respected r (xs ++ ys) ≡ true → (all_respected r xs ≡ true) × (all_respected r ys ≡ true)
unfolding all_respected
respected_parts r xs ys e = all_both (respects r) xs ys e

respected_both : (r : Argument → Argument → Bool) (xs ys : List Signed) → all_respected r xs ≡ true → all_respected r ys ≡ true → all_respected r (xs ++ ys) ≡ true
unfolding all_respected
respected_both r xs ys e f = both_all (respects r) xs ys e f

pub none_respected : (r : Argument → Argument → Bool) → all_respected r [] ≡ true
unfolding all_respected
none_respected r = refl

pub none_taken : (terms : List Argument) (classes : List ℕ) → TakesIn terms [] classes classes
none_taken terms classes = record {
  count = refl;
  coarser = λ k l h g f. f;
  respected = none_respected (in_class terms classes);
  sound = λ r c f sound. sound;
}

pub both_taken : (terms : List Argument) (xs ys : List Signed) (a b c : List ℕ) → TakesIn terms xs a b → TakesIn terms ys b c → TakesIn terms (xs ++ ys) a c
both_taken terms xs ys a b c first second = record {
  count = second.count ∙ first.count;
  coarser = λ k l h g e.
      second.coarser k l (subst (λ n. k < n) (sym first.count) h) (subst (λ n. l < n) (sym first.count) g) (first.coarser k l h g e);
  respected =
      respected_both (in_class terms c) xs ys
      (all_respected_more (in_class terms b) (in_class terms c) (in_coarser terms b c second.count second.coarser) xs first.respected)
      second.respected;
  sound = λ r cong e sound.
      second.sound r cong ((respected_parts r xs ys e).1) (first.sound r cong ((respected_parts r xs ys e).0) sound);
}

pub one_stands : (r : Argument → Argument → Bool) (literals : List Literal) (i : ℕ) (d : Literal) → i < length literals → all_respected r (all_signed literals) ≡ true
    → respects r (signed_of (get_or literals i d)) ≡ true
unfolding all_respected
one_stands r [] i d h e = absurd (omega arith)
one_stands r (x ∷ xs) zero d h e = (and_parts (respects r (signed_of x)) (list_all (respects r) (all_signed xs)) e).0
one_stands r (x ∷ xs) (suc i) d h e = let p = and_parts (respects r (signed_of x)) (list_all (respects r) (all_signed xs)) e in one_stands r xs i d (omega arith) p.1

pub one_more_taken : (terms : List Argument) (literals : List Literal) (i : ℕ) (d : Literal) (a b c : List ℕ) → i < length literals → TakesIn terms (all_signed (take i literals)) a b
    → TakesIn terms (signed_of (get_or literals i d) ∷ []) b c → TakesIn terms (all_signed (take (i + 1) literals)) a c
one_more_taken terms literals i d a b c h first second =
    subst (λ xs. TakesIn terms xs a c) (sym (ap all_signed (take_more literals i d h) ∙ map-append signed_of (take i literals) (get_or literals i d ∷ [])))
    (both_taken terms (all_signed (take i literals)) (signed_of (get_or literals i d) ∷ []) a b c first second)
