-- A law's clause has a fixed number of literals, but those of the laws that speak of any number of places: another list is none.
use Rattle.std.specs.Prelude.{◌≡◌, ◌≢◌, false, List, [], ◌∷◌, length, refl}
use Rattle.rule_terms.specs.Term.{left_store, right_store, put, run, get, ev, add, sub, mul}
use Rattle.rule_terms.specs.declared.obligation.Atom.TheVariants.{SameName, SameStore, SameValue, AtMost, Ends, Holds}
use Rattle.rule_terms.specs.declared.obligation.Obligation.{Obligation}
use Rattle.law_clauses.specs.Signed.{Signed, plus, minus}
use Rattle.law_clauses.specs.WriteLaws.{law_2, law_3, law_4, law_6, law_7, law_8, law_9, law_10}
use Rattle.law_clauses.specs.ConditionLaws.{law_11, law_12, law_13, law_14, law_15, law_16, law_17, law_18, law_19, law_20, law_21}
use Rattle.law_clauses.specs.NumberLaws.{law_22, law_23, law_24}

pub law_2_two : (xs : List Signed) → length xs ≢ 2 → law_2 xs ≡ false
unfolding law_2
law_2_two (plus (SameName y z) ∷ plus (SameValue (get q js (put s x is v)) w) ∷ []) apart = absurd (apart refl)
law_2_two _ apart = refl

pub law_3_two : (xs : List Signed) → length xs ≢ 2 → law_3 xs ≡ false
unfolding law_3
law_3_two (plus (SameValue a b) ∷ plus (SameValue (get q js (put s x is v)) w) ∷ []) apart = absurd (apart refl)
law_3_two _ apart = refl

pub law_4_one : (xs : List Signed) → length xs ≢ 1 → law_4 xs ≡ false
unfolding law_4
law_4_one (plus (SameValue (get q js (put s x is v)) w) ∷ []) apart = absurd (apart refl)
law_4_one _ apart = refl

pub law_6_one : (xs : List Signed) → length xs ≢ 1 → law_6 xs ≡ false
unfolding law_6
law_6_one (plus (Ends left_store) ∷ []) apart = absurd (apart refl)
law_6_one (plus (Ends right_store) ∷ []) apart = absurd (apart refl)
law_6_one _ apart = refl

pub law_7_two : (xs : List Signed) → length xs ≢ 2 → law_7 xs ≡ false
unfolding law_7
law_7_two (minus (Ends s) ∷ plus (Ends (put u x is v)) ∷ []) apart = absurd (apart refl)
law_7_two _ apart = refl

pub law_8_two : (xs : List Signed) → length xs ≢ 2 → law_8 xs ≡ false
unfolding law_8
law_8_two (minus (Ends (put u x is v)) ∷ plus (Ends s) ∷ []) apart = absurd (apart refl)
law_8_two _ apart = refl

pub law_9_two : (xs : List Signed) → length xs ≢ 2 → law_9 xs ≡ false
unfolding law_9
law_9_two (minus (Ends (run k u)) ∷ plus (Ends s) ∷ []) apart = absurd (apart refl)
law_9_two _ apart = refl

pub law_10_three : (xs : List Signed) → length xs ≢ 3 → law_10 xs ≡ false
unfolding law_10
law_10_three (plus (Ends a) ∷ plus (Ends c) ∷ plus (SameStore b d) ∷ []) apart = absurd (apart refl)
law_10_three _ apart = refl

pub law_11_two : (ob : Obligation) (xs : List Signed) → length xs ≢ 2 → law_11 ob xs ≡ false
unfolding law_11
law_11_two ob (minus (Ends (run k s)) ∷ plus (SameValue (ev e t) w) ∷ []) apart = absurd (apart refl)
law_11_two ob _ apart = refl

pub law_12_two : (ob : Obligation) (xs : List Signed) → length xs ≢ 2 → law_12 ob xs ≡ false
unfolding law_12
law_12_two ob (minus (Ends (run k s)) ∷ plus (SameValue (get x is t) w) ∷ []) apart = absurd (apart refl)
law_12_two ob _ apart = refl

pub law_13_three : (ob : Obligation) (xs : List Signed) → length xs ≢ 3 → law_13 ob xs ≡ false
unfolding law_13
law_13_three ob (minus (Ends (run k s)) ∷ minus (Holds q a) ∷ plus (Holds r b) ∷ []) apart = absurd (apart refl)
law_13_three ob _ apart = refl

pub law_14_two : (ob : Obligation) (xs : List Signed) → length xs ≢ 2 → law_14 ob xs ≡ false
unfolding law_14
law_14_two ob (minus (SameName n x) ∷ plus (SameValue (ev e (put s y is v)) w) ∷ []) apart = absurd (apart refl)
law_14_two ob _ apart = refl

pub law_15_three : (ob : Obligation) (xs : List Signed) → length xs ≢ 3 → law_15 ob xs ≡ false
unfolding law_15
law_15_three ob (minus (SameName n x) ∷ minus (Holds q a) ∷ plus (Holds r b) ∷ []) apart = absurd (apart refl)
law_15_three ob _ apart = refl

pub law_16_two : (ob : Obligation) (xs : List Signed) → length xs ≢ 2 → law_16 ob xs ≡ false
unfolding law_16
law_16_two ob (minus (SameName n x) ∷ plus (SameStore (run k (put s y is v)) (put u z js w)) ∷ []) apart = absurd (apart refl)
law_16_two ob _ apart = refl

pub law_17_three : (ob : Obligation) (xs : List Signed) → length xs ≢ 3 → law_17 ob xs ≡ false
unfolding law_17
law_17_three ob (minus (Ends (run k s)) ∷ minus (SameName n x) ∷ plus (SameValue (get y js t) w) ∷ []) apart = absurd (apart refl)
law_17_three ob _ apart = refl

pub law_18_one : (ob : Obligation) (xs : List Signed) → length xs ≢ 1 → law_18 ob xs ≡ false
unfolding law_18
law_18_one ob (plus (SameStore (run k (run j s)) (run i u)) ∷ []) apart = absurd (apart refl)
law_18_one ob _ apart = refl

pub law_19_two : (ob : Obligation) (xs : List Signed) → length xs ≢ 2 → law_19 ob xs ≡ false
unfolding law_19
law_19_two ob (minus (Ends s) ∷ plus (AtMost a (ev e t) c) ∷ []) apart = absurd (apart refl)
law_19_two ob _ apart = refl

pub law_20_three : (ob : Obligation) (xs : List Signed) → length xs ≢ 3 → law_20 ob xs ≡ false
unfolding law_20
law_20_three ob (minus (Ends a) ∷ minus (Ends c) ∷ plus (SameValue (ev e b) w) ∷ []) apart = absurd (apart refl)
law_20_three ob _ apart = refl

pub law_21_one : (ob : Obligation) (xs : List Signed) → length xs ≢ 1 → law_21 ob xs ≡ false
unfolding law_21
law_21_one ob (minus (SameName x y) ∷ []) apart = absurd (apart refl)
law_21_one ob _ apart = refl

pub law_22_three : (xs : List Signed) → length xs ≢ 3 → law_22 xs ≡ false
unfolding law_22
law_22_three (minus (SameValue a d) ∷ minus (SameValue b c) ∷ plus (SameValue (add p q) w) ∷ []) apart = absurd (apart refl)
law_22_three (minus (SameValue a d) ∷ minus (SameValue b c) ∷ plus (SameValue (mul p q) w) ∷ []) apart = absurd (apart refl)
law_22_three _ apart = refl

pub law_23_two : (xs : List Signed) → length xs ≢ 2 → law_23 xs ≡ false
unfolding law_23
law_23_two (minus (SameValue u z) ∷ plus (SameValue (add a b) w) ∷ []) apart = absurd (apart refl)
law_23_two (minus (SameValue u z) ∷ plus (SameValue (mul a b) w) ∷ []) apart = absurd (apart refl)
law_23_two _ apart = refl

pub law_24_two : (xs : List Signed) → length xs ≢ 2 → law_24 xs ≡ false
unfolding law_24
law_24_two (minus (SameValue a b) ∷ plus (SameValue (sub c d) w) ∷ []) apart = absurd (apart refl)
law_24_two _ apart = refl
