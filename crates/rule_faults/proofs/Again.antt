-- Whether an item is like an earlier one, read from the front with the items that were seen so far.
-- Read so from none, it is what `repeats_name` and `repeats_pair` say of names and of pairs.
use Rattle.std.proofs.Common.{◌≡◌, ℕ, Bool, true, false, ◌||◌, List, [], ◌∷◌, ◌++◌, Bor, refl, ◌∙◌, arith}
use Rattle.std.proofs.lemmas.Bool.Decides.{nat_tests}
use Rattle.std.proofs.lemmas.List.Folds.{list_any-append}
use Rattle.std.specs.List.{list_any}
use Rattle.std.specs.Prelude.{bytes_eq}
use Rattle.toy_imp.specs.declared.param.Param.{Param}
use Rattle.toy_imp.specs.Faults.{repeats_name, same_pair, repeats_pair}
use Rattle.rule_faults.specs.Seen.{names_in}

-- four questions in another order, and once more with one that is answered
asked_later : (a b c d : Bool) → ((a || (b || false)) || (c || d)) ≡ ((a || c) || (b || d))
asked_later true b c d = refl
asked_later false true true d = refl
asked_later false true false d = refl
asked_later false false c d = refl

asked_apart : (a b c d : Bool) → (a || ((b || c) || d)) ≡ ((a || b) || (c || d))
asked_apart true b c d = refl
asked_apart false true c d = refl
asked_apart false false c d = refl

module _ {A S : Type 0} (same : S → S → Bool) (key : A → S) where
  -- whether one of the items is like one that was seen
  abbrev some_seen : List S → List A → Bool
  some_seen seen [] = false
  some_seen seen (x ∷ xs) = list_any (same (key x)) seen || some_seen seen xs

  -- whether one of the items is like one that was seen, or like an earlier item
  abbrev pub again : List S → List A → Bool
  again seen [] = false
  again seen (x ∷ xs) = list_any (same (key x)) seen || again (seen ++ key x ∷ []) xs

  -- whether one of the items is like an earlier item
  abbrev pub repeated : List A → Bool
  repeated [] = false
  repeated (x ∷ xs) = list_any (λ y. same (key y) (key x)) xs || repeated xs

  none_seen : (xs : List A) → some_seen [] xs ≡ false
  none_seen [] = refl
  none_seen (x ∷ xs) = none_seen xs

  one_more_seen : (seen : List S) (x : A) (xs : List A)
      → some_seen (seen ++ key x ∷ []) xs ≡ (some_seen seen xs || list_any (λ y. same (key y) (key x)) xs)
  one_more_seen seen x [] = refl
  one_more_seen seen x (y ∷ xs) =
      (λ j. list_any-append (same (key y)) seen (key x ∷ []) j || one_more_seen seen x xs j)
      ∙ asked_later (list_any (same (key y)) seen) (same (key y) (key x)) (some_seen seen xs) (list_any (λ z. same (key z) (key x)) xs)

  again_is : (seen : List S) (xs : List A) → again seen xs ≡ (some_seen seen xs || repeated xs)
  again_is seen [] = refl
  again_is seen (x ∷ xs) =
      (λ j. list_any (same (key x)) seen || again_is (seen ++ key x ∷ []) xs j)
      ∙ (λ j. list_any (same (key x)) seen || (one_more_seen seen x xs j || repeated xs))
      ∙ asked_apart (list_any (same (key x)) seen) (some_seen seen xs) (list_any (λ z. same (key z) (key x)) xs) (repeated xs)

  pub again_from_none : (xs : List A) → again [] xs ≡ repeated xs
  again_from_none xs = again_is [] xs ∙ (λ j. none_seen xs j || repeated xs)

-- a name that a borrowed name equals
pub name_among : (name : List ℕ) (names : List (Bor (List ℕ))) → list_any (λ x. bytes_eq name x.now) names ≡ list_any (bytes_eq name) (names_in names)
name_among name [] = refl
name_among name (x ∷ names) = λ j. bytes_eq name x.now || name_among name names j

-- whether a name stands among those that were seen, or twice
abbrev pub names_again : List (List ℕ) → List Param → Bool
names_again seen ps = again bytes_eq (λ (p : Param). p.name) seen ps

names_repeated : (ps : List Param) → repeated bytes_eq (λ (p : Param). p.name) ps ≡ repeats_name ps
names_repeated [] = refl
names_repeated (p ∷ ps) = λ j. list_any (λ (q : Param). bytes_eq q.name p.name) ps || names_repeated ps j

pub names_from_none : (ps : List Param) → names_again [] ps ≡ repeats_name ps
names_from_none ps = again_from_none bytes_eq (λ (p : Param). p.name) ps ∙ names_repeated ps

-- whether a pair stands among those that were seen, or twice
abbrev pub pairs_again : List (ℕ × ℕ) → List (ℕ × ℕ) → Bool
pairs_again seen pairs = again same_pair (λ (a : ℕ × ℕ). a) seen pairs

same_pair_exchanged : (a b : ℕ × ℕ) → same_pair a b ≡ same_pair b a
same_pair_exchanged a b = grind (arith, nat_tests)

pairs_repeated : (pairs : List (ℕ × ℕ)) → repeated same_pair (λ (a : ℕ × ℕ). a) pairs ≡ repeats_pair pairs
pairs_repeated [] = refl
pairs_repeated (a ∷ pairs) = λ j. list_any (λ b. same_pair_exchanged b a j) pairs || pairs_repeated pairs j

pub pairs_from_none : (pairs : List (ℕ × ℕ)) → pairs_again [] pairs ≡ repeats_pair pairs
pairs_from_none pairs = again_from_none same_pair (λ (a : ℕ × ℕ). a) pairs ∙ pairs_repeated pairs
