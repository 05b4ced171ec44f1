-- Of all outcomes of a test at a store term that means a store, the literals of exactly one are true: one of those in which
-- the test comes out as the filled test does in that store.
use Rattle.std.specs.Prelude.{◌≡◌, ℕ, ◌+◌, ◌*◌, Bool, true, false, not, ◌&&◌, ◌||◌, ℤ, pos, negsuc, ◌+ℤ◌, int_lt, int_le, List, [], ◌∷◌, ◌++◌, map, filter, Some, refl}
use Rattle.std.specs.List.{list_all}
use Rattle.std.specs.Ordering.{int_eq}
use Rattle.std.proofs.Common.{◌∙◌, ap, arith}
use Rattle.std.proofs.lemmas.Bool.{and_parts}
use Rattle.std.proofs.lemmas.Int.{ints}
use Rattle.std.proofs.lemmas.List.Folds.{list_all-append}
use Rattle.toy_imp.specs.declared.instance.Instance.{Instance}
use Rattle.toy_imp.specs.Expr.{Expr}
use Rattle.toy_imp.specs.Fill.{test_at, fill_expr, fill_test}
use Rattle.toy_imp.specs.Store.{Store}
use Rattle.toy_imp.specs.Test.{Test, less, less_eq, equal, not_of, and_of, or_of, par_test}
use Rattle.toy_imp.specs.Truth.{truth}
use Rattle.toy_imp.specs.Value.{value}
use Rattle.rule_terms.specs.Term.{StoreTerm}
use Rattle.rule_terms.specs.ValueAt.{names_are_open, value_at}
use Rattle.rule_terms.specs.declared.obligation.Atom.{Atom}
use Rattle.rule_terms.specs.declared.obligation.Atom.TheVariants.{SameValue, AtMost, Holds}
use Rattle.rule_terms.specs.declared.obligation.Literal.{Literal}
use Rattle.term_meaning.specs.MaybeStore.{truth_in}
use Rattle.term_meaning.specs.Meaning.{signed, store_of, atom_truth, literal_truth}
use Rattle.term_meaning.specs.Table.{Entry}
use Rattle.term_meaning.proofs.Valuing.{value_at_means}
use Rattle.path_pairs.specs.Open.{test_is_open}
use Rattle.path_pairs.specs.Outcomes.{decided, both, outcomes}
use Rattle.path_pairs.proofs.Passing.{one, how_many, how_many_append, none_pass, one_passes}

-- ---- counts of truths
one_alone : (b : Bool) → one (b && true) + 0 ≡ one b
one_alone true = refl
one_alone false = refl

each_joined : (b c : Bool) (m n : ℕ) → m ≡ one b * n → one (b && c) + m ≡ one b * (one c + n)
each_joined true true m n e = omega (arith, e)
each_joined true false m n e = omega (arith, e)
each_joined false c m n e = omega (arith, e)

joined_too : (b : Bool) (m n : ℕ) → one b * m + n * m ≡ (one b + n) * m
joined_too true m n = omega arith
joined_too false m n = omega arith

turned : (way b : Bool) → one (signed (not way) b) ≡ one (signed way (not b))
turned true true = refl
turned true false = refl
turned false true = refl
turned false false = refl

and_true : (a b : Bool) → one a * one b ≡ one (a && b)
and_true true true = refl
and_true true false = refl
and_true false true = refl
and_true false false = refl

and_false : (a b : Bool) → one (not a) + one a * one (not b) ≡ one (not (a && b))
and_false true true = refl
and_false true false = refl
and_false false true = refl
and_false false false = refl

or_true : (a b : Bool) → one a + one (not a) * one b ≡ one (a || b)
or_true true true = refl
or_true true false = refl
or_true false true = refl
or_true false false = refl

or_false : (a b : Bool) → one (not a) * one (not b) ≡ one (not (a || b))
or_false true true = refl
or_false true false = refl
or_false false true = refl
or_false false false = refl

at_most_less : (x y : ℤ) → int_le x (y +ℤ negsuc 0) ≡ int_lt x y
at_most_less x y = grind (arith, ints)

at_most_itself : (x y : ℤ) → int_le x (y +ℤ pos 0) ≡ int_le x y
at_most_itself x y = grind (arith, ints)

module _ (q : Literal → Bool) where
  joined_each : (first : List Literal) (seconds : List (List Literal)) → how_many (list_all q) (map (λ second. first ++ second) seconds) ≡ one (list_all q first) * how_many (list_all q) seconds
  joined_each first [] = omega arith
  joined_each first (second ∷ seconds) =
      ap (λ b. one b + how_many (list_all q) (map (λ more. first ++ more) seconds)) (list_all-append q first second)
      ∙ each_joined (list_all q first) (list_all q second) _ (how_many (list_all q) seconds) (joined_each first seconds)

  pub both_true : (firsts seconds : List (List Literal)) → how_many (list_all q) (both firsts seconds) ≡ how_many (list_all q) firsts * how_many (list_all q) seconds
  both_true [] seconds = omega arith
  both_true (first ∷ firsts) seconds =
      how_many_append (list_all q) (map (λ second. first ++ second) seconds) (both firsts seconds)
      ∙ (λ i. joined_each first seconds i + both_true firsts seconds i)
      ∙ joined_too (list_all q first) (how_many (list_all q) seconds) (how_many (list_all q) firsts)

module _ (i : Instance) (T : List Entry) (l r : Store) (u : StoreTerm) (s : Store) (is_s : store_of i T l r u ≡ Some s) where
  decided_true : (way : Bool) (a : Atom) (b : Bool) → atom_truth i T l r a ≡ b → how_many (list_all (literal_truth i T l r)) (decided way a) ≡ one (signed way b)
  decided_true way a b e = one_alone (signed way (atom_truth i T l r a)) ∙ ap (λ c. one (signed way c)) e

  less_means : (a b : Expr) → (names_are_open a && names_are_open b) ≡ true → atom_truth i T l r (AtMost (value_at a u) (value_at b u) (negsuc 0)) ≡ int_lt (value (fill_expr i a) s) (value (fill_expr i b) s)
  unfolding atom_truth
  less_means a b h =
      (λ j. int_le (value_at_means i T l r u s is_s a (and_parts _ _ h).0 j) (value_at_means i T l r u s is_s b (and_parts _ _ h).1 j +ℤ negsuc 0))
      ∙ at_most_less (value (fill_expr i a) s) (value (fill_expr i b) s)

  less_eq_means : (a b : Expr) → (names_are_open a && names_are_open b) ≡ true → atom_truth i T l r (AtMost (value_at a u) (value_at b u) (pos 0)) ≡ int_le (value (fill_expr i a) s) (value (fill_expr i b) s)
  unfolding atom_truth
  less_eq_means a b h =
      (λ j. int_le (value_at_means i T l r u s is_s a (and_parts _ _ h).0 j) (value_at_means i T l r u s is_s b (and_parts _ _ h).1 j +ℤ pos 0))
      ∙ at_most_itself (value (fill_expr i a) s) (value (fill_expr i b) s)

  equal_means : (a b : Expr) → (names_are_open a && names_are_open b) ≡ true → atom_truth i T l r (SameValue (value_at a u) (value_at b u)) ≡ int_eq (value (fill_expr i a) s) (value (fill_expr i b) s)
  unfolding atom_truth
  equal_means a b h = λ j. int_eq (value_at_means i T l r u s is_s a (and_parts _ _ h).0 j) (value_at_means i T l r u s is_s b (and_parts _ _ h).1 j)

  holds_means : (k : ℕ) → atom_truth i T l r (Holds k u) ≡ truth (test_at i k) s
  unfolding atom_truth
  holds_means k = λ j. truth_in (is_s j) (test_at i k)

  abbrev true_outcomes : List (List Literal) → ℕ
  true_outcomes found = how_many (list_all (literal_truth i T l r)) found

  -- one outcome in the way that the filled test comes out, and none in the other
  pub one_true_outcome : (t : Test) → test_is_open t ≡ true → (way : Bool) → how_many (list_all (literal_truth i T l r)) (outcomes t way u) ≡ one (signed way (truth (fill_test i t) s))
  unfolding outcomes truth fill_test
  one_true_outcome (less a b) h way = decided_true way _ _ (less_means a b h)
  one_true_outcome (less_eq a b) h way = decided_true way _ _ (less_eq_means a b h)
  one_true_outcome (equal a b) h way = decided_true way _ _ (equal_means a b h)
  one_true_outcome (not_of t) h way = one_true_outcome t h (not way) ∙ turned way (truth (fill_test i t) s)
  one_true_outcome (and_of t v) h true =
      both_true (literal_truth i T l r) (outcomes t true u) (outcomes v true u)
      ∙ (λ j. one_true_outcome t (and_parts _ _ h).0 true j * one_true_outcome v (and_parts _ _ h).1 true j)
      ∙ and_true (truth (fill_test i t) s) (truth (fill_test i v) s)
  one_true_outcome (and_of t v) h false =
      how_many_append (list_all (literal_truth i T l r)) (outcomes t false u) (both (outcomes t true u) (outcomes v false u))
      ∙ ap (λ n. true_outcomes (outcomes t false u) + n) (both_true (literal_truth i T l r) (outcomes t true u) (outcomes v false u))
      ∙ (λ j. one_true_outcome t (and_parts _ _ h).0 false j + one_true_outcome t (and_parts _ _ h).0 true j * one_true_outcome v (and_parts _ _ h).1 false j)
      ∙ and_false (truth (fill_test i t) s) (truth (fill_test i v) s)
  one_true_outcome (or_of t v) h true =
      how_many_append (list_all (literal_truth i T l r)) (outcomes t true u) (both (outcomes t false u) (outcomes v true u))
      ∙ ap (λ n. true_outcomes (outcomes t true u) + n) (both_true (literal_truth i T l r) (outcomes t false u) (outcomes v true u))
      ∙ (λ j. one_true_outcome t (and_parts _ _ h).0 true j + one_true_outcome t (and_parts _ _ h).0 false j * one_true_outcome v (and_parts _ _ h).1 true j)
      ∙ or_true (truth (fill_test i t) s) (truth (fill_test i v) s)
  one_true_outcome (or_of t v) h false =
      both_true (literal_truth i T l r) (outcomes t false u) (outcomes v false u)
      ∙ (λ j. one_true_outcome t (and_parts _ _ h).0 false j * one_true_outcome v (and_parts _ _ h).1 false j)
      ∙ or_false (truth (fill_test i t) s) (truth (fill_test i v) s)
  one_true_outcome (par_test k) h way = decided_true way _ _ (holds_means k)

  -- .. as the lists of those that are true
  pub true_outcome : (t : Test) → test_is_open t ≡ true → (way : Bool) → signed way (truth (fill_test i t) s) ≡ true → (chosen : List Literal) × (filter (list_all (literal_truth i T l r)) (outcomes t way u) ≡ chosen ∷ [])
  true_outcome t h way e = one_passes (list_all (literal_truth i T l r)) (outcomes t way u) (one_true_outcome t h way ∙ ap one e)

  pub no_true_outcome : (t : Test) → test_is_open t ≡ true → (way : Bool) → signed way (truth (fill_test i t) s) ≡ false → filter (list_all (literal_truth i T l r)) (outcomes t way u) ≡ []
  no_true_outcome t h way e = none_pass (list_all (literal_truth i T l r)) (outcomes t way u) (one_true_outcome t h way ∙ ap one e)
