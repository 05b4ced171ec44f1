-- The truth of an atom, and the fact of stores, values or names that it stands for, one from the other.
use Rattle.std.specs.Prelude.{◌≡◌, ◌≢◌, ℕ, Bool, true, false, ℤ, ◌+ℤ◌, ◌≤ℤ◌, List, Option, Some, None, is_some, int_le, refl}
use Rattle.std.proofs.Common.{sym, ◌∙◌, ap, subst, true≢false, arith}
use Rattle.std.proofs.lemmas.Bool.{false_from_ne_true}
use Rattle.std.proofs.lemmas.Int.{ints}
use Rattle.std.specs.Ordering.{int_eq, is_eq}
use Rattle.std.specs.declared.cmp.Ordering.{Ordering}
use Rattle.std.specs.declared.cmp.Ordering.TheVariants.{Less, Equal, Greater}
use Rattle.std.proofs.lemmas.Cmp.{int_eq_equiv}
use Rattle.std.specs.FinMap as map
use Rattle.toy_imp.specs.declared.instance.Instance.{Instance}
use Rattle.toy_imp.specs.Cell.{spelled}
use Rattle.toy_imp.specs.Store.{Store}
use Rattle.toy_imp.specs.Fill.{name_at, test_at}
use Rattle.rule_terms.specs.Term.{StoreTerm, ValueTerm}
use Rattle.rule_terms.specs.declared.obligation.Atom.TheVariants.{SameName, SameStore, SameValue, AtMost, Ends, Holds}
use Rattle.term_meaning.specs.Table.{Entry}
use Rattle.term_meaning.specs.MaybeStore.{truth_in}
use Rattle.term_meaning.specs.Meaning.{store_of, value_of, atom_truth}
use Rattle.term_meaning.proofs.SameStores.{option_equal, option_from, bytes_equal, bytes_from}

tied : (r : Ordering) → is_eq r ≡ true → r ≡ Equal
tied Less e = cc
tied Equal e = refl
tied Greater e = cc

-- whole numbers
pub int_equal : (a b : ℤ) → int_eq a b ≡ true → a ≡ b
int_equal a b e = map.int_cmp-IsAntisymmetric a b (tied _ e)

pub int_from : (a b : ℤ) → a ≡ b → int_eq a b ≡ true
int_from a b e = subst (λ x. int_eq a x ≡ true) e (int_eq_equiv.refl a)

pub int_least : (a b : ℤ) → int_le a b ≡ true → a ≤ℤ b
int_least a b e = grind (arith, ints)

pub int_least_from : (a b : ℤ) → a ≤ℤ b → int_le a b ≡ true
int_least_from a b e = grind (arith, ints)

-- what is not true is false
refuted : (b : Bool) {P : Type 0} → (b ≡ true → P) → (P → ⊥) → b ≡ false
refuted b from h = false_from_ne_true b (λ e. h (from e))

refutes : (b : Bool) {P : Type 0} → (P → b ≡ true) → b ≡ false → P → ⊥
refutes b to e p = true≢false (sym (to p) ∙ e)

module _ (i : Instance) (T : List Entry) (l r : Store) where
  pub names_equal : (x y : ℕ) → atom_truth i T l r (SameName x y) ≡ true → spelled (name_at i x) ≡ spelled (name_at i y)
  unfolding atom_truth
  names_equal x y e = bytes_equal _ _ e

  pub names_from : (x y : ℕ) → spelled (name_at i x) ≡ spelled (name_at i y) → atom_truth i T l r (SameName x y) ≡ true
  unfolding atom_truth
  names_from x y e = bytes_from _ _ e

  pub names_differ : (x y : ℕ) → atom_truth i T l r (SameName x y) ≡ false → spelled (name_at i x) ≢ spelled (name_at i y)
  names_differ x y e = refutes (atom_truth i T l r (SameName x y)) (names_from x y) e

  pub names_apart : (x y : ℕ) → spelled (name_at i x) ≢ spelled (name_at i y) → atom_truth i T l r (SameName x y) ≡ false
  names_apart x y h = refuted (atom_truth i T l r (SameName x y)) (names_equal x y) h

  pub stores_equal : (a b : StoreTerm) → atom_truth i T l r (SameStore a b) ≡ true → store_of i T l r a ≡ store_of i T l r b
  unfolding atom_truth
  stores_equal a b e = option_equal _ _ e

  pub stores_from : (a b : StoreTerm) → store_of i T l r a ≡ store_of i T l r b → atom_truth i T l r (SameStore a b) ≡ true
  unfolding atom_truth
  stores_from a b e = option_from _ _ e

  pub stores_differ : (a b : StoreTerm) → atom_truth i T l r (SameStore a b) ≡ false → store_of i T l r a ≢ store_of i T l r b
  stores_differ a b e = refutes (atom_truth i T l r (SameStore a b)) (stores_from a b) e

  pub values_equal : (a b : ValueTerm) → atom_truth i T l r (SameValue a b) ≡ true → value_of i T l r a ≡ value_of i T l r b
  unfolding atom_truth
  values_equal a b e = int_equal _ _ e

  pub values_from : (a b : ValueTerm) → value_of i T l r a ≡ value_of i T l r b → atom_truth i T l r (SameValue a b) ≡ true
  unfolding atom_truth
  values_from a b e = int_from _ _ e

  pub values_differ : (a b : ValueTerm) → atom_truth i T l r (SameValue a b) ≡ false → value_of i T l r a ≢ value_of i T l r b
  values_differ a b e = refutes (atom_truth i T l r (SameValue a b)) (values_from a b) e

  pub at_most : (a b : ValueTerm) (c : ℤ) → atom_truth i T l r (AtMost a b c) ≡ true → value_of i T l r a ≤ℤ (value_of i T l r b +ℤ c)
  unfolding atom_truth
  at_most a b c e = int_least _ _ e

  pub at_most_from : (a b : ValueTerm) (c : ℤ) → value_of i T l r a ≤ℤ (value_of i T l r b +ℤ c) → atom_truth i T l r (AtMost a b c) ≡ true
  unfolding atom_truth
  at_most_from a b c h = int_least_from _ _ h

  -- `ends` and `holds` are tests of the store that the term means
  pub ends_is : (s : StoreTerm) → atom_truth i T l r (Ends s) ≡ is_some (store_of i T l r s)
  unfolding atom_truth
  ends_is s = refl

  pub holds_is : (k : ℕ) (s : StoreTerm) → atom_truth i T l r (Holds k s) ≡ truth_in (store_of i T l r s) (test_at i k)
  unfolding atom_truth
  holds_is k s = refl

-- there is a store
pub store_there : (o : Option Store) → is_some o ≡ true → (s : Store) × (o ≡ Some s)
store_there None e = absurd (true≢false (sym e))
store_there (Some s) e = (s, refl)

pub no_store : (o : Option Store) → is_some o ≡ false → o ≡ None
no_store None e = refl
no_store (Some s) e = absurd (true≢false e)

pub there_from : (o : Option Store) (s : Store) → o ≡ Some s → is_some o ≡ true
there_from o s e = ap is_some e
