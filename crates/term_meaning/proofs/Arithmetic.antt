-- The laws of sums, products and differences of value terms.
use Rattle.std.specs.Prelude.{◌≡◌, ℤ, pos, ◌+ℤ◌, ◌-ℤ◌, ◌*ℤ◌, List}
use Rattle.std.proofs.Common.{◌∙◌, ap, ap₂, arith}
use Rattle.std.proofs.lemmas.Int.{ints}
use lib.IntN.{suc_ℤ-*ℤ, zero-*ℤ, *ℤ_comm, +ℤ_idl}
use Rattle.toy_imp.specs.declared.instance.Instance.{Instance}
use Rattle.toy_imp.specs.Store.{Store}
use Rattle.rule_terms.specs.Term.{ValueTerm, num, add, sub, mul}
use Rattle.term_meaning.specs.Table.{Entry}
use Rattle.term_meaning.specs.Meaning.{value_of}

sums : (a b c d : ℤ) → a ≡ d → b ≡ c → (a +ℤ b) ≡ (c +ℤ d)
sums a b c d e f = omega (arith, ints)

products : (a b c d : ℤ) → a ≡ d → b ≡ c → (a *ℤ b) ≡ (c *ℤ d)
products a b c d e f = ap₂ ◌*ℤ◌ e f ∙ *ℤ_comm d c

sum_none : (a b : ℤ) → b ≡ pos 0 → (a +ℤ b) ≡ a
sum_none a b e = omega (arith, ints)

none_sum : (a b : ℤ) → a ≡ pos 0 → (a +ℤ b) ≡ b
none_sum a b e = omega (arith, ints)

none_product : (a b : ℤ) → a ≡ pos 0 → (a *ℤ b) ≡ pos 0
none_product a b e = ap (λ z. z *ℤ b) e ∙ zero-*ℤ b

product_none : (a b : ℤ) → b ≡ pos 0 → (a *ℤ b) ≡ pos 0
product_none a b e = *ℤ_comm a b ∙ none_product b a e

one_times : (b : ℤ) → (pos 1 *ℤ b) ≡ b
one_times b = suc_ℤ-*ℤ (pos 0) b ∙ ap (λ z. z +ℤ b) (zero-*ℤ b) ∙ +ℤ_idl b

one_product : (a b : ℤ) → a ≡ pos 1 → (a *ℤ b) ≡ b
one_product a b e = ap (λ z. z *ℤ b) e ∙ one_times b

product_one : (a b : ℤ) → b ≡ pos 1 → (a *ℤ b) ≡ a
product_one a b e = *ℤ_comm a b ∙ one_product b a e

no_difference : (a b : ℤ) → a ≡ b → (a -ℤ b) ≡ pos 0
no_difference a b e = omega (arith, ints)

module _ (i : Instance) (T : List Entry) (l r : Store) where
  pub sums_alike : (a b c d : ValueTerm) → value_of i T l r a ≡ value_of i T l r d → value_of i T l r b ≡ value_of i T l r c → value_of i T l r (add a b) ≡ value_of i T l r (add c d)
  unfolding value_of
  sums_alike a b c d e f = sums _ _ _ _ e f

  pub products_alike : (a b c d : ValueTerm) → value_of i T l r a ≡ value_of i T l r d → value_of i T l r b ≡ value_of i T l r c → value_of i T l r (mul a b) ≡ value_of i T l r (mul c d)
  unfolding value_of
  products_alike a b c d e f = products _ _ _ _ e f

  module _ (a b : ValueTerm) where
    pub sum_with_zero : value_of i T l r b ≡ value_of i T l r (num (pos 0)) → value_of i T l r (add a b) ≡ value_of i T l r a
    unfolding value_of
    sum_with_zero e = sum_none _ _ e

    pub zero_in_sum : value_of i T l r a ≡ value_of i T l r (num (pos 0)) → value_of i T l r (add a b) ≡ value_of i T l r b
    unfolding value_of
    zero_in_sum e = none_sum _ _ e

    pub zero_times : value_of i T l r a ≡ value_of i T l r (num (pos 0)) → value_of i T l r (mul a b) ≡ value_of i T l r (num (pos 0))
    unfolding value_of
    zero_times e = none_product _ _ e

    pub times_zero : value_of i T l r b ≡ value_of i T l r (num (pos 0)) → value_of i T l r (mul a b) ≡ value_of i T l r (num (pos 0))
    unfolding value_of
    times_zero e = product_none _ _ e

    pub one_times_is : value_of i T l r a ≡ value_of i T l r (num (pos 1)) → value_of i T l r (mul a b) ≡ value_of i T l r b
    unfolding value_of
    one_times_is e = one_product _ _ e

    pub times_one : value_of i T l r b ≡ value_of i T l r (num (pos 1)) → value_of i T l r (mul a b) ≡ value_of i T l r a
    unfolding value_of
    times_one e = product_one _ _ e

    pub difference_of_equals : value_of i T l r a ≡ value_of i T l r b → value_of i T l r (sub a b) ≡ value_of i T l r (num (pos 0))
    unfolding value_of
    difference_of_equals e = no_difference _ _ e
