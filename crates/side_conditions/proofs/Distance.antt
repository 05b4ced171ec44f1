-- An index `k + c` is c from the variable k, in every store.
use Rattle.std.specs.Prelude.{◌≡◌, ℕ, ℤ, pos, neg_ℤ, ◌+ℤ◌, ◌-ℤ◌, Bool, true, false, cond, List, [], Option, Some, None, bytes_eq, refl}
use Rattle.std.specs.Option.{option_map}
use Rattle.std.proofs.Common.{sym, ◌∙◌, ap, ap₂, arith, true≢false}
use Rattle.std.proofs.lemmas.Int.{ints}
use Rattle.std.proofs.lemmas.Slice.Eq.{bytes_eq-Decides}
use Rattle.toy_imp.specs.Cell.{spelled}
use Rattle.toy_imp.specs.Store.{Store, read}
use Rattle.toy_imp.specs.Value.{value}
use Rattle.toy_imp.specs.Expr.{Expr, num, at, add, sub, mul, par_expr, no_exprs, expr}
use Rattle.side_conditions.proofs.Sufficing.{first_yes, second_yes}
use Rattle.side_conditions.specs.Offsets.{is_variable, constant_of, offset_of, OffsetTells}

module _ (k : List ℕ) (s : Store) where
  variable_value : (e : Expr) → is_variable k e ≡ true → value e s ≡ read s (k, [])
  unfolding value
  variable_value (at x no_exprs) h = ap (λ y. read s (y, [])) ((bytes_eq-Decides (spelled x) k).0 (first_yes _ _ h))
  variable_value (at x (expr e es)) h = absurd (true≢false (sym (second_yes (bytes_eq (spelled x) k) _ h)))
  variable_value (num z) h = absurd (true≢false (sym h))
  variable_value (add a b) h = absurd (true≢false (sym h))
  variable_value (sub a b) h = absurd (true≢false (sym h))
  variable_value (mul a b) h = absurd (true≢false (sym h))
  variable_value (par_expr j) h = absurd (true≢false (sym h))

  number_or : ℤ → Option ℤ → ℤ
  number_or d (Some z) = z
  number_or d None = d

  constant_value : (e : Expr) (c : ℤ) → constant_of e ≡ Some c → value e s ≡ c
  unfolding value number_or
  constant_value (num z) c h = ap (number_or z) h
  constant_value (at x es) c h = cc
  constant_value (add a b) c h = cc
  constant_value (sub a b) c h = cc
  constant_value (mul a b) c h = cc
  constant_value (par_expr j) c h = cc

  negative_value : (e : Expr) (c : ℤ) → option_map neg_ℤ (constant_of e) ≡ Some c → neg_ℤ (value e s) ≡ c
  unfolding value number_or
  negative_value (num z) c h = ap (number_or z) h
  negative_value (at x es) c h = cc
  negative_value (add a b) c h = cc
  negative_value (sub a b) c h = cc
  negative_value (mul a b) c h = cc
  negative_value (par_expr j) c h = cc

  at_variable : (e : Expr) (b : Bool) (c : ℤ) → is_variable k e ≡ b → cond b (Some (pos 0)) None ≡ Some c → value e s ≡ read s (k, []) +ℤ c
  unfolding number_or
  at_variable e true c v h = let zero_is : pos 0 ≡ c = ap (number_or c) h in let same = variable_value e v in omega (arith, ints)
  at_variable e false c v h = cc

  of_sum : (a b : Expr) (p q : Bool) (c : ℤ) → is_variable k a ≡ p → is_variable k b ≡ q
      → cond p (constant_of b) (cond q (constant_of a) None) ≡ Some c → (value a s +ℤ value b s) ≡ read s (k, []) +ℤ c
  of_sum a b true q c v w h = let first = variable_value a v in let second = constant_value b c h in omega (arith, ints)
  of_sum a b false true c v w h = let first = variable_value b w in let second = constant_value a c h in omega (arith, ints)
  of_sum a b false false c v w h = cc

  of_difference : (a b : Expr) (p : Bool) (c : ℤ) → is_variable k a ≡ p
      → cond p (option_map neg_ℤ (constant_of b)) None ≡ Some c → (value a s -ℤ value b s) ≡ read s (k, []) +ℤ c
  of_difference a b true c v h = let first = variable_value a v in let second = negative_value b c h in omega (arith, ints)
  of_difference a b false c v h = cc

pub offset_tells : OffsetTells
unfolding value
offset_tells k (num z) c h s = cc
offset_tells k (at x es) c h s = at_variable k s (at x es) (is_variable k (at x es)) c refl h
offset_tells k (add a b) c h s = of_sum k s a b (is_variable k a) (is_variable k b) c refl refl h
offset_tells k (sub a b) c h s = of_difference k s a b (is_variable k a) c refl h
offset_tells k (mul a b) c h s = cc
offset_tells k (par_expr j) c h s = cc
