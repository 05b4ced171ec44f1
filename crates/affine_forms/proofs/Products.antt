-- Products over whole numbers of any size: they commute, associate and distribute over sums and differences.
use Rattle.std.specs.Prelude.{◌≡◌, zero, suc, ℤ, pos, negsuc, ◌+ℤ◌, ◌-ℤ◌, ◌*ℤ◌}
use Rattle.std.proofs.Common.{sym, ◌∙◌, ap, arith}
use Rattle.std.proofs.lemmas.Int.{ints}
use lib.IntN.{suc_ℤ, pred_ℤ, suc_ℤ-*ℤ, pred_ℤ-*ℤ, suc_ℤ-+ℤ, pred_ℤ-+ℤ, zero-*ℤ, +ℤ_idl, *ℤ_comm}

-- a number is 0, or one more or one less than a number nearer to 0
by_steps : (P : ℤ → Type 0) → P (pos zero) → ((z : ℤ) → P z → P (suc_ℤ z)) → ((z : ℤ) → P z → P (pred_ℤ z)) → (z : ℤ) → P z
by_steps P none up down (pos zero) = none
by_steps P none up down (pos (suc n)) = up (pos n) (by_steps P none up down (pos n))
by_steps P none up down (negsuc zero) = down (pos zero) none
by_steps P none up down (negsuc (suc n)) = down (negsuc n) (by_steps P none up down (negsuc n))

pub product_commutes : (a b : ℤ) → a *ℤ b ≡ b *ℤ a
product_commutes a b = *ℤ_comm a b

regroup : (a b c d : ℤ) → a ≡ (c +ℤ d) → (a +ℤ b) ≡ ((c +ℤ b) +ℤ d)
regroup a b c d e = omega (arith, ints)

regroup_down : (a b c d : ℤ) → a ≡ (c +ℤ d) → (a -ℤ b) ≡ ((c -ℤ b) +ℤ d)
regroup_down a b c d e = omega (arith, ints)

sum_none : (b c : ℤ) → (pos zero +ℤ b) *ℤ c ≡ (pos zero *ℤ c) +ℤ (b *ℤ c)
sum_none b c = ap (λ z. z *ℤ c) (+ℤ_idl b) ∙ sym (ap (λ z. z +ℤ (b *ℤ c)) (zero-*ℤ c) ∙ +ℤ_idl (b *ℤ c))

sum_up : (b c z : ℤ) → (z +ℤ b) *ℤ c ≡ (z *ℤ c) +ℤ (b *ℤ c) → (suc_ℤ z +ℤ b) *ℤ c ≡ (suc_ℤ z *ℤ c) +ℤ (b *ℤ c)
sum_up b c z known =
    ap (λ y. y *ℤ c) (suc_ℤ-+ℤ z b) ∙ suc_ℤ-*ℤ (z +ℤ b) c ∙ regroup _ c _ _ known ∙ sym (ap (λ y. y +ℤ (b *ℤ c)) (suc_ℤ-*ℤ z c))

sum_down : (b c z : ℤ) → (z +ℤ b) *ℤ c ≡ (z *ℤ c) +ℤ (b *ℤ c) → (pred_ℤ z +ℤ b) *ℤ c ≡ (pred_ℤ z *ℤ c) +ℤ (b *ℤ c)
sum_down b c z known =
    ap (λ y. y *ℤ c) (pred_ℤ-+ℤ z b) ∙ pred_ℤ-*ℤ (z +ℤ b) c ∙ regroup_down _ c _ _ known ∙ sym (ap (λ y. y +ℤ (b *ℤ c)) (pred_ℤ-*ℤ z c))

pub sum_times : (a b c : ℤ) → (a +ℤ b) *ℤ c ≡ (a *ℤ c) +ℤ (b *ℤ c)
sum_times a b c = by_steps (λ z. (z +ℤ b) *ℤ c ≡ (z *ℤ c) +ℤ (b *ℤ c)) (sum_none b c) (sum_up b c) (sum_down b c) a

pub product_of_sum : (a b c : ℤ) → a *ℤ (b +ℤ c) ≡ (a *ℤ b) +ℤ (a *ℤ c)
product_of_sum a b c = *ℤ_comm a (b +ℤ c) ∙ sum_times b c a ∙ omega (arith, ints, *ℤ_comm a b, *ℤ_comm a c)

-- a difference is the number that the other sum is made of
taken : (x y z : ℤ) → x ≡ (y +ℤ z) → y ≡ (x -ℤ z)
taken x y z e = omega (arith, ints)

put_back : (a b : ℤ) → a ≡ ((a -ℤ b) +ℤ b)
put_back a b = omega (arith, ints)

pub difference_times : (a b c : ℤ) → (a -ℤ b) *ℤ c ≡ (a *ℤ c) -ℤ (b *ℤ c)
difference_times a b c = taken (a *ℤ c) _ (b *ℤ c) (ap (λ z. z *ℤ c) (put_back a b) ∙ sum_times (a -ℤ b) b c)

pub product_of_difference : (a b c : ℤ) → a *ℤ (b -ℤ c) ≡ (a *ℤ b) -ℤ (a *ℤ c)
product_of_difference a b c = *ℤ_comm a (b -ℤ c) ∙ difference_times b c a ∙ omega (arith, ints, *ℤ_comm a b, *ℤ_comm a c)

product_none : (b c : ℤ) → (pos zero *ℤ b) *ℤ c ≡ pos zero *ℤ (b *ℤ c)
product_none b c = ap (λ z. z *ℤ c) (zero-*ℤ b) ∙ zero-*ℤ c ∙ sym (zero-*ℤ (b *ℤ c))

product_up : (b c z : ℤ) → (z *ℤ b) *ℤ c ≡ z *ℤ (b *ℤ c) → (suc_ℤ z *ℤ b) *ℤ c ≡ suc_ℤ z *ℤ (b *ℤ c)
product_up b c z known =
    ap (λ y. y *ℤ c) (suc_ℤ-*ℤ z b) ∙ sum_times (z *ℤ b) b c ∙ ap (λ y. y +ℤ (b *ℤ c)) known ∙ sym (suc_ℤ-*ℤ z (b *ℤ c))

product_down : (b c z : ℤ) → (z *ℤ b) *ℤ c ≡ z *ℤ (b *ℤ c) → (pred_ℤ z *ℤ b) *ℤ c ≡ pred_ℤ z *ℤ (b *ℤ c)
product_down b c z known =
    ap (λ y. y *ℤ c) (pred_ℤ-*ℤ z b) ∙ difference_times (z *ℤ b) b c ∙ ap (λ y. y -ℤ (b *ℤ c)) known ∙ sym (pred_ℤ-*ℤ z (b *ℤ c))

pub product_associates : (a b c : ℤ) → (a *ℤ b) *ℤ c ≡ a *ℤ (b *ℤ c)
product_associates a b c = by_steps (λ z. (z *ℤ b) *ℤ c ≡ z *ℤ (b *ℤ c)) (product_none b c) (product_up b c) (product_down b c) a
