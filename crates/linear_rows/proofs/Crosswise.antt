-- Products of whole numbers, crosswise: fractions of equal value, and what their products, differences and
-- quotients come to. Each fraction's value is told by a number and a denominator d, over *ℤ d ≡ number *ℤ under.
use Rattle.std.proofs.Common.{◌≡◌, ℤ, pos, negsuc, neg_ℤ, ◌+ℤ◌, ◌-ℤ◌, ◌*ℤ◌, ◌≤ℤ◌, ◌<ℤ◌, arith, refl, sym, ap, ◌∙◌}
use Rattle.std.proofs.lemmas.Int.{ints}
use Rattle.linear_rows.proofs.Products.{product_commutes, product_associates, first_exchanged, sum_times, product_of_sum, difference_times, product_of_difference, times_not_negative, not_negative_by}

-- sorts the factors of a product
ruleset factors = (product_associates, product_commutes, first_exchanged)

-- a factor's sign is the product's
pub neg_times : (a b : ℤ) → neg_ℤ a *ℤ b ≡ neg_ℤ (a *ℤ b)
neg_times a b =
    let sum = sum_times a (neg_ℤ a) b in
    let none : a +ℤ neg_ℤ a ≡ pos 0 = omega (arith, ints) in
    let zero_is : (a +ℤ neg_ℤ a) *ℤ b ≡ pos 0 = ap (λ z. z *ℤ b) none ∙ product_commutes (pos 0) b ∙ omega (arith, ints) in
    omega (arith, ints)

pub times_neg : (a b : ℤ) → a *ℤ neg_ℤ b ≡ neg_ℤ (a *ℤ b)
times_neg a b = product_commutes a (neg_ℤ b) ∙ neg_times b a ∙ ap neg_ℤ (product_commutes b a)

-- order is kept by a factor that is not negative, and one that is positive can be taken off
pub times_most : (g a b : ℤ) → pos 0 ≤ℤ g → a ≤ℤ b → (g *ℤ a) ≤ℤ (g *ℤ b)
times_most (pos c) a b positive le =
    let more : pos 0 ≤ℤ (pos c *ℤ (b -ℤ a)) = times_not_negative c (b -ℤ a) (omega (arith, ints)) in
    let parts = product_of_difference (pos c) b a in
    omega (arith, ints)
times_most (negsuc c) a b positive le = absurd (omega (arith, ints))

pub most_by : (g a b : ℤ) → pos 0 <ℤ g → (g *ℤ a) ≤ℤ (g *ℤ b) → a ≤ℤ b
most_by (pos c) a b positive le =
    let parts = product_of_difference (pos c) b a in
    let more : pos 0 ≤ℤ (b -ℤ a) = not_negative_by c (b -ℤ a) (omega (arith, ints)) (omega (arith, ints)) in
    omega (arith, ints)
most_by (negsuc c) a b positive le = absurd (omega (arith, ints))

pub same_by : (g a b : ℤ) → pos 0 <ℤ g → g *ℤ a ≡ g *ℤ b → a ≡ b
same_by g a b positive e =
    let first : a ≤ℤ b = most_by g a b positive (omega (arith, ints)) in
    let second : b ≤ℤ a = most_by g b a positive (omega (arith, ints)) in
    omega (arith, ints)

-- in lowest terms the value is the same
pub value_lowered : (g o u over under d v : ℤ) → pos 0 <ℤ g → o *ℤ g ≡ over → u *ℤ g ≡ under → over *ℤ d ≡ v *ℤ under → o *ℤ d ≡ v *ℤ u
value_lowered g o u over under d v positive o_is u_is e =
    let left : g *ℤ (o *ℤ d) ≡ (o *ℤ g) *ℤ d = simp factors refl in
    let right : v *ℤ (u *ℤ g) ≡ g *ℤ (v *ℤ u) = simp factors refl in
    same_by g (o *ℤ d) (v *ℤ u) positive (left ∙ ap (λ z. z *ℤ d) o_is ∙ e ∙ ap (λ z. v *ℤ z) (sym u_is) ∙ right)

-- a multiple
pub value_times : (a over under d v : ℤ) → over *ℤ d ≡ v *ℤ under → (a *ℤ over) *ℤ d ≡ (a *ℤ v) *ℤ under
value_times a over under d v e = product_associates a over d ∙ ap (λ z. a *ℤ z) e ∙ sym (product_associates a v under)

-- a difference
pub value_less : (so su po pu d v w : ℤ) → so *ℤ d ≡ v *ℤ su → po *ℤ d ≡ w *ℤ pu →
    ((so *ℤ pu) -ℤ (po *ℤ su)) *ℤ d ≡ (v -ℤ w) *ℤ (su *ℤ pu)
value_less so su po pu d v w s_is p_is =
    let first : (so *ℤ pu) *ℤ d ≡ pu *ℤ (so *ℤ d) = simp factors refl in
    let first' : pu *ℤ (v *ℤ su) ≡ v *ℤ (su *ℤ pu) = simp factors refl in
    let second : (po *ℤ su) *ℤ d ≡ su *ℤ (po *ℤ d) = simp factors refl in
    let second' : su *ℤ (w *ℤ pu) ≡ w *ℤ (su *ℤ pu) = simp factors refl in
    let a = first ∙ ap (λ z. pu *ℤ z) s_is ∙ first' in
    let b = second ∙ ap (λ z. su *ℤ z) p_is ∙ second' in
    difference_times (so *ℤ pu) (po *ℤ su) d ∙ (λ i. a i -ℤ b i) ∙ sym (difference_times v w (su *ℤ pu))

-- a quotient by a coefficient, which goes to the denominator
pub value_by_coefficient : (so su d v a : ℤ) → so *ℤ d ≡ v *ℤ su → so *ℤ (d *ℤ a) ≡ v *ℤ (su *ℤ a)
value_by_coefficient so su d v a e = sym (product_associates so d a) ∙ ap (λ z. z *ℤ a) e ∙ product_associates v su a

pub value_by_negative : (so su d v a : ℤ) → so *ℤ d ≡ v *ℤ su → neg_ℤ so *ℤ (d *ℤ a) ≡ v *ℤ (su *ℤ neg_ℤ a)
value_by_negative so su d v a e =
    neg_times so (d *ℤ a) ∙ ap neg_ℤ (value_by_coefficient so su d v a e)
    ∙ sym (ap (λ z. v *ℤ z) (times_neg su a) ∙ times_neg v (su *ℤ a))

-- over a denominator that has one more factor
pub value_over_more : (o u d z t : ℤ) → o *ℤ d ≡ z *ℤ u → o *ℤ (d *ℤ t) ≡ (t *ℤ z) *ℤ u
value_over_more o u d z t e =
    let left : o *ℤ (d *ℤ t) ≡ t *ℤ (o *ℤ d) = simp factors refl in
    left ∙ ap (λ y. t *ℤ y) e ∙ sym (product_associates t z u)

-- A line leaves `room` to its first variable, whose coefficient is a. A number x over t is within the line where
-- a times it, over d times t, is at most that room.

-- where the line's bound y by s is on the right side of it
pub within_bound : (a d room x t y s : ℤ) → pos 0 <ℤ s → y *ℤ (d *ℤ a) ≡ room *ℤ s →
    ((d *ℤ a) *ℤ (x *ℤ s)) ≤ℤ ((d *ℤ a) *ℤ (y *ℤ t)) → (a *ℤ (x *ℤ d)) ≤ℤ (room *ℤ t)
within_bound a d room x t y s positive y_is le =
    let left : s *ℤ (a *ℤ (x *ℤ d)) ≡ (d *ℤ a) *ℤ (x *ℤ s) = simp factors refl in
    let right : s *ℤ (room *ℤ t) ≡ t *ℤ (room *ℤ s) = simp factors refl in
    let right' : t *ℤ (y *ℤ (d *ℤ a)) ≡ (d *ℤ a) *ℤ (y *ℤ t) = simp factors refl in
    let whole = right ∙ ap (λ z. t *ℤ z) (sym y_is) ∙ right' in
    most_by s (a *ℤ (x *ℤ d)) (room *ℤ t) positive (omega (arith, ints, left, whole))

-- an upper bound, and a value that is at most the bound
pub within_upper : (a d room x t y s : ℤ) → pos 0 <ℤ s → pos 0 <ℤ d → pos 0 <ℤ a → y *ℤ (d *ℤ a) ≡ room *ℤ s →
    (x *ℤ s) ≤ℤ (y *ℤ t) → (a *ℤ (x *ℤ d)) ≤ℤ (room *ℤ t)
within_upper a d room x t y s positive d_positive a_positive y_is le =
    let least = times_most d (pos 0) a (omega (arith, ints)) (omega (arith, ints)) in
    let factor : pos 0 ≤ℤ (d *ℤ a) = omega (arith, ints, product_commutes d (pos 0)) in
    within_bound a d room x t y s positive y_is (times_most (d *ℤ a) (x *ℤ s) (y *ℤ t) factor le)

-- a lower bound, and a value that is at least the bound
pub within_lower : (a d room x t y s : ℤ) → pos 0 <ℤ s → pos 0 <ℤ d → a <ℤ pos 0 → y *ℤ (d *ℤ a) ≡ room *ℤ s →
    (y *ℤ t) ≤ℤ (x *ℤ s) → (a *ℤ (x *ℤ d)) ≤ℤ (room *ℤ t)
within_lower a d room x t y s positive d_positive a_negative y_is le =
    let least = times_most d a (pos 0) (omega (arith, ints)) (omega (arith, ints)) in
    let factor : pos 0 ≤ℤ neg_ℤ (d *ℤ a) = omega (arith, ints, product_commutes d (pos 0)) in
    let turned = times_most (neg_ℤ (d *ℤ a)) (y *ℤ t) (x *ℤ s) factor le in
    let first = neg_times (d *ℤ a) (y *ℤ t) in
    let second = neg_times (d *ℤ a) (x *ℤ s) in
    within_bound a d room x t y s positive y_is (omega (arith, ints))

-- an upper bound, and a value that is a lower bound of coefficient b, where some sum of the two lines cancels
-- the variable and leaves room
pub within_cancelled : (a b by times room other d x t : ℤ) → pos 0 <ℤ times → pos 0 <ℤ t → (by *ℤ b) +ℤ (times *ℤ a) ≡ pos 0 → x *ℤ (d *ℤ b) ≡ other *ℤ t →
    pos 0 ≤ℤ ((by *ℤ other) +ℤ (times *ℤ room)) → (a *ℤ (x *ℤ d)) ≤ℤ (room *ℤ t)
within_cancelled a b by times room other d x t positive t_positive cancels x_is le =
    let y = x *ℤ d in
    let none : ((by *ℤ b) +ℤ (times *ℤ a)) *ℤ y ≡ pos 0 = ap (λ z. z *ℤ y) cancels ∙ product_commutes (pos 0) y ∙ omega (arith, ints) in
    let parts = sum_times (by *ℤ b) (times *ℤ a) y in
    let lower : (by *ℤ b) *ℤ (x *ℤ d) ≡ by *ℤ (x *ℤ (d *ℤ b)) = simp factors refl in
    let lower' : by *ℤ (other *ℤ t) ≡ t *ℤ (by *ℤ other) = simp factors refl in
    let lower_is = lower ∙ ap (λ z. by *ℤ z) x_is ∙ lower' in
    let most = times_most t (pos 0) ((by *ℤ other) +ℤ (times *ℤ room)) (omega (arith, ints)) le in
    let most_parts = product_of_sum t (by *ℤ other) (times *ℤ room) in
    let nothing = product_commutes t (pos 0) in
    let left : times *ℤ (a *ℤ (x *ℤ d)) ≡ (times *ℤ a) *ℤ (x *ℤ d) = sym (product_associates times a (x *ℤ d)) in
    let right : times *ℤ (room *ℤ t) ≡ t *ℤ (times *ℤ room) = simp factors refl in
    most_by times (a *ℤ (x *ℤ d)) (room *ℤ t) positive (omega (arith, ints))

-- of three fractions, the first at least the second and that at least the third
pub least_by_middle : (xo xu yo yu zo zu : ℤ) → pos 0 <ℤ xu → pos 0 <ℤ yu → pos 0 <ℤ zu → (yo *ℤ xu) ≤ℤ (xo *ℤ yu) → (zo *ℤ yu) ≤ℤ (yo *ℤ zu) → (zo *ℤ xu) ≤ℤ (xo *ℤ zu)
least_by_middle xo xu yo yu zo zu x_positive y_positive z_positive first second =
    let a = times_most zu (yo *ℤ xu) (xo *ℤ yu) (omega (arith, ints)) first in
    let b = times_most xu (zo *ℤ yu) (yo *ℤ zu) (omega (arith, ints)) second in
    let middle : zu *ℤ (yo *ℤ xu) ≡ xu *ℤ (yo *ℤ zu) = simp factors refl in
    let left : yu *ℤ (zo *ℤ xu) ≡ xu *ℤ (zo *ℤ yu) = simp factors refl in
    let right : yu *ℤ (xo *ℤ zu) ≡ zu *ℤ (xo *ℤ yu) = simp factors refl in
    most_by yu (zo *ℤ xu) (xo *ℤ zu) y_positive (omega (arith, ints))
