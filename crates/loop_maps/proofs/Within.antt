-- How large the forms of a map are at most, which is solved from values of a rule.
use Rattle.std.specs.Prelude.{◌≡◌, ◌+◌, ◌^◌, ℕ, zero, suc, ℤ, pos, negsuc, neg_ℤ, List, [], ◌∷◌, Bool, true, false, None, Some, IfSome, All, slice_index_or, if◌then◌else◌, refl}
use Rattle.std.specs.Int.RustNames.{unsigned_abs}
use Rattle.std.proofs.Common.{arith, eqb-true}
use Rattle.affine_forms.specs.declared.form.Form.{Form}
use Rattle.affine_forms.specs.Form.{IsAtMost, IsWithin, plus_multiple, scaled, without_counters}
use Rattle.affine_forms.specs.Maps.{coefficient, is_unit, counter_part, solved_one, determinant, cross, solved_two}
use Rattle.affine_forms.proofs.Magnitudes.{products_within, sum_within, without_within, wider, scaled_within, negative_at_most}
use Rattle.loop_sides.specs.Small.{IsAffine}

at_any : (m : ℕ) (zs : List ℤ) (k : ℕ) → All (IsAtMost m) zs → IsAtMost m (slice_index_or zs k (pos 0))
at_any m [] k are = omega arith
at_any m (z ∷ zs) zero are = are zero (pos 0) (omega arith)
at_any m (z ∷ zs) (suc k) are = at_any m zs k (λ j d lt. are (suc j) d (omega arith))

unit_at_most : (z : ℤ) → is_unit z ≡ true → IsAtMost 1 z
unit_at_most z is = let one : unsigned_abs z ≡ 1 = eqb-true (unsigned_abs z) 1 is in omega (arith, one)

part_within : (f v : Form) → IsAffine f → IsAffine v → IsWithin (2 ^ 32) (counter_part f v)
part_within f v form value =
    let rest = without_within 2147483647 f form.small in
    let products = products_within 1 2147483647 2147483647 (negsuc 0) (without_counters f) (omega arith) rest (omega arith) in
    wider (2147483647 + 2147483647) (2 ^ 32) (counter_part f v) (omega arith) (sum_within 2147483647 2147483647 v (without_counters f) (negsuc 0) value.small products)

one_by : (b : Bool) (f v : Form) → is_unit (coefficient f 0) ≡ b → IsAffine f → IsAffine v →
    IfSome (if b then Some (scaled (coefficient f 0) (counter_part f v)) else None) (IsWithin (2 ^ 40))
one_by true f v is form value =
    wider (2 ^ 32) (2 ^ 40) (scaled (coefficient f 0) (counter_part f v)) (omega arith)
    (scaled_within (2 ^ 32) (coefficient f 0) (counter_part f v) (unit_at_most (coefficient f 0) is) (part_within f v form value))
one_by false f v is form value = tt

pub one_within : (f v : Form) → IsAffine f → IsAffine v → IfSome (solved_one f v) (IsWithin (2 ^ 40))
unfolding solved_one
one_within f v form value = one_by (is_unit (coefficient f 0)) f v refl form value

cross_within : (d a b : ℤ) (p q : Form) → IsAtMost 1 d → IsAtMost 1 a → IsAtMost 1 b → IsWithin (2 ^ 32) p → IsWithin (2 ^ 32) q → IsWithin (2 ^ 40) (cross d a p b q)
cross_within d a b p q sign first second p_is q_is =
    let products = products_within 1 (2 ^ 32) (2 ^ 32) (neg_ℤ b) q (negative_at_most b second) q_is (omega arith) in
    let inside = sum_within (2 ^ 32) (2 ^ 32) (scaled a p) q (neg_ℤ b) (scaled_within (2 ^ 32) a p first p_is) products in
    wider (2 ^ 32 + 2 ^ 32) (2 ^ 40) (cross d a p b q) (omega arith) (scaled_within (2 ^ 32 + 2 ^ 32) d (plus_multiple (scaled a p) (neg_ℤ b) q) sign inside)

both : (f g : Form) → IsWithin (2 ^ 40) f → IsWithin (2 ^ 40) g → All (IsWithin (2 ^ 40)) (f ∷ g ∷ [])
both f g first second zero d lt = first
both f g first second (suc zero) d lt = second
both f g first second (suc (suc k)) d lt = absurd (omega arith)

two_by : (b : Bool) (f g v w : Form) → is_unit (determinant f g) ≡ b → IsAffine f → IsAffine g → IsAffine v → IsAffine w →
    IfSome (if b then Some (cross (determinant f g) (coefficient g 1) (counter_part f v) (coefficient f 1) (counter_part g w)
    ∷ cross (determinant f g) (coefficient f 0) (counter_part g w) (coefficient g 0) (counter_part f v) ∷ []) else None) (All (IsWithin (2 ^ 40)))
two_by true f g v w is first second first_value second_value =
    let sign = unit_at_most (determinant f g) is in
    let p = part_within f v first first_value in
    let q = part_within g w second second_value in
    both _ _
    (cross_within (determinant f g) (coefficient g 1) (coefficient f 1) (counter_part f v) (counter_part g w) sign (at_any 1 g.counters 1 second.units) (at_any 1 f.counters 1 first.units) p q)
    (cross_within (determinant f g) (coefficient f 0) (coefficient g 0) (counter_part g w) (counter_part f v) sign (at_any 1 f.counters 0 first.units) (at_any 1 g.counters 0 second.units) q p)
two_by false f g v w is first second first_value second_value = tt

pub two_within : (f g v w : Form) → IsAffine f → IsAffine g → IsAffine v → IsAffine w → IfSome (solved_two f g v w) (All (IsWithin (2 ^ 40)))
unfolding solved_two
two_within f g v w first second first_value second_value = two_by (is_unit (determinant f g)) f g v w refl first second first_value second_value
