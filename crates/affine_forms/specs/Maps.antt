-- Affine maps between the counters of two nests: solved from values that agree, and undoing each other.
-- A map has for each counter of one nest a form over the counters of the other (an affine schedule).
use Rattle.std.specs.Prelude.{◌≡◌, ℕ, ◌<◌, Bool, ℤ, pos, neg_ℤ, ◌-ℤ◌, ◌*ℤ◌, List, [], ◌∷◌, Option, Some, None, nat_eq, slice_index_or, if◌then◌else◌, map}
use Rattle.std.specs.Int.RustNames.{unsigned_abs}
use Rattle.affine_forms.specs.declared.form.Form.{Form}
use Rattle.affine_forms.specs.Form.{form_value, counter_form, plus_multiple, minus, scaled, without_counters, substitute}

-- the values that a map gives to the counters
abbrev pub image : List Form → List ℤ → List ℤ → List ℤ
image forms counters symbols = map (λ f. form_value f counters symbols) forms

-- the coefficient of a counter
abbrev pub coefficient : Form → ℕ → ℤ
coefficient f k = slice_index_or f.counters k (pos 0)

-- an equation with this coefficient is solved in whole numbers
abbrev pub is_unit : ℤ → Bool
is_unit z = nat_eq (unsigned_abs z) 1

-- what the counters of a form come to, where its value is that of another form
abbrev pub counter_part : Form → Form → Form
counter_part f value = minus value (without_counters f)

-- the only counter of a form, where the form has this value
unfoldable pub solved_one : Form → Form → Option Form
solved_one f value =
    if is_unit (coefficient f 0)
    then Some (scaled (coefficient f 0) (counter_part f value))
    else None

-- the determinant of the coefficients that two forms have at two counters
abbrev pub determinant : Form → Form → ℤ
determinant f g =
    (coefficient f 0 *ℤ coefficient g 1) -ℤ (coefficient f 1 *ℤ coefficient g 0)

-- d times ( a times p less b times q )
abbrev pub cross : ℤ → ℤ → Form → ℤ → Form → Form
cross d a p b q = scaled d (plus_multiple (scaled a p) (neg_ℤ b) q)

-- Cramer's rule: the first and the second counter of two forms whose counters come to p and q
abbrev pub first_counter : Form → Form → Form → Form → Form
first_counter f g p q = cross (determinant f g) (coefficient g 1) p (coefficient f 1) q

abbrev pub second_counter : Form → Form → Form → Form → Form
second_counter f g p q = cross (determinant f g) (coefficient f 0) q (coefficient g 0) p

-- the two counters of two forms, where the forms have these values
unfoldable pub solved_two : Form → Form → Form → Form → Option (List Form)
solved_two f g f_value g_value =
    if is_unit (determinant f g)
    then Some (
    first_counter f g (counter_part f f_value) (counter_part g g_value)
    ∷ second_counter f g (counter_part f f_value) (counter_part g g_value)
    ∷ [])
    else None

-- through both maps each of n counters is itself again
abbrev pub Undoes : ℕ → List Form → List Form → Type 0
Undoes n back there = (k : ℕ) (d : Form) → k < n →
    substitute (slice_index_or back k d) there ≡ counter_form k
