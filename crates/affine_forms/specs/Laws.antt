-- Laws of the values of forms.
use Rattle.std.specs.Prelude.{◌≡◌, ℕ, ◌<◌, ◌≤◌, ℤ, pos, ◌+ℤ◌, ◌*ℤ◌, List, length, All, slice_index_or}
use Rattle.affine_forms.specs.declared.form.Form.{Form}
use Rattle.affine_forms.specs.Form.{form_value, IsForm, constant_form, counter_form, symbol_form, plus_multiple, substitute}
use Rattle.affine_forms.specs.Maps.{image, Undoes}

abbrev pub ConstantIsItself : Type 0
ConstantIsItself = (z : ℤ) (xs cs : List ℤ) → form_value (constant_form z) xs cs ≡ z

abbrev pub CounterIsItsValue : Type 0
CounterIsItsValue = (k : ℕ) (xs cs : List ℤ) → k < 4 →
    form_value (counter_form k) xs cs ≡ slice_index_or xs k (pos 0)

abbrev pub SymbolIsItsValue : Type 0
SymbolIsItsValue = (k : ℕ) (xs cs : List ℤ) → k < 8 →
    form_value (symbol_form k) xs cs ≡ slice_index_or cs k (pos 0)

-- the value of a form and a multiple of another is the one value and the multiple of the other
abbrev pub MultipleIsAdded : Type 0
MultipleIsAdded = (f g : Form) (times : ℤ) (xs cs : List ℤ) → IsForm f → IsForm g →
    form_value (plus_multiple f times g) xs cs ≡ form_value f xs cs +ℤ (times *ℤ form_value g xs cs)

-- a form with forms for its counters has the value of the form at their values
abbrev pub SubstitutedIsAtImage : Type 0
SubstitutedIsAtImage = (f : Form) (by : List Form) (xs cs : List ℤ) → IsForm f → All IsForm by →
    form_value (substitute f by) xs cs ≡ form_value f (image by xs cs) cs

-- maps of which one undoes the other give each counter back
abbrev pub UndoneIsBack : Type 0
UndoneIsBack = (n : ℕ) (back there : List Form) (xs cs : List ℤ) →
    All IsForm back → All IsForm there → n ≤ 4 → n ≤ length back →
    Undoes n back there → (k : ℕ) (d : Form) → k < n →
    form_value (slice_index_or back k d) (image there xs cs) cs ≡ slice_index_or xs k (pos 0)
