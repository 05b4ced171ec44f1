-- What the tests of forms answer: each is true exactly where the fact holds.
use Rattle.std.specs.Prelude.{◌≡◌, ◌≤◌, ℕ, ℤ, pos, List, Bool, Decides, All, nat_le, refl}
use Rattle.std.specs.Int.RustNames.{unsigned_abs}
use Rattle.std.specs.Ordering.{int_eq}
use Rattle.std.proofs.Common.{leb-true, le-leb}
use Rattle.std.proofs.lemmas.Bool.Decides.{same_from_decides, Decides-by_and, Decides-and, Decides-int_eq}
use Rattle.affine_forms.specs.declared.form.Form.{Form}
use Rattle.affine_forms.specs.Form.{IsAtMost, IsSmall, HasUnitCounters, IsConstant}
use Rattle.loop_sides.specs.Summed.{are_at_most, is_small, has_units, are_zero, is_constant}

Decides-leb : (a b : ℕ) → Decides (nat_le a b) (a ≤ b)
Decides-leb a b = (leb-true a b, le-leb a b)

pub at_most_decided : (most : ℕ) (zs : List ℤ) → Decides (are_at_most most zs) (All (IsAtMost most) zs)
at_most_decided most zs = Decides-by_and (λ z. nat_le (unsigned_abs z) most) (IsAtMost most) (are_at_most most) (λ z. Decides-leb (unsigned_abs z) most) refl (λ _ _. refl) zs

pub zero_decided : (zs : List ℤ) → Decides (are_zero zs) (All (λ z. z ≡ pos 0) zs)
zero_decided zs = Decides-by_and (λ z. int_eq z (pos 0)) (λ z. z ≡ pos 0) are_zero (λ z. Decides-int_eq z (pos 0)) refl (λ _ _. refl) zs

abbrev Parts : ℕ → Form → Type 0
Parts m f = All (IsAtMost m) f.counters × (All (IsAtMost m) f.symbols × IsAtMost m f.constant)

parts_decided : (f : Form) → Decides (is_small f) (Parts 2147483647 f)
parts_decided f =
    Decides-and _ _ (at_most_decided 2147483647 f.counters)
    (Decides-and _ _ (at_most_decided 2147483647 f.symbols) (Decides-leb (unsigned_abs f.constant) 2147483647))

pub small_decided : (f : Form) → Decides (is_small f) (IsSmall f)
small_decided f =
    let decided = parts_decided f in (
      λ is. let parts = decided.0 is in record { counters = parts.0; symbols = parts.1.0; constant = parts.1.1 },
      λ small. decided.1 (small.counters, (small.symbols, small.constant)),
    )

pub constant_decided : (f : Form) → Decides (is_constant f) (IsConstant f)
constant_decided f =
    let decided = Decides-and _ _ (zero_decided f.counters) (zero_decided f.symbols) in (
      λ is. let parts = decided.0 is in record { counters = parts.0; symbols = parts.1 },
      λ constant. decided.1 (constant.counters, constant.symbols),
    )

-- a test of the code answers as the definition
pub small_told : (f : Form) (r : Bool) → Decides r (IsSmall f) → r ≡ is_small f
small_told f r told = same_from_decides r (is_small f) told (small_decided f)

pub units_told : (f : Form) (r : Bool) → Decides r (HasUnitCounters f) → r ≡ has_units f
units_told f r told = same_from_decides r (has_units f) told (at_most_decided 1 f.counters)

pub constant_told : (f : Form) (r : Bool) → Decides r (IsConstant f) → r ≡ is_constant f
constant_told f r told = same_from_decides r (is_constant f) told (constant_decided f)
