-- What the tests of maps answer: each is true exactly where the fact holds.
use Rattle.std.specs.Prelude.{◌≡◌, ◌<◌, ◌≤◌, ℕ, zero, suc, List, length, Bool, true, false, ◌&&◌, Decides, All, slice_index_or, nat_lt, refl}
use Rattle.std.specs.Ordering.{int_eq}
use Rattle.std.specs.Cmp.Lexicographic.{pointwise}
use Rattle.std.specs.Cmp.Rules.{signed_items}
use Rattle.std.proofs.Common.{◌∙◌, ap, arith, subst, ltb-true, ltb-false}
use Rattle.std.proofs.lemmas.Bool.Decides.{same_from_decides, Decides-and, Decides-by_and, Decides-int_eq}
use Rattle.std.proofs.lemmas.List.{get_or_default}
use Rattle.affine_forms.specs.declared.form.Form.{Form}
use Rattle.affine_forms.specs.Form.{HasUnitCounters, counter_form, substitute}
use Rattle.affine_forms.specs.Maps.{Undoes}
use Rattle.loop_sides.specs.Summed.{has_units}
use Rattle.loop_sides.proofs.Tests.{at_most_decided}
use Rattle.loop_maps.specs.Maps.{no_form, same_form, is_itself, undoes, have_units}

-- ---- equality of forms
abbrev SameParts : Form → Form → Type 0
SameParts f g = (f.counters ≡ g.counters) × ((f.symbols ≡ g.symbols) × (f.constant ≡ g.constant))

parts_decided : (f g : Form) → Decides (same_form f g) (SameParts f g)
parts_decided f g =
    Decides-and (pointwise int_eq f.counters g.counters) (pointwise int_eq f.symbols g.symbols && int_eq f.constant g.constant)
    (signed_items f.counters g.counters)
    (Decides-and (pointwise int_eq f.symbols g.symbols) (int_eq f.constant g.constant) (signed_items f.symbols g.symbols) (Decides-int_eq f.constant g.constant))

whole : (f g : Form) → SameParts f g → f ≡ g
whole f g same = λ i. record { counters = same.0 i; symbols = same.1.0 i; constant = same.1.1 i }

pub same_decided : (f g : Form) → Decides (same_form f g) (f ≡ g)
same_decided f g =
    let decided = parts_decided f g in
    (λ t. whole f g (decided.0 t), λ e. decided.1 (ap (λ h. h.counters) e, (ap (λ h. h.symbols) e, ap (λ h. h.constant) e)))

-- ---- maps that undo each other
turned : (back there : List Form) (k : ℕ) (d : Form) → k < length back → substitute (slice_index_or back k no_form) there ≡ counter_form k → substitute (slice_index_or back k d) there ≡ counter_form k
turned back there k d lt is = ap (λ f. substitute f there) (get_or_default back k d no_form lt) ∙ is

undoes_at : (b : Bool) (n : ℕ) (back there : List Form) (k : ℕ) (d : Form) → suc n ≤ length back → Undoes n back there → substitute (slice_index_or back n no_form) there ≡ counter_form n →
    nat_lt k n ≡ b → k < suc n → substitute (slice_index_or back k d) there ≡ counter_form k
undoes_at true n back there k d long below last is lt = below k d (ltb-true k n is)
undoes_at false n back there k d long below last is lt =
    let same : n ≡ k = omega (arith, ltb-false k n is, lt) in
    turned back there k d (omega arith) (subst (λ j. substitute (slice_index_or back j no_form) there ≡ counter_form j) same last)

undoes_more : (n : ℕ) (back there : List Form) → suc n ≤ length back → Undoes n back there → substitute (slice_index_or back n no_form) there ≡ counter_form n → Undoes (suc n) back there
undoes_more n back there long below last k d lt = undoes_at (nat_lt k n) n back there k d long below last refl lt

pub undoes_decided : (n : ℕ) (back there : List Form) → n ≤ length back → Decides (undoes n back there) (Undoes n back there)
undoes_decided zero back there long = (λ t k d lt. absurd (omega arith), λ u. refl)
undoes_decided (suc n) back there long =
    let decided = Decides-and (undoes n back there) (is_itself back there n) (undoes_decided n back there (omega arith)) (same_decided (substitute (slice_index_or back n no_form) there) (counter_form n)) in (
      λ t. let parts = decided.0 t in undoes_more n back there long parts.0 parts.1,
      λ u. decided.1 (λ k d lt. u k d (omega arith), u n no_form (omega arith)),
    )

pub undoes_told : (n : ℕ) (back there : List Form) (r : Bool) → n ≤ length back → Decides r (Undoes n back there) → r ≡ undoes n back there
undoes_told n back there r long told = same_from_decides r (undoes n back there) told (undoes_decided n back there long)

-- ---- units
pub units_decided : (fs : List Form) → Decides (have_units fs) (All HasUnitCounters fs)
units_decided fs = Decides-by_and has_units HasUnitCounters have_units (λ f. at_most_decided 1 f.counters) refl (λ _ _. refl) fs
