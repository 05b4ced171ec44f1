-- Equality of forms as the derived test answers it, and what is so at each place below a number.
use Rattle.std.specs.Prelude.{◌≡◌, Bool, true, ◌&&◌}
use Rattle.std.proofs.Common.{ap, sym, ◌∙◌, int_eq}
use Rattle.std.specs.Cmp.Lexicographic.{pointwise}
use Rattle.std.specs.Cmp.Rules.{signed_items}
use Rattle.std.proofs.lemmas.Bool.Decides.{Decides-and, Decides-int_eq}
use Rattle.affine_forms.specs.declared.form.Form.{Form}

abbrev SameParts : Form → Form → Type 0
SameParts f g = (f.counters ≡ g.counters) × ((f.symbols ≡ g.symbols) × (f.constant ≡ g.constant))

whole : (f g : Form) → SameParts f g → f ≡ g
whole f g same = λ i. record { counters = same.0 i; symbols = same.1.0 i; constant = same.1.1 i }

parts : (f g : Form) → f ≡ g → SameParts f g
parts f g same = (ap (λ h. h.counters) same, (ap (λ h. h.symbols) same, ap (λ h. h.constant) same))

pub equal : (f g h : Form) (r : Bool) →
    r ≡ (pointwise int_eq f.counters g.counters && (pointwise int_eq f.symbols g.symbols && int_eq f.constant g.constant)) →
    g ≡ h → (r ≡ true → f ≡ h) × (f ≡ h → r ≡ true)
equal f g h r is same =
    let decided = Decides-and (pointwise int_eq f.counters g.counters) (pointwise int_eq f.symbols g.symbols && int_eq f.constant g.constant)
    (signed_items f.counters g.counters)
    (Decides-and (pointwise int_eq f.symbols g.symbols) (int_eq f.constant g.constant) (signed_items f.symbols g.symbols) (Decides-int_eq f.constant g.constant)) in
    ((λ t. whole f g (decided.0 (sym is ∙ t)) ∙ same), (λ e. is ∙ decided.1 (parts f g (e ∙ sym same))))
