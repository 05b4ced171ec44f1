-- A name that is set on both sides has one value: by the left counters, and by the right ones that the map gives.
use Rattle.std.specs.Prelude.{◌≡◌, ◌<◌, ℕ, zero, suc, List, Bool, true, false, ◌&&◌, ◌==◌, nat_lt, Option, None, Some, if◌then◌else◌, refl}
use Rattle.std.proofs.Common.{◌∙◌, ap, sym, subst, arith, ltb-true, ltb-false}
use Rattle.affine_forms.specs.declared.form.Form.{Form}
use Rattle.affine_forms.specs.Form.{substitute}
use Rattle.loop_sides.specs.declared.spots.Spot.{Spot}
use Rattle.loop_sides.specs.Below.{all_below}
use Rattle.loop_sides.specs.Spots.{value_at}
use Rattle.loop_maps.specs.declared.maps.Maps.{Maps}
use Rattle.loop_maps.specs.Laws.{NamesAgree}
use Rattle.loop_maps.specs.Maps.{one_value, agrees, have_units, undoes, map_of, loop_count, if_fit, maps_between}
use Rattle.loop_maps.proofs.Fits.{same_decided}
use Rattle.loop_maps.proofs.Undoing.{asked}

both : (a b : Bool) → (a && b) ≡ true → (a ≡ true) × (b ≡ true)
both true true is = (refl, refl)
both true false is = grind arith
both false b is = grind arith

passes_by : (b : Bool) (test : ℕ → Bool) (n k : ℕ) → nat_lt k n ≡ b → k < suc n → (k < n → test k ≡ true) → test n ≡ true → test k ≡ true
passes_by true test n k is lt below last = below (ltb-true k n is)
passes_by false test n k is lt below last =
    let same : n ≡ k = omega (arith, ltb-false k n is, lt) in
    subst (λ j. test j ≡ true) same last

passes : (test : ℕ → Bool) (n k : ℕ) → k < n → all_below test n ≡ true → test k ≡ true
passes test zero k lt are = absurd (omega arith)
passes test (suc n) k lt are =
    let parts = both (all_below test n) (test n) are in
    passes_by (nat_lt k n) test n k refl lt (λ below. passes test n k below parts.0) parts.1

equal_inside : (f g : Form) → Some f ≡ Some g → f ≡ g
equal_inside f g is = grind arith

agree_told : (there : List Form) (o p : Option Form) (f v : Form) → o ≡ Some f → p ≡ Some v → one_value there o p ≡ true → substitute f there ≡ v
agree_told there None p f v is value agree = grind arith
agree_told there (Some g) None f v is value agree = grind arith
agree_told there (Some g) (Some w) f v is value agree =
    ap (λ h. substitute h there) (sym (equal_inside g f is)) ∙ (same_decided (substitute g there) w).0 agree ∙ equal_inside w v value

last_chosen : (a b c d e : Bool) (m k : Maps) → (if a && (b && (c && (d && e))) then Some m else None) ≡ Some k → (e ≡ true) × (m ≡ k)
last_chosen true true true true true m k is = (refl, grind arith)
last_chosen true true true true false m k is = grind arith
last_chosen true true true false e m k is = grind arith
last_chosen true true false d e m k is = grind arith
last_chosen true false c d e m k is = grind arith
last_chosen false b c d e m k is = grind arith

agree_by : (n : ℕ) (left right : Spot) (o p : Option (List Form)) (m : Maps) → if_fit n left right o p ≡ Some m → all_below (agrees left right m.there) n ≡ true
unfolding if_fit
agree_by n left right None p m is = grind arith
agree_by n left right (Some there) None m is = grind arith
agree_by n left right (Some there) (Some back) m is =
    let d = loop_count left.loops in
    let told = last_chosen (have_units there) (have_units back) (undoes d back there) (undoes d there back) (all_below (agrees left right there) n) (record { there = there; back = back }) m is in
    subst (λ (k : Maps). all_below (agrees left right k.there) n ≡ true) told.1 told.0

pub names_agree : NamesAgree
unfolding maps_between
names_agree n left right m x f v is lt there here =
    agree_told m.there (value_at right x) (value_at left x) f v there here
    (passes (agrees left right m.there) n x lt
    (agree_by n left right (map_of n right left) (map_of n left right) m
    (asked (loop_count left.loops == loop_count right.loops) (if_fit n left right (map_of n right left) (map_of n left right)) m is)))
