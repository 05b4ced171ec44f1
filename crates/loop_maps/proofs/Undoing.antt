-- A map has four forms, and through a map and its inverse each counter is itself again.
use Rattle.std.specs.Prelude.{◌≡◌, ◌≤◌, ℕ, zero, suc, List, [], ◌∷◌, length, nat_lt, slice_index_or, Bool, true, false, ◌&&◌, ◌==◌, Option, None, Some, if◌then◌else◌, refl}
use Rattle.std.specs.Option.{option_or}
use Rattle.std.proofs.Common.{subst, arith}
use Rattle.affine_forms.specs.declared.form.Form.{Form}
use Rattle.affine_forms.specs.Maps.{solved_one, solved_two, Undoes}
use Rattle.loop_sides.specs.declared.shape.Loops.{Loops}
use Rattle.loop_sides.specs.declared.shape.Loops.TheVariants as loops
use Rattle.loop_sides.specs.declared.spots.Spot.{Spot}
use Rattle.loop_sides.specs.Below.{first_below}
use Rattle.loop_sides.specs.Spots.{value_at}
use Rattle.loop_maps.specs.declared.maps.Maps.{Maps}
use Rattle.loop_maps.specs.Laws.{MapsUndo}
use Rattle.loop_maps.specs.Maps.{no_form, padded, alone, paired, by_value, by_values, by_names, map_round, map_of, undoes, have_units, loop_count, if_fit, maps_between}
use Rattle.loop_maps.proofs.Fits.{undoes_decided}

-- ---- a map has four forms
abbrev HasFour : Option (List Form) → Type 0
HasFour o = (fs : List Form) → o ≡ Some fs → length fs ≡ 4

none_four : HasFour None
none_four fs is = grind arith

some_four : (gs : List Form) → length gs ≡ 4 → HasFour (Some gs)
some_four gs long fs is = grind (arith, long)

alone_four : (o : Option Form) → HasFour (alone o)
unfolding alone
alone_four None = none_four
alone_four (Some f) = some_four (padded f no_form) refl

paired_four : (o : Option (List Form)) → HasFour (paired o)
unfolding paired
paired_four None = none_four
paired_four (Some []) = none_four
paired_four (Some (f ∷ [])) = none_four
paired_four (Some (f ∷ g ∷ [])) = some_four (padded f g) refl
paired_four (Some (f ∷ g ∷ h ∷ fs)) = none_four

-- a pair of forms, by its places
pub pair_told : (fs : List Form) (d e : Form) → length fs ≡ 2 → paired (Some fs) ≡ Some (padded (slice_index_or fs 0 d) (slice_index_or fs 1 e))
unfolding paired
pair_told [] d e long = absurd (omega arith)
pair_told (f ∷ []) d e long = absurd (omega arith)
pair_told (f ∷ g ∷ []) d e long = refl
pair_told (f ∷ g ∷ h ∷ fs) d e long = absurd (omega arith)

value_four : (o p : Option Form) → HasFour (by_value o p)
unfolding by_value
value_four None p = none_four
value_four (Some f) None = none_four
value_four (Some f) (Some v) = alone_four (solved_one f v)

values_four : (o p q r : Option Form) → HasFour (by_values o p q r)
unfolding by_values
values_four None p q r = none_four
values_four (Some f) None q r = none_four
values_four (Some f) (Some g) None r = none_four
values_four (Some f) (Some g) (Some v) None = none_four
values_four (Some f) (Some g) (Some v) (Some w) = paired_four (solved_two f g v w)

if_four : (b : Bool) (o : Option (List Form)) → HasFour o → HasFour (if b then o else None)
if_four true o four = four
if_four false o four = none_four

names_four : (to from : Spot) (x y : ℕ) → HasFour (by_names to from x y)
unfolding by_names
names_four to from x y = if_four (nat_lt x y) _ (values_four (value_at to x) (value_at to y) (value_at from x) (value_at from y))

or_four : (o p : Option (List Form)) → HasFour o → HasFour p → HasFour (option_or o p)
or_four None p first second = second
or_four (Some gs) p first second = first

below_four : (give : ℕ → Option (List Form)) → ((k : ℕ) → HasFour (give k)) → (n : ℕ) → HasFour (first_below give n)
below_four give four zero = none_four
below_four give four (suc n) = or_four (first_below give n) (give n) (below_four give four n) (four n)

map_four : (n : ℕ) (to from : Spot) (l : Loops) → HasFour (map_round n to from l)
map_four n to from (loops.One a) = below_four _ (λ x. value_four (value_at to x) (value_at from x)) n
map_four n to from (loops.Two a b) = below_four _ (λ x. below_four _ (names_four to from x) n) n

-- ---- what the tests of two maps tell
chosen : (a b c d e : Bool) (m k : Maps) → (if a && (b && (c && (d && e))) then Some m else None) ≡ Some k → (c ≡ true) × ((d ≡ true) × (m ≡ k))
chosen true true true true true m k is = (refl, (refl, grind arith))
chosen true true true true false m k is = grind arith
chosen true true true false e m k is = grind arith
chosen true true false d e m k is = grind arith
chosen true false c d e m k is = grind arith
chosen false b c d e m k is = grind arith

few_loops : (l : Loops) → loop_count l ≤ 4
few_loops (loops.One a) = omega arith
few_loops (loops.Two a b) = omega arith

fit_tells : (n : ℕ) (left right : Spot) (o p : Option (List Form)) (m : Maps) → HasFour o → HasFour p → if_fit n left right o p ≡ Some m →
    Undoes (loop_count left.loops) m.back m.there × Undoes (loop_count left.loops) m.there m.back
unfolding if_fit
fit_tells n left right None p m four other is = grind arith
fit_tells n left right (Some there) None m four other is = grind arith
fit_tells n left right (Some there) (Some back) m four other is =
    let d = loop_count left.loops in
    let told = chosen (have_units there) (have_units back) (undoes d back there) (undoes d there back) _ (record { there = there; back = back }) m is in
    let few = few_loops left.loops in
    let there_long : length there ≡ 4 = four there refl in
    let back_long : length back ≡ 4 = other back refl in
    subst (λ (k : Maps). Undoes d k.back k.there × Undoes d k.there k.back) told.1.1
    ((undoes_decided d back there (omega (arith, few, back_long))).0 told.0, (undoes_decided d there back (omega (arith, few, there_long))).0 told.1.0)

pub asked : (b : Bool) (o : Option Maps) (m : Maps) → (if b then o else None) ≡ Some m → o ≡ Some m
asked true o m is = is
asked false o m is = grind arith

pub maps_undo : MapsUndo
unfolding maps_between
maps_undo n left right m is =
    fit_tells n left right (map_of n right left) (map_of n left right) m (map_four n right left right.loops) (map_four n left right left.loops)
    (asked (loop_count left.loops == loop_count right.loops) (if_fit n left right (map_of n right left) (map_of n left right)) m is)
