-- The map of a statement: the counters round it on one side by those on the other, solved from the values of names that are set
-- round it on both sides; and the inverse, the same with the sides exchanged. A map has four forms, of which a nest of fewer loops
-- uses the first.
use Rattle.std.specs.Prelude.{ℕ, Bool, true, ◌&&◌, ◌==◌, nat_lt, pos, List, [], ◌∷◌, Option, None, Some, slice_index_or, if◌then◌else◌}
use Rattle.std.specs.List.{list_all}
use Rattle.std.specs.Ordering.{int_eq}
use Rattle.std.specs.Cmp.Lexicographic.{pointwise}
use Rattle.affine_forms.specs.declared.form.Form.{Form}
use Rattle.affine_forms.specs.Form.{constant_form, counter_form, substitute}
use Rattle.affine_forms.specs.Maps.{solved_one, solved_two}
use Rattle.loop_sides.specs.declared.shape.Loops.{Loops}
use Rattle.loop_sides.specs.declared.shape.Loops.TheVariants as loops
use Rattle.loop_sides.specs.declared.spots.Spot.{Spot}
use Rattle.loop_sides.specs.Below.{all_below, first_below}
use Rattle.loop_sides.specs.Spots.{value_at}
use Rattle.loop_sides.specs.Summed.{has_units}
use Rattle.loop_maps.specs.declared.maps.Maps.{Maps}

abbrev pub no_form : Form
no_form = constant_form (pos 0)

abbrev pub padded : Form → Form → List Form
padded f g = f ∷ g ∷ no_form ∷ no_form ∷ []

-- ---- solved by names that are set on both sides
unfoldable pub alone : Option Form → Option (List Form)
alone None = None
alone (Some f) = Some (padded f no_form)

unfoldable pub paired : Option (List Form) → Option (List Form)
paired (Some (f ∷ g ∷ [])) = Some (padded f g)
paired _ = None

-- by the values that one name has on both sides
unfoldable pub by_value : Option Form → Option Form → Option (List Form)
by_value (Some f) (Some value) = alone (solved_one f value)
by_value _ _ = None

abbrev pub by_name : Spot → Spot → ℕ → Option (List Form)
by_name to from x = by_value (value_at to x) (value_at from x)

-- .. and by those of two names
unfoldable pub by_values : Option Form → Option Form → Option Form → Option Form → Option (List Form)
by_values (Some f) (Some g) (Some f_value) (Some g_value) = paired (solved_two f g f_value g_value)
by_values _ _ _ _ = None

unfoldable pub by_names : Spot → Spot → ℕ → ℕ → Option (List Form)
by_names to from x y = if nat_lt x y then by_values (value_at to x) (value_at to y) (value_at from x) (value_at from y) else None

abbrev pub by_first : ℕ → Spot → Spot → ℕ → Option (List Form)
by_first n to from x = first_below (by_names to from x) n

abbrev pub map_round : ℕ → Spot → Spot → Loops → Option (List Form)
map_round n to from (loops.One a) = first_below (by_name to from) n
map_round n to from (loops.Two a b) = first_below (by_first n to from) n

-- the counters of one place by those of another, by the first of n names, or the first two, that can be solved
abbrev pub map_of : ℕ → Spot → Spot → Option (List Form)
map_of n to from = map_round n to from to.loops

-- ---- that both maps fit
abbrev pub same_form : Form → Form → Bool
same_form f g = pointwise int_eq f.counters g.counters && (pointwise int_eq f.symbols g.symbols && int_eq f.constant g.constant)

-- through both maps a counter is itself again
abbrev pub is_itself : List Form → List Form → ℕ → Bool
is_itself back there k = same_form (substitute (slice_index_or back k no_form) there) (counter_form k)

abbrev pub undoes : ℕ → List Form → List Form → Bool
undoes n back there = all_below (is_itself back there) n

-- a name that is set on both sides has one value
abbrev pub one_value : List Form → Option Form → Option Form → Bool
one_value there (Some f) (Some value) = same_form (substitute f there) value
one_value there _ _ = true

abbrev pub agrees : Spot → Spot → List Form → ℕ → Bool
agrees left right there x = one_value there (value_at right x) (value_at left x)

abbrev pub have_units : List Form → Bool
have_units fs = list_all has_units fs

abbrev pub fit : ℕ → ℕ → Spot → Spot → List Form → List Form → Bool
fit n d left right there back =
    have_units there && (have_units back && (undoes d back there && (undoes d there back && all_below (agrees left right there) n)))

abbrev pub loop_count : Loops → ℕ
loop_count (loops.One a) = 1
loop_count (loops.Two a b) = 2

unfoldable pub if_fit : ℕ → Spot → Spot → Option (List Form) → Option (List Form) → Option Maps
if_fit n left right (Some there) (Some back) =
    if fit n (loop_count left.loops) left right there back then Some (record { there = there; back = back }) else None
if_fit n left right _ _ = None

-- the map of a statement and its inverse, by n names: none where one does not exist, has other coefficients of counters than -1, 0
-- and 1, the two do not undo each other, the numbers of loops differ, or a name has two values
unfoldable pub maps_between : ℕ → Spot → Spot → Option Maps
maps_between n left right =
    if loop_count left.loops == loop_count right.loops
    then if_fit n left right (map_of n right left) (map_of n left right)
    else None
