-- What the map of a statement and its inverse are good for.
use Rattle.std.specs.Prelude.{◌≡◌, ◌<◌, ℕ, Some}
use Rattle.affine_forms.specs.declared.form.Form.{Form}
use Rattle.affine_forms.specs.Form.{substitute}
use Rattle.affine_forms.specs.Maps.{Undoes}
use Rattle.loop_sides.specs.declared.spots.Spot.{Spot}
use Rattle.loop_sides.specs.Spots.{value_at}
use Rattle.loop_maps.specs.declared.maps.Maps.{Maps}
use Rattle.loop_maps.specs.Maps.{loop_count, maps_between}

-- through one map and the other each counter is itself again
abbrev pub MapsUndo : Type 0
MapsUndo = (n : ℕ) (left right : Spot) (m : Maps) → maps_between n left right ≡ Some m →
    Undoes (loop_count left.loops) m.back m.there × Undoes (loop_count left.loops) m.there m.back

-- a name that is set on both sides has at the right counters that the map gives the value that it has at the left ones
abbrev pub NamesAgree : Type 0
NamesAgree = (n : ℕ) (left right : Spot) (m : Maps) (x : ℕ) (f v : Form) → maps_between n left right ≡ Some m → x < n →
    value_at right x ≡ Some f → value_at left x ≡ Some v → substitute f m.there ≡ v
