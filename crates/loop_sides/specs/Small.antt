-- Forms whose numbers and units are those of the bounds and values in a rule, and shapes all of whose forms are such.
use Rattle.affine_forms.specs.declared.form.Form.{Form}
use Rattle.affine_forms.specs.Form.{IsSmall, HasUnitCounters}
use Rattle.loop_sides.specs.declared.shape.Loop.{Loop}
use Rattle.loop_sides.specs.declared.shape.Loops.{Loops}
use Rattle.loop_sides.specs.declared.shape.Loops.TheVariants as loops
use Rattle.loop_sides.specs.declared.shape.Let.{Let}
use Rattle.loop_sides.specs.declared.shape.Lets.{Lets}
use Rattle.loop_sides.specs.declared.shape.Lets.TheVariants as lets
use Rattle.loop_sides.specs.declared.shape.Piece.{Piece}
use Rattle.loop_sides.specs.declared.shape.Pieces.{Pieces}
use Rattle.loop_sides.specs.declared.shape.Pieces.TheVariants as pieces
use Rattle.loop_sides.specs.declared.shape.Nest.{Nest}
use Rattle.loop_sides.specs.declared.shape.Side.{Side}
use Rattle.loop_sides.specs.declared.shape.Side.TheVariants as side
use Rattle.loop_sides.specs.declared.spots.Spot.{Spot}
use Rattle.loop_sides.specs.declared.spots.Sides.{Sides}

-- all magnitudes are below 2^31, and the coefficients of the counters are -1, 0 or 1
pub record IsAffine (f : Form) : Type 0 where
  pub small : IsSmall f
  pub units : HasUnitCounters f

abbrev pub IsAffineLet : Let → Type 0
IsAffineLet a = IsAffine a.value

abbrev pub IsAffineLets : Lets → Type 0
IsAffineLets lets.None = Unit {0}
IsAffineLets (lets.One a) = IsAffineLet a
IsAffineLets (lets.Two a b) = IsAffineLet a × IsAffineLet b

abbrev pub IsAffinePiece : Piece → Type 0
IsAffinePiece p = IsAffineLets p.lets

abbrev pub IsAffinePieces : Pieces → Type 0
IsAffinePieces (pieces.One p) = IsAffinePiece p
IsAffinePieces (pieces.Two p q) = IsAffinePiece p × IsAffinePiece q

abbrev pub IsAffineLoop : Loop → Type 0
IsAffineLoop a = IsAffine a.low × IsAffine a.high

abbrev pub IsAffineLoops : Loops → Type 0
IsAffineLoops (loops.One a) = IsAffineLoop a
IsAffineLoops (loops.Two a b) = IsAffineLoop a × IsAffineLoop b

abbrev pub IsAffineNest : Nest → Type 0
IsAffineNest n = IsAffineLoops n.loops × IsAffinePieces n.pieces

abbrev pub IsAffineSide : Side → Type 0
IsAffineSide (side.One n) = IsAffineNest n
IsAffineSide (side.Two m n) = IsAffineNest m × IsAffineNest n

-- .. of the `let`s round a statement, and of both sides
abbrev pub IsAffineSpot : Spot → Type 0
IsAffineSpot s = IsAffineLets s.lets

abbrev pub AreAffineSides : Sides → Type 0
AreAffineSides s = IsAffineSide s.left × IsAffineSide s.right
