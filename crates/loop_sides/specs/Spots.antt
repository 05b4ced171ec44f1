-- Where a statement stands on a side: the loops and the `let`s round it, and the values that these give to names, as forms in the
-- counters of its nest. Both sides of a rule of loops have the same statements, each once.
use Rattle.std.specs.Prelude.{ℕ, Bool, not, ◌+◌, ◌==◌, ◌&&◌, nat_le, List, length, count_by, Option, None, Some, if◌then◌else◌}
use Rattle.std.specs.List.{list_any}
use Rattle.std.specs.Option.{option_or}
use Rattle.toy_imp.specs.declared.param.Kind.TheVariants as kind
use Rattle.toy_imp.specs.declared.param.Param.{Param}
use Rattle.toy_imp.specs.declared.rule.Rule.{Rule}
use Rattle.toy_imp.specs.Faults.{kind_is}
use Rattle.affine_forms.specs.declared.form.Form.{Form}
use Rattle.affine_forms.specs.Form.{counter_form}
use Rattle.loop_sides.specs.declared.shape.Loop.{Loop}
use Rattle.loop_sides.specs.declared.shape.Loops.{Loops}
use Rattle.loop_sides.specs.declared.shape.Loops.TheVariants as loops
use Rattle.loop_sides.specs.declared.shape.Let.{Let}
use Rattle.loop_sides.specs.declared.shape.Lets.{Lets}
use Rattle.loop_sides.specs.declared.shape.Lets.TheVariants as lets
use Rattle.loop_sides.specs.declared.shape.Piece.{Piece}
use Rattle.loop_sides.specs.declared.shape.Pieces.{Pieces}
use Rattle.loop_sides.specs.declared.shape.Pieces.TheVariants as pieces
use Rattle.loop_sides.specs.declared.shape.Nest.{Nest}
use Rattle.loop_sides.specs.declared.shape.Side.{Side}
use Rattle.loop_sides.specs.declared.shape.Side.TheVariants as side
use Rattle.loop_sides.specs.declared.spots.Spot.{Spot}
use Rattle.loop_sides.specs.declared.spots.Sides.{Sides}
use Rattle.loop_sides.specs.Below.{all_below}
use Rattle.loop_sides.specs.Sides.{side_of}

-- ---- the place of a statement
unfoldable pub piece_spot : ℕ → Loops → Piece → Option Spot
piece_spot k round p = if p.statement == k then Some (record { loops = round; lets = p.lets }) else None

abbrev pub pieces_spot : ℕ → Loops → Pieces → Option Spot
pieces_spot k round (pieces.One p) = piece_spot k round p
pieces_spot k round (pieces.Two p q) = option_or (piece_spot k round p) (piece_spot k round q)

abbrev pub nest_spot : ℕ → Nest → Option Spot
nest_spot k n = pieces_spot k n.loops n.pieces

abbrev pub spot_of : ℕ → Side → Option Spot
spot_of k (side.One n) = nest_spot k n
spot_of k (side.Two m n) = option_or (nest_spot k m) (nest_spot k n)

-- ---- the value of a name there: that of its innermost `let` or loop
unfoldable pub let_value : Let → ℕ → Option Form
let_value a x = if a.name == x then Some a.value else None

abbrev pub lets_value : Lets → ℕ → Option Form
lets_value lets.None x = None
lets_value (lets.One a) x = let_value a x
lets_value (lets.Two a b) x = option_or (let_value b x) (let_value a x)

unfoldable pub counter_value : ℕ → Loop → ℕ → Option Form
counter_value place a x = if a.counter == x then Some (counter_form place) else None

abbrev pub loops_value : Loops → ℕ → Option Form
loops_value (loops.One a) x = counter_value 0 a x
loops_value (loops.Two a b) x = option_or (counter_value 0 a x) (counter_value 1 b x)

abbrev pub value_at : Spot → ℕ → Option Form
value_at spot x = option_or (lets_value spot.lets x) (loops_value spot.loops x)

-- ---- the sides of a rule
-- how often a statement stands on a side
abbrev pub piece_count : ℕ → Piece → ℕ
piece_count k p = if p.statement == k then 1 else 0

abbrev pub pieces_count : ℕ → Pieces → ℕ
pieces_count k (pieces.One p) = piece_count k p
pieces_count k (pieces.Two p q) = piece_count k p + piece_count k q

abbrev pub count : ℕ → Side → ℕ
count k (side.One n) = pieces_count k n.pieces
count k (side.Two m n) = pieces_count k m.pieces + pieces_count k n.pieces

-- a statement stands once on both sides, or on neither
abbrev pub stands_alike : Side → Side → ℕ → Bool
stands_alike left right k = count k left == count k right && nat_le (count k left) 1

-- a rule of loops has no tests, and at most eight expressions
abbrev pub has_loop_params : List Param → Bool
has_loop_params ps = not (list_any (λ p. kind_is kind.Test p.kind) ps) && nat_le (count_by (λ p. kind_is kind.Expr p.kind) ps) 8

unfoldable pub sides_with : ℕ → Option Side → Option Side → Option Sides
sides_with n (Some l) (Some r) = if all_below (stands_alike l r) n then Some (record { left = l; right = r }) else None
sides_with n _ _ = None

-- both sides of a rule, none where it is not in the form of rules of loops
unfoldable pub sides_of : Rule → Option Sides
sides_of rule =
    if has_loop_params rule.params
    then sides_with (length rule.params) (side_of rule.params rule.left) (side_of rule.params rule.right)
    else None
