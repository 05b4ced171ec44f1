-- The shape of a side of a rule of loops: one or two nests of one or two loops round one or two pieces. A piece is a statement
-- parameter, or one or two `let`s round it. Bounds and values are affine forms in the counters and the symbols.
use Rattle.std.specs.Prelude.{ℕ, ◌==◌, List, [], ◌∷◌, Option, Some, None, option_map, option_and_then, if◌then◌else◌}
use Rattle.toy_imp.specs.declared.name.Name.{Name}
use Rattle.toy_imp.specs.declared.name.Name.TheVariants.{Own, Par}
use Rattle.toy_imp.specs.declared.param.Kind.TheVariants as kind
use Rattle.toy_imp.specs.declared.param.Param.{Param}
use Rattle.toy_imp.specs.Faults.{has_kind}
use Rattle.toy_imp.specs.Expr.{Expr}
use Rattle.toy_imp.specs.Block.{Stmt, for_to, let_in, par_stmt, Block, empty, stmt}
use Rattle.affine_forms.specs.declared.form.Form.{Form}
use Rattle.loop_sides.specs.declared.shape.Loop.{Loop}
use Rattle.loop_sides.specs.declared.shape.Loops.{Loops}
use Rattle.loop_sides.specs.declared.shape.Loops.TheVariants as loops
use Rattle.loop_sides.specs.declared.shape.Let.{Let}
use Rattle.loop_sides.specs.declared.shape.Lets.{Lets}
use Rattle.loop_sides.specs.declared.shape.Lets.TheVariants as lets
use Rattle.loop_sides.specs.declared.shape.Piece.{Piece}
use Rattle.loop_sides.specs.declared.shape.Pieces.{Pieces}
use Rattle.loop_sides.specs.declared.shape.Pieces.TheVariants as pieces
use Rattle.loop_sides.specs.declared.shape.Nest.{Nest}
use Rattle.loop_sides.specs.declared.shape.Side.{Side}
use Rattle.loop_sides.specs.declared.shape.Side.TheVariants as side
use Rattle.loop_sides.specs.Summed.{affine}

-- the number of a name that is a parameter
unfoldable pub name_number : List Param → Name → Option ℕ
name_number ps (Own x) = None
name_number ps (Par k) = if has_kind ps kind.Name k then Some k else None

-- ---- pieces
unfoldable pub let_with : Option ℕ → Option Form → Option Let
let_with (Some k) (Some f) = Some (record { name = k; value = f })
let_with _ _ = None

-- a `let` of a name parameter, whose value may not read the counter that an enclosing `let` renames
abbrev pub let_of : List Param → List ℕ → Option ℕ → Name → Expr → Option Let
let_of ps counters renamed x e = let_with (name_number ps x) (affine ps counters renamed e)

-- what the only statement of a block gives
unfoldable pub sole : {A : Type 0} → (Stmt → Option A) → Block → Option A
sole read empty = None
sole read (stmt s empty) = read s
sole read (stmt s (stmt t b)) = None

-- a statement parameter inside these `let`s
unfoldable pub inner_piece : List Param → Lets → Stmt → Option Piece
inner_piece ps round (par_stmt k) = if has_kind ps kind.Stmt k then Some (record { lets = round; statement = k }) else None
inner_piece ps round _ = None

-- .. or inside one more
unfoldable pub piece_in : List Param → List ℕ → Let → Stmt → Option Piece
piece_in ps counters first (let_in x e b) =
    option_and_then (λ second. sole (inner_piece ps (lets.Two first second)) b) (let_of ps counters (Some first.name) x e)
piece_in ps counters first s = inner_piece ps (lets.One first) s

unfoldable pub piece_of : List Param → List ℕ → Stmt → Option Piece
piece_of ps counters (let_in x e b) = option_and_then (λ first. sole (piece_in ps counters first) b) (let_of ps counters None x e)
piece_of ps counters s = inner_piece ps lets.None s

unfoldable pub two_pieces : Option Piece → Option Piece → Option Pieces
two_pieces (Some p) (Some q) = Some (pieces.Two p q)
two_pieces _ _ = None

unfoldable pub pieces_of : List Param → List ℕ → Block → Option Pieces
pieces_of ps counters empty = None
pieces_of ps counters (stmt s empty) = option_map pieces.One (piece_of ps counters s)
pieces_of ps counters (stmt s (stmt t empty)) = two_pieces (piece_of ps counters s) (piece_of ps counters t)
pieces_of ps counters (stmt s (stmt t (stmt u b))) = None

-- ---- nests
unfoldable pub loop_with : Option ℕ → Option Form → Option Form → Option Loop
loop_with (Some k) (Some f) (Some g) = Some (record { counter = k; low = f; high = g })
loop_with _ _ _ = None

-- a loop over a name parameter, inside the loops of these counters
abbrev pub loop_of : List Param → List ℕ → Name → Expr → Expr → Option Loop
loop_of ps counters x low high = loop_with (name_number ps x) (affine ps counters None low) (affine ps counters None high)

-- the counters, outermost first
abbrev pub counters_of : Loops → List ℕ
counters_of (loops.One a) = a.counter ∷ []
counters_of (loops.Two a b) = a.counter ∷ b.counter ∷ []

-- two loops have different counters
unfoldable pub two_loops : Loop → Loop → Option Loops
two_loops a b = if a.counter == b.counter then None else Some (loops.Two a b)

abbrev pub nest_round : List Param → Block → Loops → Option Nest
nest_round ps b round = option_map (λ inside. record { loops = round; pieces = inside }) (pieces_of ps (counters_of round) b)

-- the only statement of the first loop's body, which is all of this block, may be a second loop
unfoldable pub nest_by : List Param → Loop → Block → Stmt → Option Nest
nest_by ps first b (for_to x low high inside) =
    option_and_then (λ second. option_and_then (nest_round ps inside) (two_loops first second)) (loop_of ps (first.counter ∷ []) x low high)
nest_by ps first b s = nest_round ps b (loops.One first)

unfoldable pub nest_in : List Param → Loop → Block → Option Nest
nest_in ps first empty = None
nest_in ps first (stmt s empty) = nest_by ps first (stmt s empty) s
nest_in ps first (stmt s (stmt t b)) = nest_round ps (stmt s (stmt t b)) (loops.One first)

unfoldable pub nest_of : List Param → Stmt → Option Nest
nest_of ps (for_to x low high b) = option_and_then (λ first. nest_in ps first b) (loop_of ps [] x low high)
nest_of ps _ = None

-- ---- sides
unfoldable pub two_nests : Option Nest → Option Nest → Option Side
two_nests (Some m) (Some n) = Some (side.Two m n)
two_nests _ _ = None

unfoldable pub side_of : List Param → Block → Option Side
side_of ps empty = None
side_of ps (stmt s empty) = option_map side.One (nest_of ps s)
side_of ps (stmt s (stmt t empty)) = two_nests (nest_of ps s) (nest_of ps t)
side_of ps (stmt s (stmt t (stmt u b))) = None
