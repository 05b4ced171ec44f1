-- Blocks of more statements than a shape has, as the code sees them: lists of statements.
use Rattle.std.specs.Prelude.{◌≡◌, ◌≤◌, ℕ, List, [], ◌∷◌, length, Option, None, refl}
use Rattle.std.proofs.Common.{arith}
use Rattle.toy_imp.specs.declared.param.Param.{Param}
use Rattle.toy_imp.specs.Block.{Stmt}
use Rattle.toy_imp.specs.BlockView.{block_of}
use Rattle.loop_sides.specs.declared.shape.Loop.{Loop}
use Rattle.loop_sides.specs.declared.shape.Loops.TheVariants as loops
use Rattle.loop_sides.specs.Sides.{sole, pieces_of, nest_round, nest_in, side_of}

pub not_sole : {A : Type 0} (read : Stmt → Option A) (ss : List Stmt) → 2 ≤ length ss → None ≡ sole read (block_of ss)
unfolding sole
not_sole read [] more = absurd (omega arith)
not_sole read (s ∷ []) more = absurd (omega arith)
not_sole read (s ∷ t ∷ ss) more = refl

pub no_pieces : (ps : List Param) (counters : List ℕ) (ss : List Stmt) → 3 ≤ length ss → None ≡ pieces_of ps counters (block_of ss)
unfolding pieces_of
no_pieces ps counters [] more = absurd (omega arith)
no_pieces ps counters (s ∷ []) more = absurd (omega arith)
no_pieces ps counters (s ∷ t ∷ []) more = absurd (omega arith)
no_pieces ps counters (s ∷ t ∷ u ∷ ss) more = refl

pub no_side : (ps : List Param) (ss : List Stmt) → 3 ≤ length ss → None ≡ side_of ps (block_of ss)
unfolding side_of
no_side ps [] more = absurd (omega arith)
no_side ps (s ∷ []) more = absurd (omega arith)
no_side ps (s ∷ t ∷ []) more = absurd (omega arith)
no_side ps (s ∷ t ∷ u ∷ ss) more = refl

pub not_one : (ps : List Param) (first : Loop) (ss : List Stmt) → 2 ≤ length ss → nest_round ps (block_of ss) (loops.One first) ≡ nest_in ps first (block_of ss)
unfolding nest_in
not_one ps first [] more = absurd (omega arith)
not_one ps first (s ∷ []) more = absurd (omega arith)
not_one ps first (s ∷ t ∷ ss) more = refl
