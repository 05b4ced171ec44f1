-- What kind of statement stands next at a point: all that is asked where points are compared.
-- The kinds of all points stand in one list, in order; `point_kinds_are` of proofs/KindsOfPoints.antt says that it is theirs.
use Rattle.std.specs.Prelude.{ℕ, ◌==◌, Bool, true, false, cond, List, [], ◌∷◌, ◌++◌, flat_map, slice_index_or}
use Rattle.toy_imp.specs.Block.{Stmt, skip, put, assert_that, if_then, while_do, for_to, let_in, par_stmt, Block, empty, stmt}
use Rattle.rule_terms.specs.declared.path.Path.{Path}
use Rattle.rule_terms.specs.declared.path.Stop.{Stop}
use Rattle.rule_terms.specs.declared.path.Stop.TheVariants.{At}
use Rattle.entry_pairs.specs.declared.point_kinds.PointKind.{PointKind}
use Rattle.entry_pairs.specs.declared.point_kinds.PointKind.TheVariants.{Loop, Par, Other}
use Rattle.entry_pairs.specs.declared.point_kinds.PointTable.{PointTable}
use Rattle.path_pairs.specs.Rests.{Rest, stretch}

abbrev pub stmt_kind : Stmt → PointKind
stmt_kind (while_do t b) = Loop
stmt_kind (par_stmt k) = Par k
stmt_kind _ = Other

-- of what stands at a point
abbrev pub rest_kind : Rest → PointKind
rest_kind (stretch n (stmt a b) ∷ rest) = stmt_kind a
rest_kind _ = Other

-- of the points inside, in text order
abbrev mutual
  pub stmt_kinds : Stmt → List PointKind
  stmt_kinds skip = []
  stmt_kinds (put x is e) = []
  stmt_kinds (assert_that t) = []
  stmt_kinds (if_then t b c) = block_kinds b ++ block_kinds c
  stmt_kinds (while_do t b) = Loop ∷ block_kinds b
  stmt_kinds (for_to x lo hi b) = []
  stmt_kinds (let_in x e b) = []
  stmt_kinds (par_stmt k) = Par k ∷ []

  pub block_kinds : Block → List PointKind
  block_kinds empty = []
  block_kinds (stmt s b) = stmt_kinds s ++ block_kinds b

-- of the start, where the first statement stands
abbrev pub start_kind : Block → PointKind
start_kind empty = Other
start_kind (stmt s b) = stmt_kind s

-- of the points before the exit
abbrev pub point_kinds : Block → List PointKind
point_kinds side = start_kind side ∷ block_kinds side

abbrev pub kind_at : List PointKind → ℕ → PointKind
kind_at kinds p = slice_index_or kinds p Other

-- both are statement parameters of one number, or both are `while`s
abbrev pub alike_kinds : PointKind → PointKind → Bool
alike_kinds (Par j) (Par k) = j == k
alike_kinds Loop Loop = true
alike_kinds _ _ = false

-- the pair at which two paths stop where its points are alike, and all such pairs of one path and of many
abbrev pub stops_meet : PointTable → Stop → Stop → List (ℕ × ℕ)
stops_meet table (At p) (At q) = cond (alike_kinds (kind_at table.left p) (kind_at table.right q)) ((p, q) ∷ []) []
stops_meet table _ _ = []

unfoldable pub right_meetings : PointTable → Stop → List Path → List (ℕ × ℕ)
right_meetings table l rights = flat_map (λ r. stops_meet table l r.stop) rights

unfoldable pub meetings : PointTable → List Path → List Path → List (ℕ × ℕ)
meetings table lefts rights = flat_map (λ l. right_meetings table l.stop rights) lefts
