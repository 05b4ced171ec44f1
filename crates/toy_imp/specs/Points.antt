-- The points of a side, in the words of program locations: its start, each statement parameter and each `while`, its exit.
-- A point is before its statement. Cut points, after Floyd, are chosen among them.
use Rattle.std.specs.Prelude.{ℕ, suc, ◌+◌, List, [], ◌∷◌, ◌++◌, map}
use Rattle.toy_imp.specs.Block.{Stmt, skip, put, assert_that, if_then, while_do, for_to, let_in, par_stmt, Block, empty, stmt}

-- A place in a block: the position of a statement, then which block of it, then a position in that, and so on.
-- The first block of a statement has the number 0, the second of an `if` the number 1.
abbrev pub Place : Type 0
Place = List ℕ

-- the places of the statement parameters and of the `while`s in text order, a `while` before its body
abbrev mutual
  -- of a statement: what stands behind its own place
  pub stmt_points : Stmt → List Place
  stmt_points skip = []
  stmt_points (put x is e) = []
  stmt_points (assert_that t) = []
  stmt_points (if_then t b c) = map (λ place. 0 ∷ place) (points_from 0 b) ++ map (λ place. 1 ∷ place) (points_from 0 c)
  stmt_points (while_do t b) = [] ∷ map (λ place. 0 ∷ place) (points_from 0 b)
  stmt_points (for_to x lo hi b) = map (λ place. 0 ∷ place) (points_from 0 b)
  stmt_points (let_in x e b) = map (λ place. 0 ∷ place) (points_from 0 b)
  stmt_points (par_stmt k) = [] ∷ []

  -- of a block whose first statement has this position
  pub points_from : ℕ → Block → List Place
  points_from n empty = []
  points_from n (stmt s b) = map (λ place. n ∷ place) (stmt_points s) ++ points_from (suc n) b

abbrev pub inner_points : Block → List Place
inner_points side = points_from 0 side

-- how many they are; `as_many_places` of proofs/PointPlaces.antt says that it is the length of the list
abbrev mutual
  pub stmt_count : Stmt → ℕ
  stmt_count skip = 0
  stmt_count (put x is e) = 0
  stmt_count (assert_that t) = 0
  stmt_count (if_then t b c) = point_count b + point_count c
  stmt_count (while_do t b) = suc (point_count b)
  stmt_count (for_to x lo hi b) = point_count b
  stmt_count (let_in x e b) = point_count b
  stmt_count (par_stmt k) = 1

  pub point_count : Block → ℕ
  point_count empty = 0
  point_count (stmt s b) = stmt_count s + point_count b

-- Points are numbered: the start is 0, those inside follow from 1, and the exit is the next number.
abbrev pub exit_point : Block → ℕ
exit_point side = suc (point_count side)
