-- That some stretches stand at a point, in front of whatever comes behind a block; and the statement that holds a point.
use Rattle.std.specs.Prelude.{ℕ, ◌≡◌, ◌+◌, ◌-◌, ◌<◌, ◌≤◌, false, [], List, ◌∷◌, ◌++◌, slice_index_or}
use Rattle.toy_imp.specs.Block.{Stmt, Block, stmt, stmt_depth, block_depth}
use Rattle.toy_imp.specs.Points.{stmt_count, point_count}
use Rattle.toy_imp.specs.Faults.{has_scope}
use Rattle.path_pairs.specs.declared.locations.Way.{Way}
use Rattle.path_pairs.specs.declared.locations.Way.TheVariants.{Here, Inside}
use Rattle.path_pairs.specs.declared.stretch.Stretch as code
use Rattle.path_pairs.specs.Rests.{Rest, block_rests}
use Rattle.path_pairs.specs.Stretches.{rest_of}

-- in a block whose first point has the number n
abbrev pub Finds : ℕ → Block → ℕ → Rest → Type 0
Finds n b p found = (after : Rest) → slice_index_or (block_rests n b after) (p - n) [] ≡ found ++ after

-- the statement with the point p, whose first point has the number n, and the others behind it
pub record Holds (first : ℕ) (b : Block) (p n : ℕ) (s : Stmt) (others : Block) : Type 0 where
  pub from : n ≤ p
  pub below : p < n + stmt_count s
  pub numbered : n + (stmt_count s + point_count others) ≡ first + point_count b
  pub unscoped : has_scope (stmt s others) ≡ false
  pub smaller : stmt_depth s < block_depth b
  pub finds : (found : Rest) → Finds n (stmt s others) p found → Finds first b p found

-- a block inside with the point p, whose first point has the number n
pub record HoldsInside (first : ℕ) (b : Block) (p n : ℕ) (c : Block) : Type 0 where
  pub from : n ≤ p
  pub below : p < n + point_count c
  pub numbered : n + point_count c ≤ first + point_count b
  pub unscoped : has_scope c ≡ false
  pub smaller : block_depth c < block_depth b

-- where a way leads, in front of whatever comes behind the block
abbrev pub LeadsTo : ℕ → Block → ℕ → Way → Type 0
LeadsTo first b p (Here x) = Finds first b p (rest_of (x ∷ []))
LeadsTo first b p (Inside n c x) = HoldsInside first b p n c.now × ((found : List code.Stretch) → Finds n c.now p (rest_of found) → Finds first b p (rest_of (found ++ x ∷ [])))
