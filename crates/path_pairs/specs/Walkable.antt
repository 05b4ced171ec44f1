-- Stretches that are walked over: 32 bits number their points, each name is a parameter, and there is no `for` and no `let`.
use Rattle.std.specs.Prelude.{ℕ, ◌≡◌, ◌+◌, ◌^◌, ◌<◌, true, false, [], ◌∷◌}
use Rattle.toy_imp.specs.Block.{Stmt, Block, stmt}
use Rattle.toy_imp.specs.Points.{stmt_count, point_count}
use Rattle.toy_imp.specs.Faults.{has_scope}
use Rattle.path_pairs.specs.Open.{block_is_open}
use Rattle.path_pairs.specs.Rests.{Rest, stretch}
use Rattle.path_pairs.specs.Stretches.{from_next}

pub record IsWalkable (n : ℕ) (b : Block) : Type 0 where
  pub numbered : n + point_count b < 2 ^ 32
  pub opened : block_is_open b ≡ true
  pub unscoped : has_scope b ≡ false

abbrev pub AreWalkable : Rest → Type 0
AreWalkable [] = Unit {0}
AreWalkable (stretch n b ∷ rest) = IsWalkable n b × AreWalkable rest

-- The statement s stands next, whose first point has the number n and behind which the numbers go on with m.
pub record IsStanding (rest : Rest) (n : ℕ) (s : Stmt) (m : ℕ) (others : Block) (here behind : Rest) : Type 0 where
  pub stands : from_next rest ≡ stretch n (stmt s others) ∷ behind
  pub from_here : from_next rest ≡ here
  pub next : m ≡ n + stmt_count s
  pub walkable : IsWalkable n (stmt s others)
  pub others_walkable : IsWalkable m others
  pub behind_walkable : AreWalkable behind
