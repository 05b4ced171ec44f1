-- What an answer shows: a point that meets the rows, or a cycle that refutes them.
-- Either is no larger than the number of variables.
use Rattle.std.specs.Prelude.{◌≡◌, ℕ, ℤ, ◌≤◌, ◌^◌, List, length, All}
use Rattle.diff_prover.specs.declared.row.DiffRow.{DiffRow}
use Rattle.diff_prover.specs.declared.answer.DiffAnswer.{DiffAnswer}
use Rattle.diff_prover.specs.declared.answer.DiffAnswer.TheVariants.{Point, Cycle}
use Rattle.diff_prover.specs.Row.{IsWithin, Meets, assignment}
use Rattle.diff_prover.specs.Cycle.{IsNegativeCycle}

-- n numbers of magnitude at most 2^81 that meet the rows
pub record IsPoint (n : ℕ) (rows : List DiffRow) (point : List ℤ) : Type 0 where
  pub count : length point ≡ n
  pub magnitude : All (IsWithin (2 ^ 81)) point
  pub meets : Meets (assignment point) rows

-- at most n rows that make a cycle with a negative sum
pub record IsRefutation (n : ℕ) (rows : List DiffRow) (places : List ℕ) : Type 0 where
  pub count : length places ≤ n
  pub cycle : IsNegativeCycle rows places

-- the answer is right
abbrev pub Answers : ℕ → List DiffRow → DiffAnswer → Type 0
Answers n rows (Point point) = IsPoint n rows point
Answers n rows (Cycle places) = IsRefutation n rows places
