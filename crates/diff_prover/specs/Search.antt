-- What the search keeps: the values so far, the row that set each value, and the walk along such rows.
-- A variable's parent is the row that set its value last; one that has no parent still has the value 0.
use Rattle.std.specs.Prelude.{◌≡◌, ℕ, ℤ, pos, neg_ℤ, ◌+ℤ◌, ◌≤ℤ◌, ◌<ℤ◌, ◌-◌, ◌<◌, ◌≤◌, ◌^◌, nat_lt, List, [], length, drop, slice_index_or, slice_index, All, Option, Some, None, sum_by, count_by, unsigned_abs}
use Rattle.diff_prover.specs.declared.row.DiffRow.{DiffRow}
use Rattle.diff_prover.specs.declared.lowering.Lowered.{Lowered}
use Rattle.diff_prover.specs.declared.lowering.Lowered.TheVariants.{Nowhere, Somewhere, Below}
use Rattle.diff_prover.specs.Row.{IsWithin, Meets, assignment}
use Rattle.diff_prover.specs.Answer.{IsPoint, IsRefutation}
use Rattle.diff_prover.specs.Cycle.{IsWalk, IsCycle, row_at, rows_at}

-- the place of the row that set a variable's value, if any did
abbrev pub parent_of : List (Option ℕ) → ℕ → Option ℕ
parent_of parents variable = slice_index_or parents variable None

-- the left variable is no lower than the row asks, and where it is exactly there the right variable has a lower rank
pub record IsTight (values : List ℤ) (rank : ℕ → ℕ) (row : DiffRow) : Type 0 where
  pub reaches : (assignment values row.right +ℤ row.by) ≤ℤ assignment values row.left
  pub earlier : assignment values row.right +ℤ row.by ≡ assignment values row.left →
      rank row.right < rank row.left

-- a row of the system with this left variable, and tight
pub record Explains (rows : List DiffRow) (values : List ℤ) (rank : ℕ → ℕ) (variable place : ℕ) : Type 0 where
  pub in_range : place < length rows
  pub left : (row_at rows place).left ≡ variable
  pub tight : IsTight values rank (row_at rows place)

-- each of the n values is 0 or is explained by the variable's parent, under some ranks
pub record AreExplained (n : ℕ) (rows : List DiffRow) (values : List ℤ) (parents : List (Option ℕ)) : Type 0 where
  pub count : length values ≡ n
  pub parent_count : length parents ≡ n
  pub rank : ℕ → ℕ
  pub root : (variable : ℕ) → parent_of parents variable ≡ None → assignment values variable ≡ pos 0
  pub parent : (variable place : ℕ) → parent_of parents variable ≡ Some place → Explains rows values rank variable place

-- how far a value is from -2^81
abbrev pub height : ℤ → ℕ
height value = unsigned_abs (value +ℤ pos (2 ^ 81))

-- a variable whose value is below -2^81
abbrev pub IsTooLow : List ℤ → ℕ → Type 0
IsTooLow values variable = (variable < length values) × (assignment values variable <ℤ neg_ℤ (pos (2 ^ 81)))

-- new values that are no higher in all, each of magnitude at most 2^81
abbrev pub AreNoHigher : List ℤ → List ℤ → Type 0
AreNoHigher old new = (sum_by height new ≤ sum_by height old) × All (IsWithin (2 ^ 81)) new

-- what looking at some rows did to the values: they are met, or a value fell, or one fell below -2^81
abbrev pub Lowers : List DiffRow → List ℤ → List ℤ → Lowered → Type 0
Lowers looked old new Nowhere = (new ≡ old) × Meets (assignment new) looked
Lowers looked old new Somewhere = (sum_by height new < sum_by height old) × All (IsWithin (2 ^ 81)) new
Lowers looked old new (Below variable) = IsTooLow new variable

-- the place is the parent of its row's left variable
abbrev pub IsParent : List DiffRow → List (Option ℕ) → ℕ → Type 0
IsParent rows parents place = parent_of parents (row_at rows place).left ≡ Some place

-- values that fell or stayed, or of which this variable's fell below -2^81
abbrev pub NeverRises : List ℤ → List ℤ → Option ℕ → Type 0
NeverRises old new None = AreNoHigher old new
NeverRises old new (Some variable) = IsTooLow new variable

-- each parent is the place of a row with this left variable
pub record ArePlaced (rows : List DiffRow) (parents : List (Option ℕ)) : Type 0 where
  pub in_range : (variable place : ℕ) → parent_of parents variable ≡ Some place → place < length rows
  pub left : (variable place : ℕ) → parent_of parents variable ≡ Some place → (row_at rows place).left ≡ variable

-- the trail has the parents of the visited variables, and a visited variable has one more than its
-- number on the trail
pub record IsTrail (rows : List DiffRow) (parents : List (Option ℕ)) (visits trail : List ℕ) : Type 0 where
  pub count : length visits ≡ length parents
  pub parent : All (IsParent rows parents) trail
  pub visited : count_by (λ number. nat_lt 0 number) visits ≡ length trail
  pub number : (variable : ℕ) → 0 < slice_index visits variable → slice_index visits variable ≤ length trail
  pub left : (variable : ℕ) → 0 < slice_index visits variable →
      (row_at rows (slice_index trail (slice_index visits variable - 1))).left ≡ variable

-- the trail walks from the variable to one that has no parent
pub record ReachesRoot (rows : List DiffRow) (parents : List (Option ℕ)) (trail : List ℕ) (start : ℕ) : Type 0 where
  pub root : ℕ
  pub walk : IsWalk start (rows_at rows trail) root
  pub none : parent_of parents root ≡ None

-- what a walk from the variable along the parents came to: a cycle from a number of the trail on;
-- or else, where the trail was empty, a root
abbrev pub Follows : List DiffRow → List (Option ℕ) → List ℕ → List ℕ → ℕ → Option ℕ → Type 0
Follows rows parents old new start None = old ≡ [] → ReachesRoot rows parents new start
Follows rows parents old new start (Some number) = IsCycle (rows_at rows (drop number new))

-- the values make a point, or the trail has a refutation from a number on
abbrev pub MeetsOrRefutes : List DiffRow → List ℤ → List ℕ → Option ℕ → Type 0
MeetsOrRefutes rows values trail None = IsPoint (length values) rows values
MeetsOrRefutes rows values trail (Some number) = IsRefutation (length values) rows (drop number trail)

-- the values fell or stayed, or the trail has a refutation from a number on
abbrev pub FallsOrRefutes : List DiffRow → List ℤ → List ℤ → List ℕ → Option ℕ → Type 0
FallsOrRefutes rows old new trail None = AreNoHigher old new
FallsOrRefutes rows old new trail (Some number) = IsRefutation (length new) rows (drop number trail)
