-- What an answer of `cuts` is like, whatever the rule: a list of entries that a proof by simulation can walk.
use Rattle.std.specs.Prelude.{◌≡◌, ◌<◌, ◌≤◌, ℕ, ◌*◌, Bool, true, false, ◌&&◌, List, ◌∷◌, length, None, Ok, All}
use Rattle.std.specs.List.Sorted.{IsStrictlyIncreasing}
use Rattle.toy_imp.specs.Faults.{repeats_pair, well_formed, is_simulate}
use Rattle.toy_imp.specs.Points.{exit_point}
use Rattle.toy_imp.specs.declared.rule.Rule.{Rule}
use Rattle.path_pairs.specs.declared.cut_points.CutPoints.{CutPoints}
use Rattle.path_pairs.specs.declared.cut_points.Side.TheVariants.{Left, Right}
use Rattle.path_pairs.specs.Paths.{paths, path_limit}
use Rattle.path_pairs.specs.Walks.{is_cut}
use Rattle.entry_pairs.specs.Cuts.{exits, cuts}

-- both points are before their exits
pub record IsBefore (rule : Rule) (a : ℕ × ℕ) : Type 0 where
  pub left : a.0 < exit_point rule.left
  pub right : a.1 < exit_point rule.right

-- both points are cut points of their sides
abbrev pub is_cut_pair : CutPoints → ℕ × ℕ → Bool
is_cut_pair points a = is_cut points.left a.0 && is_cut points.right a.1

-- the paths from both points meet no limit, and they make at most 256 pairs
pub record IsWithin (rule : Rule) (points : CutPoints) (a : ℕ × ℕ) : Type 0 where
  pub left : path_limit rule points Left a.0 ≡ None
  pub right : path_limit rule points Right a.1 ≡ None
  pub few : length (paths rule points Left a.0) * length (paths rule points Right a.1) ≤ 256

-- the entries are the starts, the exits and others before the exits, at most 64 and each once; they are cut points, from all but the
-- exits paths are walked within the limits, and the cut points of a side ascend
pub record IsEntryList (rule : Rule) (points : CutPoints) : Type 0 where
  pub others : List (ℕ × ℕ)
  pub begin : points.pairs ≡ (0, 0) ∷ exits rule ∷ others
  pub before : All (IsBefore rule) others
  pub few : length points.pairs ≤ 64
  pub differ : repeats_pair points.pairs ≡ false
  pub cut : All (λ a. is_cut_pair points a ≡ true) points.pairs
  pub within : All (IsWithin rule points) ((0, 0) ∷ others)
  pub left_ascends : IsStrictlyIncreasing points.left
  pub right_ascends : IsStrictlyIncreasing points.right

abbrev pub CutsAreEntryList : Type 0
CutsAreEntryList = (rule : Rule) (points : CutPoints) → well_formed rule ≡ true → is_simulate rule.method ≡ true → cuts rule ≡ Ok points → IsEntryList rule points
