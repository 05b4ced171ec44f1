-- Paths: the walks from a point of a side up to their stop, in order; and the limits of their steps, their number and their nodes.
use Rattle.std.specs.Prelude.{ℕ, zero, suc, ◌+◌, Bool, List, [], length, flat_map, nat_lt, Option, Some, None, if◌then◌else◌}
use Rattle.std.specs.List.{list_any}
use Rattle.toy_imp.specs.Block.{Block}
use Rattle.toy_imp.specs.Points.{exit_point}
use Rattle.toy_imp.specs.declared.rule.Rule.{Rule}
use Rattle.rule_terms.specs.Counts.{store_nodes, literals_nodes}
use Rattle.rule_terms.specs.Term.{StoreTerm, left_store, right_store}
use Rattle.rule_terms.specs.declared.path.Path.{Path}
use Rattle.rule_terms.specs.declared.limit.LimitKind.{LimitKind}
use Rattle.rule_terms.specs.declared.limit.LimitKind.TheVariants.{PathSteps, PathNodes, Paths}
use Rattle.path_pairs.specs.declared.cut_points.CutPoints.{CutPoints}
use Rattle.path_pairs.specs.declared.cut_points.Side.{Side}
use Rattle.path_pairs.specs.declared.cut_points.Side.TheVariants.{Left, Right}
use Rattle.path_pairs.specs.Rests.{rest_at}
use Rattle.path_pairs.specs.Walks.{Walk, stands, step, walks, goes_on}

abbrev pub side_of : Rule → Side → Block
side_of rule Left = rule.left
side_of rule Right = rule.right

abbrev pub cuts_of : CutPoints → Side → List ℕ
cuts_of cuts Left = cuts.left
cuts_of cuts Right = cuts.right

abbrev pub store_of : Side → StoreTerm
store_of Left = left_store
store_of Right = right_store

-- the walk of no step from a point
abbrev pub set_out : Block → StoreTerm → ℕ → Walk
set_out side s p = stands [] s (rest_at side p)

-- A walk from the start may stop before its first step, a walk from another point may not.
abbrev pub walks_from : ℕ → ℕ → List ℕ → ℕ → Walk → List Path
walks_from zero n cuts exit w = walks (suc n) cuts exit w
walks_from (suc p) n cuts exit w = flat_map (walks n cuts exit) (step w)

abbrev pub goes_on_from : ℕ → ℕ → List ℕ → ℕ → Walk → Bool
goes_on_from zero n cuts exit w = goes_on (suc n) cuts exit w
goes_on_from (suc p) n cuts exit w = list_any (goes_on n cuts exit) (step w)

-- the walks from a point of a side that stop within 64 steps
unfoldable pub side_paths : Block → List ℕ → StoreTerm → ℕ → List Path
side_paths side cuts s p = walks_from p 63 cuts (exit_point side) (set_out side s p)

-- some walk from a point makes 65 steps before a stop
unfoldable pub has_long_walk : Block → List ℕ → StoreTerm → ℕ → Bool
has_long_walk side cuts s p = goes_on_from p 64 cuts (exit_point side) (set_out side s p)

abbrev pub path_nodes : Path → ℕ
path_nodes p = literals_nodes p.literals + store_nodes p.store

abbrev pub is_large_path : Path → Bool
is_large_path p = nat_lt 4096 (path_nodes p)

-- the first limit that the paths from a point pass: of steps, of their number, of nodes
abbrev pub first_limit : Bool → List Path → Option LimitKind
first_limit long all =
    if long then Some PathSteps
    else if nat_lt 512 (length all) then Some Paths
    else if list_any is_large_path all then Some PathNodes
    else None

-- of one side of a rule
abbrev pub paths : Rule → CutPoints → Side → ℕ → List Path
paths rule cuts side p = side_paths (side_of rule side) (cuts_of cuts side) (store_of side) p

abbrev pub is_long : Rule → CutPoints → Side → ℕ → Bool
is_long rule cuts side p = has_long_walk (side_of rule side) (cuts_of cuts side) (store_of side) p

abbrev pub path_limit : Rule → CutPoints → Side → ℕ → Option LimitKind
path_limit rule cuts side p = first_limit (is_long rule cuts side p) (paths rule cuts side p)
