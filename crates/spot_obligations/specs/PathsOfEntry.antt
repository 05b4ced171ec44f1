-- The paths of an entry: those of the left side from its left point, and those of the right side from its right point.
-- None are walked from the exits, nor where they pass a limit.
use Rattle.std.specs.Prelude.{◌≡◌, Bool, true, false, not, ◌&&◌, List, Option, Some, None, is_none, Result, Ok, Err}
use Rattle.std.specs.List.{list_all}
use Rattle.toy_imp.specs.declared.rule.Rule.{Rule}
use Rattle.toy_imp.specs.declared.no_memory.NoMemory.{NoMemory}
use Rattle.toy_imp.specs.Faults.{same_pair}
use Rattle.rule_terms.specs.declared.path.Path.{Path}
use Rattle.path_pairs.specs.declared.cut_points.CutPoints.{CutPoints}
use Rattle.path_pairs.specs.declared.cut_points.Side.TheVariants.{Left, Right}
use Rattle.path_pairs.specs.Paths.{paths, path_limit}
use Rattle.entry_pairs.specs.Cuts.{exits}
use Rattle.entry_pairs.specs.CutAnswers.{may_be_entry}
use Rattle.spot_obligations.specs.declared.entry.Entry.{Entry}
use Rattle.spot_obligations.specs.declared.paths_of_entry.EntryPaths.{EntryPaths}
use Rattle.spot_obligations.specs.Owed.{pair_of}

abbrev pub lefts : Rule → CutPoints → Entry → List Path
lefts rule points e = paths rule points Left e.left

abbrev pub rights : Rule → CutPoints → Entry → List Path
rights rule points e = paths rule points Right e.right

abbrev pub is_exit : Rule → Entry → Bool
is_exit rule e = same_pair (pair_of e) (exits rule)

-- each entry is the exits, or both of its points are before them
abbrev pub are_inside : Rule → List Entry → Bool
are_inside rule entries = list_all (λ e. may_be_entry rule (pair_of e)) entries

-- the paths of an entry pass no limit
abbrev pub is_within : Rule → CutPoints → Entry → Bool
is_within rule points e = is_none (path_limit rule points Left e.left) && is_none (path_limit rule points Right e.right)

-- an entry from which paths are walked
abbrev pub is_walked : Rule → CutPoints → Entry → Bool
is_walked rule points e = not (is_exit rule e) && is_within rule points e

-- What a call answers that walks them.
abbrev pub EntryPathsAnswer : Rule → CutPoints → Entry → Result (Option EntryPaths) NoMemory → Type 0
EntryPathsAnswer rule points e (Ok (Some all)) = (is_within rule points e ≡ true) × ((all.lefts ≡ lefts rule points e) × (all.rights ≡ rights rule points e))
EntryPathsAnswer rule points e (Ok None) = is_within rule points e ≡ false
EntryPathsAnswer rule points e (Err none) = Unit {0}
