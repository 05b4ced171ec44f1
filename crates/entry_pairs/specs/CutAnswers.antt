-- What `cuts` answers: the cut points and entries of a rule, or the first limit that is met. Only want of memory is free.
-- Of the functions that it is made of: what they leave as entries.
use Rattle.std.specs.Prelude.{◌≡◌, ℕ, ◌*◌, Bool, ◌&&◌, ◌||◌, nat_lt, List, length, Option, Some, None, Result, Ok, Err, if◌then◌else◌}
use Rattle.toy_imp.specs.Faults.{same_pair}
use Rattle.toy_imp.specs.Points.{exit_point}
use Rattle.toy_imp.specs.declared.rule.CutList.{CutList}
use Rattle.toy_imp.specs.declared.rule.Rule.{Rule}
use Rattle.rule_terms.specs.declared.path.Path.{Path}
use Rattle.rule_terms.specs.declared.limit.LimitKind.TheVariants.{Entries, Pairs}
use Rattle.path_pairs.specs.declared.cut_points.CutPoints.{CutPoints}
use Rattle.entry_pairs.specs.declared.refusal.CutsRefusal.{CutsRefusal}
use Rattle.entry_pairs.specs.declared.refusal.CutsRefusal.TheVariants.{Limit, NoMemory}
use Rattle.entry_pairs.specs.declared.refusal.LimitMark.{LimitMark}
use Rattle.path_pairs.specs.declared.cut_points.Side.{Side}
use Rattle.entry_pairs.specs.declared.point_kinds.PointTable.{PointTable}
use Rattle.path_pairs.specs.Paths.{paths, path_limit}
use Rattle.entry_pairs.specs.PointKinds.{point_kinds, meetings}
use Rattle.entry_pairs.specs.Cuts.{exits, found, mark, cuts, entered}

abbrev pub CutsAnswer : Rule → Result CutPoints CutsRefusal → Type 0
CutsAnswer rule (Ok c) = cuts rule ≡ Ok c
CutsAnswer rule (Err (Limit m)) = cuts rule ≡ Err m
CutsAnswer rule (Err NoMemory) = Unit {0}

-- the entries are those that are expected, or the mark is
abbrev pub EntriesAnswer : {U : Type 0} → Result (List (ℕ × ℕ)) LimitMark → List (ℕ × ℕ) → Result U CutsRefusal → Type 0
EntriesAnswer expected entries (Ok done) = expected ≡ Ok entries
EntriesAnswer expected entries (Err (Limit m)) = expected ≡ Err m
EntriesAnswer expected entries (Err NoMemory) = Unit {0}

-- the entries once these pairs are entered, or the mark of the entry at which the 65th would come
abbrev pub marked : ℕ → Option (List (ℕ × ℕ)) → Result (List (ℕ × ℕ)) LimitMark
marked i None = Err (mark i Entries)
marked i (Some entries) = Ok entries

unfoldable pub entered_or_mark : ℕ → List (ℕ × ℕ) → List (ℕ × ℕ) → Result (List (ℕ × ℕ)) LimitMark
entered_or_mark i entries pairs = marked i (entered entries pairs)

-- the entries once those are entered at which the paths of an entry arrive, or its mark
unfoldable pub paired : CutList → PointTable → ℕ → List (ℕ × ℕ) → List Path → List Path → Result (List (ℕ × ℕ)) LimitMark
paired list table i entries lefts rights =
    if nat_lt 256 (length lefts * length rights) then Err (mark i Pairs)
    else entered_or_mark i entries (found list (meetings table lefts rights))

-- the kinds of all points of a rule, and its exits
abbrev pub rule_table : Rule → PointTable
rule_table rule = record { left = point_kinds rule.left; right = point_kinds rule.right; exits = exits rule }

-- a pair that may be an entry: the exits, or two points before them
unfoldable pub may_be_entry : Rule → ℕ × ℕ → Bool
may_be_entry rule a = same_pair a (exits rule) || (nat_lt a.0 (exit_point rule.left) && nat_lt a.1 (exit_point rule.right))

-- the paths from a point of an entry, or the first limit that they pass with that entry
abbrev pub EntryPathsAnswer : Rule → CutPoints → Side → ℕ → ℕ → Result (List Path) CutsRefusal → Type 0
EntryPathsAnswer rule points side from i (Ok all) = (path_limit rule points side from ≡ None) × (all ≡ paths rule points side from)
EntryPathsAnswer rule points side from i (Err (Limit m)) = (path_limit rule points side from ≡ Some m.what) × (m ≡ mark i m.what)
EntryPathsAnswer rule points side from i (Err NoMemory) = Unit {0}
