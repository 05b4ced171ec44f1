-- Cut points of both sides, after Floyd, and the entries: the pairs of points that a proof relates.
-- They come from the rule's list of cuts, or by default are found along the paths; or the first limit is met.
use Rattle.std.specs.Prelude.{ℕ, zero, suc, ◌+◌, ◌*◌, ◌==◌, Bool, true, false, cond, ◌||◌, List, [], ◌∷◌, ◌++◌, map, flat_map, filter, length, nat_lt, slice_get, Option, Some, None, Result, Ok, Err, if◌then◌else◌}
use Rattle.std.specs.List.{list_any, range_with_len}
use Rattle.toy_imp.specs.Block.{Stmt, skip, put, assert_that, if_then, while_do, for_to, let_in, par_stmt, Block, empty, stmt}
use Rattle.toy_imp.specs.Points.{stmt_count, point_count, exit_point}
use Rattle.toy_imp.specs.Faults.{same_pair}
use Rattle.toy_imp.specs.declared.rule.Rule.{Rule}
use Rattle.toy_imp.specs.declared.rule.CutList.{CutList}
use Rattle.toy_imp.specs.declared.rule.CutList.TheVariants.{Default, Listed}
use Rattle.rule_terms.specs.declared.path.Path.{Path}
use Rattle.rule_terms.specs.declared.path.Stop.{Stop}
use Rattle.rule_terms.specs.declared.path.Stop.TheVariants.{At}
use Rattle.rule_terms.specs.declared.limit.LimitKind.{LimitKind}
use Rattle.rule_terms.specs.declared.limit.LimitKind.TheVariants.{Pairs, Entries}
use Rattle.path_pairs.specs.declared.cut_points.CutPoints.{CutPoints}
use Rattle.entry_pairs.specs.declared.refusal.LimitMark.{LimitMark}
use Rattle.path_pairs.specs.declared.cut_points.Side.TheVariants.{Left, Right}
use Rattle.path_pairs.specs.Rests.{Rest, stretch, rest_at}
use Rattle.path_pairs.specs.Paths.{paths, path_limit}

-- a statement parameter occurs, at any depth
abbrev mutual
  pub stmt_has_par : Stmt → Bool
  stmt_has_par skip = false
  stmt_has_par (put x is e) = false
  stmt_has_par (assert_that t) = false
  stmt_has_par (if_then t b c) = has_par b || has_par c
  stmt_has_par (while_do t b) = has_par b
  stmt_has_par (for_to x lo hi b) = has_par b
  stmt_has_par (let_in x e b) = has_par b
  stmt_has_par (par_stmt k) = true

  pub has_par : Block → Bool
  has_par empty = false
  has_par (stmt s b) = stmt_has_par s || has_par b

-- By default the cut points inside a side are the statement parameters, and each `while` whose body holds none.
abbrev mutual
  pub stmt_cuts : ℕ → Stmt → List ℕ
  stmt_cuts n skip = []
  stmt_cuts n (put x is e) = []
  stmt_cuts n (assert_that t) = []
  stmt_cuts n (if_then t b c) = default_cuts n b ++ default_cuts (n + point_count b) c
  stmt_cuts n (while_do t b) = cond (has_par b) [] (n ∷ []) ++ default_cuts (suc n) b
  stmt_cuts n (for_to x lo hi b) = default_cuts n b
  stmt_cuts n (let_in x e b) = default_cuts n b
  stmt_cuts n (par_stmt k) = n ∷ []

  -- of a block whose first point has this number
  pub default_cuts : ℕ → Block → List ℕ
  default_cuts n empty = []
  default_cuts n (stmt s b) = stmt_cuts n s ++ default_cuts (n + stmt_count s) b

-- the points inside a side that are among these
abbrev pub listed_cuts : Block → List ℕ → List ℕ
listed_cuts side named = filter (λ p. list_any (λ c. c == p) named) (range_with_len 1 (point_count side))

-- with the start and the exit; in ascending order and without repeats
abbrev pub with_ends : Block → List ℕ → List ℕ
with_ends side inner = 0 ∷ (inner ++ exit_point side ∷ [])

abbrev pub left_cuts : CutList → Block → List ℕ
left_cuts Default side = with_ends side (default_cuts 1 side)
left_cuts (Listed pairs) side = with_ends side (listed_cuts side (map (λ a. a.0) pairs))

abbrev pub right_cuts : CutList → Block → List ℕ
right_cuts Default side = with_ends side (default_cuts 1 side)
right_cuts (Listed pairs) side = with_ends side (listed_cuts side (map (λ a. a.1) pairs))

-- The first entries are the starts and the exits; listed pairs follow.
abbrev pub exits : Rule → ℕ × ℕ
exits rule = (exit_point rule.left, exit_point rule.right)

abbrev pub first_entries : CutList → ℕ × ℕ → List (ℕ × ℕ)
first_entries Default ends = (0, 0) ∷ ends ∷ []
first_entries (Listed pairs) ends = (0, 0) ∷ ends ∷ pairs

-- two points are alike where both are statement parameters of one number, or both are `while`s
abbrev pub alike_stmts : Stmt → Stmt → Bool
alike_stmts (par_stmt j) (par_stmt k) = j == k
alike_stmts (while_do t b) (while_do u c) = true
alike_stmts _ _ = false

abbrev pub alike : Rest → Rest → Bool
alike (stretch m (stmt a b) ∷ u) (stretch n (stmt c d) ∷ v) = alike_stmts a c
alike _ _ = false

-- the pair of points at which two paths stop, where these are alike
abbrev pub stops_alike : Rule → Stop → Stop → List (ℕ × ℕ)
stops_alike rule (At p) (At q) = cond (alike (rest_at rule.left p) (rest_at rule.right q)) ((p, q) ∷ []) []
stops_alike rule _ _ = []

-- over all pairs of paths of an entry, in lexicographic order
abbrev pub arrivals : Rule → List Path → List Path → List (ℕ × ℕ)
arrivals rule lefts rights = flat_map (λ l. flat_map (λ r. stops_alike rule l.stop r.stop) rights) lefts

-- the arrivals that are found: none where the cuts are listed
abbrev pub found : CutList → List (ℕ × ℕ) → List (ℕ × ℕ)
found Default pairs = pairs
found (Listed _) pairs = []

-- each pair that is no entry yet becomes the next one; nothing where it would be the 65th
abbrev pub entered : List (ℕ × ℕ) → List (ℕ × ℕ) → Option (List (ℕ × ℕ))
entered entries [] = Some entries
entered entries (a ∷ pairs) =
    elim (list_any (same_pair a) entries) [
      | true ↦ entered entries pairs
      | false ↦ elim (nat_lt (length entries) 64) [ true ↦ entered (entries ++ a ∷ []) pairs | false ↦ None ]
    ]

-- the first of two limits
abbrev pub earlier : Option LimitKind → Option LimitKind → Option LimitKind
earlier (Some k) later = Some k
earlier None later = later

-- the limits of one entry: of its left paths, of its right paths, and of the pairs of both
abbrev pub pair_limit : Rule → CutPoints → ℕ × ℕ → Option LimitKind
pair_limit rule cuts a =
    earlier (path_limit rule cuts Left a.0)
    (earlier (path_limit rule cuts Right a.1)
    (if nat_lt 256 (length (paths rule cuts Left a.0) * length (paths rule cuts Right a.1)) then Some Pairs else None))

abbrev pub mark : ℕ → LimitKind → LimitMark
mark i k = record { what = k; entry = i }

-- all entries once this one is walked, which has the number i; from the exits nothing is walked
abbrev pub entries_after : Rule → CutPoints → ℕ → ℕ × ℕ → List (ℕ × ℕ) → Result (List (ℕ × ℕ)) LimitMark
entries_after rule cuts i a entries =
    elim (same_pair a (exits rule)) [
      | true ↦ Ok entries
      | false ↦ elim (pair_limit rule cuts a) [
        | Some k ↦ Err (mark i k)
        | None ↦ elim (entered entries (found rule.cuts (arrivals rule (paths rule cuts Left a.0) (paths rule cuts Right a.1)))) [
          | Some more ↦ Ok more
          | None ↦ Err (mark i Entries)
        ]
      ]
    ]

-- all entries once n entries are walked, from that of the number i on
unfoldable pub walked : ℕ → Rule → CutPoints → ℕ → List (ℕ × ℕ) → Result (List (ℕ × ℕ)) LimitMark
walked zero rule cuts i entries = Ok entries
walked (suc n) rule cuts i entries =
    elim (slice_get entries i) [
      | None ↦ Ok entries
      | Some a ↦ elim (entries_after rule cuts i a entries) [ Ok more ↦ walked n rule cuts (suc i) more | Err m ↦ Err m ]
    ]

-- the cut points, with the pairs from which entries are searched
abbrev pub first_cuts : Rule → CutPoints
first_cuts rule = record { left = left_cuts rule.cuts rule.left; right = right_cuts rule.cuts rule.right; pairs = first_entries rule.cuts (exits rule) }

abbrev pub with_pairs : CutPoints → List (ℕ × ℕ) → CutPoints
with_pairs cuts entries = record cuts { pairs = entries }

-- the cut points and all entries, or the first limit; there are 64 entries at most
abbrev pub cuts : Rule → Result CutPoints LimitMark
cuts rule =
    elim (nat_lt 64 (length (first_cuts rule).pairs)) [
      | true ↦ Err (mark 0 Entries)
      | false ↦ elim (walked 64 rule (first_cuts rule) 0 (first_cuts rule).pairs) [ Ok entries ↦ Ok (with_pairs (first_cuts rule) entries) | Err m ↦ Err m ]
    ]
