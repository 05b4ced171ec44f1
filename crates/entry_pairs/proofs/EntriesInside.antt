-- All entries are the exits or a point of each side before its exit: the first ones since the rule is well formed,
-- those that are found since nothing is alike at an exit.
use Rattle.std.specs.Prelude.{◌≡◌, ℕ, zero, suc, ◌<◌, Bool, true, false, not, cond, ◌&&◌, ◌||◌, List, [], ◌∷◌, length, slice_get, Option, Some, None, Result, Ok, Err, refl}
use Rattle.std.proofs.Common.{sym, ◌∙◌, ap, arith}
use Rattle.std.proofs.lemmas.Bool.Decides.{nat_tests}
use Rattle.std.specs.List.{list_all}
use Rattle.std.proofs.lemmas.List.Folds.{list_all-append}
use Rattle.toy_imp.specs.Faults.{same_pair, is_simulate, may_list_cuts, well_formed, is_inside, cuts_nothing, lists_cuts, has_wrong_cuts, repeats_name, uses_undeclared, misplaces_parameter, omits_parameter, simulates_scopes, is_too_large, repeats_pair}
use Rattle.toy_imp.specs.Points.{exit_point}
use Rattle.toy_imp.specs.declared.rule.Rule.{Rule}
use Rattle.toy_imp.specs.declared.rule.Method.{Method}
use Rattle.toy_imp.specs.declared.rule.Method.TheVariants.{Simulate, Permute, Chain, Tile}
use Rattle.toy_imp.specs.declared.rule.CutList.{CutList}
use Rattle.toy_imp.specs.declared.rule.CutList.TheVariants.{Default, Listed}
use Rattle.rule_terms.specs.declared.path.Path.{Path}
use Rattle.rule_terms.specs.declared.path.Stop.{Stop}
use Rattle.rule_terms.specs.declared.path.Stop.TheVariants.{At, Halted, Stuck}
use Rattle.rule_terms.specs.declared.limit.LimitKind.{LimitKind}
use Rattle.rule_terms.specs.declared.limit.LimitKind.TheVariants.{Entries}
use Rattle.path_pairs.specs.declared.cut_points.CutPoints.{CutPoints}
use Rattle.entry_pairs.specs.declared.refusal.LimitMark.{LimitMark}
use Rattle.path_pairs.specs.declared.cut_points.Side.TheVariants.{Left, Right}
use Rattle.entry_pairs.specs.declared.point_kinds.PointKind.{PointKind}
use Rattle.entry_pairs.specs.declared.point_kinds.PointKind.TheVariants.{Loop, Par, Other}
use Rattle.path_pairs.specs.Paths.{paths}
use Rattle.entry_pairs.specs.PointKinds.{point_kinds, kind_at, alike_kinds, stops_meet, right_meetings, meetings}
use Rattle.entry_pairs.specs.Cuts.{exits, first_entries, found, arrivals, entered, pair_limit, mark, entries_after}
use Rattle.entry_pairs.specs.CutAnswers.{rule_table, may_be_entry}
use Rattle.entry_pairs.proofs.EnteredPairs.{entered_all}
use Rattle.entry_pairs.proofs.KindsOfPoints.{few_point_kinds, meetings_are}

-- an entry that is not the exits
pub left_before : (rule : Rule) (a : ℕ × ℕ) → may_be_entry rule a ≡ true → same_pair a (exits rule) ≡ false → a.0 < exit_point rule.left
unfolding may_be_entry
left_before rule a h g = grind (arith, nat_tests, h, g)

pub right_before : (rule : Rule) (a : ℕ × ℕ) → may_be_entry rule a ≡ true → same_pair a (exits rule) ≡ false → a.1 < exit_point rule.right
unfolding may_be_entry
right_before rule a h g = grind (arith, nat_tests, h, g)

-- two points before the exits
before_may : (rule : Rule) (p q : ℕ) → p < exit_point rule.left → q < exit_point rule.right → may_be_entry rule (p, q) ≡ true
unfolding may_be_entry
before_may rule p q h g = grind (arith, nat_tests, h, g)

exits_may : (rule : Rule) → may_be_entry rule (exits rule) ≡ true
unfolding may_be_entry
exits_may rule = grind (arith, nat_tests)

inside_may : (rule : Rule) (a : ℕ × ℕ) → is_inside rule.left rule.right a ≡ true → may_be_entry rule a ≡ true
unfolding may_be_entry
inside_may rule a h = grind (arith, nat_tests, h)

all_inside_may : (rule : Rule) (pairs : List (ℕ × ℕ)) → list_all (is_inside rule.left rule.right) pairs ≡ true → list_all (may_be_entry rule) pairs ≡ true
all_inside_may rule [] h = refl
all_inside_may rule (a ∷ pairs) h = both (is_inside rule.left rule.right a) (list_all (is_inside rule.left rule.right) pairs) (may_be_entry rule a) (list_all (may_be_entry rule) pairs) h (inside_may rule a) (all_inside_may rule pairs)
  where
    both : (x y u v : Bool) → (x && y) ≡ true → ((e : x ≡ true) → u ≡ true) → ((e : y ≡ true) → v ≡ true) → (u && v) ≡ true
    both true true u v h f g = (λ i. f refl i && g refl i)
    both true false u v h f g = cc
    both false y u v h f g = cc

-- the listed pairs of a rule that is well formed
sixth : (a b c d e f g : Bool) → not (a || b || c || d || e || f || g) ≡ true → f ≡ false
sixth a b c d e false g h = refl
sixth true b c d e true g h = cc
sixth false true c d e true g h = cc
sixth false false true d e true g h = cc
sixth false false false true e true g h = cc
sixth false false false false true true g h = cc
sixth false false false false false true g h = cc

right_cuts_listed : (rule : Rule) → well_formed rule ≡ true → has_wrong_cuts rule ≡ false
unfolding well_formed
right_cuts_listed rule h = sixth (repeats_name rule.params) (uses_undeclared rule) (misplaces_parameter rule) (omits_parameter rule) (simulates_scopes rule) (has_wrong_cuts rule) (is_too_large rule) h

simulates_lists : (m : Method) → is_simulate m ≡ true → may_list_cuts m ≡ true
simulates_lists Simulate h = refl
simulates_lists Permute h = cc
simulates_lists Chain h = cc
simulates_lists Tile h = cc

pub cuts_something : (rule : Rule) → well_formed rule ≡ true → is_simulate rule.method ≡ true → cuts_nothing rule.cuts rule.left rule.right ≡ false
cuts_something rule h g =
    sym (ap (λ b. cond b (cuts_nothing rule.cuts rule.left rule.right) (lists_cuts rule.cuts)) (simulates_lists rule.method g)) ∙ right_cuts_listed rule h

neither : (x y : Bool) → (not x || y) ≡ false → x ≡ true
neither true y h = refl
neither false y h = cc

first_may_of : (rule : Rule) (list : CutList) → cuts_nothing list rule.left rule.right ≡ false → list_all (may_be_entry rule) (first_entries list (exits rule)) ≡ true
first_may_of rule Default h = λ i. before_may rule 0 0 (omega arith) (omega arith) i && (exits_may rule i && true)
first_may_of rule (Listed pairs) h =
    λ i. before_may rule 0 0 (omega arith) (omega arith) i
    && (exits_may rule i && all_inside_may rule pairs (neither (list_all (is_inside rule.left rule.right) pairs) (repeats_pair pairs) h) i)

pub first_may : (rule : Rule) → well_formed rule ≡ true → is_simulate rule.method ≡ true → list_all (may_be_entry rule) (first_entries rule.cuts (exits rule)) ≡ true
first_may rule h g = first_may_of rule rule.cuts (cuts_something rule h g)

-- what is alike to something is before the exit
before_left : (kinds : List PointKind) (p : ℕ) (k : PointKind) → alike_kinds (kind_at kinds p) k ≡ true → p < length kinds
before_left [] p Loop h = cc
before_left [] p (Par j) h = cc
before_left [] p Other h = cc
before_left (x ∷ kinds) zero k h = omega arith
before_left (x ∷ kinds) (suc p) k h = omega (arith, before_left kinds p k h)

before_right : (kinds : List PointKind) (p : ℕ) (k : PointKind) → alike_kinds k (kind_at kinds p) ≡ true → p < length kinds
before_right [] p Loop h = cc
before_right [] p (Par j) h = cc
before_right [] p Other h = cc
before_right (x ∷ kinds) zero k h = omega arith
before_right (x ∷ kinds) (suc p) k h = omega (arith, before_right kinds p k h)

pair_may : (rule : Rule) (p q : ℕ) (b : Bool) → alike_kinds (kind_at (point_kinds rule.left) p) (kind_at (point_kinds rule.right) q) ≡ b
    → list_all (may_be_entry rule) (cond b ((p, q) ∷ []) []) ≡ true
pair_may rule p q false h = refl
pair_may rule p q true h =
    let left : p < length (point_kinds rule.left) = before_left (point_kinds rule.left) p (kind_at (point_kinds rule.right) q) h in
    let right : q < length (point_kinds rule.right) = before_right (point_kinds rule.right) q (kind_at (point_kinds rule.left) p) h in
    λ i. before_may rule p q (omega (arith, left, few_point_kinds rule.left)) (omega (arith, right, few_point_kinds rule.right)) i && true

meet_may : (rule : Rule) (l r : Stop) → list_all (may_be_entry rule) (stops_meet (rule_table rule) l r) ≡ true
meet_may rule (At p) (At q) = pair_may rule p q (alike_kinds (kind_at (point_kinds rule.left) p) (kind_at (point_kinds rule.right) q)) refl
meet_may rule (At p) Halted = refl
meet_may rule Halted (At q) = refl
meet_may rule (Stuck k) (At q) = refl
meet_may rule l r = refl

right_may : (rule : Rule) (l : Stop) (rights : List Path) → list_all (may_be_entry rule) (right_meetings (rule_table rule) l rights) ≡ true
unfolding right_meetings
right_may rule l [] = refl
right_may rule l (r ∷ rights) =
    list_all-append (may_be_entry rule) (stops_meet (rule_table rule) l r.stop) (right_meetings (rule_table rule) l rights)
    ∙ (λ i. meet_may rule l r.stop i && right_may rule l rights i)

meetings_may : (rule : Rule) (lefts rights : List Path) → list_all (may_be_entry rule) (meetings (rule_table rule) lefts rights) ≡ true
unfolding meetings
meetings_may rule [] rights = refl
meetings_may rule (l ∷ lefts) rights =
    list_all-append (may_be_entry rule) (right_meetings (rule_table rule) l.stop rights) (meetings (rule_table rule) lefts rights)
    ∙ (λ i. right_may rule l.stop rights i && meetings_may rule lefts rights i)

pub found_may : (rule : Rule) (list : CutList) (lefts rights : List Path) → list_all (may_be_entry rule) (found list (arrivals rule lefts rights)) ≡ true
found_may rule Default lefts rights = ap (list_all (may_be_entry rule)) (sym (meetings_are rule lefts rights)) ∙ meetings_may rule lefts rights
found_may rule (Listed pairs) lefts rights = refl

-- they stay so once an entry is walked
kept_by : (test : ℕ × ℕ → Bool) (i : ℕ) (b : Bool) (l : Option LimitKind) (o : Option (List (ℕ × ℕ))) (entries more : List (ℕ × ℕ)) → list_all test entries ≡ true
    → ((xs : List (ℕ × ℕ)) → o ≡ Some xs → list_all test xs ≡ true)
    → elim b as (λ b. Result (List (ℕ × ℕ)) LimitMark) [
      | true ↦ Ok entries
      | false ↦ elim l as (λ l. Result (List (ℕ × ℕ)) LimitMark) [
        | Some k ↦ Err (mark i k)
        | None ↦ elim o as (λ o. Result (List (ℕ × ℕ)) LimitMark) [ Some more ↦ Ok more | None ↦ Err (mark i Entries) ]
      ]
    ]
    ≡ Ok more → list_all test more ≡ true
kept_by test i true l o entries more h f e = let same : entries ≡ more = cc in ap (list_all test) (sym same) ∙ h
kept_by test i false (Some k) o entries more h f e = cc
kept_by test i false None (Some xs) entries more h f e = let same : xs ≡ more = cc in ap (list_all test) (sym same) ∙ f xs refl
kept_by test i false None None entries more h f e = cc

pub entries_stay_inside : (rule : Rule) (points : CutPoints) (i : ℕ) (a : ℕ × ℕ) (entries more : List (ℕ × ℕ)) → list_all (may_be_entry rule) entries ≡ true
    → entries_after rule points i a entries ≡ Ok more → list_all (may_be_entry rule) more ≡ true
entries_stay_inside rule points i a entries more h e =
    kept_by (may_be_entry rule) i (same_pair a (exits rule)) (pair_limit rule points a)
    (entered entries (found rule.cuts (arrivals rule (paths rule points Left a.0) (paths rule points Right a.1)))) entries more h
    (λ xs d. entered_all (may_be_entry rule) entries (found rule.cuts (arrivals rule (paths rule points Left a.0) (paths rule points Right a.1))) xs h
    (found_may rule rule.cuts (paths rule points Left a.0) (paths rule points Right a.1)) d) e

-- the entry of a number
pub entry_may : (test : ℕ × ℕ → Bool) (entries : List (ℕ × ℕ)) (i : ℕ) (a : ℕ × ℕ) → list_all test entries ≡ true → slice_get entries i ≡ Some a → test a ≡ true
entry_may test [] i a h e = cc
entry_may test (x ∷ entries) zero a h e = let same : x ≡ a = cc in ap test (sym same) ∙ first_of_all (test x) (list_all test entries) h
  where
    first_of_all : (x y : Bool) → (x && y) ≡ true → x ≡ true
    first_of_all true y h = refl
    first_of_all false y h = cc
entry_may test (x ∷ entries) (suc i) a h e = entry_may test entries i a (rest_of_all (test x) (list_all test entries) h) e
  where
    rest_of_all : (x y : Bool) → (x && y) ≡ true → y ≡ true
    rest_of_all true y h = h
    rest_of_all false y h = cc
