-- Each entry is a pair of cut points: the first ones by their list, those that are found since paths stop at cut points.
use Rattle.std.specs.Prelude.{◌≡◌, ◌≤◌, ◌<◌, ◌==◌, ℕ, zero, suc, ◌+◌, Bool, true, false, cond, ◌&&◌, List, [], ◌∷◌, ◌++◌, map, flat_map, refl}
use Rattle.std.proofs.Common.{sym, ◌∙◌, ap, arith, ◌⊎◌, inl, inr}
use Rattle.std.specs.List.{filter, range_with_len, list_any, list_all}
use Rattle.std.proofs.lemmas.Bool.{and_from, and_parts, or_left, or_right, or_cases, eqb-true, cases_lt}
use Rattle.std.proofs.lemmas.Bool.Decides.{nat_tests}
use Rattle.std.proofs.lemmas.List.Folds.{list_any-append}
use Rattle.toy_imp.specs.Block.{Block}
use Rattle.toy_imp.specs.Faults.{is_inside, is_within}
use Rattle.toy_imp.specs.Points.{point_count, exit_point}
use Rattle.toy_imp.specs.declared.rule.CutList.{CutList}
use Rattle.toy_imp.specs.declared.rule.CutList.TheVariants.{Default, Listed}
use Rattle.toy_imp.specs.declared.rule.Rule.{Rule}
use Rattle.rule_terms.specs.declared.path.Path.{Path}
use Rattle.rule_terms.specs.declared.path.Stop.{Stop}
use Rattle.rule_terms.specs.declared.path.Stop.TheVariants.{At, Halted, Stuck}
use Rattle.path_pairs.specs.declared.cut_points.CutPoints.{CutPoints}
use Rattle.path_pairs.specs.declared.cut_points.Side.TheVariants.{Left, Right}
use Rattle.path_pairs.specs.Paths.{paths, store_of}
use Rattle.path_pairs.specs.Rests.{rest_at}
use Rattle.path_pairs.specs.Walks.{is_cut}
use Rattle.entry_pairs.specs.Cuts.{default_cuts, listed_cuts, with_ends, left_cuts, right_cuts, first_entries, alike, stops_alike, arrivals, found}
use Rattle.entry_pairs.proofs.AllPassing.{all_by, all_so, all_led}
use Rattle.entry_pairs.proofs.StopsAreCuts.{is_stop, stops_well, paths_stop}

same_number : (p : ℕ) → (p == p) ≡ true
same_number p = grind (arith, nat_tests)

-- ---- the ends of a side, and the points between them
exit_is_cut : (side : Block) (inner : List ℕ) → is_cut (with_ends side inner) (exit_point side) ≡ true
exit_is_cut side inner =
    let last : list_any (λ c. c == exit_point side) (exit_point side ∷ []) ≡ true = or_left (exit_point side == exit_point side) false (same_number (exit_point side)) in
    or_right (0 == exit_point side) (list_any (λ c. c == exit_point side) (inner ++ exit_point side ∷ []))
    (list_any-append (λ c. c == exit_point side) inner (exit_point side ∷ []) ∙ or_right (is_cut inner (exit_point side)) (list_any (λ c. c == exit_point side) (exit_point side ∷ [])) last)

inner_is_cut : (side : Block) (inner : List ℕ) (p : ℕ) → is_cut inner p ≡ true → is_cut (with_ends side inner) p ≡ true
inner_is_cut side inner p h =
    or_right (0 == p) (list_any (λ c. c == p) (inner ++ exit_point side ∷ []))
    (list_any-append (λ c. c == p) inner (exit_point side ∷ []) ∙ or_left (is_cut inner p) (list_any (λ c. c == p) (exit_point side ∷ [])) h)

left_exit : (list : CutList) (side : Block) → is_cut (left_cuts list side) (exit_point side) ≡ true
left_exit Default side = exit_is_cut side (default_cuts 1 side)
left_exit (Listed pairs) side = exit_is_cut side (listed_cuts side (map (λ a. a.0) pairs))

right_exit : (list : CutList) (side : Block) → is_cut (right_cuts list side) (exit_point side) ≡ true
right_exit Default side = exit_is_cut side (default_cuts 1 side)
right_exit (Listed pairs) side = exit_is_cut side (listed_cuts side (map (λ a. a.1) pairs))

left_start : (list : CutList) (side : Block) → is_cut (left_cuts list side) 0 ≡ true
left_start Default side = refl
left_start (Listed pairs) side = refl

right_start : (list : CutList) (side : Block) → is_cut (right_cuts list side) 0 ≡ true
right_start Default side = refl
right_start (Listed pairs) side = refl

-- ---- a number of a range that passes a test is kept
behind_one : (b : Bool) (lo p : ℕ) (more : List ℕ) → is_cut more p ≡ true → is_cut (cond b (lo ∷ more) more) p ≡ true
behind_one true lo p more h = or_right (lo == p) (is_cut more p) h
behind_one false lo p more h = h

kept_by : (test : ℕ → Bool) (p lo : ℕ) (more : List ℕ) → lo ≤ p → test p ≡ true → (lo < p → is_cut more p ≡ true) → (lo < p) ⊎ (p ≤ lo)
    → is_cut (cond (test lo) (lo ∷ more) more) p ≡ true
kept_by test p lo more h t f (inl d) = behind_one (test lo) lo p more (f d)
kept_by test p lo more h t f (inr d) =
    let e : lo ≡ p = omega (arith, h, d) in
    ap (λ b. is_cut (cond b (lo ∷ more) more) p) (ap test e ∙ t) ∙ or_left (lo == p) (is_cut more p) (ap (λ q. q == p) e ∙ same_number p)

kept : (test : ℕ → Bool) (p lo n : ℕ) → lo ≤ p → p < lo + n → test p ≡ true → is_cut (filter test (range_with_len lo n)) p ≡ true
kept test p lo zero h g t = absurd (omega (arith, h, g))
kept test p lo (suc n) h g t =
    kept_by test p lo (filter test (range_with_len (lo + 1) n)) h t (λ d. kept test p (lo + 1) n (omega (arith, d)) (omega (arith, g)) t) (cases_lt lo p)

within_listed : (side : Block) (named : List ℕ) (p : ℕ) → is_within (point_count side) p ≡ true → is_cut named p ≡ true → is_cut (with_ends side (listed_cuts side named)) p ≡ true
within_listed side named p h g =
    inner_is_cut side (listed_cuts side named) p
    (kept (λ q. list_any (λ c. c == q) named) p 1 (point_count side) (grind (arith, nat_tests, h)) (grind (arith, nat_tests, h)) g)

-- ---- the listed pairs
abbrev is_named : List (ℕ × ℕ) → ℕ × ℕ → Bool
is_named pairs a = is_cut (map (λ b. b.0) pairs) a.0 && is_cut (map (λ b. b.1) pairs) a.1

still_named : (b : ℕ × ℕ) (pairs : List (ℕ × ℕ)) (a : ℕ × ℕ) → is_named pairs a ≡ true → is_named (b ∷ pairs) a ≡ true
still_named b pairs a h =
    let hs : (is_cut (map (λ b. b.0) pairs) a.0 ≡ true) × (is_cut (map (λ b. b.1) pairs) a.1 ≡ true) = and_parts (is_cut (map (λ b. b.0) pairs) a.0) (is_cut (map (λ b. b.1) pairs) a.1) h in
    and_from (is_cut (map (λ b. b.0) (b ∷ pairs)) a.0) (is_cut (map (λ b. b.1) (b ∷ pairs)) a.1)
    (or_right (b.0 == a.0) (is_cut (map (λ b. b.0) pairs) a.0) hs.0) (or_right (b.1 == a.1) (is_cut (map (λ b. b.1) pairs) a.1) hs.1)

all_named : (pairs : List (ℕ × ℕ)) → list_all (is_named pairs) pairs ≡ true
all_named [] = refl
all_named (b ∷ pairs) =
    let own : is_named (b ∷ pairs) b ≡ true =
    and_from (is_cut (map (λ b. b.0) (b ∷ pairs)) b.0) (is_cut (map (λ b. b.1) (b ∷ pairs)) b.1)
    (or_left (b.0 == b.0) (is_cut (map (λ b. b.0) pairs) b.0) (same_number b.0)) (or_left (b.1 == b.1) (is_cut (map (λ b. b.1) pairs) b.1) (same_number b.1)) in
    λ i. own i && all_so (is_named pairs) (is_named (b ∷ pairs)) (still_named b pairs) pairs (all_named pairs) i

-- cut points of both sides by a list of cuts
abbrev pub stands_cut : CutList → Block → Block → ℕ × ℕ → Bool
stands_cut list left right a = is_cut (left_cuts list left) a.0 && is_cut (right_cuts list right) a.1

listed_cut : (left right : Block) (pairs : List (ℕ × ℕ)) (a : ℕ × ℕ) → is_inside left right a ≡ true → is_named pairs a ≡ true → stands_cut (Listed pairs) left right a ≡ true
listed_cut left right pairs a h g =
    let hs : (is_within (point_count left) a.0 ≡ true) × (is_within (point_count right) a.1 ≡ true) = and_parts (is_within (point_count left) a.0) (is_within (point_count right) a.1) h in
    let gs : (is_cut (map (λ b. b.0) pairs) a.0 ≡ true) × (is_cut (map (λ b. b.1) pairs) a.1 ≡ true) = and_parts (is_cut (map (λ b. b.0) pairs) a.0) (is_cut (map (λ b. b.1) pairs) a.1) g in
    and_from (is_cut (left_cuts (Listed pairs) left) a.0) (is_cut (right_cuts (Listed pairs) right) a.1)
    (within_listed left (map (λ b. b.0) pairs) a.0 hs.0 gs.0) (within_listed right (map (λ b. b.1) pairs) a.1 hs.1 gs.1)

ends_cut : (list : CutList) (left right : Block) → (stands_cut list left right (0, 0) ≡ true) × (stands_cut list left right (exit_point left, exit_point right) ≡ true)
ends_cut list left right = (
  and_from (is_cut (left_cuts list left) 0) (is_cut (right_cuts list right) 0) (left_start list left) (right_start list right),
  and_from (is_cut (left_cuts list left) (exit_point left)) (is_cut (right_cuts list right) (exit_point right)) (left_exit list left) (right_exit list right),
)

abbrev pub lists_inside : CutList → Block → Block → Bool
lists_inside Default left right = true
lists_inside (Listed pairs) left right = list_all (is_inside left right) pairs

pub first_are_cut : (list : CutList) (left right : Block) → lists_inside list left right ≡ true
    → list_all (stands_cut list left right) (first_entries list (exit_point left, exit_point right)) ≡ true
first_are_cut Default left right h = λ i. (ends_cut Default left right).0 i && ((ends_cut Default left right).1 i && true)
first_are_cut (Listed pairs) left right h =
    λ i. (ends_cut (Listed pairs) left right).0 i && ((ends_cut (Listed pairs) left right).1 i
    && all_by (is_inside left right) (is_named pairs) (stands_cut (Listed pairs) left right) (listed_cut left right pairs) pairs h (all_named pairs) i)

-- ---- the pairs that are found
at_cut : (cuts : List ℕ) (exit p : ℕ) → is_cut cuts exit ≡ true → is_stop cuts exit (At p) ≡ true → is_cut cuts p ≡ true
at_cut cuts exit p h g =
    elim (or_cases (is_cut cuts p) (p == exit) g) as (λ x. is_cut cuts p ≡ true) [
      | inl e ↦ e
      | inr e ↦ ap (is_cut cuts) (eqb-true p exit e) ∙ h
    ]

module _ (rule : Rule) where
  abbrev left_stops : Path → Bool
  left_stops p = stops_well (left_cuts rule.cuts rule.left) (exit_point rule.left) p

  abbrev right_stops : Path → Bool
  right_stops p = stops_well (right_cuts rule.cuts rule.right) (exit_point rule.right) p

  both_cut : (p q : ℕ) (b : Bool) → is_stop (left_cuts rule.cuts rule.left) (exit_point rule.left) (At p) ≡ true
      → is_stop (right_cuts rule.cuts rule.right) (exit_point rule.right) (At q) ≡ true
      → list_all (stands_cut rule.cuts rule.left rule.right) (cond b ((p, q) ∷ []) []) ≡ true
  both_cut p q false h g = refl
  both_cut p q true h g =
      let here : stands_cut rule.cuts rule.left rule.right (p, q) ≡ true =
      and_from (is_cut (left_cuts rule.cuts rule.left) p) (is_cut (right_cuts rule.cuts rule.right) q)
      (at_cut (left_cuts rule.cuts rule.left) (exit_point rule.left) p (left_exit rule.cuts rule.left) h)
      (at_cut (right_cuts rule.cuts rule.right) (exit_point rule.right) q (right_exit rule.cuts rule.right) g) in
      λ i. here i && true

  alike_cut : (l r : Stop) → is_stop (left_cuts rule.cuts rule.left) (exit_point rule.left) l ≡ true
      → is_stop (right_cuts rule.cuts rule.right) (exit_point rule.right) r ≡ true
      → list_all (stands_cut rule.cuts rule.left rule.right) (stops_alike rule l r) ≡ true
  alike_cut (At p) (At q) h g = both_cut p q (alike (rest_at rule.left p) (rest_at rule.right q)) h g
  alike_cut (At p) Halted h g = refl
  alike_cut (At p) (Stuck k) h g = refl
  alike_cut Halted r h g = refl
  alike_cut (Stuck k) r h g = refl

  arrivals_cut : (lefts rights : List Path) → list_all left_stops lefts ≡ true → list_all right_stops rights ≡ true
      → list_all (stands_cut rule.cuts rule.left rule.right) (arrivals rule lefts rights) ≡ true
  arrivals_cut lefts rights h g =
      all_led left_stops (stands_cut rule.cuts rule.left rule.right) (λ l. flat_map (λ r. stops_alike rule l.stop r.stop) rights)
      (λ l e. all_led right_stops (stands_cut rule.cuts rule.left rule.right) (λ r. stops_alike rule l.stop r.stop) (λ r d. alike_cut l.stop r.stop e d) rights g) lefts h

  found_cut : (list : CutList) (lefts rights : List Path) → list_all left_stops lefts ≡ true → list_all right_stops rights ≡ true
      → list_all (stands_cut rule.cuts rule.left rule.right) (found list (arrivals rule lefts rights)) ≡ true
  found_cut Default lefts rights h g = arrivals_cut lefts rights h g
  found_cut (Listed pairs) lefts rights h g = refl

pub found_are_cut : (rule : Rule) (points : CutPoints) (a : ℕ × ℕ) → points.left ≡ left_cuts rule.cuts rule.left → points.right ≡ right_cuts rule.cuts rule.right
    → list_all (stands_cut rule.cuts rule.left rule.right) (found rule.cuts (arrivals rule (paths rule points Left a.0) (paths rule points Right a.1))) ≡ true
found_are_cut rule points a l r =
    found_cut rule rule.cuts (paths rule points Left a.0) (paths rule points Right a.1)
    (ap (λ cuts. list_all (stops_well cuts (exit_point rule.left)) (paths rule points Left a.0)) (sym l) ∙ paths_stop rule.left points.left (store_of Left) a.0)
    (ap (λ cuts. list_all (stops_well cuts (exit_point rule.right)) (paths rule points Right a.1)) (sym r) ∙ paths_stop rule.right points.right (store_of Right) a.1)
