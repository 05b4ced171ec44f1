-- An answer of `cuts` is a list of entries that can be walked.
use Rattle.std.specs.Prelude.{◌≡◌, ◌≤◌, ℕ, ◌*◌, Bool, true, false, not, ◌&&◌, ◌||◌, List, [], ◌∷◌, ◌++◌, length, nat_lt, Option, Some, None, Result, Ok, Err, is_none, All, if◌then◌else◌, refl}
use Rattle.std.proofs.Common.{sym, ◌∙◌, ap, subst, arith, take, drop}
use Rattle.std.specs.List.{list_any, list_all}
use Rattle.std.proofs.lemmas.Bool.{and_parts, and_from, or_from, or_parts, not-false}
use Rattle.std.proofs.lemmas.Bool.Decides.{nat_tests}
use Rattle.std.proofs.lemmas.List.{take_all}
use Rattle.std.proofs.lemmas.List.Elements.{All-nil, All-cons, All-weaker}
use Rattle.std.proofs.lemmas.List.Sums.{AllPass-from_list_all}
use Rattle.toy_imp.specs.Block.{Block}
use Rattle.toy_imp.specs.Faults.{same_pair, repeats_pair, is_inside, cuts_nothing, well_formed, is_simulate}
use Rattle.toy_imp.specs.Points.{exit_point}
use Rattle.toy_imp.specs.declared.rule.CutList.{CutList}
use Rattle.toy_imp.specs.declared.rule.CutList.TheVariants.{Default, Listed}
use Rattle.toy_imp.specs.declared.rule.Rule.{Rule}
use Rattle.rule_terms.specs.declared.limit.LimitKind.{LimitKind}
use Rattle.rule_terms.specs.declared.limit.LimitKind.TheVariants.{Pairs, Entries}
use Rattle.path_pairs.specs.declared.cut_points.CutPoints.{CutPoints}
use Rattle.path_pairs.specs.declared.cut_points.Side.TheVariants.{Left, Right}
use Rattle.path_pairs.specs.Paths.{paths, path_limit}
use Rattle.entry_pairs.specs.declared.refusal.LimitMark.{LimitMark}
use Rattle.entry_pairs.specs.Cuts.{exits, first_entries, found, arrivals, first_cuts, with_pairs, earlier, pair_limit, mark, walked, cuts}
use Rattle.entry_pairs.specs.CutAnswers.{may_be_entry}
use Rattle.entry_pairs.specs.EntryLists.{IsBefore, IsWithin, IsEntryList, CutsAreEntryList}
use Rattle.entry_pairs.proofs.AllPassing.{all_by, all_so}
use Rattle.entry_pairs.proofs.Ascending.{left_increases, right_increases}
use Rattle.entry_pairs.proofs.CutPairs.{stands_cut, lists_inside, first_are_cut, found_are_cut}
use Rattle.entry_pairs.proofs.EntriesGrown.{Grown, turned, is_walked, searched}
use Rattle.entry_pairs.proofs.EntriesInside.{cuts_something, first_may, found_may, left_before, right_before}

-- ---- the first entries
no_such : (left right : Block) (b : ℕ × ℕ) → ((a : ℕ × ℕ) → is_inside left right a ≡ true → same_pair b a ≡ false) → (pairs : List (ℕ × ℕ))
    → list_all (is_inside left right) pairs ≡ true → list_any (same_pair b) pairs ≡ false
no_such left right b f [] h = refl
no_such left right b f (a ∷ pairs) h =
    let hs : (is_inside left right a ≡ true) × (list_all (is_inside left right) pairs ≡ true) = and_parts (is_inside left right a) (list_all (is_inside left right) pairs) h in
    or_from (same_pair b a) (list_any (same_pair b) pairs) (f a hs.0) (no_such left right b f pairs hs.1)

not_start : (left right : Block) (a : ℕ × ℕ) → is_inside left right a ≡ true → same_pair (0, 0) a ≡ false
not_start left right a h = grind (arith, nat_tests, h)

not_exits : (left right : Block) (a : ℕ × ℕ) → is_inside left right a ≡ true → same_pair (exit_point left, exit_point right) a ≡ false
not_exits left right a h = grind (arith, nat_tests, h)

start_is_no_exit : (left right : Block) → same_pair (0, 0) (exit_point left, exit_point right) ≡ false
start_is_no_exit left right = grind (arith, nat_tests)

listed_inside : (list : CutList) (left right : Block) → cuts_nothing list left right ≡ false → lists_inside list left right ≡ true
listed_inside Default left right h = refl
listed_inside (Listed pairs) left right h = not-false (list_all (is_inside left right) pairs) ((or_parts (not (list_all (is_inside left right) pairs)) (repeats_pair pairs) h).0)

first_differ : (list : CutList) (left right : Block) → cuts_nothing list left right ≡ false → repeats_pair (first_entries list (exit_point left, exit_point right)) ≡ false
first_differ Default left right h =
    or_from (same_pair (0, 0) (exit_point left, exit_point right) || false) (repeats_pair ((exit_point left, exit_point right) ∷ []))
    (or_from (same_pair (0, 0) (exit_point left, exit_point right)) false (start_is_no_exit left right) refl) refl
first_differ (Listed pairs) left right h =
    let inside : list_all (is_inside left right) pairs ≡ true = listed_inside (Listed pairs) left right h in
    let once : repeats_pair pairs ≡ false = (or_parts (not (list_all (is_inside left right) pairs)) (repeats_pair pairs) h).1 in
    or_from (list_any (same_pair (0, 0)) ((exit_point left, exit_point right) ∷ pairs)) (repeats_pair ((exit_point left, exit_point right) ∷ pairs))
    (or_from (same_pair (0, 0) (exit_point left, exit_point right)) (list_any (same_pair (0, 0)) pairs) (start_is_no_exit left right)
    (no_such left right (0, 0) (not_start left right) pairs inside))
    (or_from (list_any (same_pair (exit_point left, exit_point right)) pairs) (repeats_pair pairs)
    (no_such left right (exit_point left, exit_point right) (not_exits left right) pairs inside) once)

abbrev others_of : CutList → List (ℕ × ℕ) → List (ℕ × ℕ)
others_of Default new = new
others_of (Listed pairs) new = pairs ++ new

begins : (list : CutList) (ends : ℕ × ℕ) (new : List (ℕ × ℕ)) → first_entries list ends ++ new ≡ (0, 0) ∷ ends ∷ others_of list new
begins Default ends new = refl
begins (Listed pairs) ends new = refl

-- ---- all entries but the exits
earlier_none : (x y : Option LimitKind) → earlier x y ≡ None → (x ≡ None) × (y ≡ None)
earlier_none None y h = (refl, h)
earlier_none (Some k) y h = absurd cc

few_pairs : (n : ℕ) (b : Bool) → nat_lt 256 n ≡ b → ◌≡◌ {A = Option LimitKind} (if b then Some Pairs else None) None → n ≤ 256
few_pairs n true h e = absurd cc
few_pairs n false h e = grind (arith, nat_tests, h)

no_limit : (o : Option LimitKind) → is_none o ≡ true → o ≡ None
no_limit None h = refl
no_limit (Some k) h = absurd cc

limit_free : (b : Bool) (o : Option LimitKind) → b ≡ false → (b || is_none o) ≡ true → o ≡ None
limit_free false o e h = no_limit o h
limit_free true o e h = absurd cc

within : (rule : Rule) (points : CutPoints) (a : ℕ × ℕ) → same_pair a (exits rule) ≡ false → is_walked rule points a ≡ true → IsWithin rule points a
within rule points a d h =
    let free : pair_limit rule points a ≡ None = limit_free (same_pair a (exits rule)) (pair_limit rule points a) d h in
    let pairs : Option LimitKind = if nat_lt 256 (length (paths rule points Left a.0) * length (paths rule points Right a.1)) then Some Pairs else None in
    let left : (path_limit rule points Left a.0 ≡ None) × (earlier (path_limit rule points Right a.1) pairs ≡ None) =
    earlier_none (path_limit rule points Left a.0) (earlier (path_limit rule points Right a.1) pairs) free in
    let right : (path_limit rule points Right a.1 ≡ None) × (pairs ≡ None) = earlier_none (path_limit rule points Right a.1) pairs left.1 in
    record {
      left = left.0;
      right = right.0;
      few = few_pairs (length (paths rule points Left a.0) * length (paths rule points Right a.1)) _ refl right.1;
    }

others_before : (rule : Rule) (others : List (ℕ × ℕ)) → list_all (may_be_entry rule) others ≡ true → list_any (same_pair (exits rule)) others ≡ false → All (IsBefore rule) others
others_before rule [] h d = All-nil (IsBefore rule)
others_before rule (a ∷ others) h d =
    let hs : (may_be_entry rule a ≡ true) × (list_all (may_be_entry rule) others ≡ true) = and_parts (may_be_entry rule a) (list_all (may_be_entry rule) others) h in
    let ds : (same_pair (exits rule) a ≡ false) × (list_any (same_pair (exits rule)) others ≡ false) = or_parts (same_pair (exits rule) a) (list_any (same_pair (exits rule)) others) d in
    let other : same_pair a (exits rule) ≡ false = turned (exits rule) a ds.0 in
    All-cons (IsBefore rule) a others (record { left = left_before rule a hs.0 other; right = right_before rule a hs.0 other }) (others_before rule others hs.1 ds.1)

others_within : (rule : Rule) (points : CutPoints) (others : List (ℕ × ℕ)) → list_all (is_walked rule points) others ≡ true → list_any (same_pair (exits rule)) others ≡ false
    → All (IsWithin rule points) others
others_within rule points [] h d = All-nil (IsWithin rule points)
others_within rule points (a ∷ others) h d =
    let hs : (is_walked rule points a ≡ true) × (list_all (is_walked rule points) others ≡ true) = and_parts (is_walked rule points a) (list_all (is_walked rule points) others) h in
    let ds : (same_pair (exits rule) a ≡ false) × (list_any (same_pair (exits rule)) others ≡ false) = or_parts (same_pair (exits rule) a) (list_any (same_pair (exits rule)) others) d in
    All-cons (IsWithin rule points) a others (within rule points a (turned (exits rule) a ds.0) hs.0) (others_within rule points others hs.1 ds.1)

-- ---- what is searched
abbrev test_of : Rule → ℕ × ℕ → Bool
test_of rule a = may_be_entry rule a && stands_cut rule.cuts rule.left rule.right a

found_pass : (rule : Rule) (a : ℕ × ℕ) → list_all (test_of rule) (found rule.cuts (arrivals rule (paths rule (first_cuts rule) Left a.0) (paths rule (first_cuts rule) Right a.1))) ≡ true
found_pass rule a =
    all_by (may_be_entry rule) (stands_cut rule.cuts rule.left rule.right) (test_of rule)
    (λ x h g. and_from (may_be_entry rule x) (stands_cut rule.cuts rule.left rule.right x) h g)
    (found rule.cuts (arrivals rule (paths rule (first_cuts rule) Left a.0) (paths rule (first_cuts rule) Right a.1)))
    (found_may rule rule.cuts (paths rule (first_cuts rule) Left a.0) (paths rule (first_cuts rule) Right a.1))
    (found_are_cut rule (first_cuts rule) a refl refl)

parts : (rule : Rule) (final others : List (ℕ × ℕ)) → final ≡ (0, 0) ∷ exits rule ∷ others → length final ≤ 64 → repeats_pair final ≡ false
    → list_all (stands_cut rule.cuts rule.left rule.right) final ≡ true → list_all (may_be_entry rule) final ≡ true
    → list_all (is_walked rule (first_cuts rule)) final ≡ true → IsEntryList rule (with_pairs (first_cuts rule) final)
parts rule final others begin few differ cut may walks =
    let once : (list_any (same_pair (0, 0)) (exits rule ∷ others) ≡ false) × (repeats_pair (exits rule ∷ others) ≡ false) =
    or_parts (list_any (same_pair (0, 0)) (exits rule ∷ others)) (repeats_pair (exits rule ∷ others)) (sym (ap repeats_pair begin) ∙ differ) in
    let apart : list_any (same_pair (exits rule)) others ≡ false = (or_parts (list_any (same_pair (exits rule)) others) (repeats_pair others) once.1).0 in
    let others_may : list_all (may_be_entry rule) others ≡ true =
    (and_parts (may_be_entry rule (exits rule)) (list_all (may_be_entry rule) others)
    (and_parts (may_be_entry rule (0, 0)) (list_all (may_be_entry rule) (exits rule ∷ others)) (sym (ap (list_all (may_be_entry rule)) begin) ∙ may)).1).1 in
    let first_walk : (is_walked rule (first_cuts rule) (0, 0) ≡ true) × (list_all (is_walked rule (first_cuts rule)) (exits rule ∷ others) ≡ true) =
    and_parts (is_walked rule (first_cuts rule) (0, 0)) (list_all (is_walked rule (first_cuts rule)) (exits rule ∷ others))
    (sym (ap (list_all (is_walked rule (first_cuts rule))) begin) ∙ walks) in
    let others_walk : list_all (is_walked rule (first_cuts rule)) others ≡ true =
    (and_parts (is_walked rule (first_cuts rule) (exits rule)) (list_all (is_walked rule (first_cuts rule)) others) first_walk.1).1 in
    let start : IsWithin rule (first_cuts rule) (0, 0) = within rule (first_cuts rule) (0, 0) (start_is_no_exit rule.left rule.right) first_walk.0 in
    let on : All (IsWithin rule (first_cuts rule)) ((0, 0) ∷ others) =
    All-cons (IsWithin rule (first_cuts rule)) (0, 0) others start (others_within rule (first_cuts rule) others others_walk apart) in
    record {
      others = others;
      begin = begin;
      before = others_before rule others others_may apart;
      few = few;
      differ = differ;
      cut = AllPass-from_list_all (stands_cut rule.cuts rule.left rule.right) final cut;
      within = All-weaker (IsWithin rule (first_cuts rule)) (IsWithin rule (with_pairs (first_cuts rule) final))
          (λ a h. record { left = h.left; right = h.right; few = h.few }) ((0, 0) ∷ others) on;
      left_ascends = left_increases rule.cuts rule.left;
      right_ascends = right_increases rule.cuts rule.right;
    }

listed : (rule : Rule) (final : List (ℕ × ℕ)) → well_formed rule ≡ true → is_simulate rule.method ≡ true → nat_lt 64 (length (first_cuts rule).pairs) ≡ false
    → walked 64 rule (first_cuts rule) 0 (first_cuts rule).pairs ≡ Ok final → IsEntryList rule (with_pairs (first_cuts rule) final)
listed rule final w m n e =
    let sound : cuts_nothing rule.cuts rule.left rule.right ≡ false = cuts_something rule w m in
    let s : Grown (test_of rule) (first_cuts rule).pairs final × (list_all (is_walked rule (first_cuts rule)) (take 64 (drop 0 final)) ≡ true) =
    searched rule (first_cuts rule) (test_of rule) (found_pass rule) 64 0 (first_cuts rule).pairs final e in
    let begin : final ≡ (0, 0) ∷ exits rule ∷ others_of rule.cuts s.0.new = s.0.longer ∙ begins rule.cuts (exits rule) s.0.new in
    let few : length final ≤ 64 = s.0.few (grind (arith, nat_tests, n)) in
    let differ : repeats_pair final ≡ false = s.0.differ (first_differ rule.cuts rule.left rule.right sound) in
    let passed : list_all (test_of rule) final ≡ true =
    s.0.passed (all_by (may_be_entry rule) (stands_cut rule.cuts rule.left rule.right) (test_of rule)
    (λ x h g. and_from (may_be_entry rule x) (stands_cut rule.cuts rule.left rule.right x) h g) (first_cuts rule).pairs
    (first_may rule w m) (first_are_cut rule.cuts rule.left rule.right (listed_inside rule.cuts rule.left rule.right sound))) in
    let cut : list_all (stands_cut rule.cuts rule.left rule.right) final ≡ true =
    all_so (test_of rule) (stands_cut rule.cuts rule.left rule.right) (λ x h. (and_parts (may_be_entry rule x) (stands_cut rule.cuts rule.left rule.right x) h).1) final passed in
    let may : list_all (may_be_entry rule) final ≡ true =
    all_so (test_of rule) (may_be_entry rule) (λ x h. (and_parts (may_be_entry rule x) (stands_cut rule.cuts rule.left rule.right x) h).0) final passed in
    let walks : list_all (is_walked rule (first_cuts rule)) final ≡ true = ap (list_all (is_walked rule (first_cuts rule))) (sym (take_all 64 final few)) ∙ s.1 in
    parts rule final (others_of rule.cuts s.0.new) begin few differ cut may walks

answered : (rule : Rule) (points : CutPoints) (b : Bool) (r : Result (List (ℕ × ℕ)) LimitMark)
    → elim b as (λ b. Result CutPoints LimitMark) [
      | true ↦ Err (mark 0 Entries)
      | false ↦ elim r as (λ r. Result CutPoints LimitMark) [ Ok entries ↦ Ok (with_pairs (first_cuts rule) entries) | Err m ↦ Err m ]
    ]
    ≡ Ok points → (b ≡ false) × ((entries : List (ℕ × ℕ)) × (r ≡ Ok entries) × (with_pairs (first_cuts rule) entries ≡ points))
answered rule points true r e = absurd cc
answered rule points false (Err m) e = absurd cc
answered rule points false (Ok entries) e = let same : with_pairs (first_cuts rule) entries ≡ points = cc in (refl, (entries, refl, same))

pub cuts_are_entry_list : CutsAreEntryList
cuts_are_entry_list rule points w m e =
    let a : (nat_lt 64 (length (first_cuts rule).pairs) ≡ false)
    × ((entries : List (ℕ × ℕ)) × (walked 64 rule (first_cuts rule) 0 (first_cuts rule).pairs ≡ Ok entries) × (with_pairs (first_cuts rule) entries ≡ points)) =
    answered rule points (nat_lt 64 (length (first_cuts rule).pairs)) (walked 64 rule (first_cuts rule) 0 (first_cuts rule).pairs) e in
    subst (IsEntryList rule) a.1.2 (listed rule a.1.0 w m a.0 a.1.1)
