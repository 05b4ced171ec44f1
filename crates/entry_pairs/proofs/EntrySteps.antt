-- The search for entries step by step: one entry is walked, and then the next one.
-- Each step is said of what the code has found.
use Rattle.std.specs.Prelude.{◌≡◌, ℕ, suc, ◌+◌, ◌-◌, ◌*◌, ◌≤◌, ◌<◌, Bool, true, false, cond, nat_lt, List, length, slice_get, Option, Some, None, Result, Ok, Err, refl}
use Rattle.std.proofs.Common.{sym, ◌∙◌, ap, arith}
use Rattle.toy_imp.specs.Faults.{same_pair}
use Rattle.toy_imp.specs.declared.rule.Rule.{Rule}
use Rattle.toy_imp.specs.declared.rule.CutList.{CutList}
use Rattle.toy_imp.specs.declared.rule.CutList.TheVariants.{Default, Listed}
use Rattle.rule_terms.specs.declared.path.Path.{Path}
use Rattle.rule_terms.specs.declared.limit.LimitKind.{LimitKind}
use Rattle.rule_terms.specs.declared.limit.LimitKind.TheVariants.{Pairs, Entries}
use Rattle.path_pairs.specs.declared.cut_points.CutPoints.{CutPoints}
use Rattle.entry_pairs.specs.declared.refusal.LimitMark.{LimitMark}
use Rattle.path_pairs.specs.declared.cut_points.Side.TheVariants.{Left, Right}
use Rattle.entry_pairs.specs.declared.point_kinds.PointTable.{PointTable}
use Rattle.path_pairs.specs.Paths.{paths, path_limit}
use Rattle.entry_pairs.specs.PointKinds.{meetings}
use Rattle.entry_pairs.specs.Cuts.{exits, found, arrivals, entered, earlier, mark, entries_after, walked}
use Rattle.entry_pairs.specs.CutAnswers.{marked, entered_or_mark, paired, rule_table}
use Rattle.entry_pairs.proofs.KindsOfPoints.{meetings_are}

-- entries, or the mark of a limit
abbrev pub Searched : Type 0
Searched = Result (List (ℕ × ℕ)) LimitMark

-- all entries once one is walked: by whether it is the exits, by its limit, and by what is entered
abbrev after_by : ℕ → List (ℕ × ℕ) → Bool → Option LimitKind → Option (List (ℕ × ℕ)) → Searched
after_by i entries is_exits limit o =
    elim is_exits as (λ b. Searched) [
      | true ↦ Ok entries
      | false ↦ elim limit as (λ l. Searched) [
        | Some k ↦ Err (mark i k)
        | None ↦ elim o as (λ o. Searched) [ Some more ↦ Ok more | None ↦ Err (mark i Entries) ]
      ]
    ]

within_limits : (i : ℕ) (entries : List (ℕ × ℕ)) (many : Bool) (o : Option (List (ℕ × ℕ)))
    → after_by i entries false (cond many (Some Pairs) None) o ≡ cond many (Err (mark i Pairs)) (marked i o)
within_limits i entries true o = refl
within_limits i entries false None = refl
within_limits i entries false (Some more) = refl

found_meetings : (rule : Rule) (list : CutList) (lefts rights : List Path) → found list (arrivals rule lefts rights) ≡ found list (meetings (rule_table rule) lefts rights)
found_meetings rule Default lefts rights = sym (meetings_are rule lefts rights)
found_meetings rule (Listed pairs) lefts rights = refl

-- an entry whose paths are within the limits on both sides
paired_is : (rule : Rule) (points : CutPoints) (i : ℕ) (a : ℕ × ℕ) (entries : List (ℕ × ℕ)) (many : Bool) → same_pair a (exits rule) ≡ false
    → path_limit rule points Left a.0 ≡ None → path_limit rule points Right a.1 ≡ None
    → nat_lt 256 (length (paths rule points Left a.0) * length (paths rule points Right a.1)) ≡ many
    → entries_after rule points i a entries
    ≡ cond many (Err (mark i Pairs)) (entered_or_mark i entries (found rule.cuts (meetings (rule_table rule) (paths rule points Left a.0) (paths rule points Right a.1))))
unfolding entered_or_mark
paired_is rule points i a entries many h e d m =
    (λ j. after_by i entries (h j) (earlier (e j) (earlier (d j) (cond (m j) (Some Pairs) None)))
    (entered entries (found rule.cuts (arrivals rule (paths rule points Left a.0) (paths rule points Right a.1)))))
    ∙ within_limits i entries many (entered entries (found rule.cuts (arrivals rule (paths rule points Left a.0) (paths rule points Right a.1))))
    ∙ ap (λ pairs. cond many (Err (mark i Pairs)) (marked i (entered entries pairs)))
    (found_meetings rule rule.cuts (paths rule points Left a.0) (paths rule points Right a.1))

pub paired_at : (rule : Rule) (points : CutPoints) (i : ℕ) (a : ℕ × ℕ) (entries : List (ℕ × ℕ)) (table : PointTable) (lefts rights : List Path) → same_pair a (exits rule) ≡ false
    → path_limit rule points Left a.0 ≡ None → path_limit rule points Right a.1 ≡ None → table ≡ rule_table rule → lefts ≡ paths rule points Left a.0 → rights ≡ paths rule points Right a.1
    → paired rule.cuts table i entries lefts rights ≡ entries_after rule points i a entries
unfolding paired
paired_at rule points i a entries table lefts rights h e d k l r =
    (λ j. paired rule.cuts (k j) i entries (l j) (r j)) ∙ sym (paired_is rule points i a entries _ h e d refl)

-- listed cuts find no entries
pub listed_stay : (list : CutList) (pairs : List (ℕ × ℕ)) (table : PointTable) (i : ℕ) (entries : List (ℕ × ℕ)) (lefts rights : List Path)
    → nat_lt 256 (length lefts * length rights) ≡ false → list ≡ Listed pairs → paired list table i entries lefts rights ≡ Ok entries
unfolding paired entered_or_mark
listed_stay list pairs table i entries lefts rights h e =
    λ j. cond (h j) (Err (mark i Pairs)) (entered_or_mark i entries (found (e j) (meetings table lefts rights)))

-- the exits as they were found
pub not_exits : (rule : Rule) (table : PointTable) (a : ℕ × ℕ) (b same : Bool) → table ≡ rule_table rule → same ≡ same_pair a table.exits → same ≡ b → same_pair a (exits rule) ≡ b
not_exits rule table a b same k e h = ap (λ (x : PointTable). same_pair a x.exits) (sym k) ∙ sym e ∙ h

-- all entries from one on: by the entry, and by the entries once it is walked
abbrev pub walked_by : ℕ → Rule → CutPoints → ℕ → List (ℕ × ℕ) → Option (ℕ × ℕ) → Searched
walked_by n rule points i entries o =
    elim o as (λ o. Searched) [
      | None ↦ Ok entries
      | Some a ↦ elim (entries_after rule points i a entries) as (λ r. Searched) [ Ok more ↦ walked n rule points (suc i) more | Err m ↦ Err m ]
    ]

abbrev pub then_walked : ℕ → Rule → CutPoints → ℕ → Searched → Searched
then_walked n rule points i r = elim r as (λ r. Searched) [ Ok more ↦ walked n rule points (suc i) more | Err m ↦ Err m ]

one_more : (rule : Rule) (points : CutPoints) (i : ℕ) (entries : List (ℕ × ℕ)) → i < 64
    → walked (64 - i) rule points i entries ≡ walked_by (64 - (i + 1)) rule points i entries (slice_get entries i)
unfolding walked
one_more rule points i entries h = let n : 64 - i ≡ suc (64 - (i + 1)) = omega (arith, h) in ap (λ m. walked m rule points i entries) n

pub walk_goes_on : (rule : Rule) (points : CutPoints) (i : ℕ) (a : ℕ × ℕ) (entries more : List (ℕ × ℕ)) (target : Result (List (ℕ × ℕ)) LimitMark) → i < 64
    → slice_get entries i ≡ Some a → entries_after rule points i a entries ≡ Ok more
    → walked (64 - i) rule points i entries ≡ target → walked (64 - (i + 1)) rule points (i + 1) more ≡ target
walk_goes_on rule points i a entries more target h s e t =
    let next : suc i ≡ i + 1 = omega arith in
    sym (ap (λ m. walked (64 - (i + 1)) rule points m more) next)
    ∙ sym (ap (then_walked (64 - (i + 1)) rule points i) e)
    ∙ sym (ap (walked_by (64 - (i + 1)) rule points i entries) s)
    ∙ sym (one_more rule points i entries h) ∙ t

pub walk_marks : (rule : Rule) (points : CutPoints) (i : ℕ) (a : ℕ × ℕ) (entries : List (ℕ × ℕ)) (m : LimitMark) (target : Result (List (ℕ × ℕ)) LimitMark) → i < 64
    → slice_get entries i ≡ Some a → entries_after rule points i a entries ≡ Err m → walked (64 - i) rule points i entries ≡ target → target ≡ Err m
walk_marks rule points i a entries m target h s e t =
    sym t ∙ one_more rule points i entries h ∙ ap (walked_by (64 - (i + 1)) rule points i entries) s ∙ ap (then_walked (64 - (i + 1)) rule points i) e

pub walk_ends : (rule : Rule) (points : CutPoints) (i : ℕ) (entries : List (ℕ × ℕ)) (target : Result (List (ℕ × ℕ)) LimitMark) → i < 64
    → slice_get entries i ≡ None → walked (64 - i) rule points i entries ≡ target → target ≡ Ok entries
walk_ends rule points i entries target h s t = sym t ∙ one_more rule points i entries h ∙ ap (walked_by (64 - (i + 1)) rule points i entries) s

pub walk_full : (rule : Rule) (points : CutPoints) (i : ℕ) (entries : List (ℕ × ℕ)) (target : Result (List (ℕ × ℕ)) LimitMark) → 64 ≤ i
    → walked (64 - i) rule points i entries ≡ target → target ≡ Ok entries
unfolding walked
walk_full rule points i entries target h t = let n : 64 - i ≡ 0 = omega (arith, h) in sym t ∙ ap (λ m. walked m rule points i entries) n
