-- Pairs of paths one after another: what is entered of those that are left.
use Rattle.std.specs.Prelude.{◌≡◌, ℕ, ◌+◌, ◌≤◌, ◌<◌, List, ◌++◌, length, Result, Ok, Err}
use Rattle.std.proofs.Common.{sym, ◌∙◌, ap, get_or, drop}
use Rattle.std.proofs.lemmas.List.{drop_more, drop_all}
use Rattle.rule_terms.specs.declared.path.Path.{Path}
use Rattle.rule_terms.specs.declared.path.Stop.{Stop}
use Rattle.entry_pairs.specs.declared.refusal.CutsRefusal.{CutsRefusal}
use Rattle.entry_pairs.specs.declared.refusal.CutsRefusal.TheVariants.{Limit, NoMemory}
use Rattle.entry_pairs.specs.declared.refusal.LimitMark.{LimitMark}
use Rattle.entry_pairs.specs.declared.point_kinds.PointTable.{PointTable}
use Rattle.entry_pairs.specs.PointKinds.{stops_meet, right_meetings, meetings}
use Rattle.entry_pairs.specs.CutAnswers.{EntriesAnswer, entered_or_mark}
use Rattle.entry_pairs.proofs.EnteredPairs.{entered_on, mark_stays, entered_none}

-- those of one more path of the right side
right_more : (table : PointTable) (l stop : Stop) (rights : List Path) (k : ℕ) (r : Path) → k < length rights → r ≡ get_or rights k r → stop ≡ r.stop
    → right_meetings table l (drop k rights) ≡ stops_meet table l stop ++ right_meetings table l (drop (k + 1) rights)
unfolding right_meetings
right_more table l stop rights k r h e s =
    ap (right_meetings table l) (drop_more rights k r h)
    ∙ ap (λ x. stops_meet table l x ++ right_meetings table l (drop (k + 1) rights)) (ap (λ (x : Path). x.stop) (sym e) ∙ sym s)

pub right_goes_on : (i : ℕ) (table : PointTable) (l stop : Stop) (rights : List Path) (k : ℕ) (r : Path) (entries more : List (ℕ × ℕ)) (target : Result (List (ℕ × ℕ)) LimitMark)
    → k < length rights → r ≡ get_or rights k r → stop ≡ r.stop → entered_or_mark i entries (stops_meet table l stop) ≡ Ok more
    → entered_or_mark i entries (right_meetings table l (drop k rights)) ≡ target → entered_or_mark i more (right_meetings table l (drop (k + 1) rights)) ≡ target
right_goes_on i table l stop rights k r entries more target h e s m t =
    sym (entered_on i entries (stops_meet table l stop) (right_meetings table l (drop (k + 1) rights)) more m)
    ∙ sym (ap (entered_or_mark i entries) (right_more table l stop rights k r h e s)) ∙ t

pub right_marks : (i : ℕ) (table : PointTable) (l stop : Stop) (rights : List Path) (k : ℕ) (r : Path) (entries : List (ℕ × ℕ)) (m : LimitMark) (target : Result (List (ℕ × ℕ)) LimitMark)
    → k < length rights → r ≡ get_or rights k r → stop ≡ r.stop → entered_or_mark i entries (stops_meet table l stop) ≡ Err m
    → entered_or_mark i entries (right_meetings table l (drop k rights)) ≡ target → target ≡ Err m
right_marks i table l stop rights k r entries m target h e s d t =
    sym t ∙ ap (entered_or_mark i entries) (right_more table l stop rights k r h e s)
    ∙ mark_stays i entries (stops_meet table l stop) (right_meetings table l (drop (k + 1) rights)) m d

pub right_done : (i : ℕ) (table : PointTable) (l : Stop) (rights : List Path) (k : ℕ) (entries : List (ℕ × ℕ)) (target : Result (List (ℕ × ℕ)) LimitMark)
    → length rights ≤ k → entered_or_mark i entries (right_meetings table l (drop k rights)) ≡ target → target ≡ Ok entries
unfolding right_meetings
right_done i table l rights k entries target h t =
    sym t ∙ ap (λ xs. entered_or_mark i entries (right_meetings table l xs)) (drop_all k rights h) ∙ entered_none i entries

-- those of one more path of the left side
left_more : (table : PointTable) (stop : Stop) (lefts rights : List Path) (k : ℕ) (l : Path) → k < length lefts → l ≡ get_or lefts k l → stop ≡ l.stop
    → meetings table (drop k lefts) rights ≡ right_meetings table stop rights ++ meetings table (drop (k + 1) lefts) rights
unfolding meetings
left_more table stop lefts rights k l h e s =
    ap (λ xs. meetings table xs rights) (drop_more lefts k l h)
    ∙ ap (λ x. right_meetings table x rights ++ meetings table (drop (k + 1) lefts) rights) (ap (λ (x : Path). x.stop) (sym e) ∙ sym s)

pub left_goes_on : (i : ℕ) (table : PointTable) (stop : Stop) (lefts rights : List Path) (k : ℕ) (l : Path) (entries more : List (ℕ × ℕ)) (target : Result (List (ℕ × ℕ)) LimitMark)
    → k < length lefts → l ≡ get_or lefts k l → stop ≡ l.stop → entered_or_mark i entries (right_meetings table stop rights) ≡ Ok more
    → entered_or_mark i entries (meetings table (drop k lefts) rights) ≡ target → entered_or_mark i more (meetings table (drop (k + 1) lefts) rights) ≡ target
left_goes_on i table stop lefts rights k l entries more target h e s m t =
    sym (entered_on i entries (right_meetings table stop rights) (meetings table (drop (k + 1) lefts) rights) more m)
    ∙ sym (ap (entered_or_mark i entries) (left_more table stop lefts rights k l h e s)) ∙ t

pub left_marks : (i : ℕ) (table : PointTable) (stop : Stop) (lefts rights : List Path) (k : ℕ) (l : Path) (entries : List (ℕ × ℕ)) (m : LimitMark) (target : Result (List (ℕ × ℕ)) LimitMark)
    → k < length lefts → l ≡ get_or lefts k l → stop ≡ l.stop → entered_or_mark i entries (right_meetings table stop rights) ≡ Err m
    → entered_or_mark i entries (meetings table (drop k lefts) rights) ≡ target → target ≡ Err m
left_marks i table stop lefts rights k l entries m target h e s d t =
    sym t ∙ ap (entered_or_mark i entries) (left_more table stop lefts rights k l h e s)
    ∙ mark_stays i entries (right_meetings table stop rights) (meetings table (drop (k + 1) lefts) rights) m d

pub left_done : (i : ℕ) (table : PointTable) (lefts rights : List Path) (k : ℕ) (entries : List (ℕ × ℕ)) (target : Result (List (ℕ × ℕ)) LimitMark)
    → length lefts ≤ k → entered_or_mark i entries (meetings table (drop k lefts) rights) ≡ target → target ≡ Ok entries
unfolding meetings
left_done i table lefts rights k entries target h t =
    sym t ∙ ap (λ xs. entered_or_mark i entries (meetings table xs rights)) (drop_all k lefts h) ∙ entered_none i entries

-- a refusal is handed on
pub handed_on : (expected target : Result (List (ℕ × ℕ)) LimitMark) (before after : List (ℕ × ℕ)) (e : CutsRefusal) → EntriesAnswer {U = Unit {0}} expected before (Err e)
    → ((m : LimitMark) → expected ≡ Err m → target ≡ Err m) → EntriesAnswer {U = Unit {0}} target after (Err e)
handed_on expected target before after (Limit m) h marks = marks m h
handed_on expected target before after NoMemory h marks = tt
