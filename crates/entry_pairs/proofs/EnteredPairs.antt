-- Pairs that are entered one after another: first some and then others, and what holds of all entries.
use Rattle.std.specs.Prelude.{◌≡◌, ℕ, Bool, true, false, ◌&&◌, List, [], ◌∷◌, ◌++◌, length, nat_lt, Option, Some, None, Ok, Err, refl}
use Rattle.std.proofs.Common.{sym, ◌∙◌, ap}
use Rattle.std.specs.List.{list_any, list_all}
use Rattle.std.proofs.lemmas.List.Folds.{list_all-append}
use Rattle.toy_imp.specs.Faults.{same_pair}
use Rattle.entry_pairs.specs.declared.refusal.LimitMark.{LimitMark}
use Rattle.entry_pairs.specs.Cuts.{entered}
use Rattle.entry_pairs.specs.CutAnswers.{marked, entered_or_mark}

-- .. and then these
abbrev then_entered : Option (List (ℕ × ℕ)) → List (ℕ × ℕ) → Option (List (ℕ × ℕ))
then_entered None pairs = None
then_entered (Some entries) pairs = entered entries pairs

choice : (p q : Bool) (x x' y y' : Option (List (ℕ × ℕ))) (pairs : List (ℕ × ℕ)) → x' ≡ then_entered x pairs → y' ≡ then_entered y pairs
    → elim p as (λ b. Option (List (ℕ × ℕ))) [ true ↦ x' | false ↦ elim q as (λ b. Option (List (ℕ × ℕ))) [ true ↦ y' | false ↦ None ] ]
    ≡ then_entered (elim p as (λ b. Option (List (ℕ × ℕ))) [ true ↦ x | false ↦ elim q as (λ b. Option (List (ℕ × ℕ))) [ true ↦ y | false ↦ None ] ]) pairs
choice true q x x' y y' pairs e d = e
choice false true x x' y y' pairs e d = d
choice false false x x' y y' pairs e d = refl

entered_both : (entries first second : List (ℕ × ℕ)) → entered entries (first ++ second) ≡ then_entered (entered entries first) second
entered_both entries [] second = refl
entered_both entries (a ∷ first) second =
    choice (list_any (same_pair a) entries) (nat_lt (length entries) 64) (entered entries first) (entered entries (first ++ second))
    (entered (entries ++ a ∷ []) first) (entered (entries ++ a ∷ []) (first ++ second)) second
    (entered_both entries first second) (entered_both (entries ++ a ∷ []) first second)

marked_then : (i : ℕ) (o : Option (List (ℕ × ℕ))) (entries pairs : List (ℕ × ℕ)) → marked i o ≡ Ok entries → marked i (then_entered o pairs) ≡ marked i (entered entries pairs)
marked_then i None entries pairs e = cc
marked_then i (Some found) entries pairs e = let same : found ≡ entries = cc in ap (λ x. marked i (entered x pairs)) same

marked_never : (i : ℕ) (o : Option (List (ℕ × ℕ))) (pairs : List (ℕ × ℕ)) (m : LimitMark) → marked i o ≡ Err m → marked i (then_entered o pairs) ≡ Err m
marked_never i None pairs m e = e
marked_never i (Some found) pairs m e = cc

-- once the first pairs are entered the others follow
pub entered_on : (i : ℕ) (entries first second more : List (ℕ × ℕ)) → entered_or_mark i entries first ≡ Ok more
    → entered_or_mark i entries (first ++ second) ≡ entered_or_mark i more second
unfolding entered_or_mark
entered_on i entries first second more e = ap (marked i) (entered_both entries first second) ∙ marked_then i (entered entries first) more second e

-- a mark stays
pub mark_stays : (i : ℕ) (entries first second : List (ℕ × ℕ)) (m : LimitMark) → entered_or_mark i entries first ≡ Err m
    → entered_or_mark i entries (first ++ second) ≡ Err m
unfolding entered_or_mark
mark_stays i entries first second m e = ap (marked i) (entered_both entries first second) ∙ marked_never i (entered entries first) second m e

-- nothing to enter
pub entered_none : (i : ℕ) (entries : List (ℕ × ℕ)) → entered_or_mark i entries [] ≡ Ok entries
unfolding entered_or_mark
entered_none i entries = refl

and_left : (x y : Bool) → (x && y) ≡ true → x ≡ true
and_left true y h = refl
and_left false y h = cc

and_right : (x y : Bool) → (x && y) ≡ true → y ≡ true
and_right true y h = h
and_right false y h = cc

and_true : (x y : Bool) → x ≡ true → y ≡ true → (x && y) ≡ true
and_true true y h g = g
and_true false y h g = cc

-- what holds of the entries and of the pairs holds of what is entered
choice_all : (test : ℕ × ℕ → Bool) (p q : Bool) (x y : Option (List (ℕ × ℕ))) (more : List (ℕ × ℕ))
    → ((e : x ≡ Some more) → list_all test more ≡ true) → ((e : y ≡ Some more) → list_all test more ≡ true)
    → elim p as (λ b. Option (List (ℕ × ℕ))) [ true ↦ x | false ↦ elim q as (λ b. Option (List (ℕ × ℕ))) [ true ↦ y | false ↦ None ] ] ≡ Some more
    → list_all test more ≡ true
choice_all test true q x y more h g e = h e
choice_all test false true x y more h g e = g e
choice_all test false false x y more h g e = cc

pub entered_all : (test : ℕ × ℕ → Bool) (entries pairs more : List (ℕ × ℕ)) → list_all test entries ≡ true → list_all test pairs ≡ true
    → entered entries pairs ≡ Some more → list_all test more ≡ true
entered_all test entries [] more h g e = let same : entries ≡ more = cc in ap (list_all test) (sym same) ∙ h
entered_all test entries (a ∷ pairs) more h g e =
    let here : test a ≡ true = and_left (test a) (list_all test pairs) g in
    let rest : list_all test pairs ≡ true = and_right (test a) (list_all test pairs) g in
    let one : list_all test (a ∷ []) ≡ true = and_true (test a) true here refl in
    let longer : list_all test (entries ++ a ∷ []) ≡ true = list_all-append test entries (a ∷ []) ∙ and_true (list_all test entries) (list_all test (a ∷ [])) h one in
    choice_all test (list_any (same_pair a) entries) (nat_lt (length entries) 64) (entered entries pairs) (entered (entries ++ a ∷ []) pairs) more
    (entered_all test entries pairs more h rest) (entered_all test (entries ++ a ∷ []) pairs more longer rest) e
