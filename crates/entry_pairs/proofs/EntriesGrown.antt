-- Entries grow at their end, one after another: what stays so of them, and what holds of those that are walked.
use Rattle.std.specs.Prelude.{◌≡◌, ◌≤◌, ◌<◌, ℕ, zero, suc, Bool, true, false, ◌&&◌, ◌||◌, List, [], ◌∷◌, ◌++◌, length, nat_lt, slice_get, Option, Some, None, Result, Ok, Err, is_none, refl}
use Rattle.std.proofs.Common.{sym, ◌∙◌, ap, subst, arith, append_assoc, append-nil, take, drop}
use Rattle.std.specs.List.{list_any, list_all}
use Rattle.std.proofs.lemmas.Bool.{and_parts, or_from, or_parts}
use Rattle.std.proofs.lemmas.Bool.Decides.{nat_tests}
use Rattle.std.proofs.lemmas.List.{length-append}
use Rattle.std.proofs.lemmas.List.Folds.{list_all-append, list_any-append}
use Rattle.toy_imp.specs.Faults.{same_pair, repeats_pair}
use Rattle.toy_imp.specs.declared.rule.Rule.{Rule}
use Rattle.rule_terms.specs.declared.limit.LimitKind.{LimitKind}
use Rattle.rule_terms.specs.declared.limit.LimitKind.TheVariants.{Entries}
use Rattle.path_pairs.specs.declared.cut_points.CutPoints.{CutPoints}
use Rattle.path_pairs.specs.declared.cut_points.Side.TheVariants.{Left, Right}
use Rattle.path_pairs.specs.Paths.{paths}
use Rattle.entry_pairs.specs.declared.refusal.LimitMark.{LimitMark}
use Rattle.entry_pairs.specs.Cuts.{exits, found, arrivals, entered, pair_limit, mark, entries_after, walked}
use Rattle.entry_pairs.proofs.EntrySteps.{walked_by, then_walked}

pub record Grown (test : ℕ × ℕ → Bool) (entries more : List (ℕ × ℕ)) : Type 0 where
  pub new : List (ℕ × ℕ)
  pub longer : more ≡ entries ++ new
  pub few : length entries ≤ 64 → length more ≤ 64
  pub differ : repeats_pair entries ≡ false → repeats_pair more ≡ false
  pub passed : list_all test entries ≡ true → list_all test more ≡ true

grown_none : (test : ℕ × ℕ → Bool) (entries : List (ℕ × ℕ)) → Grown test entries entries
grown_none test entries = record { new = []; longer = sym (append-nil entries); few = λ h. h; differ = λ h. h; passed = λ h. h }

pub turned : (a b : ℕ × ℕ) → same_pair a b ≡ false → same_pair b a ≡ false
turned a b h = grind (arith, nat_tests, h)

no_repeat : (entries : List (ℕ × ℕ)) (a : ℕ × ℕ) → list_any (same_pair a) entries ≡ false → repeats_pair entries ≡ false → repeats_pair (entries ++ a ∷ []) ≡ false
no_repeat [] a h g = refl
no_repeat (b ∷ entries) a h g =
    let hs : (same_pair a b ≡ false) × (list_any (same_pair a) entries ≡ false) = or_parts (same_pair a b) (list_any (same_pair a) entries) h in
    let gs : (list_any (same_pair b) entries ≡ false) × (repeats_pair entries ≡ false) = or_parts (list_any (same_pair b) entries) (repeats_pair entries) g in
    or_from (list_any (same_pair b) (entries ++ a ∷ [])) (repeats_pair (entries ++ a ∷ []))
    (list_any-append (same_pair b) entries (a ∷ []) ∙ or_from (list_any (same_pair b) entries) (list_any (same_pair b) (a ∷ [])) gs.0 (or_from (same_pair b a) false (turned a b hs.0) refl))
    (no_repeat entries a hs.1 gs.1)

grown_one : (test : ℕ × ℕ → Bool) (entries : List (ℕ × ℕ)) (a : ℕ × ℕ) → list_any (same_pair a) entries ≡ false → nat_lt (length entries) 64 ≡ true → test a ≡ true
    → Grown test entries (entries ++ a ∷ [])
grown_one test entries a h l t =
    let below : length entries < 64 = grind (arith, nat_tests, l) in
    record {
      new = a ∷ [];
      longer = refl;
      few = λ n. omega (arith, below, length-append entries (a ∷ []));
      differ = λ g. no_repeat entries a h g;
      passed = λ g. list_all-append test entries (a ∷ []) ∙ (λ i. g i && (t i && true));
    }

grown_then : (test : ℕ × ℕ → Bool) (entries more most : List (ℕ × ℕ)) → Grown test entries more → Grown test more most → Grown test entries most
grown_then test entries more most g h = record {
  new = g.new ++ h.new;
  longer = h.longer ∙ ap (λ xs. xs ++ h.new) g.longer ∙ append_assoc entries g.new h.new;
  few = λ n. h.few (g.few n);
  differ = λ d. h.differ (g.differ d);
  passed = λ p. h.passed (g.passed p);
}

-- ---- pairs are entered
choice_grown : (test : ℕ × ℕ → Bool) (entries : List (ℕ × ℕ)) (a : ℕ × ℕ) (p q : Bool) (x y : Option (List (ℕ × ℕ))) (more : List (ℕ × ℕ))
    → list_any (same_pair a) entries ≡ p → nat_lt (length entries) 64 ≡ q → test a ≡ true
    → (x ≡ Some more → Grown test entries more) → (y ≡ Some more → Grown test (entries ++ a ∷ []) more)
    → elim p as (λ b. Option (List (ℕ × ℕ))) [ true ↦ x | false ↦ elim q as (λ b. Option (List (ℕ × ℕ))) [ true ↦ y | false ↦ None ] ] ≡ Some more
    → Grown test entries more
choice_grown test entries a true q x y more h l t f g e = f e
choice_grown test entries a false true x y more h l t f g e = grown_then test entries (entries ++ a ∷ []) more (grown_one test entries a h l t) (g e)
choice_grown test entries a false false x y more h l t f g e = absurd cc

entered_grown : (test : ℕ × ℕ → Bool) (entries pairs more : List (ℕ × ℕ)) → list_all test pairs ≡ true → entered entries pairs ≡ Some more → Grown test entries more
entered_grown test entries [] more h e = let same : entries ≡ more = cc in subst (Grown test entries) same (grown_none test entries)
entered_grown test entries (a ∷ pairs) more h e =
    let hs : (test a ≡ true) × (list_all test pairs ≡ true) = and_parts (test a) (list_all test pairs) h in
    choice_grown test entries a (list_any (same_pair a) entries) (nat_lt (length entries) 64) (entered entries pairs) (entered (entries ++ a ∷ []) pairs) more refl refl hs.0
    (entered_grown test entries pairs more hs.1) (entered_grown test (entries ++ a ∷ []) pairs more hs.1) e

-- ---- an entry is walked
-- no limit is met from it, or it is the exits
abbrev pub is_walked : Rule → CutPoints → ℕ × ℕ → Bool
is_walked rule points a = same_pair a (exits rule) || is_none (pair_limit rule points a)

after_grown : (test : ℕ × ℕ → Bool) (i : ℕ) (b : Bool) (l : Option LimitKind) (o : Option (List (ℕ × ℕ))) (entries more : List (ℕ × ℕ))
    → ((xs : List (ℕ × ℕ)) → o ≡ Some xs → Grown test entries xs)
    → elim b as (λ b. Result (List (ℕ × ℕ)) LimitMark) [
      | true ↦ Ok entries
      | false ↦ elim l as (λ l. Result (List (ℕ × ℕ)) LimitMark) [
        | Some k ↦ Err (mark i k)
        | None ↦ elim o as (λ o. Result (List (ℕ × ℕ)) LimitMark) [ Some more ↦ Ok more | None ↦ Err (mark i Entries) ]
      ]
    ]
    ≡ Ok more → Grown test entries more × ((b || is_none l) ≡ true)
after_grown test i true l o entries more f e = let same : entries ≡ more = cc in (subst (Grown test entries) same (grown_none test entries), refl)
after_grown test i false (Some k) o entries more f e = absurd cc
after_grown test i false None (Some xs) entries more f e = let same : xs ≡ more = cc in (subst (Grown test entries) same (f xs refl), refl)
after_grown test i false None None entries more f e = absurd cc

-- ---- all are walked
at_end : (xs : List (ℕ × ℕ)) (i : ℕ) → slice_get xs i ≡ None → drop i xs ≡ []
at_end [] zero h = refl
at_end [] (suc i) h = refl
at_end (x ∷ xs) zero h = absurd cc
at_end (x ∷ xs) (suc i) h = at_end xs i h

at_place : (xs more new : List (ℕ × ℕ)) (i : ℕ) (a : ℕ × ℕ) → more ≡ xs ++ new → slice_get xs i ≡ Some a → drop i more ≡ a ∷ drop (suc i) more
at_place xs more new i a e h = ap (drop i) e ∙ in_front xs i h ∙ ap (λ ys. a ∷ drop (suc i) ys) (sym e)
  where
    in_front : (ys : List (ℕ × ℕ)) (j : ℕ) → slice_get ys j ≡ Some a → drop j (ys ++ new) ≡ a ∷ drop (suc j) (ys ++ new)
    in_front [] j g = absurd cc
    in_front (y ∷ ys) zero g = let same : y ≡ a = cc in ap (λ z. z ∷ (ys ++ new)) same
    in_front (y ∷ ys) (suc j) g = in_front ys j g

module _ (rule : Rule) (points : CutPoints) (test : ℕ × ℕ → Bool)
    (finds : (a : ℕ × ℕ) → list_all test (found rule.cuts (arrivals rule (paths rule points Left a.0) (paths rule points Right a.1))) ≡ true) where
  abbrev Searched : ℕ → ℕ → List (ℕ × ℕ) → List (ℕ × ℕ) → Type 0
  Searched n i entries final = Grown test entries final × (list_all (is_walked rule points) (take n (drop i final)) ≡ true)

  one_walked : (i : ℕ) (a : ℕ × ℕ) (entries more : List (ℕ × ℕ)) → entries_after rule points i a entries ≡ Ok more → Grown test entries more × (is_walked rule points a ≡ true)
  one_walked i a entries more e =
      after_grown test i (same_pair a (exits rule)) (pair_limit rule points a)
      (entered entries (found rule.cuts (arrivals rule (paths rule points Left a.0) (paths rule points Right a.1)))) entries more
      (λ xs d. entered_grown test entries (found rule.cuts (arrivals rule (paths rule points Left a.0) (paths rule points Right a.1))) xs (finds a) d) e

  by_walk : (n i : ℕ) (a : ℕ × ℕ) (entries final : List (ℕ × ℕ)) (r : Result (List (ℕ × ℕ)) LimitMark) → slice_get entries i ≡ Some a
      → entries_after rule points i a entries ≡ r → then_walked n rule points i r ≡ Ok final
      → ((more : List (ℕ × ℕ)) → walked n rule points (suc i) more ≡ Ok final → Searched n (suc i) more final) → Searched (suc n) i entries final
  by_walk n i a entries final (Err m) s d e f = absurd cc
  by_walk n i a entries final (Ok more) s d e f =
      let here : Grown test entries more × (is_walked rule points a ≡ true) = one_walked i a entries more d in
      let on : Searched n (suc i) more final = f more e in
      let all : Grown test entries final = grown_then test entries more final here.0 on.0 in
      (all, ap (λ xs. list_all (is_walked rule points) (take (suc n) xs)) (at_place entries final all.new i a all.longer s) ∙ (λ j. here.1 j && on.1 j))

  by_place : (n i : ℕ) (entries final : List (ℕ × ℕ)) (o : Option (ℕ × ℕ)) → slice_get entries i ≡ o → walked_by n rule points i entries o ≡ Ok final
      → ((more : List (ℕ × ℕ)) → walked n rule points (suc i) more ≡ Ok final → Searched n (suc i) more final) → Searched (suc n) i entries final
  by_place n i entries final None s e f =
      let same : entries ≡ final = cc in (
        subst (Grown test entries) same (grown_none test entries),
        ap (λ xs. list_all (is_walked rule points) (take (suc n) xs)) (ap (drop i) (sym same) ∙ at_end entries i s),
      )
  by_place n i entries final (Some a) s e f = by_walk n i a entries final (entries_after rule points i a entries) s refl e f

  pub searched : (n i : ℕ) (entries final : List (ℕ × ℕ)) → walked n rule points i entries ≡ Ok final → Searched n i entries final
  unfolding walked
  searched zero i entries final e = let same : entries ≡ final = cc in (subst (Grown test entries) same (grown_none test entries), refl)
  searched (suc n) i entries final e = by_place n i entries final (slice_get entries i) refl e (λ more d. searched n (suc i) more final d)
