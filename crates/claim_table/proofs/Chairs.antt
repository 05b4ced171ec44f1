-- One turn of a search for a slot, and chairs that are new.
use Rattle.std.proofs.Common.{◌≡◌, ℕ, ◌+◌, ◌-◌, ◌<◌, ◌≤◌, List, [], ◌∷◌, ◌++◌, map-id, add-one, refl, ap, sym, ◌∙◌, subst, arith}
use mathlib.Core.Logic.{dite}
use native.Mathlib.Decide.{ℕ_discrete}
use Rattle.std.specs.List.{range_with_len}
use Rattle.std.proofs.lemmas.List.{map-append}
use Rattle.std.proofs.lemmas.List.FromFn.{map-range_with_len_more}
use Rattle.std.proofs.lemmas.List.Elements.{All-cons, All-push}
use Rattle.atomic_table.specs.Seated.{TableId}
use Rattle.claim_table.specs.declared.view.View.{View}
use Rattle.claim_table.specs.Occurrences.{times}
use Rattle.claim_table.specs.Views.{after_split, new_view, after_look}
use Rattle.claim_table.specs.Chairs.{ChairView, Passes, IsEmpty, AreNew}
use Rattle.claim_table.proofs.Occurrences.{times-push_same, times-push_le}

-- one more slot was found held or done
pub passes-more : (n : ℕ) (v w : View) → Passes n v w → Passes (n + 1) v (after_look n w)
passes-more n v w p = record {
  number = p.number;
  loads = p.loads;
  seen = p.seen;
  held = p.held;
  finished = p.finished;
  looked = λ i lt. dite (ℕ_discrete i n)
      (λ e. let same = times-push_same n w.looked in subst (λ (z : ℕ). 0 < times z (w.looked ++ n ∷ [])) (sym e) (omega arith))
      (λ ne. let before = p.looked i (omega arith) in let more = times-push_le n i w.looked in omega arith);
}

range-push : (first n : ℕ) → range_with_len first (n + 1) ≡ range_with_len first n ++ (first + n) ∷ []
range-push first n = sym (map-id (range_with_len first (n + 1))) ∙ (map-range_with_len_more (λ k. k) first n (first + n) refl ∙ ap (λ (xs : List ℕ). xs ++ (first + n) ∷ []) (map-id (range_with_len first n)))

range-front : (first n : ℕ) → range_with_len first (n + 1) ≡ first ∷ range_with_len (first + 1) n
range-front first n = ap (range_with_len first) (add-one n)

-- one more chair at the end, with the next number
pub new-push : (table : TableId) (first n : ℕ) (chairs : List ChairView) (c : ChairView) → AreNew table first n chairs
    → c.table ≡ table → c.view.number ≡ first + n → IsEmpty c.view → AreNew table first (n + 1) (chairs ++ c ∷ [])
new-push table first n chairs c are is number empty = record {
  tables = All-push (λ (d : ChairView). d.table ≡ table) chairs c are.tables is;
  numbers = map-append (λ (d : ChairView). d.view.number) chairs (c ∷ []) ∙ (λ i. are.numbers i ++ number i ∷ []) ∙ sym (range-push first n);
  empty = All-push (λ (d : ChairView). IsEmpty d.view) chairs c are.empty empty;
}

-- and one in front of those that are numbered from the next number on
pub new-front : (table : TableId) (first n : ℕ) (chairs : List ChairView) (c : ChairView) → AreNew table (first + 1) n chairs
    → c.table ≡ table → c.view.number ≡ first → IsEmpty c.view → AreNew table first (n + 1) (c ∷ chairs)
new-front table first n chairs c are is number empty = record {
  tables = All-cons (λ (d : ChairView). d.table ≡ table) c chairs is are.tables;
  numbers = (λ i. number i ∷ are.numbers i) ∙ sym (range-front first n);
  empty = All-cons (λ (d : ChairView). IsEmpty d.view) c chairs empty are.empty;
}

-- the same where the number of chairs is one less than the next number
pub next-new : (table : TableId) (number : ℕ) (chairs : List ChairView) (c : ChairView) → 1 ≤ number → AreNew table 1 (number - 1) chairs
    → c.table ≡ table → c.view.number ≡ number → IsEmpty c.view → AreNew table 1 (number + 1 - 1) (chairs ++ c ∷ [])
next-new table number chairs c some are is same empty =
    let more : number - 1 + 1 ≡ number + 1 - 1 = omega arith in
    subst (λ (n : ℕ). AreNew table 1 n (chairs ++ c ∷ [])) more (new-push table 1 (number - 1) chairs c are is (omega arith) empty)

-- and with chair 0 in front
pub all-new : (table : TableId) (seats number : ℕ) (chairs : List ChairView) (c : ChairView) → 1 ≤ number → number ≡ seats → AreNew table 1 (number - 1) chairs
    → c.table ≡ table → c.view.number ≡ 0 → IsEmpty c.view → AreNew table 0 seats (c ∷ chairs)
all-new table seats number chairs c some same are is first empty =
    let more : number - 1 + 1 ≡ seats = omega arith in
    subst (λ (n : ℕ). AreNew table 0 n (c ∷ chairs)) more (new-front table 0 (number - 1) chairs c are is first empty)

pub new-empty : (v : View) → IsEmpty (new_view v)
new-empty v = record { seen = refl; loads = refl; held = refl; finished = refl; looked = refl }

pub split-empty : (v : View) → IsEmpty v → IsEmpty (after_split v)
split-empty v e = record { seen = e.seen; loads = e.loads; held = e.held; finished = e.finished; looked = e.looked }
