-- The rule of a table that was just made, and of one more chair.
use Rattle.std.proofs.Common.{◌≡◌, ◌≢◌, ◌⊎◌, ℕ, zero, suc, ◌+◌, ◌<◌, List, [], ◌∷◌, ◌++◌, set, length, replicate, slice_index, refl, ap, sym, ◌∙◌, subst, inl, inr, ⊎_elim, arith, length-append, length-set}
use Rattle.std.proofs.lemmas.List.{length-replicate}
use mathlib.Core.Option.{some, some-injective, some-ne-none}
use lib.ListN.{get_elem?}
use Rattle.atomic_table.specs.Table.{opening, Splits}
use Rattle.atomic_table.proofs.Lists.{at_set, set_else, at_longer}
use Rattle.claim_table.specs.declared.view.View.{View}
use Rattle.claim_table.specs.Occurrences.{times}
use Rattle.claim_table.specs.Views.{first_view, after_split, new_view}
use Rattle.claim_table.proofs.Moves.{known_below, known_now, one_view}
use mathlib.Core.Logic.{dite}
use native.Mathlib.Decide.{ℕ_discrete}
use Rattle.claim_table.specs.Laws.{StartsFree}
use Rattle.claim_table.specs.Rule.{Moment, Knows, Fits, Kept, slot_word}

get_zeros : (n i : ℕ) → slice_index (replicate n 0) i ≡ 0
get_zeros zero i = refl
get_zeros (suc n) zero = refl
get_zeros (suc n) (suc i) = get_zeros n i

-- the only chair is chair 0
alone : (k : ℕ) (v w : View) → get_elem? (v ∷ []) k ≡ some w → (k ≡ 0) × (v ≡ w)
alone zero v w e = (refl, some-injective v w e)
alone (suc k) v w e = absurd (some-ne-none w (sym e))

first_fits : (slots : ℕ) (words : List ℕ) → Fits slots words 0 (first_view slots)
first_fits slots words = record {
  slots_are = refl;
  number = refl;
  seen = omega arith;
  held = λ i h. absurd (omega arith);
  finished = λ i h. absurd (omega arith);
  held_once = λ i. omega arith;
  finished_once = λ i. omega arith;
}

-- all words are 0, and there is one chair
pub opens : (slots : ℕ) → Kept slots (opening (replicate (slots + 1) 0) [] (first_view slots))
opens slots = record {
  words = record {
    length_is = length-replicate (slots + 1) 0;
    room = let z = get_zeros (slots + 1) 0 in omega arith;
    published = λ i h. let z = get_zeros (slots + 1) (i + 1) in absurd (omega arith);
  };
  made = λ v e. sym (ap (λ (x : View). x.made) (alone 0 (first_view slots) v e).1);
  fits = λ k v e. let is = alone k (first_view slots) v e in subst (λ (z : ℕ × View). Fits slots (replicate (slots + 1) 0) z.0 z.1) (λ i. (sym is.0 i, is.1 i)) (first_fits slots (replicate (slots + 1) 0));
  finished_by_one = λ slot j k v w jv kw _ _. (alone j (first_view slots) v jv).0 ∙ sym (alone k (first_view slots) w kw).0;
  owned = λ slot h. let z = get_zeros (slots + 1) (slot + 1) in absurd (omega arith);
  count_seen = (0, first_view slots, refl, sym (get_zeros (slots + 1) 0));
}

at_push : {A : Type 0} (l : List A) (a b : A) (j : ℕ) → get_elem? (l ++ a ∷ []) j ≡ some b → (get_elem? l j ≡ some b) ⊎ ((j ≡ length l) × (a ≡ b))
at_push [] a b zero e = inr (refl, some-injective a b e)
at_push [] a b (suc j) e = absurd (some-ne-none b (sym e))
at_push (x ∷ xs) a b zero e = inl e
at_push (x ∷ xs) a b (suc j) e = ⊎_elim (λ h. inl h) (λ h. inr (let same = h.0 in omega arith, h.1)) (at_push xs a b j e)

split_fits : (slots : ℕ) (words : List ℕ) (k : ℕ) (v : View) → Fits slots words k v → Fits slots words k (after_split v)
split_fits slots words k v f = record {
  slots_are = f.slots_are;
  number = f.number;
  seen = f.seen;
  held = f.held;
  finished = f.finished;
  held_once = f.held_once;
  finished_once = f.finished_once;
}

new_fits : (slots : ℕ) (words : List ℕ) (v : View) → v.slots ≡ slots → Fits slots words v.made (new_view v)
new_fits slots words v are = record {
  slots_are = are;
  number = refl;
  seen = omega arith;
  held = λ i h. absurd (omega arith);
  finished = λ i h. absurd (omega arith);
  held_once = λ i. omega arith;
  finished_once = λ i. omega arith;
}

-- which chair it is once chair k has made one more: chair k, another one, or the new one
abbrev Comes : Moment → ℕ → View → ℕ → View → Type 0
Comes s k v j u = ((j ≡ k) × (after_split v ≡ u)) ⊎ (((j ≢ k) × Knows s j u) ⊎ ((j ≡ length s.views) × (new_view v ≡ u)))

comes : (s : Moment) (k : ℕ) (v : View) (j : ℕ) (u : View) → get_elem? (set s.views k (after_split v) ++ new_view v ∷ []) j ≡ some u → Comes s k v j u
comes s k v j u e = ⊎_elim
    (λ old. ⊎_elim (λ here. inl here) (λ else. inr (inl else)) (at_set s.views k j (after_split v) u old))
    (λ last. inr (inr (last.0 ∙ length-set s.views k (after_split v), last.1)))
    (at_push (set s.views k (after_split v)) (new_view v) u j e)

-- a chair that has finished a slot had finished it before
finisher : (s : Moment) (k : ℕ) (v : View) → Knows s k v → (slot j : ℕ) (u : View) → Comes s k v j u → 0 < times slot u.finished
    → (w : View) × Knows s j w × (0 < times slot w.finished)
finisher s k v at slot j u which h = ⊎_elim
    (λ here. (v, subst (λ (z : ℕ). Knows s z v) (sym here.0) at, subst (λ (z : View). 0 < times slot z.finished) (sym here.1) h))
    (λ rest. ⊎_elim
    (λ else. (u, else.1, h))
    (λ last. let none : 0 < times slot (new_view v).finished = subst (λ (z : View). 0 < times slot z.finished) (sym last.1) h in absurd (omega arith))
    rest)
    which

-- each chair still stands there, and knows of slots and of the count what it knew
stands : (s : Moment) (k : ℕ) (v : View) (j : ℕ) (u : View) → Knows s k v → Knows s j u
    → (w : View) × (get_elem? (set s.views k (after_split v) ++ new_view v ∷ []) j ≡ some w) × (w.held ≡ u.held) × (w.finished ≡ u.finished) × (w.seen ≡ u.seen)
stands s k v j u at there = dite (ℕ_discrete j k)
    (λ e.
    let is : v ≡ u = sym (one_view s j k u v there at e) in (
      after_split v,
      at_longer (set s.views k (after_split v)) (new_view v ∷ []) j (after_split v) (ap (get_elem? (set s.views k (after_split v))) e ∙ known_now s k v (after_split v) at),
      ap (λ (z : View). z.held) is,
      ap (λ (z : View). z.finished) is,
      ap (λ (z : View). z.seen) is,
    ))
    (λ ne. (u, at_longer (set s.views k (after_split v)) (new_view v ∷ []) j u (set_else s.views k j (after_split v) ne ∙ there), refl, refl, refl))

-- chair 0 may make one more
pub splits : (slots k : ℕ) (v : View) → v.number ≡ 0 → Splits (Kept slots) k v (after_split v) (new_view v)
splits slots k v first s kept at =
    let f = kept.fits k v at in
    let number = f.number in
    let is_first : k ≡ 0 = omega arith in
    let made : v.made ≡ length s.views = kept.made v (subst (λ (z : ℕ). Knows s z v) is_first at) in
    let some_chairs = known_below s.views k v at in
    let longer : length (set s.views k (after_split v) ++ new_view v ∷ []) ≡ length s.views + 1 =
    length-append (set s.views k (after_split v)) (new_view v ∷ []) ∙ ap (λ (n : ℕ). n + 1) (length-set s.views k (after_split v)) in record {
      words = kept.words;
      made = λ u e. ⊎_elim
          (λ here. sym (ap (λ (x : View). x.made) here.1) ∙ (ap (λ (n : ℕ). n + 1) made ∙ sym longer))
          (λ rest. ⊎_elim (λ else. absurd (else.0 (sym is_first))) (λ last. let none = last.0 in absurd (omega arith)) rest)
          (comes s k v 0 u e);
      fits = λ j u e. ⊎_elim
          (λ here. subst (λ (z : ℕ × View). Fits slots s.words z.0 z.1) (λ i. (sym here.0 i, here.1 i)) (split_fits slots s.words k v f))
          (λ rest. ⊎_elim
          (λ else. kept.fits j u else.1)
          (λ last. subst (λ (z : ℕ × View). Fits slots s.words z.0 z.1) (λ i. ((made ∙ sym last.0) i, last.1 i)) (new_fits slots s.words v f.slots_are))
          rest)
          (comes s k v j u e);
      finished_by_one = λ slot i j u x iu jx pu px.
          let a = finisher s k v at slot i u (comes s k v i u iu) pu in
          let b = finisher s k v at slot j x (comes s k v j x jx) px in
          kept.finished_by_one slot i j a.0 b.0 a.1 b.1 a.2 b.2;
      owned = λ slot some_word.
          let owner = kept.owned slot some_word in
          let there = stands s k v owner.0 owner.1 at owner.2 in
          (owner.0, there.0, there.1, ⊎_elim (λ held. inl (held.0, subst (λ (xs : List ℕ). 0 < times slot xs) (sym there.2) held.1)) (λ done. inr (done.0, subst (λ (xs : List ℕ). 0 < times slot xs) (sym there.3) done.1)) owner.3);
      count_seen =
          let seen = kept.count_seen in
          let there = stands s k v seen.0 seen.1 at seen.2 in
          (seen.0, there.0, there.1, there.4 ∙ seen.3);
    }

-- words that are not 0 have a chair that is not empty
pub starts-free : StartsFree
starts-free slots s kept empty = (
  (let seen = kept.count_seen in let nothing = (empty seen.0 seen.1 seen.2).seen in let is = seen.3 in omega arith),
  λ slot. dite (ℕ_discrete (slot_word s.words slot) 0) (λ e. e) (λ ne.
      let owner = kept.owned slot (omega arith) in
      let nothing = empty owner.0 owner.1 owner.2 in
      absurd (⊎_elim
      (λ held. let none : times slot owner.1.held ≡ 0 = ap (times slot) nothing.held in let some_times = held.1 in omega arith)
      (λ done. let none : times slot owner.1.finished ≡ 0 = ap (times slot) nothing.finished in let some_times = done.1 in omega arith)
      owner.3)),
)
