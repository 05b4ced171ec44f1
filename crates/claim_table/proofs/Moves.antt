-- The rule after one step: the words and one chair's view have changed.
use Rattle.std.proofs.Common.{◌≡◌, ◌≢◌, ◌⊎◌, ℕ, zero, suc, ◌+◌, ◌<◌, List, [], ◌∷◌, get_or, set, length, refl, ap, sym, ◌∙◌, subst, inl, inr, ⊎_elim, arith, length-set}
use Rattle.std.proofs.lemmas.List.{set-get_or}
use mathlib.Core.Logic.{dite}
use mathlib.Core.Option.{some, some-injective, some-ne-none}
use native.Mathlib.Decide.{ℕ_discrete}
use lib.ListN.{get_elem?}
use Rattle.atomic_table.specs.Table.{keeps, stepped}
use Rattle.atomic_table.proofs.Lists.{at_set, set_here, set_else}
use Rattle.claim_table.specs.declared.view.View.{View}
use Rattle.claim_table.specs.Occurrences.{times}
use Rattle.claim_table.specs.Views.{Holds, HasFinished}
use Rattle.claim_table.specs.Rule.{Moment, Knows, count_of, slot_word, AreWords, Fits, Owns, IsOwned, CountIsSeen, Kept}

-- no chair has finished the slot
abbrev pub NoneFinished : Moment → ℕ → Type 0
NoneFinished s slot = (k : ℕ) (u : View) → Knows s k u → times slot u.finished ≡ 0

-- these words, and chair k knows w
abbrev pub changed : Moment → List ℕ → ℕ → View → Moment
changed s words k w = record { words = words; homes = s.homes; views = set s.views k w }

-- the slot's word is as it was, and the chair still holds what it held and has finished what it had finished
abbrev pub KeepsSlot : Moment → List ℕ → View → View → ℕ → Type 0
KeepsSlot s words v w slot = (slot_word words slot ≡ slot_word s.words slot) × (Holds v slot → Holds w slot) × (HasFinished v slot → HasFinished w slot)

-- a step makes the words these, and chair k, which knew v, know w
pub record Step (slots : ℕ) (s : Moment) (words : List ℕ) (k : ℕ) (v w : View) : Type 0 where
  pub at : Knows s k v
  pub are : AreWords slots words
  pub made : w.made ≡ v.made
  pub own : Fits slots words k w
  pub others : (j : ℕ) (u : View) → j ≢ k → Knows s j u → Fits slots words j u
  pub finished : (slot : ℕ) → HasFinished w slot → HasFinished v slot ⊎ NoneFinished s slot
  pub owned : (slot : ℕ) → 0 < slot_word words slot → KeepsSlot s words v w slot ⊎ Owns words k w slot
  pub count_seen : (w.seen ≡ count_of words) ⊎ ((w.seen ≡ v.seen) × (count_of s.words ≡ count_of words))

one_owner : (slots : ℕ) (s : Moment) (words : List ℕ) (k : ℕ) (v w : View) → Kept slots s → Step slots s words k v w
    → (slot j : ℕ) (u : View) → Knows s j u → HasFinished u slot → HasFinished w slot → k ≡ j
one_owner slots s words k v w kept step slot j u there theirs mine = ⊎_elim
    (λ before. kept.finished_by_one slot k j v u step.at there before theirs)
    (λ nobody. let zero_times = nobody j u there in absurd (omega arith))
    (step.finished slot mine)

pub known_below : {A : Type 0} (l : List A) (k : ℕ) (a : A) → get_elem? l k ≡ some a → k < length l
known_below [] k a e = absurd (some-ne-none a (sym e))
known_below (x ∷ xs) zero a e = omega arith
known_below (x ∷ xs) (suc k) a e = let r = known_below xs k a e in omega arith

pub known_now : (s : Moment) (k : ℕ) (v w : View) → Knows s k v → get_elem? (set s.views k w) k ≡ some w
known_now s k v w at = set_here s.views k w (known_below s.views k v at)

-- one chair knows one thing
pub one_view : (s : Moment) (j k : ℕ) (u v : View) → Knows s j u → Knows s k v → j ≡ k → u ≡ v
one_view s j k u v there at e = some-injective u v (sym there ∙ (ap (get_elem? s.views) e ∙ at))

owned_after : (slots : ℕ) (s : Moment) (words : List ℕ) (k : ℕ) (v w : View) → Kept slots s → Step slots s words k v w
    → (slot : ℕ) → KeepsSlot s words v w slot → IsOwned s slot → IsOwned (changed s words k w) slot
owned_after slots s words k v w kept step slot keeps_it owner =
    let j = owner.0 in
    let u = owner.1 in
    dite (ℕ_discrete j k)
    (λ e.
    let is : u ≡ v = one_view s j k u v owner.2 step.at e in (
      k,
      w,
      known_now s k v w step.at,
      ⊎_elim
          (λ held. inl (keeps_it.0 ∙ (held.0 ∙ ap (λ (n : ℕ). n + 2) e), keeps_it.1 (subst (λ (z : View). Holds z slot) is held.1)))
          (λ done. inr (keeps_it.0 ∙ done.0, keeps_it.2 (subst (λ (z : View). HasFinished z slot) is done.1)))
          owner.3,
    ))
    (λ ne. (
      j,
      u,
      set_else s.views k j w ne ∙ owner.2,
      ⊎_elim (λ held. inl (keeps_it.0 ∙ held.0, held.1)) (λ done. inr (keeps_it.0 ∙ done.0, done.1)) owner.3,
    ))

seen_after : (slots : ℕ) (s : Moment) (words : List ℕ) (k : ℕ) (v w : View) → Step slots s words k v w
    → (w.seen ≡ v.seen) × (count_of s.words ≡ count_of words) → CountIsSeen s → CountIsSeen (changed s words k w)
seen_after slots s words k v w step same seen =
    let j = seen.0 in
    let u = seen.1 in
    dite (ℕ_discrete j k)
    (λ e. (
      k,
      w,
      known_now s k v w step.at,
      same.0 ∙ (ap (λ (z : View). z.seen) (sym (one_view s j k u v seen.2 step.at e)) ∙ (seen.3 ∙ same.1)),
    ))
    (λ ne. (j, u, set_else s.views k j w ne ∙ seen.2, seen.3 ∙ same.1))

pub moved : (slots : ℕ) (s : Moment) (words : List ℕ) (k : ℕ) (v w : View) → Kept slots s → Step slots s words k v w → Kept slots (changed s words k w)
moved slots s words k v w kept step = record {
  words = step.are;
  made = λ u e. ⊎_elim
      (λ here. sym (ap (λ (x : View). x.made) here.1) ∙ (step.made ∙ (kept.made v (subst (λ (z : ℕ). Knows s z v) (sym here.0) step.at) ∙ sym (length-set s.views k w))))
      (λ else. kept.made u else.1 ∙ sym (length-set s.views k w))
      (at_set s.views k 0 w u e);
  fits = λ j u e. ⊎_elim
      (λ here. subst (λ (z : ℕ × View). Fits slots words z.0 z.1) (λ i. (sym here.0 i, here.1 i)) step.own)
      (λ else. step.others j u else.0 else.1)
      (at_set s.views k j w u e);
  finished_by_one = λ slot i j u x iu jx pu px. ⊎_elim
      (λ a. ⊎_elim
      (λ b. a.0 ∙ sym b.0)
      (λ b. a.0 ∙ one_owner slots s words k v w kept step slot j x b.1 px (subst (λ (z : View). HasFinished z slot) (sym a.1) pu))
      (at_set s.views k j w x jx))
      (λ a. ⊎_elim
      (λ b. sym (b.0 ∙ one_owner slots s words k v w kept step slot i u a.1 pu (subst (λ (z : View). HasFinished z slot) (sym b.1) px)))
      (λ b. kept.finished_by_one slot i j u x a.1 b.1 pu px)
      (at_set s.views k j w x jx))
      (at_set s.views k i w u iu);
  owned = λ slot some_word. ⊎_elim
      (λ same. owned_after slots s words k v w kept step slot same (kept.owned slot (subst (λ (n : ℕ). 0 < n) same.0 some_word)))
      (λ mine. (k, w, known_now s k v w step.at, mine))
      (step.owned slot some_word);
  count_seen = ⊎_elim
      (λ mine. (k, w, known_now s k v w step.at, mine))
      (λ same. seen_after slots s words k v w step same kept.count_seen)
      step.count_seen;
}

-- what a step tells that finds a word and leaves it, and after which the chair holds and has finished what it did
pub record Stay (slots : ℕ) (s : Moment) (k : ℕ) (v w : View) : Type 0 where
  pub at : Knows s k v
  pub made : w.made ≡ v.made
  pub own : Fits slots s.words k w
  pub held : w.held ≡ v.held
  pub finished : w.finished ≡ v.finished
  pub seen : (w.seen ≡ count_of s.words) ⊎ (w.seen ≡ v.seen)

pub stayed : (slots : ℕ) (s : Moment) (word k : ℕ) (v w : View) (carried : List (ℕ × Unit {0})) → Kept slots s → Stay slots s k v w
    → (n : ℕ) → n ≡ get_or s.words word 0 → Kept slots (stepped s word n k carried w keeps)
stayed slots s word k v w carried kept stay n is =
    subst (λ (words : List ℕ). Kept slots (changed s words k w)) (sym (ap (set s.words word) is ∙ set-get_or s.words word 0))
    (moved slots s s.words k v w kept (record {
      at = stay.at;
      are = kept.words;
      made = stay.made;
      own = stay.own;
      others = λ j u _ there. kept.fits j u there;
      finished = λ slot done. inl (subst (λ (xs : List ℕ). 0 < times slot xs) stay.finished done);
      owned = λ slot _. inl (refl, subst (λ (xs : List ℕ). 0 < times slot xs) (sym stay.held), subst (λ (xs : List ℕ). 0 < times slot xs) (sym stay.finished));
      count_seen = ⊎_elim (λ now. inl now) (λ same. inr (same, refl)) stay.seen;
    }))
