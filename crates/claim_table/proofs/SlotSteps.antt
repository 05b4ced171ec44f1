-- Each kind of step on the word of a slot keeps the rule: a look, a claim, a finish, and a swap to free.
use Rattle.std.proofs.Common.{◌≡◌, ◌≢◌, ℕ, ◌+◌, ◌-◌, ◌<◌, ◌≤◌, ◌==◌, Bool, MatchBool, List, set, length, refl, ap, sym, ◌∙◌, subst, inl, inr, ⊎_elim, arith, eq-eqb, ne_eqb}
use mathlib.Core.Logic.{dite}
use mathlib.Core.Option.{none}
use native.Mathlib.Decide.{ℕ_discrete}
use prog.Atomic.{either}
use Rattle.atomic_table.specs.Table.{step, keeps, Allows}
use Rattle.claim_table.specs.declared.view.View.{View}
use Rattle.claim_table.specs.Occurrences.{times, without}
use Rattle.claim_table.specs.Views.{Holds, HasFinished, after_look, after_claim, after_finish, after_free}
use Rattle.claim_table.specs.Rule.{Moment, Knows, count_of, slot_word, AreWords, Fits, Kept}
use Rattle.claim_table.specs.Steps.{Place, LooksAt, Claims, Finishes, Frees}
use Rattle.claim_table.proofs.Occurrences.{pushed, once_pushed, times-push_same, times-push_le, times-without_same, times-without_else, times-without_le}
use Rattle.claim_table.proofs.Words.{count_stays, slot_here, slot_else, words_after, other_fits}
use Rattle.claim_table.proofs.Moves.{NoneFinished, changed, Stay, moved, stayed}

-- a chair that has looked at a slot knows nothing more
pub looked_fits : (slots : ℕ) (words : List ℕ) (k slot : ℕ) (v : View) → Fits slots words k v → Fits slots words k (after_look slot v)
looked_fits slots words k slot v f = record {
  slots_are = f.slots_are;
  number = f.number;
  seen = f.seen;
  held = f.held;
  finished = f.finished;
  held_once = f.held_once;
  finished_once = f.finished_once;
}

stays_known : (slots : ℕ) (s : Moment) (k : ℕ) (v : View) → Knows s k v → Fits slots s.words k v → Stay slots s k v v
stays_known slots s k v at f = record { at = at; made = refl; own = f; held = refl; finished = refl; seen = inr refl }

stays_looked : (slots : ℕ) (s : Moment) (k slot : ℕ) (v : View) → Knows s k v → Fits slots s.words k v → Stay slots s k v (after_look slot v)
stays_looked slots s k slot v at f = record { at = at; made = refl; own = looked_fits slots s.words k slot v f; held = refl; finished = refl; seen = inr refl }

pub look : (slots room k slot : ℕ) (me : Place) → Allows (Kept slots) room k me (slot + 1) (λ n. n) (LooksAt (step room (slot + 1) 0 0 none) me)
look slots room k slot me s kept _ at _ =
    let n : ℕ = slot_word s.words slot in
    let f = kept.fits k me.0 at in
    let w : View = after_look (slot + 1 - 1) me.0 in
    dite (ℕ_discrete n 0)
    (λ e. (
      me.0,
      keeps,
      tt,
      stayed slots s (slot + 1) k me.0 me.0 me.1 kept (stays_known slots s k me.0 at f) n refl,
      subst (λ (b : Bool). MatchBool b (◌≡◌ {A = Place} (me.0, me.1) me) (◌≡◌ {A = Place} (me.0, me.1) (w, me.1))) (sym (eq-eqb n 0 e)) refl,
    ))
    (λ ne. (
      w,
      keeps,
      tt,
      stayed slots s (slot + 1) k me.0 w me.1 kept (stays_looked slots s k (slot + 1 - 1) me.0 at f) n refl,
      subst (λ (b : Bool). MatchBool b (◌≡◌ {A = Place} (w, me.1) me) (◌≡◌ {A = Place} (w, me.1) (w, me.1))) (sym (ne_eqb n 0 ne)) refl,
    ))

-- a chair holds no slot that is free
pub free_not_held : (slots : ℕ) (words : List ℕ) (k slot : ℕ) (v : View) → Fits slots words k v → slot_word words slot ≡ 0 → times slot v.held ≡ 0
free_not_held slots words k slot v f free = dite (ℕ_discrete (times slot v.held) 0) (λ e. e) (λ ne. let word = f.held slot (omega arith) in absurd (omega arith))

-- no chair has finished a slot whose word is not 1
pub none_finished : (slots : ℕ) (s : Moment) (slot : ℕ) → Kept slots s → slot_word s.words slot ≢ 1 → NoneFinished s slot
none_finished slots s slot kept ne j u there = dite (ℕ_discrete (times slot u.finished) 0) (λ e. e) (λ some. absurd (ne ((kept.fits j u there).finished slot (omega arith))))

claimed_fits : (slots : ℕ) (words : List ℕ) (k slot : ℕ) (v : View) → AreWords slots words → Fits slots words k v → slot_word words slot ≡ 0 → slot < count_of words
    → Fits slots (set words (slot + 1) (k + 2)) k (after_claim slot v)
claimed_fits slots words k slot v are f free lt =
    let long = are.length_is in
    let room = are.room in
    let here = slot_here words slot (k + 2) (omega arith) in record {
      slots_are = f.slots_are;
      number = f.number;
      seen = subst (λ (c : ℕ). v.seen ≤ c) (sym (count_stays words slot (k + 2))) f.seen;
      held = λ i some. dite (ℕ_discrete i slot)
          (λ e. ap (slot_word (set words (slot + 1) (k + 2))) e ∙ here)
          (λ ne. slot_else words slot (k + 2) i ne ∙ f.held i (⊎_elim (λ e. absurd (ne e)) (λ before. before) (pushed slot i v.held some)));
      finished = λ i some.
          let word = f.finished i some in
          slot_else words slot (k + 2) i (λ e. let zero_word : slot_word words i ≡ 0 = ap (slot_word words) e ∙ free in omega arith) ∙ word;
      held_once = λ i. once_pushed slot i v.held (free_not_held slots words k slot v f free) (f.held_once i);
      finished_once = f.finished_once;
    }

claims_at : (slots room k slot p : ℕ) (me : Place) → slot ≡ p → slot < me.0.seen
    → Allows (Kept slots) room k me (slot + 1) (λ n. either (n == 0) (k + 2) n)
    (λ n w. MatchBool (n == 0) ((◌≡◌ {A = Place} w (after_claim p me.0, me.1)) × (times p me.0.held ≡ 0)) (◌≡◌ {A = Place} w (after_look p me.0, me.1)))
claims_at slots room k slot p me same lt s kept _ at _ =
    let n : ℕ = slot_word s.words slot in
    let f = kept.fits k me.0 at in
    let c : View = after_claim p me.0 in
    let l : View = after_look p me.0 in
    let seen = f.seen in
    let below : slot < count_of s.words = omega arith in
    let long = kept.words.length_is in
    let room_left = kept.words.room in
    let in_range : slot + 1 < length s.words = omega arith in
    dite (ℕ_discrete n 0)
    (λ free.
    let own : Fits slots (set s.words (slot + 1) (k + 2)) k c = subst (λ (z : ℕ). Fits slots (set s.words (slot + 1) (k + 2)) k (after_claim z me.0)) same (claimed_fits slots s.words k slot me.0 kept.words f free below) in (
      c,
      keeps,
      tt,
      subst (λ (b : Bool). Kept slots (changed s (set s.words (slot + 1) (either b (k + 2) n)) k c)) (sym (eq-eqb n 0 free))
          (moved slots s (set s.words (slot + 1) (k + 2)) k me.0 c kept (record {
            at = at;
            are = words_after slots s.words slot (k + 2) kept.words below;
            made = refl;
            own = own;
            others = λ j u _ there. other_fits slots s.words slot (k + 2) j u (kept.fits j u there) (λ e. omega arith) (λ e. omega arith);
            finished = λ i done. inl done;
            owned = λ i _. dite (ℕ_discrete i slot)
                (λ e. inr (inl (
                  ap (slot_word (set s.words (slot + 1) (k + 2))) e ∙ slot_here s.words slot (k + 2) in_range,
                  subst (λ (z : ℕ). Holds c z) (sym (e ∙ same)) (let more = times-push_same p me.0.held in omega arith),
                )))
                (λ ne. inl (slot_else s.words slot (k + 2) i ne, (λ held. let more = times-push_le p i me.0.held in omega arith), λ done. done));
            count_seen = inr (refl, sym (count_stays s.words slot (k + 2)));
          })),
      subst (λ (b : Bool). MatchBool b ((◌≡◌ {A = Place} (c, me.1) (c, me.1)) × (times p me.0.held ≡ 0)) (◌≡◌ {A = Place} (c, me.1) (l, me.1))) (sym (eq-eqb n 0 free))
          (refl, subst (λ (z : ℕ). times z me.0.held ≡ 0) same (free_not_held slots s.words k slot me.0 f free)),
    ))
    (λ taken. (
      l,
      keeps,
      tt,
      stayed slots s (slot + 1) k me.0 l me.1 kept (stays_looked slots s k p me.0 at f) (either (n == 0) (k + 2) n) (ap (λ (b : Bool). either b (k + 2) n) (ne_eqb n 0 taken)),
      subst (λ (b : Bool). MatchBool b ((◌≡◌ {A = Place} (l, me.1) (c, me.1)) × (times p me.0.held ≡ 0)) (◌≡◌ {A = Place} (l, me.1) (l, me.1))) (sym (ne_eqb n 0 taken)) refl,
    ))

-- a published slot may be claimed by the chair whose number is stored
pub claim : (slots room k slot mine : ℕ) (me : Place) → mine ≡ me.0.number + 2 → slot < me.0.seen
    → Allows (Kept slots) room k me (slot + 1) (λ n. either (n == 0) mine n) (Claims (step room (slot + 1) 0 mine none) me)
claim slots room k slot mine me is lt s kept len at small =
    let f = kept.fits k me.0 at in
    let number = f.number in
    let stored : k + 2 ≡ mine = omega arith in
    subst (λ (m : ℕ). Allows (Kept slots) room k me (slot + 1) (λ n. either (n == 0) m n) (Claims (step room (slot + 1) 0 m none) me)) stored
    (claims_at slots room k slot (slot + 1 - 1) me (omega arith) lt) s kept len at small

-- what leaves the held list leaves it true; the chair knows its own word
finished_fits : (slots : ℕ) (words : List ℕ) (k slot : ℕ) (v : View) → AreWords slots words → Fits slots words k v → 0 < times slot v.held
    → Fits slots (set words (slot + 1) 1) k (after_finish slot v)
finished_fits slots words k slot v are f mine =
    let word = f.held slot mine in
    let long = are.length_is in
    let room = are.room in
    let below = are.published slot (omega arith) in
    let here = slot_here words slot 1 (omega arith) in
    let fresh : times slot v.finished ≡ 0 = dite (ℕ_discrete (times slot v.finished) 0) (λ e. e) (λ ne. let done = f.finished slot (omega arith) in absurd (omega arith)) in record {
      slots_are = f.slots_are;
      number = f.number;
      seen = subst (λ (c : ℕ). v.seen ≤ c) (sym (count_stays words slot 1)) f.seen;
      held = λ i some.
          let less = times-without_le slot i v.held in
          slot_else words slot 1 i (λ e. let gone : times i (without slot v.held) ≡ 0 = ap (λ (z : ℕ). times z (without slot v.held)) e ∙ times-without_same slot v.held in omega arith)
          ∙ f.held i (omega arith);
      finished = λ i some. dite (ℕ_discrete i slot)
          (λ e. ap (slot_word (set words (slot + 1) 1)) e ∙ here)
          (λ ne. slot_else words slot 1 i ne ∙ f.finished i (⊎_elim (λ e. absurd (ne e)) (λ before. before) (pushed slot i v.finished some)));
      held_once = λ i. let less = times-without_le slot i v.held in let once = f.held_once i in omega arith;
      finished_once = λ i. once_pushed slot i v.finished fresh (f.finished_once i);
    }

freed_fits : (slots : ℕ) (words : List ℕ) (k slot : ℕ) (v : View) → Fits slots words k v → 0 < times slot v.held
    → Fits slots (set words (slot + 1) 0) k (after_free slot v)
freed_fits slots words k slot v f mine = let word = f.held slot mine in record {
  slots_are = f.slots_are;
  number = f.number;
  seen = subst (λ (c : ℕ). v.seen ≤ c) (sym (count_stays words slot 0)) f.seen;
  held = λ i some.
      let less = times-without_le slot i v.held in
      slot_else words slot 0 i (λ e. let gone : times i (without slot v.held) ≡ 0 = ap (λ (z : ℕ). times z (without slot v.held)) e ∙ times-without_same slot v.held in omega arith)
      ∙ f.held i (omega arith);
  finished = λ i some.
      let done = f.finished i some in
      slot_else words slot 0 i (λ e. let same : slot_word words i ≡ slot_word words slot = ap (slot_word words) e in omega arith) ∙ done;
  held_once = λ i. let less = times-without_le slot i v.held in let once = f.held_once i in omega arith;
  finished_once = f.finished_once;
}

-- the word of a slot that the chair holds tells no other chair anything
others_fit : (slots : ℕ) (s : Moment) (k slot n : ℕ) → Kept slots s → slot_word s.words slot ≡ k + 2
    → (j : ℕ) (u : View) → j ≢ k → Knows s j u → Fits slots (set s.words (slot + 1) n) j u
others_fit slots s k slot n kept word j u ne there = other_fits slots s.words slot n j u (kept.fits j u there) (λ e. ne (omega arith)) (λ e. omega arith)

finishes_at : (slots room k slot p : ℕ) (me : Place) → slot ≡ p → 0 < times slot me.0.held
    → Allows (Kept slots) room k me (slot + 1) (λ n. 1) (λ n w. (n ≡ me.0.number + 2) × (◌≡◌ {A = Place} w (after_finish p me.0, me.1)))
finishes_at slots room k slot p me same mine s kept _ at _ =
    let f = kept.fits k me.0 at in
    let word = f.held slot mine in
    let number = f.number in
    let w : View = after_finish p me.0 in
    let below = kept.words.published slot (omega arith) in
    let long = kept.words.length_is in
    let room_left = kept.words.room in
    let in_range : slot + 1 < length s.words = omega arith in (
      w,
      keeps,
      tt,
      moved slots s (set s.words (slot + 1) 1) k me.0 w kept (record {
        at = at;
        are = words_after slots s.words slot 1 kept.words below;
        made = refl;
        own = subst (λ (z : ℕ). Fits slots (set s.words (slot + 1) 1) k (after_finish z me.0)) same (finished_fits slots s.words k slot me.0 kept.words f mine);
        others = others_fit slots s k slot 1 kept word;
        finished = λ i done. ⊎_elim
            (λ e. inr (none_finished slots s i kept (λ was_done. let here : slot_word s.words i ≡ slot_word s.words slot = ap (slot_word s.words) (e ∙ sym same) in omega arith)))
            (λ before. inl before)
            (pushed p i me.0.finished done);
        owned = λ i _. dite (ℕ_discrete i slot)
            (λ e. inr (inr (
              ap (slot_word (set s.words (slot + 1) 1)) e ∙ slot_here s.words slot 1 in_range,
              subst (λ (z : ℕ). HasFinished w z) (sym (e ∙ same)) (let more = times-push_same p me.0.finished in omega arith),
            )))
            (λ ne. inl (
              slot_else s.words slot 1 i ne,
              (λ held. let left = times-without_else p i me.0.held (λ e. ne (e ∙ sym same)) in omega arith),
              λ done. let more = times-push_le p i me.0.finished in omega arith,
            ));
        count_seen = inr (refl, sym (count_stays s.words slot 1));
      }),
      (omega arith, refl),
    )

pub finish : (slots room k slot : ℕ) (me : Place) → 0 < times slot me.0.held
    → Allows (Kept slots) room k me (slot + 1) (λ n. 1) (Finishes (step room (slot + 1) 1 0 none) me)
finish slots room k slot me mine = finishes_at slots room k slot (slot + 1 - 1) me (omega arith) mine

frees_at : (slots room k slot p : ℕ) (me : Place) → slot ≡ p → 0 < times slot me.0.held
    → Allows (Kept slots) room k me (slot + 1) (λ n. 0) (λ n w. (n ≡ me.0.number + 2) × (◌≡◌ {A = Place} w (after_free p me.0, me.1)))
frees_at slots room k slot p me same mine s kept _ at _ =
    let f = kept.fits k me.0 at in
    let word = f.held slot mine in
    let number = f.number in
    let w : View = after_free p me.0 in
    let below = kept.words.published slot (omega arith) in
    let long = kept.words.length_is in
    let room_left = kept.words.room in
    let in_range : slot + 1 < length s.words = omega arith in (
      w,
      keeps,
      tt,
      moved slots s (set s.words (slot + 1) 0) k me.0 w kept (record {
        at = at;
        are = words_after slots s.words slot 0 kept.words below;
        made = refl;
        own = subst (λ (z : ℕ). Fits slots (set s.words (slot + 1) 0) k (after_free z me.0)) same (freed_fits slots s.words k slot me.0 f mine);
        others = others_fit slots s k slot 0 kept word;
        finished = λ i done. inl done;
        owned = λ i taken. dite (ℕ_discrete i slot)
            (λ e. let gone : slot_word (set s.words (slot + 1) 0) i ≡ 0 = ap (slot_word (set s.words (slot + 1) 0)) e ∙ slot_here s.words slot 0 in_range in absurd (omega arith))
            (λ ne. inl (
              slot_else s.words slot 0 i ne,
              (λ held. let left = times-without_else p i me.0.held (λ e. ne (e ∙ sym same)) in omega arith),
              λ done. done,
            ));
        count_seen = inr (refl, sym (count_stays s.words slot 0));
      }),
      (omega arith, refl),
    )

pub free : (slots room k slot : ℕ) (me : Place) → 0 < times slot me.0.held
    → Allows (Kept slots) room k me (slot + 1) (λ n. 0) (Frees (step room (slot + 1) 0 0 none) me)
free slots room k slot me mine = frees_at slots room k slot (slot + 1 - 1) me (omega arith) mine
