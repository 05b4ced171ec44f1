-- Each kind of step on the count keeps the rule: a load, and a rise.
use Rattle.std.proofs.Common.{ℕ, ◌<◌, ◌≤◌, max, List, set, length, refl, sym, inl, arith}
use mathlib.Core.Option.{none}
use Rattle.atomic_table.specs.Table.{step, keeps, Allows}
use Rattle.claim_table.specs.declared.view.View.{View}
use Rattle.claim_table.specs.Views.{after_load, after_publish}
use Rattle.claim_table.specs.Rule.{count_of, Fits, Kept}
use Rattle.claim_table.specs.Steps.{Place, LoadsCount, Publishes}
use Rattle.claim_table.proofs.Words.{count_here, slots_stay, words_counted, counted_fits}
use Rattle.claim_table.proofs.Moves.{moved, stayed}

pub load_count : (slots room k : ℕ) (me : Place) → Allows (Kept slots) room k me 0 (λ n. n) (LoadsCount (step room 0 0 0 none) me)
load_count slots room k me s kept _ at _ =
    let n : ℕ = count_of s.words in
    let f = kept.fits k me.0 at in
    let w : View = after_load n me.0 in
    let own : Fits slots s.words k w = record {
      slots_are = f.slots_are;
      number = f.number;
      seen = omega arith;
      held = f.held;
      finished = f.finished;
      held_once = f.held_once;
      finished_once = f.finished_once;
    } in
    let room_left = kept.words.room in
    let slots_are = f.slots_are in
    (w, keeps, tt, stayed slots s 0 k me.0 w me.1 kept (record { at = at; made = refl; own = own; held = refl; finished = refl; seen = inl refl }) n refl, (refl, f.seen, omega arith))

published_fits : (slots : ℕ) (words : List ℕ) (n k : ℕ) (v : View) → Fits slots words k v → 0 < length words → count_of words ≤ n
    → Fits slots (set words 0 n) k (after_publish n v)
published_fits slots words n k v f long more = let g = counted_fits slots words n k v f long more in let here = count_here words n long in record {
  slots_are = f.slots_are;
  number = f.number;
  seen = omega arith;
  held = g.held;
  finished = g.finished;
  held_once = f.held_once;
  finished_once = f.finished_once;
}

pub publish : (slots room k count : ℕ) (me : Place) → count ≤ me.0.slots
    → Allows (Kept slots) room k me 0 (λ n. max n count) (Publishes (step room 0 count 0 none) me)
publish slots room k count me fits s kept _ at _ =
    let n : ℕ = count_of s.words in
    let f = kept.fits k me.0 at in
    let seen = f.seen in
    let slots_are = f.slots_are in
    let long = kept.words.length_is in
    let room_left = kept.words.room in
    let w : View = after_publish (max n count) me.0 in
    let more : n ≤ max n count = omega arith in
    let some_words : 0 < length s.words = omega arith in (
      w,
      keeps,
      tt,
      moved slots s (set s.words 0 (max n count)) k me.0 w kept (record {
        at = at;
        are = words_counted slots s.words (max n count) kept.words more (omega arith);
        made = refl;
        own = published_fits slots s.words (max n count) k me.0 f some_words more;
        others = λ j u _ there. counted_fits slots s.words (max n count) j u (kept.fits j u there) some_words more;
        finished = λ slot done. inl done;
        owned = λ slot _. inl (slots_stay s.words (max n count) slot, (λ held. held), λ done. done);
        count_seen = inl (sym (count_here s.words (max n count) some_words));
      }),
      (refl, seen, omega arith),
    )
