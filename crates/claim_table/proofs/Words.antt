-- The words after the word of one slot, or the count, has changed.
use Rattle.std.proofs.Common.{◌≡◌, ◌≢◌, ℕ, ◌+◌, ◌<◌, ◌≤◌, List, length, set, ap, sym, ◌∙◌, subst, arith, length-set, get_or-set_same, get_or-set_other}
use mathlib.Core.Logic.{dite}
use native.Mathlib.Decide.{ℕ_discrete}
use Rattle.claim_table.specs.Rule.{count_of, slot_word, AreWords, Fits}
use Rattle.claim_table.specs.declared.view.View.{View}

pub count_stays : (words : List ℕ) (slot n : ℕ) → count_of (set words (slot + 1) n) ≡ count_of words
count_stays words slot n = get_or-set_other words (slot + 1) 0 n 0 (λ e. omega arith)

pub slot_here : (words : List ℕ) (slot n : ℕ) → slot + 1 < length words → slot_word (set words (slot + 1) n) slot ≡ n
slot_here words slot n lt = get_or-set_same words (slot + 1) n 0 lt

pub slot_else : (words : List ℕ) (slot n other : ℕ) → other ≢ slot → slot_word (set words (slot + 1) n) other ≡ slot_word words other
slot_else words slot n other ne = get_or-set_other words (slot + 1) (other + 1) n 0 (λ e. ne (omega arith))

pub count_here : (words : List ℕ) (n : ℕ) → 0 < length words → count_of (set words 0 n) ≡ n
count_here words n lt = get_or-set_same words 0 n 0 lt

pub slots_stay : (words : List ℕ) (n slot : ℕ) → slot_word (set words 0 n) slot ≡ slot_word words slot
slots_stay words n slot = get_or-set_other words 0 (slot + 1) n 0 (λ e. omega arith)

-- the word of a published slot may become any number
pub words_after : (slots : ℕ) (words : List ℕ) (slot n : ℕ) → AreWords slots words → slot < count_of words → AreWords slots (set words (slot + 1) n)
words_after slots words slot n are lt = let same = count_stays words slot n in record {
  length_is = length-set words (slot + 1) n ∙ are.length_is;
  room = subst (λ (c : ℕ). c ≤ slots) (sym same) are.room;
  published = λ other some. subst (λ (c : ℕ). other < c) (sym same) (dite (ℕ_discrete other slot)
      (λ e. subst (λ (k : ℕ). k < count_of words) (sym e) lt)
      (λ ne. are.published other (subst (λ (k : ℕ). 0 < k) (slot_else words slot n other ne) some)));
}

-- the count may rise up to the number of slots
pub words_counted : (slots : ℕ) (words : List ℕ) (n : ℕ) → AreWords slots words → count_of words ≤ n → n ≤ slots → AreWords slots (set words 0 n)
words_counted slots words n are more room =
    let long = are.length_is in
    let here : count_of (set words 0 n) ≡ n = count_here words n (omega arith) in record {
      length_is = length-set words 0 n ∙ long;
      room = subst (λ (c : ℕ). c ≤ slots) (sym here) room;
      published = λ slot some. subst (λ (c : ℕ). slot < c) (sym here)
          (let below : slot < count_of words = are.published slot (subst (λ (k : ℕ). 0 < k) (slots_stay words n slot) some) in omega arith);
    }

-- what a chair knows stays true where the word of a slot changes that it neither holds nor has finished
pub other_fits : (slots : ℕ) (words : List ℕ) (slot n chair : ℕ) (v : View) → Fits slots words chair v
    → slot_word words slot ≢ chair + 2 → slot_word words slot ≢ 1 → Fits slots (set words (slot + 1) n) chair v
other_fits slots words slot n chair v f not_held not_done = record {
  slots_are = f.slots_are;
  number = f.number;
  seen = subst (λ (c : ℕ). v.seen ≤ c) (sym (count_stays words slot n)) f.seen;
  held = λ i some. slot_else words slot n i (λ e. not_held (ap (slot_word words) (sym e) ∙ f.held i some)) ∙ f.held i some;
  finished = λ i some. slot_else words slot n i (λ e. not_done (ap (slot_word words) (sym e) ∙ f.finished i some)) ∙ f.finished i some;
  held_once = f.held_once;
  finished_once = f.finished_once;
}

-- and where the count rises
pub counted_fits : (slots : ℕ) (words : List ℕ) (n chair : ℕ) (v : View) → Fits slots words chair v
    → 0 < length words → count_of words ≤ n → Fits slots (set words 0 n) chair v
counted_fits slots words n chair v f long more = let here = count_here words n long in let seen = f.seen in record {
  slots_are = f.slots_are;
  number = f.number;
  seen = subst (λ (c : ℕ). v.seen ≤ c) (sym here) (omega arith);
  held = λ i some. slots_stay words n i ∙ f.held i some;
  finished = λ i some. slots_stay words n i ∙ f.finished i some;
  held_once = f.held_once;
  finished_once = f.finished_once;
}
