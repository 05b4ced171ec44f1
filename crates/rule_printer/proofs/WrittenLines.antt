-- Lines that are written piece by piece: whole lines that stand in the body of a section, and the line that is being written.
-- A piece without line feed and `#` goes on with that line; a line that is ended behind `;`, `{` or `}` is no comment, not
-- blank, and no end line.
use Rattle.std.proofs.Common.{◌≡◌, ℕ, Bool, true, false, not, cond, ◌&&◌, ◌||◌, ◌==◌, List, [], ◌∷◌, ◌++◌, length, codes, filter, refl, sym, ap, ◌∙◌, subst, arith}
use Rattle.std.specs.List.{AllByRecursion, list_all, list_any, slice_split, onto_first}
use Rattle.std.proofs.lemmas.Bool.{and_parts, and_from, false≢true}
use Rattle.std.proofs.Common.{ne_eqb, suc}
use Rattle.std.proofs.lemmas.List.{append_assoc, append-nil}
use Rattle.std.proofs.lemmas.List.Folds.{list_all-append}
use Rattle.pec_text.specs.Byte.{is_blank}
use Rattle.pec_text.specs.Line.{is_kept}
use Rattle.pec_text.specs.Section.{text_of}
use Rattle.pec_text.specs.SectionHeader.{IsEnd}

-- no line feed, and no `#`
abbrev pub is_plain : ℕ → Bool
is_plain byte = not (byte == 10) && not (byte == 35)

abbrev pub is_no_feed : ℕ → Bool
is_no_feed byte = not (byte == 10)

-- a line that stands in the body of a section
pub record IsInner (line : List ℕ) : Type 0 where
  pub no_feed : list_all is_no_feed line ≡ true
  pub kept : is_kept line ≡ true
  pub no_end : ¬ (IsEnd line)

-- whole lines
pub record AreLines (bytes : List ℕ) : Type 0 where
  pub whole : List (List ℕ)
  pub joined : bytes ≡ text_of whole
  pub inner : AllByRecursion IsInner whole

-- whole lines, and a line that is being written
pub record IsWriting (bytes : List ℕ) : Type 0 where
  pub whole : List (List ℕ)
  pub last : List ℕ
  pub joined : bytes ≡ text_of whole ++ last
  pub inner : AllByRecursion IsInner whole
  pub plain : list_all is_plain last ≡ true

-- a piece goes on with a line; a piece can be the last one of a line; a piece is whole lines
abbrev pub GoesOn : List ℕ → Type 0
GoesOn piece = (bytes : List ℕ) → IsWriting bytes → IsWriting (bytes ++ piece)

abbrev pub CanEnd : List ℕ → Type 0
CanEnd piece = (bytes : List ℕ) → IsWriting bytes → AreLines (bytes ++ (piece ++ 10 ∷ []))

abbrev pub IsWhole : List ℕ → Type 0
IsWhole piece = (bytes : List ℕ) → AreLines bytes → AreLines (bytes ++ piece)

-- ---- pieces of a line
pub plain_append : (a b : List ℕ) → list_all is_plain a ≡ true → list_all is_plain b ≡ true → list_all is_plain (a ++ b) ≡ true
plain_append a b h k = list_all-append is_plain a b ∙ and_from (list_all is_plain a) (list_all is_plain b) h k

pub goes_on-plain : (piece : List ℕ) → list_all is_plain piece ≡ true → GoesOn piece
goes_on-plain piece h bytes w = record {
  whole = w.whole;
  last = w.last ++ piece;
  joined = ap (λ z. z ++ piece) w.joined ∙ append_assoc (text_of w.whole) w.last piece;
  inner = w.inner;
  plain = plain_append w.last piece w.plain h;
}

pub goes_on-append : (a b : List ℕ) → GoesOn a → GoesOn b → GoesOn (a ++ b)
goes_on-append a b x y bytes w = subst IsWriting (append_assoc bytes a b) (y (bytes ++ a) (x bytes w))

pub can_end-append : (a b : List ℕ) → GoesOn a → CanEnd b → CanEnd (a ++ b)
can_end-append a b x y bytes w =
    subst AreLines (append_assoc bytes a (b ++ 10 ∷ []) ∙ ap (λ z. bytes ++ z) (sym (append_assoc a b (10 ∷ [])))) (y (bytes ++ a) (x bytes w))

pub writing-lines : (bytes : List ℕ) → AreLines bytes → IsWriting bytes
writing-lines bytes l = record { whole = l.whole; last = []; joined = l.joined ∙ sym (append-nil (text_of l.whole)); inner = l.inner; plain = refl }

pub whole-nothing : IsWhole []
whole-nothing bytes l = subst AreLines (sym (append-nil bytes)) l

pub whole-append : (a b : List ℕ) → IsWhole a → IsWhole b → IsWhole (a ++ b)
whole-append a b x y bytes l = subst AreLines (append_assoc bytes a b) (y (bytes ++ a) (x bytes l))

pub whole-line : (piece : List ℕ) → CanEnd piece → IsWhole (piece ++ 10 ∷ [])
whole-line piece x bytes l = x bytes (writing-lines bytes l)

-- ---- an ended line
-- whether some word has this byte
abbrev has_byte : ℕ → List (List ℕ) → Bool
has_byte c ws = list_any (λ w. list_any (λ b. b == c) w) ws

or_right : (a b : Bool) → b ≡ true → (a || b) ≡ true
or_right true b h = refl
or_right false b h = h

has_byte-onto : (c b : ℕ) (ws : List (List ℕ)) → has_byte c ws ≡ true → has_byte c (onto_first b ws) ≡ true
has_byte-onto c b [] h = absurd (false≢true h)
has_byte-onto c b (w ∷ ws) h = at_first (b == c) (list_any (λ b. b == c) w) (has_byte c ws) h
  where
    at_first : (x y z : Bool) → (y || z) ≡ true → ((x || y) || z) ≡ true
    at_first true y z h = refl
    at_first false y z h = h

-- a byte that is no blank is in a part of the line, and in a word
split_has : (c : ℕ) → is_blank c ≡ false → (c == c) ≡ true → (line : List ℕ) → has_byte c (slice_split is_blank (line ++ c ∷ [])) ≡ true
split_has c no_blank same [] = rw (no_blank, same) refl
split_has c no_blank same (b ∷ line) = at_byte (is_blank b) (split_has c no_blank same line)
  where
    at_byte : (v : Bool) → has_byte c (slice_split is_blank (line ++ c ∷ [])) ≡ true
        → has_byte c (cond v ([] ∷ slice_split is_blank (line ++ c ∷ [])) (onto_first b (slice_split is_blank (line ++ c ∷ [])))) ≡ true
    at_byte true h = h
    at_byte false h = has_byte-onto c b (slice_split is_blank (line ++ c ∷ [])) h

abbrev is_word : List ℕ → Bool
is_word word = not (length word == 0)

words_have : (c : ℕ) (ws : List (List ℕ)) → has_byte c ws ≡ true → has_byte c (filter is_word ws) ≡ true
words_have c [] h = h
words_have c ([] ∷ ws) h = words_have c ws h
words_have c ((b ∷ w) ∷ ws) h =
    ap (λ v. has_byte c (cond v ((b ∷ w) ∷ filter is_word ws) (filter is_word ws))) (ap not (ne_eqb (suc (length w)) 0 (λ z. omega arith)))
    ∙ at_word (list_any (λ b. b == c) (b ∷ w)) h (words_have c ws)
  where
    at_word : (v : Bool) → (v || has_byte c ws) ≡ true → (has_byte c ws ≡ true → has_byte c (filter is_word ws) ≡ true) → (v || has_byte c (filter is_word ws)) ≡ true
    at_word true h more = refl
    at_word false h more = more h

kept_line : (c : ℕ) → is_blank c ≡ false → (c == 35) ≡ false → (line : List ℕ) → list_all is_plain line ≡ true → is_kept (line ++ c ∷ []) ≡ true
kept_line c no_blank no_comment [] h = rw (no_blank, no_comment) refl
kept_line c no_blank no_comment (b ∷ line) h =
    let parts : (is_plain b ≡ true) × (list_all is_plain line ≡ true) = and_parts (is_plain b) (list_all is_plain line) h in
    let other : not (b == 35) ≡ true = (and_parts (not (b == 10)) (not (b == 35)) parts.0).1 in
    at_byte (is_blank b) refl other (kept_line c no_blank no_comment line parts.1)
  where
    at_byte : (v : Bool) → is_blank b ≡ v → not (b == 35) ≡ true → is_kept (line ++ c ∷ []) ≡ true → is_kept (b ∷ (line ++ c ∷ [])) ≡ true
    at_byte true e other more = rw e more
    at_byte false e other more = rw e other

no_feeds : (line : List ℕ) → list_all is_plain line ≡ true → list_all is_no_feed line ≡ true
no_feeds [] h = refl
no_feeds (b ∷ line) h =
    let parts : (is_plain b ≡ true) × (list_all is_plain line ≡ true) = and_parts (is_plain b) (list_all is_plain line) h in
    and_from (is_no_feed b) (list_all is_no_feed line) ((and_parts (not (b == 10)) (not (b == 35)) parts.0).0) (no_feeds line parts.1)

-- what may end a line
pub record IsEnder (c : ℕ) : Type 0 where
  pub no_blank : is_blank c ≡ false
  pub plain : list_all is_plain (c ∷ []) ≡ true
  pub no_comment : (c == 35) ≡ false
  pub same : (c == c) ≡ true
  pub not_in_end : has_byte c (codes "end" ∷ []) ≡ false

pub semicolon : IsEnder 59
semicolon = record { no_blank = refl; plain = refl; no_comment = refl; same = refl; not_in_end = refl }

pub open_brace : IsEnder 123
open_brace = record { no_blank = refl; plain = refl; no_comment = refl; same = refl; not_in_end = refl }

pub close_brace : IsEnder 125
close_brace = record { no_blank = refl; plain = refl; no_comment = refl; same = refl; not_in_end = refl }

inner_line : (c : ℕ) → IsEnder c → (line : List ℕ) → list_all is_plain line ≡ true → IsInner (line ++ c ∷ [])
inner_line c ender line h = record {
  no_feed = no_feeds (line ++ c ∷ []) (plain_append line (c ∷ []) h ender.plain);
  kept = kept_line c ender.no_blank ender.no_comment line h;
  no_end = λ e. false≢true (sym ender.not_in_end ∙ ap (has_byte c) (sym e) ∙ words_have c (slice_split is_blank (line ++ c ∷ [])) (split_has c ender.no_blank ender.same line));
}

text_of-append : (ls ms : List (List ℕ)) → text_of (ls ++ ms) ≡ text_of ls ++ text_of ms
text_of-append [] ms = refl
text_of-append (l ∷ ls) ms = ap (λ z. (l ++ 10 ∷ []) ++ z) (text_of-append ls ms) ∙ sym (append_assoc (l ++ 10 ∷ []) (text_of ls) (text_of ms))

all_more : (P : List ℕ → Type 0) (ls : List (List ℕ)) (l : List ℕ) → AllByRecursion P ls → P l → AllByRecursion P (ls ++ l ∷ [])
all_more P [] l h p = (p, tt)
all_more P (x ∷ ls) l h p = (h.0, all_more P ls l h.1 p)

pub can_end-with : (c : ℕ) → IsEnder c → CanEnd (c ∷ [])
can_end-with c ender bytes w = record {
  whole = w.whole ++ (w.last ++ c ∷ []) ∷ [];
  joined =
      ap (λ z. z ++ (c ∷ 10 ∷ [])) w.joined
      ∙ append_assoc (text_of w.whole) w.last (c ∷ 10 ∷ [])
      ∙ ap (λ z. text_of w.whole ++ z) (sym (append_assoc w.last (c ∷ []) (10 ∷ [])) ∙ sym (append-nil ((w.last ++ c ∷ []) ++ 10 ∷ [])))
      ∙ sym (text_of-append w.whole ((w.last ++ c ∷ []) ∷ []));
  inner = all_more IsInner w.whole (w.last ++ c ∷ []) w.inner (inner_line c ender w.last w.plain);
}
