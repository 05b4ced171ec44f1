-- Canonical text is read back: the first line ends at the first line feed, and its words stand between single spaces.
use Rattle.std.specs.Prelude.{◌≡◌, ◌==◌, ℕ, suc, Bool, true, false, not, cond, List, [], ◌∷◌, ◌++◌, length, filter, map, Option, Some, None, refl}
use Rattle.std.proofs.Common.{sym, ap, ◌∙◌, arith, ne_eqb}
use Rattle.std.specs.List.{list_all, slice_split, onto_first, flat_map}
use Rattle.std.proofs.lemmas.Bool.{and_parts, and_from}
use Rattle.std.proofs.lemmas.List.{append_assoc, append-nil}
use Rattle.std.proofs.lemmas.List.Folds.{list_all-append}
use Rattle.pec_text.specs.Byte.{is_blank}
use Rattle.pec_text.specs.Line.{lines, is_kept, kept_lines, words}
use Rattle.word_text.specs.declared.token.Key.{Key}
use Rattle.word_text.specs.declared.token.Key.TheVariants as key
use Rattle.word_text.specs.declared.token.Token.{Token}
use Rattle.word_text.specs.declared.token.Token.TheVariants as token
use Rattle.word_text.specs.Words.{key_word, spelling, is_token, line_words, text_words, placed, is_end, text_behind, are_lines}
use Rattle.word_text.specs.WordLaws.{TextReadsBack, OneReading}
use Rattle.word_text.proofs.LineReads.{map_two}
use Rattle.word_text.proofs.Runs.{is_inner, is_some, IsRun, token_run, one_token}

abbrev is_no_feed : ℕ → Bool
is_no_feed b = not (b == 10)

abbrev is_word : List ℕ → Bool
is_word word = not (length word == 0)

-- ---- the first line
line_first : (line rest : List ℕ) → list_all is_no_feed line ≡ true → lines (line ++ 10 ∷ rest) ≡ line ∷ lines rest
line_first [] rest h = refl
line_first (b ∷ line) rest h = at_byte (b == 10) ((and_parts (is_no_feed b) (list_all is_no_feed line) h).0) (line_first line rest ((and_parts (is_no_feed b) (list_all is_no_feed line) h).1))
  where
    at_byte : (v : Bool) → not v ≡ true → lines (line ++ 10 ∷ rest) ≡ line ∷ lines rest
        → cond v ([] ∷ lines (line ++ 10 ∷ rest)) (onto_first b (lines (line ++ 10 ∷ rest))) ≡ (b ∷ line) ∷ lines rest
    at_byte true h more = cc
    at_byte false h more = ap (onto_first b) more

kept_first : (line rest : List ℕ) → list_all is_no_feed line ≡ true → is_kept line ≡ true → kept_lines (line ++ 10 ∷ rest) ≡ line ∷ kept_lines rest
kept_first line rest h kept = ap (filter is_kept) (line_first line rest h) ∙ ap (λ v. cond v (line ∷ kept_lines rest) (kept_lines rest)) kept

-- ---- words of a line
not_true : (v : Bool) → not v ≡ true → v ≡ false
not_true true h = cc
not_true false h = refl

no_blank : (b : ℕ) → is_inner b ≡ true → is_blank b ≡ false
no_blank b h = not_true (is_blank b) (and_parts (not (is_blank b)) (not (b == 10)) h).0

split_run : (run rest : List ℕ) → list_all is_inner run ≡ true → slice_split is_blank (run ++ 32 ∷ rest) ≡ run ∷ slice_split is_blank rest
split_run [] rest h = refl
split_run (b ∷ run) rest h =
    let parts = and_parts (is_inner b) (list_all is_inner run) h in
    ap (λ v. cond v ([] ∷ slice_split is_blank (run ++ 32 ∷ rest)) (onto_first b (slice_split is_blank (run ++ 32 ∷ rest)))) (no_blank b parts.0)
    ∙ ap (onto_first b) (split_run run rest parts.1)

split_last : (run : List ℕ) → list_all is_inner run ≡ true → slice_split is_blank run ≡ run ∷ []
split_last [] h = refl
split_last (b ∷ run) h =
    let parts = and_parts (is_inner b) (list_all is_inner run) h in
    ap (λ v. cond v ([] ∷ slice_split is_blank run) (onto_first b (slice_split is_blank run))) (no_blank b parts.0) ∙ ap (onto_first b) (split_last run parts.1)

some_word : (run : List ℕ) → is_some run ≡ true → is_word run ≡ true
some_word [] h = cc
some_word (b ∷ run) h = ap not (ne_eqb (suc (length run)) 0 (λ z. omega (arith, z)))

word_first : (run rest : List ℕ) → IsRun run → words (run ++ 32 ∷ rest) ≡ run ∷ words rest
word_first run rest is =
    ap (filter is_word) (split_run run rest is.inner) ∙ ap (λ v. cond v (run ∷ words rest) (words rest)) (some_word run is.some)

word_last : (run : List ℕ) → IsRun run → words run ≡ run ∷ []
word_last run is = ap (filter is_word) (split_last run is.inner) ∙ ap (λ v. cond v (run ∷ []) []) (some_word run is.some)

no_feeds : (run : List ℕ) → list_all is_inner run ≡ true → list_all is_no_feed run ≡ true
no_feeds [] h = refl
no_feeds (b ∷ run) h =
    let parts = and_parts (is_inner b) (list_all is_inner run) h in
    and_from (is_no_feed b) (list_all is_no_feed run) (and_parts (not (is_blank b)) (not (b == 10)) parts.0).1 (no_feeds run parts.1)

-- ---- a line on the way: its bytes so far and their words
record IsLine (line : List ℕ) (ws : List (List ℕ)) : Type 0 where
  no_feed : list_all is_no_feed line ≡ true
  kept : (rest : List ℕ) → is_kept (line ++ rest) ≡ true
  goes : (rest : List ℕ) → words (line ++ 32 ∷ rest) ≡ ws ++ words rest
  whole : words line ≡ ws

key_kept : (k : Key) (rest : List ℕ) → is_kept (key_word k ++ rest) ≡ true
key_kept k rest = elim k as (λ k. is_kept (key_word k ++ rest) ≡ true) [ key.L ↦ refl | _ ↦ refl ]

line_key : (k : Key) → IsLine (key_word k) (key_word k ∷ [])
line_key k =
    let is : IsRun (key_word k) = token_run (token.Key k) refl in
    record { no_feed = no_feeds (key_word k) is.inner; kept = key_kept k; goes = λ rest. word_first (key_word k) rest is; whole = word_last (key_word k) is }

line_more : (line : List ℕ) (ws : List (List ℕ)) (run : List ℕ) → IsLine line ws → IsRun run → IsLine (line ++ 32 ∷ run) (ws ++ run ∷ [])
line_more line ws run so is = record {
  no_feed = list_all-append is_no_feed line (32 ∷ run) ∙ and_from (list_all is_no_feed line) (list_all is_no_feed (32 ∷ run)) so.no_feed (no_feeds run is.inner);
  kept = λ rest. ap is_kept (append_assoc line (32 ∷ run) rest) ∙ so.kept (32 ∷ (run ++ rest));
  goes = λ rest.
      ap words (append_assoc line (32 ∷ run) (32 ∷ rest)) ∙ so.goes (run ++ 32 ∷ rest) ∙ ap (λ xs. ws ++ xs) (word_first run rest is) ∙ sym (append_assoc ws (run ∷ []) (words rest));
  whole = so.goes run ∙ ap (λ xs. ws ++ xs) (word_last run is);
}

-- the line ends
line_done : (line : List ℕ) (ws : List (List ℕ)) (rest : List ℕ) → IsLine line ws → text_words (line ++ 10 ∷ rest) ≡ map Some ws ++ (None ∷ text_words rest)
line_done line ws rest so =
    ap (flat_map line_words) (kept_first line rest so.no_feed (ap is_kept (sym (append-nil line)) ∙ so.kept []))
    ∙ ap (λ xs. (map Some xs ++ None ∷ []) ++ text_words rest) so.whole
    ∙ append_assoc (map Some ws) (None ∷ []) (text_words rest)

abbrev Reads : Bool → List Token → Type 0
Reads false ts = text_words (text_behind false ts) ≡ map spelling ts
Reads true ts = (line : List ℕ) (ws : List (List ℕ)) → IsLine line ws → text_words (line ++ text_behind true ts) ≡ map Some ws ++ map spelling ts

-- a word more of the line
word_more : (t : Token) (ts : List Token) (run : List ℕ) → spelling t ≡ Some run → is_end t ≡ false → IsRun run → Reads true ts → Reads true (t ∷ ts)
unfolding text_behind
word_more t ts run spelt no_end is more line ws so =
    ap (λ o. text_words (line ++ (placed true o ++ text_behind (not (is_end t)) ts))) spelt
    ∙ ap (λ v. text_words (line ++ ((32 ∷ run) ++ text_behind (not v) ts))) no_end
    ∙ ap text_words (sym (append_assoc line (32 ∷ run) (text_behind true ts)))
    ∙ more (line ++ 32 ∷ run) (ws ++ run ∷ []) (line_more line ws run so is)
    ∙ ap (λ xs. xs ++ map spelling ts) (map_two Some ws (run ∷ []))
    ∙ append_assoc (map Some ws) (Some run ∷ []) (map spelling ts)
    ∙ ap (λ o. map Some ws ++ (o ∷ map spelling ts)) (sym spelt)

rest_valid : (t : Token) (ts : List Token) → list_all is_token (t ∷ ts) ≡ true → (is_token t ≡ true) × (list_all is_token ts ≡ true)
rest_valid t ts h = and_parts (is_token t) (list_all is_token ts) h

reads : (before : Bool) (ts : List Token) → are_lines before ts ≡ true → list_all is_token ts ≡ true → Reads before ts
unfolding text_behind are_lines
reads false [] a v = refl
reads false (token.Key k ∷ ts) a v =
    reads true ts a (rest_valid (token.Key k) ts v).1 (key_word k) (key_word k ∷ []) (line_key k)
reads false (token.Number s n ∷ ts) a v = cc
reads false (token.Par k ∷ ts) a v = cc
reads false (token.End ∷ ts) a v = cc
reads true [] a v = cc
reads true (token.End ∷ ts) a v = λ line ws so.
    line_done line ws (text_behind false ts) so ∙ ap (λ xs. map Some ws ++ (None ∷ xs)) (reads false ts a (rest_valid token.End ts v).1)
reads true (token.Key k ∷ ts) a v =
    let valid = rest_valid (token.Key k) ts v in
    word_more (token.Key k) ts (key_word k) refl refl (token_run (token.Key k) valid.0) (reads true ts a valid.1)
reads true (token.Number false n ∷ ts) a v =
    let valid = rest_valid (token.Number false n) ts v in
    word_more (token.Number false n) ts _ refl refl (token_run (token.Number false n) valid.0) (reads true ts a valid.1)
reads true (token.Number true n ∷ ts) a v =
    let valid = rest_valid (token.Number true n) ts v in
    word_more (token.Number true n) ts _ refl refl (token_run (token.Number true n) valid.0) (reads true ts a valid.1)
reads true (token.Par k ∷ ts) a v =
    let valid = rest_valid (token.Par k) ts v in
    word_more (token.Par k) ts _ refl refl (token_run (token.Par k) valid.0) (reads true ts a valid.1)

pub text_reads_back : TextReadsBack
text_reads_back ts a v = record { said = sym (reads false ts a v); valid = v }

-- ---- one list of tokens
first_same : (a b : Option (List ℕ)) (xs ys : List (Option (List ℕ))) → a ∷ xs ≡ b ∷ ys → a ≡ b
first_same a b xs ys e = cc

rest_same : (a b : Option (List ℕ)) (xs ys : List (Option (List ℕ))) → a ∷ xs ≡ b ∷ ys → xs ≡ ys
rest_same a b xs ys e = cc

one_list : (ts us : List Token) → list_all is_token ts ≡ true → list_all is_token us ≡ true → map spelling ts ≡ map spelling us → ts ≡ us
one_list [] [] a b e = refl
one_list [] (u ∷ us) a b e = cc
one_list (t ∷ ts) [] a b e = cc
one_list (t ∷ ts) (u ∷ us) a b e =
    let left = rest_valid t ts a in
    let right = rest_valid u us b in
    let first : t ≡ u = one_token t u left.0 right.0 (first_same (spelling t) (spelling u) (map spelling ts) (map spelling us) e) in
    let rest : ts ≡ us = one_list ts us left.1 right.1 (rest_same (spelling t) (spelling u) (map spelling ts) (map spelling us) e) in
    λ i. first i ∷ rest i

pub one_reading : OneReading
one_reading bytes ts us a b = one_list ts us a.valid b.valid (a.said ∙ sym b.said)
