-- How the first line comes off a text, and the first word off a line.
use Rattle.std.proofs.Common.{◌≡◌, ℕ, suc, ◌+◌, ◌-◌, ◌<◌, ◌≤◌, Bool, true, false, not, cond, eqb, ltb, Option, Some, None, MatchOption, unwrap_or, List, [], ◌∷◌, length, take, drop, filter, refl, sym, ap, ◌∙◌, subst, arith, one-add, ltb-true, ltb-false, ne_eqb}
use Rattle.std.proofs.lemmas.List.{take_rest, take_all, drop_all}
use Rattle.std.proofs.lemmas.List.Sums.{prefix_len-le-length}
use Rattle.std.specs.List.{slice_split, onto_first, position_or_len}
use Rattle.pec_text.specs.Byte.{is_blank}
use Rattle.pec_text.specs.Line.{lines, words}

-- what `position` answers, as cases
pub position_cases : (r : Option ℕ) (n all : ℕ) → r ≡ cond (ltb n all) (Some n) None → MatchOption r (all ≤ n) (λ i. (i ≡ n) × (n < all))
position_cases r n all e =
    let P : Option ℕ → Type 0 = λ o. MatchOption o (all ≤ n) (λ i. (i ≡ n) × (n < all)) in
    let both : (v : Bool) → ltb n all ≡ v → P (cond v (Some n) None) = elim [ true ↦ λ h. (refl, ltb-true n all h) | false ↦ λ h. ltb-false n all h ] in
    subst P (sym e) (both (ltb n all) refl)

-- the place of the first line feed, of the first byte that is no blank, and of the first blank, or the length
abbrev pub feed : List ℕ → ℕ
feed bytes = position_or_len (λ b. eqb b 10) bytes

abbrev pub start : List ℕ → ℕ
start line = position_or_len (λ b. not (is_blank b)) line

abbrev pub stop : List ℕ → ℕ
stop line = position_or_len is_blank line

-- one more byte before the place where a run stops
take_one_more : (n b : ℕ) (more : List ℕ) → take (1 + n) (b ∷ more) ≡ b ∷ take n more
take_one_more n b more = rw one-add refl

drop_one_more : (n b : ℕ) (more : List ℕ) → drop (1 + n) (b ∷ more) ≡ drop n more
drop_one_more n b more = rw one-add refl

drop_two_more : (n b : ℕ) (more : List ℕ) → drop (1 + n + 1) (b ∷ more) ≡ drop (n + 1) more
drop_two_more n b more = let e : 1 + n + 1 ≡ suc (n + 1) = omega arith in rw e refl

-- the first line ends at the first line feed, or with the input
lines_first : (b : ℕ) (more : List ℕ) → lines (b ∷ more) ≡ take (feed (b ∷ more)) (b ∷ more) ∷ lines (drop (feed (b ∷ more) + 1) (b ∷ more))
lines_first b [] =
    elim (eqb b 10) as (λ v. cond v ([] ∷ []) ((b ∷ []) ∷ []) ≡ take (cond (not v) (1 + 0) 0) (b ∷ []) ∷ lines (drop (cond (not v) (1 + 0) 0 + 1) (b ∷ []))) [ true ↦ refl | false ↦ refl ]
lines_first b (x ∷ more) =
    let rest : List ℕ = x ∷ more in
    let n : ℕ = feed rest in
    elim (eqb b 10) as (λ v. cond v ([] ∷ lines rest) (onto_first b (lines rest)) ≡ take (cond (not v) (1 + n) 0) (b ∷ rest) ∷ lines (drop (cond (not v) (1 + n) 0 + 1) (b ∷ rest)))
    [ true ↦ refl | false ↦ rw (take_one_more n b rest, drop_two_more n b rest) (ap (onto_first b) (lines_first x more)) ]

lines_cut : (bytes : List ℕ) → 0 < length bytes → lines bytes ≡ take (feed bytes) bytes ∷ lines (drop (feed bytes + 1) bytes)
lines_cut [] h = absurd (omega arith)
lines_cut (b ∷ more) h = lines_first b more

-- a line feed at i
pub lines_at : (bytes : List ℕ) (i : ℕ) → (i ≡ feed bytes) × (feed bytes < length bytes) → lines bytes ≡ take i bytes ∷ lines (take (length bytes - (i + 1)) (drop (i + 1) bytes))
lines_at bytes i h = rw (take_rest bytes (i + 1), h.0) (lines_cut bytes (omega arith))

-- no line feed
pub lines_without : (bytes : List ℕ) → 0 < length bytes → length bytes ≤ feed bytes → lines bytes ≡ bytes ∷ lines (take (length bytes - length bytes) (drop (length bytes) bytes))
lines_without bytes some none =
    rw (take_rest bytes (length bytes), drop_all (length bytes) bytes (omega arith))
    (lines_cut bytes some ∙ rw (take_all (feed bytes) bytes none, drop_all (feed bytes + 1) bytes (omega arith)) refl)

-- ---- words
abbrev is_word : List ℕ → Bool
is_word word = not (eqb (length word) 0)

-- what stands behind the first part
abbrev parts_after : List ℕ → List (List ℕ)
parts_after [] = []
parts_after (b ∷ more) = slice_split is_blank more

split_first : (line : List ℕ) → slice_split is_blank line ≡ take (stop line) line ∷ parts_after (drop (stop line) line)
split_first [] = refl
split_first (b ∷ more) =
    let n : ℕ = stop more in
    elim (is_blank b) as (λ v. cond v ([] ∷ slice_split is_blank more) (onto_first b (slice_split is_blank more)) ≡ take (cond (not v) (1 + n) 0) (b ∷ more) ∷ parts_after (drop (cond (not v) (1 + n) 0) (b ∷ more)))
    [ true ↦ refl | false ↦ rw (take_one_more n b more, drop_one_more n b more) (ap (onto_first b) (split_first more)) ]

-- a blank in front of a line is no part of a word
words-blank : (b : ℕ) (more : List ℕ) → is_blank b ≡ true → words (b ∷ more) ≡ words more
words-blank b more e = ap (λ v. filter is_word (cond v ([] ∷ slice_split is_blank more) (onto_first b (slice_split is_blank more)))) e

-- where the first word stops, the words that follow are those of the line from there
words_after : (line : List ℕ) → filter is_word (parts_after (drop (stop line) line)) ≡ words (drop (stop line) line)
words_after [] = refl
words_after (b ∷ more) = at_first (is_blank b) refl (words_after more)
  where
    at_first : (v : Bool) → is_blank b ≡ v → filter is_word (parts_after (drop (stop more) more)) ≡ words (drop (stop more) more)
        → filter is_word (parts_after (drop (cond (not v) (1 + stop more) 0) (b ∷ more))) ≡ words (drop (cond (not v) (1 + stop more) 0) (b ∷ more))
    at_first true e ih = sym (words-blank b more e)
    at_first false e ih = rw (drop_one_more (stop more) b more) ih

-- a line whose first byte is no blank begins with a word
words_first : (b : ℕ) (more : List ℕ) → is_blank b ≡ false → words (b ∷ more) ≡ take (stop (b ∷ more)) (b ∷ more) ∷ words (drop (stop (b ∷ more)) (b ∷ more))
words_first b more e =
    let n : ℕ = stop more in
    let long : stop (b ∷ more) ≡ suc n = ap (λ v. cond (not v) (1 + n) 0) e ∙ one-add n in
    let after : List (List ℕ) = parts_after (drop (stop (b ∷ more)) (b ∷ more)) in
    let some : is_word (b ∷ take n more) ≡ true = ap not (ne_eqb (suc (length (take n more))) 0 (λ z. omega arith)) in
    ap (filter is_word) (split_first (b ∷ more))
    ∙ ap (λ k. filter is_word (take k (b ∷ more) ∷ after)) long
    ∙ ap (λ v. cond v ((b ∷ take n more) ∷ filter is_word after) (filter is_word after)) some
    ∙ ap (λ ws. (b ∷ take n more) ∷ ws) (words_after (b ∷ more))
    ∙ ap (λ k. take k (b ∷ more) ∷ words (drop (stop (b ∷ more)) (b ∷ more))) (sym long)

-- the words of a line are those from its first byte that is no blank on
words_from_start : (line : List ℕ) → words (drop (start line) line) ≡ words line
words_from_start [] = refl
words_from_start (b ∷ more) = at_first (is_blank b) refl (words_from_start more)
  where
    at_first : (v : Bool) → is_blank b ≡ v → words (drop (start more) more) ≡ words more → words (drop (cond (not (not v)) (1 + start more) 0) (b ∷ more)) ≡ words (b ∷ more)
    at_first true e ih = rw (drop_one_more (start more) b more) (ih ∙ sym (words-blank b more e))
    at_first false e ih = refl

pub no_words : (line : List ℕ) → length line ≤ start line → words line ≡ []
no_words line h = sym (words_from_start line) ∙ ap words (drop_all (start line) line h)

-- there the line goes on with a byte that is no blank
at_start : (line : List ℕ) → start line < length line → (b : ℕ) × (more : List ℕ) × (drop (start line) line ≡ b ∷ more) × (is_blank b ≡ false)
at_start [] h = absurd (omega arith)
at_start (b ∷ more) h = at_first (is_blank b) refl (at_start more) h
  where
    at_first : (v : Bool) → is_blank b ≡ v → (start more < length more → (x : ℕ) × (xs : List ℕ) × (drop (start more) more ≡ x ∷ xs) × (is_blank x ≡ false))
        → cond (not (not v)) (1 + start more) 0 < suc (length more) → (x : ℕ) × (xs : List ℕ) × (drop (cond (not (not v)) (1 + start more) 0) (b ∷ more) ≡ x ∷ xs) × (is_blank x ≡ false)
    at_first true e ih l = let found = ih (omega arith) in (found.0, found.1, drop_one_more (start more) b more ∙ found.2, found.3)
    at_first false e ih l = (b, more, refl, e)

-- the first word, where the line from its first byte that is no blank on is `rest`
pub words_at : (line rest : List ℕ) → start line < length line → rest ≡ drop (start line) line → words line ≡ take (stop rest) rest ∷ words (drop (stop rest) rest)
words_at line rest l e =
    let found = at_start line l in
    let same : rest ≡ found.0 ∷ found.1 = e ∙ found.2 in
    sym (words_from_start line) ∙ ap words (sym e) ∙ subst (λ r. words r ≡ take (stop r) r ∷ words (drop (stop r) r)) (sym same) (words_first found.0 found.1 found.3)

-- a place that `position` may not find
pub or_length : (r : Option ℕ) (line : List ℕ) → r ≡ cond (ltb (stop line) (length line)) (Some (stop line)) None → unwrap_or r (length line) ≡ stop line
or_length r line e =
    let short : stop line ≤ length line = prefix_len-le-length (λ b. not (is_blank b)) line in
    at_case r (position_cases r (stop line) (length line) e)
  where
    at_case : (o : Option ℕ) → MatchOption o (length line ≤ stop line) (λ i. (i ≡ stop line) × (stop line < length line)) → unwrap_or o (length line) ≡ stop line
    at_case None h = let short : stop line ≤ length line = prefix_len-le-length (λ b. not (is_blank b)) line in omega arith
    at_case (Some i) h = h.0
