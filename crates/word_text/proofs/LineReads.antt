-- Reading goes on word by word and line by line, stops at a word that no token has, and ends with the tokens of the text.
use Rattle.std.specs.Prelude.{◌≡◌, ℕ, true, List, [], ◌∷◌, ◌++◌, map, Option, Some, None, refl}
use Rattle.std.proofs.Common.{sym, ap, ◌∙◌}
use Rattle.std.specs.List.{list_all, flat_map}
use Rattle.std.proofs.lemmas.Bool.{and_parts, and_from}
use Rattle.std.proofs.lemmas.List.{append_assoc, append-nil}
use Rattle.std.proofs.lemmas.List.Folds.{list_all-append}
use Rattle.pec_text.specs.Line.{kept_lines, words}
use Rattle.word_text.specs.declared.token.Token.{Token}
use Rattle.word_text.specs.declared.token.Token.TheVariants as token
use Rattle.word_text.specs.Words.{spelling, is_token, line_words, Says, AreTokens}
use Rattle.word_text.specs.Lines.{IsStrange, HasStrange, Adds, LineSoFar, TextSoFar}

pub map_two : {X Y : Type 0} (f : X → Y) (xs ys : List X) → map f (xs ++ ys) ≡ map f xs ++ map f ys
map_two f [] ys = refl
map_two f (x ∷ xs) ys = ap (λ zs. f x ∷ zs) (map_two f xs ys)

flat_two : {X Y : Type 0} (f : X → List Y) (xs ys : List X) → flat_map f (xs ++ ys) ≡ flat_map f xs ++ flat_map f ys
flat_two f [] ys = refl
flat_two f (x ∷ xs) ys = ap (λ zs. f x ++ zs) (flat_two f xs ys) ∙ sym (append_assoc (f x) (flat_map f xs) (flat_map f ys))

-- one token more
all_more : (now : List Token) (t : Token) → list_all is_token now ≡ true → is_token t ≡ true → list_all is_token (now ++ t ∷ []) ≡ true
all_more now t h k = list_all-append is_token now (t ∷ []) ∙ and_from (list_all is_token now) (list_all is_token (t ∷ [])) h (and_from (is_token t) true k refl)

-- ---- a line
pub line_begins : (line : List ℕ) (before : List Token) → LineSoFar line line before before
line_begins line before = record { front = []; cut = refl; said = sym (append-nil (map spelling before)); valid = λ h. h }

pub line_goes : (line rest more word : List ℕ) (before now : List Token) (t : Token) → LineSoFar line rest before now → words rest ≡ word ∷ words more
    → spelling t ≡ Some word → is_token t ≡ true → LineSoFar line more before (now ++ t ∷ [])
line_goes line rest more word before now t so first spelt is = record {
  front = so.front ++ word ∷ [];
  cut = so.cut ∙ ap (λ ws. so.front ++ ws) first ∙ sym (append_assoc so.front (word ∷ []) (words more));
  said =
      map_two spelling now (t ∷ [])
      ∙ (λ i. so.said i ++ (spelt i ∷ []))
      ∙ append_assoc (map spelling before) (map Some so.front) (Some word ∷ [])
      ∙ ap (λ ws. map spelling before ++ ws) (sym (map_two Some so.front (word ∷ [])));
  valid = λ h. all_more now t (so.valid h) is;
}

pub line_stops : (line rest more word : List ℕ) (before now : List Token) → LineSoFar line rest before now → words rest ≡ word ∷ words more → IsStrange word → HasStrange (line_words line)
line_stops line rest more word before now so first strange = record {
  front = map Some so.front;
  word = word;
  back = map Some (words more) ++ None ∷ [];
  in_order =
      ap (λ ws. map Some ws ++ None ∷ []) (so.cut ∙ ap (λ ws. so.front ++ ws) first)
      ∙ ap (λ ws. ws ++ None ∷ []) (map_two Some so.front (word ∷ words more))
      ∙ append_assoc (map Some so.front) (Some word ∷ map Some (words more)) (None ∷ []);
  strange = strange;
}

pub line_ends : (line rest : List ℕ) (before now : List Token) → LineSoFar line rest before now → words rest ≡ [] → Adds (line_words line) before (now ++ token.End ∷ [])
line_ends line rest before now so none = record {
  said =
      map_two spelling now (token.End ∷ [])
      ∙ ap (λ ws. ws ++ None ∷ []) (so.said ∙ ap (λ ws. map spelling before ++ map Some ws) (sym (so.cut ∙ ap (λ ws. so.front ++ ws) none ∙ append-nil so.front)))
      ∙ append_assoc (map spelling before) (map Some (words line)) (None ∷ []);
  valid = λ h. all_more now token.End (so.valid h) refl;
}

-- ---- a text
pub text_begins : (text : List ℕ) → TextSoFar text text []
text_begins text = record { front = []; cut = refl; said = refl; valid = refl }

pub text_goes : (text rest more line : List ℕ) (now after : List Token) → TextSoFar text rest now → kept_lines rest ≡ line ∷ kept_lines more → Adds (line_words line) now after → TextSoFar text more after
text_goes text rest more line now after so first adds = record {
  front = so.front ++ line ∷ [];
  cut = so.cut ∙ ap (λ ls. so.front ++ ls) first ∙ sym (append_assoc so.front (line ∷ []) (kept_lines more));
  said =
      adds.said
      ∙ ap (λ ws. ws ++ line_words line) so.said
      ∙ ap (λ ws. flat_map line_words so.front ++ ws) (sym (append-nil (line_words line)))
      ∙ sym (flat_two line_words so.front (line ∷ []));
  valid = adds.valid so.valid;
}

-- a word that no token has stands among the words of no tokens
none_says : (front : List (Option (List ℕ))) (word : List ℕ) (back : List (Option (List ℕ))) (ts : List Token) → map spelling ts ≡ front ++ Some word ∷ back → list_all is_token ts ≡ true → IsStrange word → ⊥
none_says [] word back [] e h strange = cc
none_says (x ∷ front) word back [] e h strange = cc
none_says [] word back (t ∷ ts) e h strange = strange t (and_parts (is_token t) (list_all is_token ts) h).0 (let is = e in cc)
none_says (x ∷ front) word back (t ∷ ts) e h strange = none_says front word back ts (let is = e in cc) (and_parts (is_token t) (list_all is_token ts) h).1 strange

pub text_stops : (text rest more line : List ℕ) (now : List Token) → TextSoFar text rest now → kept_lines rest ≡ line ∷ kept_lines more → HasStrange (line_words line) → AreTokens text None
text_stops text rest more line now so first h ts says =
    none_says (flat_map line_words so.front ++ h.front) h.word (h.back ++ flat_map line_words (kept_lines more)) ts
    (
    says.said
    ∙ ap (flat_map line_words) (so.cut ∙ ap (λ ls. so.front ++ ls) first)
    ∙ flat_two line_words so.front (line ∷ kept_lines more)
    ∙ ap (λ ws. flat_map line_words so.front ++ (ws ++ flat_map line_words (kept_lines more))) h.in_order
    ∙ ap (λ ws. flat_map line_words so.front ++ ws) (append_assoc h.front (Some h.word ∷ h.back) (flat_map line_words (kept_lines more)))
    ∙ sym (append_assoc (flat_map line_words so.front) h.front (Some h.word ∷ (h.back ++ flat_map line_words (kept_lines more))))
    )
    says.valid h.strange

pub text_ends : (text rest : List ℕ) (now : List Token) → TextSoFar text rest now → kept_lines rest ≡ [] → Says text now
text_ends text rest now so none = record {
  said = so.said ∙ ap (flat_map line_words) (sym (so.cut ∙ ap (λ ls. so.front ++ ls) none ∙ append-nil so.front));
  valid = so.valid;
}
