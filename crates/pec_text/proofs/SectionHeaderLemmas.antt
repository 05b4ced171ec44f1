-- What the words of a line say of it: the tests agree with the facts.
use Rattle.std.proofs.Common.{◌≡◌, ◌≢◌, ℕ, Bool, true, false, cond, Option, Some, None, option_map, List, [], ◌∷◌, codes, bytes_eq, find, refl, sym, ap, ◌∙◌, subst}
use Rattle.std.proofs.lemmas.Bool.{false≢true, false_from_ne_true}
use Rattle.std.proofs.lemmas.Option.{none-some, same_Some, some_pair_parts}
use Rattle.std.proofs.lemmas.Slice.Eq.{bytes_eq-Decides}
use Rattle.pec_text.specs.Id.{is_id}
use Rattle.pec_text.specs.Line.{words}
use Rattle.pec_text.specs.SectionHeader.{word_of, IsHeader, IsEnd, kinds, kind_of, header_of_words, header_of, is_end_of_words, is_end}
use Rattle.pec_text.specs.declared.section_data.SectionKind.{SectionKind}
use Rattle.pec_text.specs.declared.section_data.SectionKind.TheVariants.{Rule, Program, Cert, Refused, Trace, Report, Chain}

-- ---- headers, of words
pub header_of_two : (ws rest : List (List ℕ)) (word title : List ℕ) → ws ≡ word ∷ rest → rest ≡ title ∷ [] → header_of_words ws ≡ cond (is_id title) (option_map (λ kind. (kind, title)) (kind_of word)) None
header_of_two ws rest word title e d = ap header_of_words (e ∙ ap (λ r. word ∷ r) d)

pub header_of_other : (ws rest : List (List ℕ)) (word : List ℕ) → ws ≡ word ∷ rest → ((title : List ℕ) → rest ≢ title ∷ []) → header_of_words ws ≡ None
header_of_other ws rest word e other = ap header_of_words e ∙ at_rest rest other
  where
    at_rest : (r : List (List ℕ)) → ((title : List ℕ) → r ≢ title ∷ []) → header_of_words (word ∷ r) ≡ None
    at_rest [] h = refl
    at_rest (title ∷ []) h = absurd (h title refl)
    at_rest (title ∷ next ∷ more) h = refl

pub is_end_of_other : (ws : List (List ℕ)) → ((word : List ℕ) → ws ≢ word ∷ []) → is_end_of_words ws ≡ false
is_end_of_other [] h = refl
is_end_of_other (word ∷ []) h = absurd (h word refl)
is_end_of_other (word ∷ next ∷ more) h = refl

-- ---- the tests and the facts
find_passes : {X : Type 0} (p : X → Bool) (xs : List X) (x : X) → find p xs ≡ Some x → p x ≡ true
find_passes p [] x e = absurd (none-some x e)
find_passes {X} p (y ∷ xs) x e = at_first (p y) refl e (find_passes p xs x)
  where
    at_first : (v : Bool) → p y ≡ v → cond v (Some y) (find p xs) ≡ Some x → (find p xs ≡ Some x → p x ≡ true) → p x ≡ true
    at_first true h d ih = subst (λ z. p z ≡ true) (same_Some y x d) h
    at_first false h d ih = ih d

kind_of-word_of : (kind : SectionKind) → kind_of (word_of kind) ≡ Some kind
kind_of-word_of Rule = refl
kind_of-word_of Program = refl
kind_of-word_of Cert = refl
kind_of-word_of Refused = refl
kind_of-word_of Trace = refl
kind_of-word_of Report = refl
kind_of-word_of Chain = refl

word_from_kind_of : (word : List ℕ) (kind : SectionKind) → kind_of word ≡ Some kind → word ≡ word_of kind
word_from_kind_of word kind e = (bytes_eq-Decides word (word_of kind)).0 (find_passes (λ k. bytes_eq word (word_of k)) kinds kind e)

header_from_words : (ws : List (List ℕ)) (kind : SectionKind) (title : List ℕ) → header_of_words ws ≡ Some (kind, title) → (ws ≡ word_of kind ∷ title ∷ []) × (is_id title ≡ true)
header_from_words [] kind title e = absurd (none-some (kind, title) e)
header_from_words (word ∷ []) kind title e = absurd (none-some (kind, title) e)
header_from_words (word ∷ name ∷ next ∷ more) kind title e = absurd (none-some (kind, title) e)
header_from_words (word ∷ name ∷ []) kind title e = at_id (is_id name) refl (kind_of word) refl e
  where
    at_id : (v : Bool) → is_id name ≡ v → (o : Option SectionKind) → kind_of word ≡ o → cond v (option_map {U = SectionKind × List ℕ} (λ k. (k, name)) o) None ≡ Some (kind, title) → (word ∷ name ∷ [] ≡ word_of kind ∷ title ∷ []) × (is_id title ≡ true)
    at_id false h o k d = absurd (none-some (kind, title) d)
    at_id true h None k d = absurd (none-some (kind, title) d)
    at_id true h (Some found) k d =
        let parts = some_pair_parts found kind name title d in
        let is_word : word ≡ word_of kind = word_from_kind_of word found k ∙ ap word_of parts.0 in
        (λ i. is_word i ∷ parts.1 i ∷ [], subst (λ n. is_id n ≡ true) parts.1 h)

-- `header_of` finds a header exactly where `IsHeader` says that there is one
pub IsHeader-from_header_of : (line : List ℕ) (kind : SectionKind) (title : List ℕ) → header_of line ≡ Some (kind, title) → IsHeader line kind title
unfolding header_of
IsHeader-from_header_of line kind title e = header_from_words (words line) kind title e

pub header_of-header : (line : List ℕ) (kind : SectionKind) (title : List ℕ) → IsHeader line kind title → header_of line ≡ Some (kind, title)
unfolding header_of
header_of-header line kind title h =
    ap header_of_words h.0 ∙ ap (λ v. cond v (option_map (λ k. (k, title)) (kind_of (word_of kind))) None) h.1 ∙ ap (option_map (λ k. (k, title))) (kind_of-word_of kind)

pub not_header : (line : List ℕ) → header_of line ≡ None → (kind : SectionKind) (title : List ℕ) → ¬ (IsHeader line kind title)
not_header line e kind title h = none-some (kind, title) (sym e ∙ header_of-header line kind title h)

pub header_of-none : (line : List ℕ) → ((kind : SectionKind) (title : List ℕ) → ¬ (IsHeader line kind title)) → header_of line ≡ None
header_of-none line h = at_case (header_of line) refl
  where
    at_case : (o : Option (SectionKind × List ℕ)) → header_of line ≡ o → header_of line ≡ None
    at_case None e = e
    at_case (Some found) e = absurd (h found.0 found.1 (IsHeader-from_header_of line found.0 found.1 e))

end_from_words : (ws : List (List ℕ)) → is_end_of_words ws ≡ true → ws ≡ codes "end" ∷ []
end_from_words [] e = absurd (false≢true e)
end_from_words (word ∷ []) e = ap (λ w. w ∷ []) ((bytes_eq-Decides word (codes "end")).0 e)
end_from_words (word ∷ next ∷ more) e = absurd (false≢true e)

-- `is_end` is true exactly where `IsEnd` holds
pub IsEnd-from_is_end : (line : List ℕ) → is_end line ≡ true → IsEnd line
unfolding is_end
IsEnd-from_is_end line e = end_from_words (words line) e

pub is_end-end : (line : List ℕ) → IsEnd line → is_end line ≡ true
unfolding is_end
is_end-end line h = ap is_end_of_words h

pub not_end : (line : List ℕ) → is_end line ≡ false → ¬ (IsEnd line)
not_end line e h = false≢true (sym e ∙ is_end-end line h)

pub is_end-other : (line : List ℕ) → ¬ (IsEnd line) → is_end line ≡ false
is_end-other line h = false_from_ne_true (is_end line) (λ e. h (IsEnd-from_is_end line e))
