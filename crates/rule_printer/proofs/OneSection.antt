-- A header, lines that may stand in a body, and an end line are the text of one section.
use Rattle.std.proofs.Common.{◌≡◌, ℕ, suc, Bool, true, false, not, cond, ◌==◌, List, [], ◌∷◌, ◌++◌, length, codes, filter, refl, sym, ap, ◌∙◌, arith, ne_eqb}
use Rattle.std.specs.List.{AllByRecursion, list_all, slice_split, onto_first}
use Rattle.std.proofs.lemmas.Bool.{and_parts, and_from}
use Rattle.std.proofs.lemmas.Bool.Decides.{nat_tests}
use Rattle.std.proofs.lemmas.List.{append_assoc, append-nil}
use Rattle.std.proofs.lemmas.List.Folds.{list_all-append}
use Rattle.pec_text.specs.Byte.{is_blank, is_id_byte}
use Rattle.pec_text.specs.Id.{is_id}
use Rattle.pec_text.specs.Line.{lines, is_kept, kept_lines, words}
use Rattle.pec_text.specs.Section.{HoldsNoEnd, text_of, AreLinesOf, IsText}
use Rattle.pec_text.specs.SectionHeader.{word_of}
use Rattle.pec_text.specs.declared.section_data.SectionKind.{SectionKind}
use Rattle.pec_text.proofs.Ids.{run_of_id}
use Rattle.rule_printer.specs.ProgramText.{one_section}
use Rattle.rule_printer.proofs.WrittenLines.{is_no_feed, IsInner, AreLines}

-- ---- lines
line_first : (line rest : List ℕ) → list_all is_no_feed line ≡ true → lines (line ++ 10 ∷ rest) ≡ line ∷ lines rest
line_first [] rest h = refl
line_first (b ∷ line) rest h = at_byte (b == 10) ((and_parts (is_no_feed b) (list_all is_no_feed line) h).0) (line_first line rest ((and_parts (is_no_feed b) (list_all is_no_feed line) h).1))
  where
    at_byte : (v : Bool) → not v ≡ true → lines (line ++ 10 ∷ rest) ≡ line ∷ lines rest
        → cond v ([] ∷ lines (line ++ 10 ∷ rest)) (onto_first b (lines (line ++ 10 ∷ rest))) ≡ (b ∷ line) ∷ lines rest
    at_byte true h more = cc
    at_byte false h more = ap (onto_first b) more

kept_first : (line rest : List ℕ) → list_all is_no_feed line ≡ true → is_kept line ≡ true → kept_lines (line ++ 10 ∷ rest) ≡ line ∷ kept_lines rest
kept_first line rest h kept = ap (filter is_kept) (line_first line rest h) ∙ ap (λ v. cond v (line ∷ kept_lines rest) (kept_lines rest)) kept

kept_body : (whole : List (List ℕ)) (rest : List ℕ) → AllByRecursion IsInner whole → kept_lines (text_of whole ++ rest) ≡ whole ++ kept_lines rest
kept_body [] rest all = refl
kept_body (line ∷ whole) rest all =
    ap kept_lines (append_assoc (line ++ 10 ∷ []) (text_of whole) rest ∙ append_assoc line (10 ∷ []) (text_of whole ++ rest))
    ∙ kept_first line (text_of whole ++ rest) all.0.no_feed all.0.kept
    ∙ ap (λ ls. line ∷ ls) (kept_body whole rest all.1)

no_end_inside : (whole : List (List ℕ)) → AllByRecursion IsInner whole → HoldsNoEnd whole
no_end_inside [] all = tt
no_end_inside (line ∷ whole) all = (all.0.no_end, no_end_inside whole all.1)

-- ---- the title as a word
abbrev is_word : List ℕ → Bool
is_word word = not (length word == 0)

id_no_blank : (b : ℕ) → is_id_byte b ≡ true → is_blank b ≡ false
id_no_blank b h = grind (arith, nat_tests)

id_no_feed : (b : ℕ) → is_id_byte b ≡ true → is_no_feed b ≡ true
id_no_feed b h = grind (arith, nat_tests)

one_part : (run : List ℕ) → list_all is_id_byte run ≡ true → slice_split is_blank run ≡ run ∷ []
one_part [] h = refl
one_part (b ∷ run) h =
    let parts : (is_id_byte b ≡ true) × (list_all is_id_byte run ≡ true) = and_parts (is_id_byte b) (list_all is_id_byte run) h in
    ap (λ v. cond v ([] ∷ slice_split is_blank run) (onto_first b (slice_split is_blank run))) (id_no_blank b parts.0) ∙ ap (onto_first b) (one_part run parts.1)

run_no_feed : (run : List ℕ) → list_all is_id_byte run ≡ true → list_all is_no_feed run ≡ true
run_no_feed [] h = refl
run_no_feed (b ∷ run) h =
    let parts : (is_id_byte b ≡ true) × (list_all is_id_byte run ≡ true) = and_parts (is_id_byte b) (list_all is_id_byte run) h in
    and_from (is_no_feed b) (list_all is_no_feed run) (id_no_feed b parts.0) (run_no_feed run parts.1)

one_word : (title : List ℕ) → is_id title ≡ true → filter is_word (slice_split is_blank title) ≡ title ∷ []
one_word [] h = cc
one_word (b ∷ more) h =
    ap (filter is_word) (one_part (b ∷ more) (run_of_id (b ∷ more) h).run)
    ∙ ap (λ v. cond v ((b ∷ more) ∷ []) []) (ap not (ne_eqb (suc (length more)) 0 (λ z. omega arith)))

-- ---- one section
-- what stands in front of the title in a header of this kind
pub record Heads (kind : SectionKind) (front : List ℕ) : Type 0 where
  pub words_are : (title : List ℕ) → words (front ++ title) ≡ word_of kind ∷ filter (λ word. not (length word == 0)) (slice_split is_blank title)
  pub kept : (title : List ℕ) → is_kept (front ++ title) ≡ true
  pub no_feed : list_all is_no_feed front ≡ true

abbrev section_text : List ℕ → List ℕ → List ℕ → List ℕ
section_text front title body = front ++ (title ++ (codes "\n" ++ (body ++ codes "end\n")))

kept_section : (kind : SectionKind) (front title body : List ℕ) → Heads kind front → is_id title ≡ true → (whole : List (List ℕ)) → body ≡ text_of whole → AllByRecursion IsInner whole
    → kept_lines (section_text front title body) ≡ (front ++ title) ∷ (whole ++ codes "end" ∷ [])
kept_section kind front title body heads id whole e all =
    ap kept_lines (sym (append_assoc front title (10 ∷ (body ++ codes "end\n"))))
    ∙ kept_first (front ++ title) (body ++ codes "end\n")
    (list_all-append is_no_feed front title ∙ and_from (list_all is_no_feed front) (list_all is_no_feed title) heads.no_feed (run_no_feed title (run_of_id title id).run)) (heads.kept title)
    ∙ ap (λ ls. (front ++ title) ∷ ls) (ap (λ z. kept_lines (z ++ codes "end\n")) e ∙ kept_body whole (codes "end\n") all)

pub is_one_section : (kind : SectionKind) (front title body : List ℕ) → Heads kind front → is_id title ≡ true → AreLines body → IsText (section_text front title body) (one_section kind title body)
is_one_section kind front title body heads id inside =
    let own : List (List ℕ) = (front ++ title) ∷ (inside.whole ++ codes "end" ∷ []) in
    let all : AreLinesOf own (record { kind = kind; title = title; body = body }) = record {
      header = front ++ title;
      inside = inside.whole;
      last = codes "end";
      in_order = refl;
      is_header = (heads.words_are title ∙ ap (λ ws. word_of kind ∷ ws) (one_word title id), id);
      no_end_inside = no_end_inside inside.whole inside.inner;
      is_end = refl;
      body = inside.joined;
    } in
    ([], (own, [], kept_section kind front title body heads id inside.whole inside.joined inside.inner ∙ sym (append-nil own), all, refl), refl)
