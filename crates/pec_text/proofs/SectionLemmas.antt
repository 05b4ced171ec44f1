-- The sections that are read from kept lines are those that `IsText` allows, and no others.
use Rattle.std.proofs.Common.{◌≡◌, ◌↔◌, ℕ, ◌+◌, Bool, true, false, cond, Option, Some, None, List, [], ◌∷◌, ◌++◌, length, All, refl, sym, ap, ◌∙◌, subst, append_assoc, append-nil}
use Rattle.std.proofs.lemmas.List.{flat_map_more}
use Rattle.std.proofs.lemmas.List.Elements.{All-from_recursion}
use Rattle.std.specs.List.{AllByRecursion}
use Rattle.std.specs.Option.{option_map_or}
use Rattle.pec_text.specs.Id.{is_id}
use Rattle.std.proofs.lemmas.Option.{none-some, some_pair_parts}
use Rattle.pec_text.specs.Line.{kept_lines}
use Rattle.pec_text.specs.Section.{HoldsNoEnd, text_of, AreLinesOf, AreSections, IsRest, IsText}
use Rattle.pec_text.specs.SectionHeader.{IsHeader, IsEnd, header_of, is_end}
use Rattle.pec_text.specs.SectionsOf.{empty_section, with_line, sections_from, section_from, sections_of, body_from}
use Rattle.pec_text.specs.declared.section_data.Section.{Section}
use Rattle.pec_text.specs.declared.section_data.SectionKind.{SectionKind}
use Rattle.pec_text.specs.declared.section_data.SectionList.{SectionList}
use Rattle.pec_text.specs.declared.section_data.TextRefusal.{TextRefusal}
use Rattle.pec_text.specs.declared.section_data.TextRefusal.TheVariants.{Unended, Stray}
use Rattle.pec_text.proofs.SectionHeaderLemmas.{IsHeader-from_header_of, header_of-header, not_header, header_of-none, IsEnd-from_is_end, is_end-end, not_end, is_end-other}

-- ---- one line
pub body_more : (body line : List ℕ) (more : List (List ℕ)) → is_end line ≡ false → body_from body (line ∷ more) ≡ body_from (body ++ (line ++ 10 ∷ [])) more
unfolding body_from
body_more body line more e = ap (λ v. cond v (Some (body, more)) (body_from (body ++ (line ++ 10 ∷ [])) more)) e

pub body_end : (body line : List ℕ) (more : List (List ℕ)) → is_end line ≡ true → body_from body (line ∷ more) ≡ Some (body, more)
unfolding body_from
body_end body line more e = ap (λ v. cond v (Some (body, more)) (body_from (body ++ (line ++ 10 ∷ [])) more)) e

pub body_none : (body : List ℕ) → body_from body [] ≡ None
unfolding body_from
body_none body = refl

-- what a line outside sections leads to
abbrev at_header : List Section → List (List ℕ) → Option (SectionKind × List ℕ) → SectionList
at_header whole more found = option_map_or (λ header. section_from whole (empty_section header) more) found (record { whole = whole; rest = Some (Stray (length whole + 1)) })

sections_from-cons : (whole : List Section) (line : List ℕ) (more : List (List ℕ)) → sections_from whole (line ∷ more) ≡ at_header whole more (header_of line)
sections_from-cons whole line more = refl

pub sections_stray : (whole : List Section) (line : List ℕ) (more : List (List ℕ)) → header_of line ≡ None → sections_from whole (line ∷ more) ≡ record { whole = whole; rest = Some (Stray (length whole + 1)) }
sections_stray whole line more e = sections_from-cons whole line more ∙ ap (at_header whole more) e

pub sections_opened : (whole : List Section) (line : List ℕ) (more : List (List ℕ)) (kind : SectionKind) (title : List ℕ) → header_of line ≡ Some (kind, title) → sections_from whole (line ∷ more) ≡ section_from whole (empty_section (kind, title)) more
sections_opened whole line more kind title e = sections_from-cons whole line more ∙ ap (at_header whole more) e

section_from-cons : (whole : List Section) (s : Section) (line : List ℕ) (more : List (List ℕ)) (v : Bool) → is_end line ≡ v → section_from whole s (line ∷ more) ≡ cond v (sections_from (whole ++ s ∷ []) more) (section_from whole (with_line s line) more)
section_from-cons whole s line more v e = ap (λ b. cond b (sections_from (whole ++ s ∷ []) more) (section_from whole (with_line s line) more)) e

-- ---- one section, by its body
pub section_unended : (whole : List Section) (s : Section) (kept : List (List ℕ)) → body_from s.body kept ≡ None → section_from whole s kept ≡ record { whole = whole; rest = Some (Unended (length whole + 1)) }
section_unended whole s [] e = refl
section_unended whole s (line ∷ more) e = at_line (is_end line) refl (section_unended whole (with_line s line) more)
  where
    at_line : (v : Bool) → is_end line ≡ v → (body_from (s.body ++ (line ++ 10 ∷ [])) more ≡ None → section_from whole (with_line s line) more ≡ record { whole = whole; rest = Some (Unended (length whole + 1)) })
        → section_from whole s (line ∷ more) ≡ record { whole = whole; rest = Some (Unended (length whole + 1)) }
    at_line true h ih = absurd (none-some (s.body, more) (sym e ∙ body_end s.body line more h))
    at_line false h ih = section_from-cons whole s line more false h ∙ ih (sym (body_more s.body line more h) ∙ e)

pub section_ended : (whole : List Section) (s : Section) (kept : List (List ℕ)) (body : List ℕ) (after : List (List ℕ)) → body_from s.body kept ≡ Some (body, after) → section_from whole s kept ≡ sections_from (whole ++ (record s { body = body }) ∷ []) after
section_ended whole s [] body after e = absurd (none-some (body, after) (sym (body_none s.body) ∙ e))
section_ended whole s (line ∷ more) body after e = at_line (is_end line) refl (section_ended whole (with_line s line) more body after)
  where
    at_line : (v : Bool) → is_end line ≡ v → (body_from (s.body ++ (line ++ 10 ∷ [])) more ≡ Some (body, after) → section_from whole (with_line s line) more ≡ sections_from (whole ++ (record s { body = body }) ∷ []) after)
        → section_from whole s (line ∷ more) ≡ sections_from (whole ++ (record s { body = body }) ∷ []) after
    at_line true h ih =
        let parts = some_pair_parts s.body body more after (sym (body_end s.body line more h) ∙ e) in
        section_from-cons whole s line more true h ∙ ap (λ m. sections_from (whole ++ s ∷ []) m) parts.1 ∙ ap (λ b. sections_from (whole ++ (record s { body = b }) ∷ []) after) parts.0
    at_line false h ih = section_from-cons whole s line more false h ∙ ih (sym (body_more s.body line more h) ∙ e)

-- ---- what is read is allowed
HoldsNoEnd-push : (inside : List (List ℕ)) (line : List ℕ) → HoldsNoEnd inside → ¬ (IsEnd line) → HoldsNoEnd (inside ++ line ∷ [])
HoldsNoEnd-push [] line h other = (other, tt)
HoldsNoEnd-push (first ∷ more) line h other = (h.0, HoldsNoEnd-push more line h.1 other)

-- the text is the whole sections, and then those of these kept lines
abbrev IsReading : List Section → List (List ℕ) → SectionList → Type 0
IsReading whole kept text = (more : List Section) × (rest : List (List ℕ)) × (text.whole ≡ whole ++ more) × AreSections kept more rest × IsRest (length text.whole) text.rest rest

reading_end : (whole : List Section) (kept : List (List ℕ)) (o : Option TextRefusal) → IsRest (length whole) o kept → IsReading whole kept (record { whole = whole; rest = o })
reading_end whole kept o h = ([], kept, sym (append-nil whole), refl, h)

reading_more : (whole : List Section) (s : Section) (kept own after : List (List ℕ)) (text : SectionList) → kept ≡ own ++ after → AreLinesOf own s → IsReading (whole ++ s ∷ []) after text → IsReading whole kept text
reading_more whole s kept own after text e lines read =
    (s ∷ read.0, read.1, read.2 ∙ append_assoc whole (s ∷ []) read.0, (own, after, e, lines, read.3), read.4)

header_read : (whole : List Section) (line : List ℕ) (more : List (List ℕ)) (o : Option (SectionKind × List ℕ)) → header_of line ≡ o
    → ((s : Section) → IsHeader line s.kind s.title → s.body ≡ [] → IsReading whole (line ∷ more) (section_from whole s more))
    → IsReading whole (line ∷ more) (sections_from whole (line ∷ more))
header_read whole line more None e inner =
    subst (IsReading whole (line ∷ more)) (sym (sections_stray whole line more e)) (reading_end whole (line ∷ more) (Some (Stray (length whole + 1))) (refl, record { line = line; after = more; in_order = refl; no_header = not_header line e }))
header_read whole line more (Some header) e inner =
    subst (IsReading whole (line ∷ more)) (sym (sections_opened whole line more header.0 header.1 e)) (inner (empty_section header) (IsHeader-from_header_of line header.0 header.1 e) refl)

line_read : (whole : List Section) (s : Section) (line : List ℕ) (more : List (List ℕ)) (header : List ℕ) (inside : List (List ℕ)) → IsHeader header s.kind s.title → HoldsNoEnd inside → s.body ≡ text_of inside
    → (v : Bool) → is_end line ≡ v → IsReading (whole ++ s ∷ []) more (sections_from (whole ++ s ∷ []) more)
    → (HoldsNoEnd (inside ++ line ∷ []) → (with_line s line).body ≡ text_of (inside ++ line ∷ []) → IsReading whole (header ∷ ((inside ++ line ∷ []) ++ more)) (section_from whole (with_line s line) more))
    → IsReading whole (header ∷ (inside ++ line ∷ more)) (section_from whole s (line ∷ more))
line_read whole s line more header inside h no_end e true last ended inner =
    subst (IsReading whole (header ∷ (inside ++ line ∷ more))) (sym (section_from-cons whole s line more true last))
    (reading_more whole s _ (header ∷ (inside ++ line ∷ [])) more _ (ap (λ ls. header ∷ ls) (sym (append_assoc inside (line ∷ []) more)))
    (record { header = header; inside = inside; last = line; in_order = refl; is_header = h; no_end_inside = no_end; is_end = IsEnd-from_is_end line last; body = e }) ended)
line_read whole s line more header inside h no_end e false other ended inner =
    subst (IsReading whole (header ∷ (inside ++ line ∷ more))) (sym (section_from-cons whole s line more false other))
    (subst (λ ls. IsReading whole (header ∷ ls) (section_from whole (with_line s line) more)) (append_assoc inside (line ∷ []) more)
    (inner (HoldsNoEnd-push inside line no_end (not_end line other)) (ap (λ b. b ++ (line ++ 10 ∷ [])) e ∙ flat_map_more (λ l. l ++ 10 ∷ []) [] inside line)))

mutual
  sections_read : (whole : List Section) (kept : List (List ℕ)) → IsReading whole kept (sections_from whole kept)
  sections_read whole [] = reading_end whole [] None refl
  sections_read whole (line ∷ more) = header_read whole line more (header_of line) refl (λ s h e. section_read whole s more line [] h tt e)

  section_read : (whole : List Section) (s : Section) (kept : List (List ℕ)) (header : List ℕ) (inside : List (List ℕ)) → IsHeader header s.kind s.title → HoldsNoEnd inside → s.body ≡ text_of inside → IsReading whole (header ∷ (inside ++ kept)) (section_from whole s kept)
  section_read whole s [] header inside h no_end e = reading_end whole (header ∷ (inside ++ [])) (Some (Unended (length whole + 1))) (refl, record { header = header; kind = s.kind; title = s.title; inside = inside; in_order = ap (λ ls. header ∷ ls) (append-nil inside); is_header = h; no_end_inside = no_end })
  section_read whole s (line ∷ more) header inside h no_end e =
      line_read whole s line more header inside h no_end e (is_end line) refl (sections_read (whole ++ s ∷ []) more)
      (λ others body. section_read whole (with_line s line) more header (inside ++ line ∷ []) h others body)

-- the sections that are read are such as the definition asks
pub IsText-sections_of : (bytes : List ℕ) → IsText bytes (sections_of bytes)
unfolding sections_of
IsText-sections_of bytes =
    let read = sections_read [] (kept_lines bytes) in
    (read.1, subst (λ w. AreSections (kept_lines bytes) w read.1) (sym read.2) read.3, read.4)

-- ---- nothing else is allowed
inside_unended : (whole : List Section) (s : Section) (inside : List (List ℕ)) → HoldsNoEnd inside → section_from whole s inside ≡ record { whole = whole; rest = Some (Unended (length whole + 1)) }
inside_unended whole s [] h = refl
inside_unended whole s (line ∷ more) h = section_from-cons whole s line more false (is_end-other line h.0) ∙ inside_unended whole (with_line s line) more h.1

inside_ended : (whole : List Section) (s : Section) (inside : List (List ℕ)) (last : List ℕ) (after : List (List ℕ)) → HoldsNoEnd inside → IsEnd last → section_from whole s (inside ++ last ∷ after) ≡ sections_from (whole ++ (record s { body = s.body ++ text_of inside }) ∷ []) after
inside_ended whole s [] last after h e = section_from-cons whole s last after true (is_end-end last e) ∙ ap (λ b. sections_from (whole ++ (record s { body = b }) ∷ []) after) (sym (append-nil s.body))
inside_ended whole s (line ∷ more) last after h e =
    section_from-cons whole s line (more ++ last ∷ after) false (is_end-other line h.0)
    ∙ inside_ended whole (with_line s line) more last after h.1 e
    ∙ ap (λ b. sections_from (whole ++ (record s { body = b }) ∷ []) after) (append_assoc s.body (line ++ 10 ∷ []) (text_of more))

lines_ended : (whole : List Section) (s : Section) (own after : List (List ℕ)) → AreLinesOf own s → sections_from whole (own ++ after) ≡ sections_from (whole ++ s ∷ []) after
lines_ended whole s own after lines =
    ap (λ ls. sections_from whole (ls ++ after)) lines.in_order
    ∙ ap (λ ls. sections_from whole (lines.header ∷ ls)) (append_assoc lines.inside (lines.last ∷ []) after)
    ∙ sections_opened whole lines.header _ s.kind s.title (header_of-header lines.header s.kind s.title lines.is_header)
    ∙ inside_ended whole (empty_section (s.kind, s.title)) lines.inside lines.last after lines.no_end_inside lines.is_end
    ∙ ap (λ b. sections_from (whole ++ (record s { body = b }) ∷ []) after) (sym lines.body)

rest_read : (whole : List Section) (o : Option TextRefusal) (rest : List (List ℕ)) → IsRest (length whole) o rest → sections_from whole rest ≡ record { whole = whole; rest = o }
rest_read whole None rest h = ap (sections_from whole) h
rest_read whole (Some (Unended k)) rest h =
    ap (sections_from whole) h.1.in_order
    ∙ sections_opened whole h.1.header h.1.inside h.1.kind h.1.title (header_of-header h.1.header h.1.kind h.1.title h.1.is_header)
    ∙ inside_unended whole (empty_section (h.1.kind, h.1.title)) h.1.inside h.1.no_end_inside
    ∙ ap (λ n. record { whole = whole; rest = Some (Unended n) }) (sym h.0)
rest_read whole (Some (Stray k)) rest h =
    ap (sections_from whole) h.1.in_order
    ∙ sections_stray whole h.1.line h.1.after (header_of-none h.1.line h.1.no_header)
    ∙ ap (λ n. record { whole = whole; rest = Some (Stray n) }) (sym h.0)

read_of_sections : (whole more : List Section) (kept rest : List (List ℕ)) (o : Option TextRefusal) → AreSections kept more rest → IsRest (length (whole ++ more)) o rest → sections_from whole kept ≡ record { whole = whole ++ more; rest = o }
read_of_sections whole [] kept rest o e h =
    ap (sections_from whole) e ∙ rest_read whole o rest (subst (λ w. IsRest (length w) o rest) (append-nil whole) h) ∙ ap (λ w. record { whole = w; rest = o }) (sym (append-nil whole))
read_of_sections whole (s ∷ more) kept rest o e h =
    let all = append_assoc whole (s ∷ []) more in
    ap (sections_from whole) e.2 ∙ lines_ended whole s e.0 e.1 e.3
    ∙ read_of_sections (whole ++ s ∷ []) more e.1 rest o e.4 (subst (λ w. IsRest (length w) o rest) (sym all) h)
    ∙ ap (λ w. record { whole = w; rest = o }) all

pub one_list : (bytes : List ℕ) (text : SectionList) → IsText bytes text ↔ (text ≡ sections_of bytes)
unfolding sections_of
one_list bytes text =
    (λ h. sym (read_of_sections [] text.whole (kept_lines bytes) h.0 text.rest h.1 h.2), λ e. subst (IsText bytes) (sym e) (IsText-sections_of bytes))

-- ---- what follows for the sections
pub text_from : (bytes : List ℕ) (text : SectionList) → text ≡ sections_of bytes → IsText bytes text
text_from bytes text e = (one_list bytes text).1 e

titles_by_recursion : (kept : List (List ℕ)) (more : List Section) (rest : List (List ℕ)) → AreSections kept more rest → AllByRecursion (λ section. is_id section.title ≡ true) more
titles_by_recursion kept [] rest h = tt
titles_by_recursion kept (section ∷ more) rest h = (h.3.is_header.1, titles_by_recursion h.1 more rest h.4)

-- each title is an ID
pub titles_from : (bytes : List ℕ) (text : SectionList) → text ≡ sections_of bytes → All (λ section. is_id section.title ≡ true) text.whole
titles_from bytes text e =
    let h = text_from bytes text e in
    All-from_recursion (λ section. is_id section.title ≡ true) text.whole (titles_by_recursion (kept_lines bytes) text.whole h.0 h.1)

-- ---- where the reading of a text stops
module _ (bytes : List ℕ) (whole : List Section) (kept : List (List ℕ)) (so_far : sections_from whole kept ≡ sections_of bytes) where
  pub stops_at_end : kept ≡ [] → record { whole = whole; rest = None } ≡ sections_of bytes
  stops_at_end e = ap (sections_from whole) (sym e) ∙ so_far

  pub stops_stray : (line : List ℕ) (more : List (List ℕ)) (n : ℕ) → kept ≡ line ∷ more → None ≡ header_of line → n ≡ length whole → record { whole = whole; rest = Some (Stray (n + 1)) } ≡ sections_of bytes
  stops_stray line more n e none count =
      ap (λ k. record { whole = whole; rest = Some (Stray (k + 1)) }) count ∙ sym (sections_stray whole line more (sym none)) ∙ ap (sections_from whole) (sym e) ∙ so_far

  pub stops_unended : (line : List ℕ) (more : List (List ℕ)) (kind : SectionKind) (title : List ℕ) (n : ℕ) → kept ≡ line ∷ more → Some (kind, title) ≡ header_of line → None ≡ body_from [] more → n ≡ length whole
      → record { whole = whole; rest = Some (Unended (n + 1)) } ≡ sections_of bytes
  stops_unended line more kind title n e header none count =
      ap (λ k. record { whole = whole; rest = Some (Unended (k + 1)) }) count ∙ sym (section_unended whole (empty_section (kind, title)) more (sym none)) ∙ sym (sections_opened whole line more kind title (sym header))
      ∙ ap (sections_from whole) (sym e) ∙ so_far

  pub goes_on : (line : List ℕ) (more : List (List ℕ)) (kind : SectionKind) (title body : List ℕ) (after : List (List ℕ)) → kept ≡ line ∷ more → Some (kind, title) ≡ header_of line → Some (body, after) ≡ body_from [] more
      → sections_from (whole ++ (record { kind = kind; title = title; body = body }) ∷ []) after ≡ sections_of bytes
  goes_on line more kind title body after e header found =
      sym (section_ended whole (empty_section (kind, title)) more body after (sym found)) ∙ sym (sections_opened whole line more kind title (sym header)) ∙ ap (sections_from whole) (sym e) ∙ so_far
