-- What it means that a text is a list of sections, said of its kept lines.
-- A section is a header line, body lines and a line `end`, in this order; nothing stands between sections.
use Rattle.std.specs.Prelude.{◌≡◌, ℕ, ◌+◌, Option, None, Some, List, [], ◌∷◌, ◌++◌, length, flat_map}
use Rattle.std.specs.List.{AllByRecursion}
use Rattle.pec_text.specs.Line.{kept_lines}
use Rattle.pec_text.specs.SectionHeader.{IsHeader, IsEnd}
use Rattle.pec_text.specs.declared.section_data.Section.{Section}
use Rattle.pec_text.specs.declared.section_data.SectionKind.{SectionKind}
use Rattle.pec_text.specs.declared.section_data.SectionList.{SectionList}
use Rattle.pec_text.specs.declared.section_data.TextRefusal.{TextRefusal}
use Rattle.pec_text.specs.declared.section_data.TextRefusal.TheVariants.{Unended, Stray}

-- none of the lines is an end line
abbrev pub HoldsNoEnd : List (List ℕ) → Type 0
HoldsNoEnd body = AllByRecursion (λ line. ¬ (IsEnd line)) body

-- the lines, each ended by one line feed
abbrev pub text_of : List (List ℕ) → List ℕ
text_of body = flat_map (λ line. line ++ 10 ∷ []) body

-- the lines of a section: its header, the lines of its body, of which none is an end line, and an end line
pub record AreLinesOf (own : List (List ℕ)) (section : Section) : Type 0 where
  pub header : List ℕ
  pub inside : List (List ℕ)
  pub last : List ℕ
  pub in_order : own ≡ header ∷ (inside ++ last ∷ [])
  pub is_header : IsHeader header section.kind section.title
  pub no_end_inside : HoldsNoEnd inside
  pub is_end : IsEnd last
  pub body : section.body ≡ text_of inside

-- the lines are those of the sections one after another, and then the rest
abbrev pub AreSections : List (List ℕ) → List Section → List (List ℕ) → Type 0
AreSections kept [] rest = kept ≡ rest
AreSections kept (section ∷ more) rest = (own : List (List ℕ)) × (after : List (List ℕ)) × (kept ≡ own ++ after) × AreLinesOf own section × AreSections after more rest

-- a header, and after it no end line up to the end of the input
pub record IsUnended (rest : List (List ℕ)) : Type 0 where
  pub header : List ℕ
  pub kind : SectionKind
  pub title : List ℕ
  pub inside : List (List ℕ)
  pub in_order : rest ≡ header ∷ inside
  pub is_header : IsHeader header kind title
  pub no_end_inside : HoldsNoEnd inside

-- the first line is no header
pub record IsStray (rest : List (List ℕ)) : Type 0 where
  pub line : List ℕ
  pub after : List (List ℕ)
  pub in_order : rest ≡ line ∷ after
  pub no_header : (kind : SectionKind) (title : List ℕ) → ¬ (IsHeader line kind title)

-- what is left after n whole sections: no line, section n + 1 without its end, or a line that is no header
abbrev pub IsRest : ℕ → Option TextRefusal → List (List ℕ) → Type 0
IsRest n None rest = rest ≡ []
IsRest n (Some (Unended k)) rest = (k ≡ n + 1) × IsUnended rest
IsRest n (Some (Stray k)) rest = (k ≡ n + 1) × IsStray rest

-- a text is these sections: its kept lines are theirs, and then comes the rest
abbrev pub IsText : List ℕ → SectionList → Type 0
IsText bytes text = (rest : List (List ℕ)) × AreSections (kept_lines bytes) text.whole rest × IsRest (length text.whole) text.rest rest
