-- The one list of sections of a text, by reading its kept lines in order.
-- The law `every_text_has_one_list` says that it is the one list which `IsText` allows.
use Rattle.std.specs.Prelude.{ℕ, ◌+◌, Option, None, Some, List, [], ◌∷◌, ◌++◌, length, if◌then◌else◌}
use Rattle.std.specs.Option.{option_map_or}
use Rattle.pec_text.specs.Line.{kept_lines}
use Rattle.pec_text.specs.SectionHeader.{header_of, is_end}
use Rattle.pec_text.specs.declared.section_data.Section.{Section}
use Rattle.pec_text.specs.declared.section_data.SectionKind.{SectionKind}
use Rattle.pec_text.specs.declared.section_data.SectionList.{SectionList}
use Rattle.pec_text.specs.declared.section_data.TextRefusal.TheVariants.{Unended, Stray}

-- the section with this header, before the first line of its body
abbrev pub empty_section : SectionKind × List ℕ → Section
empty_section header = record { kind = header.0; title = header.1; body = [] }

-- the section with one more line in its body
abbrev pub with_line : Section → List ℕ → Section
with_line section line = record section { body = section.body ++ (line ++ 10 ∷ []) }

abbrev mutual
  -- where the next line is to be a header: the sections are these, and then those of the lines
  pub sections_from : List Section → List (List ℕ) → SectionList
  sections_from whole [] = record { whole = whole; rest = None }
  sections_from whole (line ∷ more) = option_map_or (λ header. section_from whole (empty_section header) more) (header_of line) (record { whole = whole; rest = Some (Stray (length whole + 1)) })

  -- inside a section, of which these lines are still to be read
  pub section_from : List Section → Section → List (List ℕ) → SectionList
  section_from whole section [] = record { whole = whole; rest = Some (Unended (length whole + 1)) }
  section_from whole section (line ∷ more) = if is_end line then sections_from (whole ++ section ∷ []) more else section_from whole (with_line section line) more

-- the sections of a text
unfoldable pub sections_of : List ℕ → SectionList
sections_of bytes = sections_from [] (kept_lines bytes)

-- the body that begins with these bytes and goes on with the lines up to an end line, and the lines after it; nothing where no line ends it
unfoldable pub body_from : List ℕ → List (List ℕ) → Option (List ℕ × List (List ℕ))
body_from body [] = None
body_from body (line ∷ more) = if is_end line then Some (body, more) else body_from (body ++ (line ++ 10 ∷ [])) more
