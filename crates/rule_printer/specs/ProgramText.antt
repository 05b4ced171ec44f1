-- The canonical text of a program that can be written down, and what it means that a text is that of a program.
use Rattle.std.specs.Prelude.{◌≡◌, ℕ, List, [], ◌∷◌, ◌++◌, codes, None}
use Rattle.toy_imp.specs.Block.{Block}
use Rattle.toy_imp.specs.BlockCanonical.{canonical_block}
use Rattle.pec_text.specs.Section.{IsText}
use Rattle.pec_text.specs.declared.section_data.SectionKind.{SectionKind}
use Rattle.pec_text.specs.declared.section_data.SectionKind.TheVariants.{Program}
use Rattle.pec_text.specs.declared.section_data.SectionList.{SectionList}
use Rattle.program_reader.specs.Grammar.{SpellsProgram}
use Rattle.program_reader.specs.SpellableProgram.{IsSpellableProgram}
use Rattle.rule_printer.specs.CanonicalText.{stmts_bytes}

-- the canonical text of the statements of a program, which stand in no block
abbrev pub program_body : Block → List ℕ
program_body b = stmts_bytes 0 (canonical_block [] b)

-- the section of a program in canonical text
abbrev pub program_text : List ℕ → Block → List ℕ
program_text title b = codes "program " ++ (title ++ (codes "\n" ++ (program_body b ++ codes "end\n")))

-- a text that is one whole section and nothing else
abbrev pub one_section : SectionKind → List ℕ → List ℕ → SectionList
one_section kind title body = record { whole = record { kind = kind; title = title; body = body } ∷ []; rest = None }

-- the text is one section, of a program of this title, and its body spells this program
pub record IsTextOfProgram (text title : List ℕ) (b : Block) : Type 0 where
  pub body : List ℕ
  pub section : IsText text (one_section Program title body)
  pub spelled : SpellsProgram body b

-- What is read from the printed text of a program has that text: printed again, it is the same.
abbrev pub ProgramPrintedAgain : Type 0
ProgramPrintedAgain = (title read_title : List ℕ) (b read : Block) → IsSpellableProgram title b → IsTextOfProgram (program_text title b) read_title read
    → program_text read_title read ≡ program_text title b
