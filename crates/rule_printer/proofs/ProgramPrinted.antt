-- The canonical text of a spellable program is one section that spells it, and what is read from it has the same text.
use Rattle.std.proofs.Common.{◌≡◌, ℕ, zero, suc, false, List, [], ◌∷◌, ◌++◌, codes, refl, sym, ap, ◌∙◌, subst, arith}
use Rattle.std.specs.List.{list_any}
use Rattle.std.proofs.lemmas.Bool.{or_parts, false≢true}
use Rattle.std.proofs.lemmas.List.{append-nil}
use Rattle.std.proofs.lemmas.Option.{same_Some}
use Rattle.toy_imp.specs.Block.{Block}
use Rattle.toy_imp.specs.BlockCanonical.{canonical_block}
use Rattle.toy_imp.proofs.CanonicalValues.{block-value}
use Rattle.pec_text.specs.Section.{IsText}
use Rattle.pec_text.specs.Spelling.{Spells}
use Rattle.pec_text.specs.declared.section_data.Section.{Section}
use Rattle.pec_text.specs.declared.section_data.SectionKind.TheVariants.{Program}
use Rattle.pec_text.specs.declared.section_data.SectionList.{SectionList}
use Rattle.pec_text.specs.declared.token.Token.{Token}
use Rattle.pec_text.proofs.Readings.{one_reading}
use Rattle.pec_text.proofs.SectionLemmas.{one_list}
use Rattle.program_reader.specs.Grammar.{HasWide, SpellsProgram}
use Rattle.program_reader.specs.ProgramReading.{is_wide}
use Rattle.program_reader.specs.BlockReading.{program_read}
use Rattle.program_reader.specs.TreeTokens.{stmts_tokens}
use Rattle.program_reader.proofs.ProgramAnswers.{stmts_are_read}
use Rattle.program_reader.specs.SpellableProgram.{IsSpellableProgram}
use Rattle.rule_printer.specs.ProgramText.{program_body, program_text, one_section, IsTextOfProgram, ProgramPrintedAgain}
use Rattle.rule_printer.proofs.WrittenLines.{AreLines}
use Rattle.rule_printer.proofs.Laying.{Lines}
use Rattle.rule_printer.proofs.BlockLaid.{stmts_laid}
use Rattle.rule_printer.proofs.OneSection.{Heads, is_one_section}

-- ---- what pieces say of whole texts
pub not_wide : (tokens : List Token) → list_any is_wide tokens ≡ false → ¬ (HasWide tokens)
not_wide [] h (k, low, is) = omega arith
not_wide (a ∷ tokens) h (zero, low, is) = false≢true (sym (or_parts (is_wide a) (list_any is_wide tokens) h).0 ∙ ap is_wide is)
not_wide (a ∷ tokens) h (suc k, low, is) = not_wide tokens ((or_parts (is_wide a) (list_any is_wide tokens) h).1) (k, omega arith, is)

pub lines_spell : (bytes : List ℕ) (tokens : List Token) → Lines bytes tokens → Spells bytes tokens
lines_spell bytes tokens x =
    subst (λ z. Spells z tokens) (append-nil bytes) (subst (Spells (bytes ++ [])) (append-nil tokens) (x.lays.spells [] [] tt refl))

pub lines_whole : (bytes : List ℕ) (tokens : List Token) → Lines bytes tokens → AreLines bytes
lines_whole bytes tokens x = x.whole [] (record { whole = []; joined = refl; inner = tt })

-- ---- programs
program_lines : (title : List ℕ) (b : Block) → IsSpellableProgram title b → Lines (program_body b) (stmts_tokens (canonical_block [] b))
program_lines title b h = stmts_laid [] tt 0 b h.spellable h.names

body_spells : (title : List ℕ) (b : Block) → IsSpellableProgram title b → SpellsProgram (program_body b) b
body_spells title b h =
    let lines : Lines (program_body b) (stmts_tokens (canonical_block [] b)) = program_lines title b h in
    record {
      tokens = stmts_tokens (canonical_block [] b);
      text = record {
        spelled = lines_spell (program_body b) (stmts_tokens (canonical_block [] b)) lines;
        are_stmts = record { tree = canonical_block [] b; tokens_are = refl; shallow = h.shallow; value = block-value [] b h.spellable };
        is_program = h.is_program;
      };
      narrow = not_wide (stmts_tokens (canonical_block [] b)) lines.lays.narrow;
    }

program_heads : Heads Program (codes "program ")
program_heads = record { words_are = λ title. refl; kept = λ title. refl; no_feed = refl }

program_section : (title : List ℕ) (b : Block) → IsSpellableProgram title b → IsText (program_text title b) (one_section Program title (program_body b))
program_section title b h = is_one_section Program (codes "program ") title (program_body b) program_heads h.title_is_id (lines_whole (program_body b) (stmts_tokens (canonical_block [] b)) (program_lines title b h))

pub program_reads_back : (title : List ℕ) (b : Block) → IsSpellableProgram title b → IsTextOfProgram (program_text title b) title b
program_reads_back title b h = record { body = program_body b; section = program_section title b h; spelled = body_spells title b h }

-- ---- what is read from it
-- the title and the body of the first section
abbrev pub title_of : List Section → List ℕ
title_of [] = []
title_of (s ∷ more) = s.title

abbrev pub body_of : List Section → List ℕ
body_of [] = []
body_of (s ∷ more) = s.body

abbrev pub first_title : SectionList → List ℕ
first_title text = title_of text.whole

abbrev pub first_body : SectionList → List ℕ
first_body text = body_of text.whole

pub one_program : (bytes : List ℕ) (b c : Block) → SpellsProgram bytes b → SpellsProgram bytes c → c ≡ b
one_program bytes b c x y =
    let same : y.tokens ≡ x.tokens = one_reading bytes y.tokens x.tokens y.text.spelled x.text.spelled in
    same_Some c b (sym (stmts_are_read y.tokens c y.text.are_stmts) ∙ ap program_read same ∙ stmts_are_read x.tokens b x.text.are_stmts)

pub program_printed_again : ProgramPrintedAgain
program_printed_again title read_title b read h text =
    let bytes : List ℕ = program_text title b in
    let same : one_section Program read_title text.body ≡ one_section Program title (program_body b) =
    (one_list bytes (one_section Program read_title text.body)).0 text.section ∙ sym ((one_list bytes (one_section Program title (program_body b))).0 (program_section title b h)) in
    let titles : read_title ≡ title = ap first_title same in
    let bodies : text.body ≡ program_body b = ap first_body same in
    let blocks : read ≡ b = one_program (program_body b) b read (body_spells title b h) (subst (λ z. SpellsProgram z read) bodies text.spelled) in
    λ i. program_text (titles i) (blocks i)

pub printed_reads_back : (text title : List ℕ) (b : Block) → IsSpellableProgram title b → text ≡ program_text title b → IsTextOfProgram text title b
printed_reads_back text title b h is = subst (λ z. IsTextOfProgram z title b) (sym is) (program_reads_back title b h)
