-- When a program can be written down under a title, so that it is read again; and that what is read can be.
use Rattle.std.specs.Prelude.{◌≡◌, ℕ, ◌≤◌, true, List, []}
use Rattle.toy_imp.specs.Block.{Block}
use Rattle.toy_imp.specs.BlockCanonical.{canonical_block}
use Rattle.toy_imp.specs.BlockGrammar.{stmts_nesting}
use Rattle.toy_imp.specs.Program.{is_program}
use Rattle.toy_imp.specs.Spellable.{is_spellable_block}
use Rattle.pec_text.specs.Id.{is_id}
use Rattle.pec_text.specs.Spelling.{IsName}
use Rattle.program_reader.specs.Grammar.{SpellsProgram}
use Rattle.program_reader.specs.OwnNames.{BlockNamesAre}

-- The title is an ID, and the block is the value of a text: it holds no parameter, each constant lies strictly between
-- -2^63 and 2^63, each place has at most three indices, each name is an ID and no reserved word, and its canonical text
-- nests at most 64 deep.
pub record IsSpellableProgram (title : List ℕ) (b : Block) : Type 0 where
  pub title_is_id : is_id title ≡ true
  pub is_program : is_program b ≡ true
  pub spellable : is_spellable_block [] b ≡ true
  pub names : BlockNamesAre IsName b
  pub shallow : stmts_nesting (canonical_block [] b) ≤ 64

-- what bytes spell is spellable, under each title that is an ID
abbrev pub ReadIsSpellable : Type 0
ReadIsSpellable = (title bytes : List ℕ) (b : Block) → is_id title ≡ true → SpellsProgram bytes b → IsSpellableProgram title b
