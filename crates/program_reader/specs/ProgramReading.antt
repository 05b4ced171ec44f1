-- What a reader of tokens answers on programs: the program that is read and holds no parameter and no wide numeral; else
-- that none is read, or what is read is no program, or that some numeral is too wide. Memory may be wanting.
use Rattle.std.specs.Prelude.{◌≡◌, ◌⊎◌, Bool, true, false, List, None, Some, Result, Ok, Err}
use Rattle.toy_imp.specs.Block.{Block}
use Rattle.toy_imp.specs.Program.{is_program}
use Rattle.pec_text.specs.declared.token.Numeral.TheVariants as n
use Rattle.pec_text.specs.declared.token.Token.{Token}
use Rattle.pec_text.specs.declared.token.Token.TheVariants as t
use Rattle.program_reader.specs.BlockReading.{program_read}
use Rattle.program_reader.specs.Grammar.{HasWide}
use Rattle.program_reader.specs.declared.refusal.ReadRule.{ReadRule}
use Rattle.program_reader.specs.declared.refusal.ReadRule.TheVariants.{NotGrammar, Wide, IllFormed, NoMemory}

abbrev pub TokensAnswer : List Token → Result Block ReadRule → Type 0
TokensAnswer tokens (Ok b) = (program_read tokens ≡ Some b) × (is_program b ≡ true) × ¬ (HasWide tokens)
TokensAnswer tokens (Err NotGrammar) = (program_read tokens ≡ None) ⊎ ((b : Block) × (program_read tokens ≡ Some b) × (is_program b ≡ false))
TokensAnswer tokens (Err Wide) = (b : Block) × (program_read tokens ≡ Some b) × (is_program b ≡ true) × HasWide tokens
TokensAnswer tokens (Err (IllFormed f)) = ⊥
TokensAnswer tokens (Err NoMemory) = Unit {0}

-- whether a token is a numeral that is too wide
abbrev pub is_wide : Token → Bool
is_wide (t.Number n.Wide) = true
is_wide _ = false
