-- What a reader of tokens answers on rules, by what is read of them: the rule that is read, if no number is too wide and no
-- item holds; else that none is read, that a number is too wide, or the first item that holds. Memory may be wanting.
use Rattle.std.specs.Prelude.{◌≡◌, ◌⊎◌, true, false, List, Option, None, Some, Result, Ok, Err}
use Rattle.toy_imp.specs.declared.rule.Rule.{Rule}
use Rattle.toy_imp.specs.Faults.{first_fault}
use Rattle.pec_text.specs.declared.token.Token.{Token}
use Rattle.program_reader.specs.Grammar.{HasWide}
use Rattle.program_reader.specs.declared.refusal.ReadRule.{ReadRule}
use Rattle.program_reader.specs.declared.refusal.ReadRule.TheVariants.{NotGrammar, Wide, IllFormed, NoMemory}
use Rattle.rule_reader.specs.declared.rule_parts.WrittenRule.{WrittenRule}

-- this rule is read, and no number is too wide
pub record IsRead (read : Option WrittenRule) (tokens : List Token) (rule : Rule) : Type 0 where
  pub found : read ≡ Some (record { rule = rule; is_beyond = false })
  pub narrow : ¬ (HasWide tokens)

abbrev pub TokensAnswer : Option WrittenRule → List Token → Result Rule ReadRule → Type 0
TokensAnswer read tokens (Ok rule) = IsRead read tokens rule × (first_fault rule ≡ None)
TokensAnswer read tokens (Err NotGrammar) = read ≡ None
TokensAnswer read tokens (Err Wide) = (written : WrittenRule) × (read ≡ Some written) × (HasWide tokens ⊎ (written.is_beyond ≡ true))
TokensAnswer read tokens (Err (IllFormed f)) = (rule : Rule) × IsRead read tokens rule × (first_fault rule ≡ Some f)
TokensAnswer read tokens (Err NoMemory) = Unit {0}
