-- When bytes spell a rule, and what a reader of rules answers: the one rule that they spell and that is well formed; else
-- that they are not in the grammar, that a number is too wide, or the first item that is wrong with the rule.
use Rattle.std.specs.Prelude.{◌≡◌, ◌⊎◌, ℕ, ◌≤◌, ◌^◌, List, Result, Ok, Err, Any, None, Some}
use Rattle.toy_imp.specs.declared.rule.Rule.{Rule}
use Rattle.toy_imp.specs.Faults.{first_fault}
use Rattle.toy_imp.specs.RuleGrammar.{RuleTree, rule_value, rule_nesting, cut_pairs}
use Rattle.pec_text.specs.Spelling.{Spells}
use Rattle.pec_text.specs.declared.token.Token.{Token}
use Rattle.program_reader.specs.Grammar.{HasWide}
use Rattle.program_reader.specs.RuleTokens.{rule_tokens}
use Rattle.program_reader.specs.declared.refusal.ReadRule.{ReadRule}
use Rattle.program_reader.specs.declared.refusal.ReadRule.TheVariants.{NotGrammar, Wide, IllFormed, NoMemory}

-- the bytes are in the grammar of rules, and this is their tree
pub record IsRuleText (bytes : List ℕ) (tokens : List Token) (tree : RuleTree) : Type 0 where
  pub spelled : Spells bytes tokens
  pub tokens_are : rule_tokens tree ≡ tokens
  pub shallow : rule_nesting tree ≤ 64

-- some numeral is 2 ^ 63 or more, or some number in a cuts line is 2 ^ 32 or more
abbrev pub IsTooWide : List Token → RuleTree → Type 0
IsTooWide tokens tree = HasWide tokens ⊎ Any (λ a. (2 ^ 32 ≤ a.0) ⊎ (2 ^ 32 ≤ a.1)) (cut_pairs tree.cuts)

-- the bytes spell this rule under the title
pub record SpellsRule (title bytes : List ℕ) (rule : Rule) : Type 0 where
  pub tokens : List Token
  pub tree : RuleTree
  pub text : IsRuleText bytes tokens tree
  pub narrow : ¬ (IsTooWide tokens tree)
  pub value : rule_value title tree ≡ rule

abbrev pub RuleAnswer : List ℕ → List ℕ → Result Rule ReadRule → Type 0
RuleAnswer title bytes (Ok rule) = SpellsRule title bytes rule × (first_fault rule ≡ None) × ((other : Rule) → SpellsRule title bytes other → other ≡ rule)
RuleAnswer title bytes (Err NotGrammar) = (tokens : List Token) (tree : RuleTree) → ¬ (IsRuleText bytes tokens tree)
RuleAnswer title bytes (Err Wide) = (tokens : List Token) × (tree : RuleTree) × IsRuleText bytes tokens tree × IsTooWide tokens tree
RuleAnswer title bytes (Err (IllFormed f)) = (rule : Rule) × SpellsRule title bytes rule × (first_fault rule ≡ Some f)
RuleAnswer title bytes (Err NoMemory) = Unit {0}
