-- The canonical text of a rule that can be written down, and what it means that a text is that of a rule.
use Rattle.std.specs.Prelude.{◌≡◌, ℕ, List, ◌++◌, codes}
use Rattle.toy_imp.specs.declared.rule.Rule.{Rule}
use Rattle.pec_text.specs.Section.{IsText}
use Rattle.pec_text.specs.declared.section_data.SectionKind.TheVariants.{Rule as RuleKind}
use Rattle.program_reader.specs.RuleText.{SpellsRule}
use Rattle.program_reader.specs.SpellableRule.{IsSpellableRule}
use Rattle.rule_printer.specs.ProgramText.{one_section}
use Rattle.program_reader.specs.RuleCanonical.{canonical_rule}
use Rattle.rule_printer.specs.RuleCanonicalText.{rule_bytes}

-- the canonical text of a rule inside its section
abbrev pub rule_body : Rule → List ℕ
rule_body rule = rule_bytes (canonical_rule rule)

-- the section of a rule in canonical text
abbrev pub rule_text : Rule → List ℕ
rule_text rule = codes "rule " ++ (rule.title ++ (codes "\n" ++ (rule_body rule ++ codes "end\n")))

-- the text is one section, of a rule of this title, and its body spells this rule
pub record IsTextOfRule (text : List ℕ) (rule : Rule) : Type 0 where
  pub body : List ℕ
  pub section : IsText text (one_section RuleKind rule.title body)
  pub spelled : SpellsRule rule.title body rule

-- What is read from the printed text of a rule has that text: printed again, it is the same.
abbrev pub RulePrintedAgain : Type 0
RulePrintedAgain = (rule read : Rule) → IsSpellableRule rule → IsTextOfRule (rule_text rule) read → rule_text read ≡ rule_text rule
