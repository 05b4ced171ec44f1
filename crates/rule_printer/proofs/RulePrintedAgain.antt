-- What is read from the printed text of a rule is that rule, and has that text.
use Rattle.std.proofs.Common.{◌≡◌, ℕ, List, sym, ◌∙◌, ap, subst}
use Rattle.toy_imp.specs.declared.rule.Rule.{Rule}
use Rattle.pec_text.specs.declared.section_data.SectionKind.TheVariants.{Rule as RuleKind}
use Rattle.pec_text.proofs.SectionLemmas.{one_list}
use Rattle.program_reader.specs.RuleText.{SpellsRule}
use Rattle.program_reader.specs.SpellableRule.{IsSpellableRule}
use Rattle.rule_reader.proofs.Unambiguous.{one_rule}
use Rattle.rule_printer.specs.ProgramText.{one_section}
use Rattle.rule_printer.specs.PrintedRule.{rule_body, rule_text, IsTextOfRule, RulePrintedAgain}
use Rattle.rule_printer.proofs.ProgramPrinted.{first_title, first_body}
use Rattle.rule_printer.proofs.RulePrinted.{rule_section, body_spells}

same_rule : (rule read : Rule) → IsSpellableRule rule → IsTextOfRule (rule_text rule) read → read ≡ rule
same_rule rule read h text =
    let bytes : List ℕ = rule_text rule in
    let same : one_section RuleKind read.title text.body ≡ one_section RuleKind rule.title (rule_body rule) =
    (one_list bytes (one_section RuleKind read.title text.body)).0 text.section ∙ sym ((one_list bytes (one_section RuleKind rule.title (rule_body rule))).0 (rule_section rule h)) in
    let titles : read.title ≡ rule.title = ap first_title same in
    let bodies : text.body ≡ rule_body rule = ap first_body same in
    let titled : SpellsRule rule.title text.body read = subst (λ z. SpellsRule z text.body read) titles text.spelled in
    one_rule rule.title (rule_body rule) rule read (body_spells rule h) (subst (λ z. SpellsRule rule.title z read) bodies titled)

pub rule_printed_again : RulePrintedAgain
rule_printed_again rule read h text = ap rule_text (same_rule rule read h text)
