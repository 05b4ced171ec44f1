use Rattle.std.proofs.Common.{subst}
use Rattle.pec_text.specs.Spelling.{Spells}
use Rattle.program_reader.specs.RuleText.{RuleAnswer}
use Rattle.program_reader.proofs.ProgramAnswers.{SpellsOnly}
use Rattle.program_reader.proofs.RuleSpellable.{rule_answer_is_spellable}
use Rattle.rule_reader.specs.RuleAnswering.{TokensAnswer}
use Rattle.rule_reader.specs.RuleReading.{rule_read}
use Rattle.rule_reader.proofs.RuleAnswers.{answered}
use Rattle.rule_reader.proofs.rule_text.read_rule.Goals as goal

pub returns-in-Ok : goal.returns-in-Ok
returns-in-Ok c =
    let found = c.in-Ok.tokens in
    let title = c.args.section.now.title in
    let body = c.args.section.now.body in
    let owed : RuleAnswer title body c.token_rule.result =
    answered title body found c.token_rule.result
    (subst (λ z. Spells z found) c.as_slice.ensures c.in-Ok.ensures.ok)
    (subst (λ z. SpellsOnly z found) c.as_slice.ensures c.in-Ok.ensures.only)
    (subst (λ z. TokensAnswer (rule_read title z) z c.token_rule.result) c.as_slice-in-Ok.ensures c.token_rule.ensures) in
    record { answer = owed; spellable = rule_answer_is_spellable title body c.token_rule.result owed }
