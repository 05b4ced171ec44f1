use Rattle.std.proofs.Common.{sym, subst}
use Rattle.rule_reader.specs.RuleAnswering.{TokensAnswer}
use Rattle.rule_reader.proofs.rule_text.token_rule.Goals as goal

pub returns-in-Ok : goal.returns-in-Ok
returns-in-Ok c = subst (λ z. TokensAnswer z c.args.tokens.now c.judged.result) (sym c.in-Ok.ensures) c.judged.ensures
