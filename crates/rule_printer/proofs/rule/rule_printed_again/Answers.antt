use Rattle.rule_printer.proofs.RulePrintedAgain.{rule_printed_again}
use Rattle.rule_printer.proofs.rule.rule_printed_again.Goals as goal

pub returns : goal.returns
returns c = rule_printed_again
