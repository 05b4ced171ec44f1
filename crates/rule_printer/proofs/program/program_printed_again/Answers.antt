use Rattle.rule_printer.proofs.ProgramPrinted.{program_printed_again}
use Rattle.rule_printer.proofs.program.program_printed_again.Goals as goal

pub returns : goal.returns
returns c = program_printed_again
