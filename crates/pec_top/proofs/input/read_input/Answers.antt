use Rattle.pec_top.proofs.Inputs.{read_is, read_printable, read_faultless}
use Rattle.pec_top.proofs.input.read_input.Goals as goal

pub returns-clause-is : goal.returns-clause-is
returns-clause-is c = read_is c.args.command c.args.bytes.now c.in_ok-text.text c.text_input.result c.in_ok-text.ensures.exact c.text_input.ensures

pub returns-clause-printable : goal.returns-clause-printable
returns-clause-printable c = read_printable c.args.command c.in_ok-text.text c.text_input.result c.in_ok-text.ensures.titles c.text_input.ensures

pub returns-clause-faultless : goal.returns-clause-faultless
returns-clause-faultless c = read_faultless c.args.command c.in_ok-text.text c.text_input.result c.text_input.ensures
