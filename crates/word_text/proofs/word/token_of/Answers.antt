use Rattle.std.proofs.Common.{sym}
use Rattle.word_text.proofs.WordTable.{key_form, any_form}
use Rattle.word_text.proofs.word.token_of.Goals as goal

pub returns-in-Some : goal.returns-in-Some
returns-in-Some c = key_form c.args.word.now c.in-Some.key (sym c.in-Some.ensures)

pub returns-in-None : goal.returns-in-None
returns-in-None c = any_form c.args.word.now c.number_token.result (sym c.in-None.ensures) c.number_token.ensures
