use Rattle.std.proofs.Common.{◌∙◌, ap}
use Rattle.std.specs.Prelude.{decimal}
use Rattle.word_text.proofs.WordTable.{none_negative}
use Rattle.word_text.proofs.word.negative_of.Goals as goal

pub returns-then-n-eq0 : goal.returns-then-n-eq0
returns-then-n-eq0 c = none_negative c.args.digits.now (c.in_ok-n.ensures.found ∙ ap decimal c.if-n-eq0.true)
