use Rattle.pec_text.proofs.Numerals.{one_more_digit}
use Rattle.pec_text.proofs.lexer.numeral_of.Goals as goal

pub loop-digit-preserved : goal.loop-digit-preserved
loop-digit-preserved c =
    let step = one_more_digit c.args.digits.now c.loop-digit.digit-index c.loop-digit.value c.requires c.loop-digit-test.true c.loop-digit.invariant in
    let times = c.saturating_mul.ensures in
    let plus = c.saturating_add-value.ensures in
    let digit = c.from.ensures in
    cc
