use Rattle.std.proofs.Common.{◌∙◌, sym}
use Rattle.word_text.proofs.WordTable.{none_of_text, none_parsed, none_printed}
use Rattle.word_text.proofs.word.number_of.Goals as goal

pub returns-in_default-clause-none : goal.returns-in_default-clause-none
returns-in_default-clause-none c = none_of_text c.args.digits.now c.in_default.ensures.cases.0

pub returns-in_default-from_str_radix-clause-none : goal.returns-in_default-from_str_radix-clause-none
returns-in_default-from_str_radix-clause-none c =
    λ n small e. none_parsed c.in-Ok.text.now c.in_default-from_str_radix.field-0 c.in_default-from_str_radix.ensures.value n small (c.in-Ok.ensures.cases.0 ∙ e)

pub returns-else-is_decimal-clause-none : goal.returns-else-is_decimal-clause-none
returns-else-is_decimal-clause-none c =
    let same = c.in-Ok.ensures.cases.0 in
    λ n small e. none_printed c.in-Ok.text.now c.in-Ok-from_str_radix.n c.from_str_radix.result c.from_str_radix.ensures.value c.in-Ok-from_str_radix.is
    (λ f. let yes = c.is_decimal.ensures.1 (sym same ∙ f) in let no = c.if-is_decimal.false in cc) n small (same ∙ e)
