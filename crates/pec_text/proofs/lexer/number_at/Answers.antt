use Rattle.std.proofs.Common.{take, ◌∙◌, ap}
use Rattle.std.specs.Char.{is_ascii_digit}
use Rattle.std.specs.List.{list_all}
use Rattle.pec_text.proofs.Runs.{run_passes}
use Rattle.pec_text.proofs.lexer.number_at.Goals as goal

pub number_token-requires : goal.number_token-requires
number_token-requires c =
    let front = c.split_at.ensures.front ∙ ap (λ n. take n c.args.text.now) c.digits_len.ensures.value in
    ap (list_all is_ascii_digit) front ∙ run_passes is_ascii_digit c.args.text.now
