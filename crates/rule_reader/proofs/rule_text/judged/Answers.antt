use Rattle.std.proofs.Common.{rules, ◌≡◌, true, inl, inr, refl}
use Rattle.std.specs.List.{list_any}
use Rattle.program_reader.specs.ProgramReading.{is_wide}
use Rattle.program_reader.proofs.ProgramReads.{has_wide}
use Rattle.rule_reader.proofs.rule_text.judged.Goals as goal

pub returns-then-found : goal.returns-then-found
returns-then-found c =
    let beyond : c.args.found.is_beyond ≡ true = search rules in
    (c.args.found, refl, inr beyond)

pub returns-then-has_wide : goal.returns-then-has_wide
returns-then-has_wide c =
    let wide : list_any is_wide c.args.tokens.now ≡ true = search rules in
    (c.args.found, refl, inl (has_wide c.args.tokens.now wide))
