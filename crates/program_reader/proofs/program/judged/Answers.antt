use Rattle.std.proofs.Common.{rules, ◌≡◌, true}
use Rattle.std.specs.List.{list_any}
use Rattle.toy_imp.specs.Program.{is_program}
use Rattle.program_reader.specs.ProgramReading.{is_wide}
use Rattle.program_reader.proofs.ProgramReads.{has_wide}
use Rattle.program_reader.proofs.program.judged.Goals as goal

pub returns-then-has_wide : goal.returns-then-has_wide
returns-then-has_wide c =
    let closed : is_program c.args.program ≡ true = search rules in
    let wide : list_any is_wide c.args.tokens.now ≡ true = search rules in
    (c.args.program, c.requires, closed, has_wide c.args.tokens.now wide)
