use Rattle.std.proofs.Common.{subst}
use Rattle.pec_text.specs.Spelling.{Spells}
use Rattle.program_reader.specs.Grammar.{ProgramAnswer}
use Rattle.program_reader.specs.ProgramReading.{TokensAnswer}
use Rattle.program_reader.proofs.ProgramAnswers.{SpellsOnly}
use Rattle.program_reader.proofs.ProgramReads.{answered}
use Rattle.program_reader.proofs.ReadSpellable.{answer_is_spellable}
use Rattle.program_reader.proofs.program.read_program.Goals as goal

pub returns-in-Ok : goal.returns-in-Ok
returns-in-Ok c =
    let found = c.in-Ok.tokens in
    let owed : ProgramAnswer c.args.section.now.body c.token_program.result =
    answered c.args.section.now.body found c.token_program.result
    (subst (λ z. Spells z found) c.as_slice.ensures c.in-Ok.ensures.ok)
    (subst (λ z. SpellsOnly z found) c.as_slice.ensures c.in-Ok.ensures.only)
    (subst (λ z. TokensAnswer z c.token_program.result) c.as_slice-in-Ok.ensures c.token_program.ensures) in
    record { answer = owed; spellable = answer_is_spellable c.args.section.now.title c.args.section.now.body c.token_program.result owed }
