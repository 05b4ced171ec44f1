use Rattle.std.proofs.Common.{ap, ◌∙◌}
use Rattle.std.specs.Prelude.{slice_get}
use Rattle.std.specs.Option.{option_map}
use Rattle.program_reader.proofs.Indexing.{kind_at}
use Rattle.program_reader.proofs.names.Names.kind.Goals as goal

pub returns-in-Some : goal.returns-in-Some
returns-in-Some c =
    ap (option_map (λ p. p.kind)) c.in-Some.ensures.value ∙ (λ j. option_map (λ p. p.kind) (slice_get (c.self.view_is j) (c.number-number.ensures j))) ∙ kind_at c.args.self.now c.args.x.now

pub returns-in-None : goal.returns-in-None
returns-in-None c =
    ap (option_map (λ p. p.kind)) c.in-None.ensures.value ∙ (λ j. option_map (λ p. p.kind) (slice_get (c.self.view_is j) (c.number-number.ensures j))) ∙ kind_at c.args.self.now c.args.x.now
