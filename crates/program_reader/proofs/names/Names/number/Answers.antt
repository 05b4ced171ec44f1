use Rattle.std.proofs.Common.{sym, ◌∙◌}
use Rattle.program_reader.proofs.Indexing.{number_some, number_none}
use Rattle.program_reader.proofs.names.Names.number.Goals as goal

pub returns-in-Some : goal.returns-in-Some
returns-in-Some c =
    rw (← c.self.view_is) (number_some c.self.inside.numbers.entries c.self.inside.params c.args.x.now c.in-Some.number.now c.self.invariant.1 (sym c.in-Some.ensures.value))

pub returns-in-None : goal.returns-in-None
returns-in-None c =
    rw (← c.self.view_is) (c.len.ensures ∙ number_none c.self.inside.numbers.entries c.self.inside.params c.args.x.now c.self.invariant.1 (sym c.in-None.ensures.value))
