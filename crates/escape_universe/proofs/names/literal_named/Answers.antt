-- An equality's names, and those of the places.
use Rattle.std.proofs.Common.{◌∙◌}
use Rattle.escape_universe.proofs.NamedLiterals.{both_named}
use Rattle.escape_universe.proofs.names.literal_named.Goals as goal

pub returns : goal.returns
returns c = c.both_named.ensures ∙ both_named c.args.params.now c.args.classes.now c.args.l.now
