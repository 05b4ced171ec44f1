-- Literal by literal.
use Rattle.escape_universe.proofs.NamedLiterals.{all_named}
use Rattle.escape_universe.proofs.names.names_have_classes.Goals as goal

pub returns : goal.returns
returns c = let e = all_named c.args.ob.now c.args.e.now in cc
