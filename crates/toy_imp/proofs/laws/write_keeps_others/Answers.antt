use Rattle.toy_imp.proofs.Stores.{write_keeps_others}
use Rattle.toy_imp.proofs.laws.write_keeps_others.Goals as goal

pub returns : goal.returns
returns c = write_keeps_others
