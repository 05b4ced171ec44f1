use Rattle.toy_imp.proofs.Stores.{write_is_read}
use Rattle.toy_imp.proofs.laws.write_is_read.Goals as goal

pub returns : goal.returns
returns c = write_is_read
