use Rattle.toy_imp.proofs.SpellableValues.{block-spellable}
use Rattle.toy_imp.proofs.laws.read_block_is_spellable.Goals as goal

pub returns : goal.returns
returns c = block-spellable
