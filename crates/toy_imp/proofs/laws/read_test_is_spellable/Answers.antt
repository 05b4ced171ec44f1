use Rattle.toy_imp.proofs.SpellableValues.{test-spellable}
use Rattle.toy_imp.proofs.laws.read_test_is_spellable.Goals as goal

pub returns : goal.returns
returns c = test-spellable
