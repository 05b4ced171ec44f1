use Rattle.toy_imp.proofs.SpellableValues.{expr-spellable}
use Rattle.toy_imp.proofs.laws.read_expr_is_spellable.Goals as goal

pub returns : goal.returns
returns c = expr-spellable
