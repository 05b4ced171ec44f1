use Rattle.affine_forms.proofs.Values.{symbol_is_its_value}
use Rattle.affine_forms.proofs.laws.symbol_is_its_value.Goals as goal

pub returns : goal.returns
returns c = symbol_is_its_value
