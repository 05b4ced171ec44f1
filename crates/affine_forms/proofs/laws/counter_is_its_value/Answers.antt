use Rattle.affine_forms.proofs.Values.{counter_is_its_value}
use Rattle.affine_forms.proofs.laws.counter_is_its_value.Goals as goal

pub returns : goal.returns
returns c = counter_is_its_value
