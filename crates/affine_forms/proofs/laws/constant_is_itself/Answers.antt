use Rattle.affine_forms.proofs.Values.{constant_is_itself}
use Rattle.affine_forms.proofs.laws.constant_is_itself.Goals as goal

pub returns : goal.returns
returns c = constant_is_itself
