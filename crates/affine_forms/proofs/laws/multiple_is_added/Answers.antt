use Rattle.affine_forms.proofs.Values.{multiple_is_added}
use Rattle.affine_forms.proofs.laws.multiple_is_added.Goals as goal

pub returns : goal.returns
returns c = multiple_is_added
