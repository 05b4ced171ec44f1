use Rattle.affine_forms.proofs.Values.{substituted_is_at_image}
use Rattle.affine_forms.proofs.laws.substituted_is_at_image.Goals as goal

pub returns : goal.returns
returns c = substituted_is_at_image
