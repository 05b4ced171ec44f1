use Rattle.affine_forms.proofs.Values.{undone_is_back}
use Rattle.affine_forms.proofs.laws.undone_is_back.Goals as goal

pub returns : goal.returns
returns c = undone_is_back
