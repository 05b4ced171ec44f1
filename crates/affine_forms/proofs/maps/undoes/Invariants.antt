use Rattle.affine_forms.specs.Maps.{Undoes}
use Rattle.affine_forms.proofs.maps.undoes.Given as goal

abbrev pub invariant-loop-k : goal.invariant-loop-k
invariant-loop-k l = Undoes l.k l.fn.back l.fn.there
