use Rattle.affine_forms.proofs.Substituting.{SoFar}
use Rattle.affine_forms.proofs.form.Form.substitute.Given as goal

abbrev pub invariant-loop-k : goal.invariant-loop-k
invariant-loop-k l = SoFar l.fn.self l.fn.by l.k l.sum
