use Rattle.std.proofs.Common.{◌≡◌}
use Rattle.std.specs.Prelude.{take}
use Rattle.affine_forms.specs.Form.{plus_multiples}
use Rattle.affine_forms.proofs.sums.add_multiples.Given as goal

abbrev pub invariant-loop-k : goal.invariant-loop-k
invariant-loop-k l = l.numbers ≡ plus_multiples l.fn.numbers l.fn.times (take l.k l.others)
