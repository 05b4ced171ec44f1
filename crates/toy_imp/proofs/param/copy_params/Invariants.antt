use Rattle.std.proofs.Common.{◌≡◌, take}
use Rattle.toy_imp.proofs.param.copy_params.Given as goal

abbrev pub invariant-loop-p : goal.invariant-loop-p
invariant-loop-p l = l.all ≡ take l.p-index l.items
