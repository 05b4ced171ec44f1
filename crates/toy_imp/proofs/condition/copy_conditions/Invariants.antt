use Rattle.std.proofs.Common.{◌≡◌, take}
use Rattle.toy_imp.proofs.condition.copy_conditions.Given as goal

abbrev pub invariant-loop-c : goal.invariant-loop-c
invariant-loop-c l = l.all ≡ take l.c-index l.items
