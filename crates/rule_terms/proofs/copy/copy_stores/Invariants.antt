use Rattle.std.proofs.Common.{◌≡◌, take}
use Rattle.rule_terms.proofs.copy.copy_stores.Given as goal

abbrev pub invariant-loop-s : goal.invariant-loop-s
invariant-loop-s l = l.all ≡ take l.s-index l.items
