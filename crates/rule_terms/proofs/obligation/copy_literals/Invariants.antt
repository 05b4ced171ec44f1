use Rattle.std.proofs.Common.{◌≡◌, take}
use Rattle.rule_terms.proofs.obligation.copy_literals.Given as goal

abbrev pub invariant-loop-l : goal.invariant-loop-l
invariant-loop-l l = l.all ≡ take l.l-index l.items
