use Rattle.std.proofs.Common.{◌≡◌, ◌≤◌, length, take}
use Rattle.pec_top.specs.Checks.{titled_rule}
use Rattle.pec_top.proofs.check.titled_rule.Given as goal

-- none of the items from place n on has the title
abbrev pub invariant-loop-n : goal.invariant-loop-n
invariant-loop-n l = (l.n ≤ length l.items) × (titled_rule l.title l.items ≡ titled_rule l.title (take l.n l.items))

abbrev pub decreases-loop-n : goal.decreases-loop-n
decreases-loop-n l = l.n
