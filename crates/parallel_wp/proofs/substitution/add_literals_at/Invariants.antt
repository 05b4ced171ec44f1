use Rattle.std.proofs.Common.{◌≡◌, ◌++◌, take}
use Rattle.rule_terms.specs.Substitute.{literals_at}
use Rattle.parallel_wp.proofs.substitution.add_literals_at.Given as goal

abbrev pub invariant-loop-literal : goal.invariant-loop-literal
invariant-loop-literal c = c.all ≡ c.fn.all ++ literals_at c.l c.r (take c.literal-index c.literals)
