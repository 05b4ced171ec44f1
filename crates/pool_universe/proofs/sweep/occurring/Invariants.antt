use Rattle.rule_terms.specs.Parts.{obligation_parts}
use Rattle.term_pool.specs.Numbered.{terms_of_nodes}
use Rattle.term_pool.specs.Pooled.{obligation_numbered}
use Rattle.pool_universe.proofs.Sweeps.{Sweeps}
use Rattle.pool_universe.proofs.sweep.occurring.Given as goal

abbrev pub invariant-loop-at : goal.invariant-loop-at
invariant-loop-at l = Sweeps (terms_of_nodes l.pool) (obligation_parts (obligation_numbered l.pool l.ob)) l.parts.keys l.marks l.at

abbrev pub decreases-loop-at : goal.decreases-loop-at
decreases-loop-at l = l.at
