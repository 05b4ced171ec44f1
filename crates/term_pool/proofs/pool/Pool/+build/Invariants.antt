use Rattle.std.proofs.Common.{◌≡◌, ◌+◌, ◌*◌, take}
use Rattle.rule_terms.specs.TermView.{terms_of}
use Rattle.term_pool.specs.Numbered.{terms_of_nodes, values_numbered}
use Rattle.term_pool.specs.Rebuilding.{above}
use Rattle.term_pool.proofs.pool.Pool.+build.Given as goal

abbrev pub decreases-store : goal.decreases-store
decreases-store l = 2 * l.at + 1

abbrev pub decreases-value : goal.decreases-value
decreases-value l = 2 * l.at + 1

abbrev pub decreases-values : goal.decreases-values
decreases-values l = 2 * above l.numbers.now

abbrev pub invariant-values-loop-n : goal.invariant-values-loop-n
invariant-values-loop-n l = terms_of l.all ≡ values_numbered (terms_of_nodes l.self) (take l.n-index l.numbers)
