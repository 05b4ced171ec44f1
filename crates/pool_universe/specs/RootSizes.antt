-- How large an obligation by numbers is, from the numbers of which it speaks: their nodes and one for each literal; and the greatest depth.
use Rattle.std.specs.Prelude.{ℕ, suc, ◌+◌, max, List, [], ◌∷◌, length, Option, Some, None, slice_get}
use Rattle.term_pool.specs.declared.pooled.PooledLiteral.{PooledLiteral}
use Rattle.term_pool.specs.declared.pooled.PooledConjunct.{PooledConjunct}
use Rattle.term_pool.specs.declared.pooled.PooledObligation.{PooledObligation}
use Rattle.term_pool.specs.Numbered.{Term}
use Rattle.term_pool.specs.Kept.{nodes_there, depth_there}
use Rattle.pool_universe.specs.declared.part.PooledPart.{PooledPart}
use Rattle.pool_universe.specs.declared.part.PooledPart.TheVariants.{Store, Value, Place, Expr, Test}

abbrev pub root_nodes : List Term → PooledPart → ℕ
root_nodes ts (Store n) = nodes_there (slice_get ts n)
root_nodes ts (Value n) = nodes_there (slice_get ts n)
root_nodes ts _ = 0

abbrev pub roots_nodes : List Term → List PooledPart → ℕ
roots_nodes ts [] = 0
roots_nodes ts (r ∷ rs) = root_nodes ts r + roots_nodes ts rs

abbrev pub root_depth : List Term → PooledPart → ℕ
root_depth ts (Store n) = depth_there (slice_get ts n)
root_depth ts (Value n) = depth_there (slice_get ts n)
root_depth ts _ = 0

abbrev pub roots_depth : List Term → List PooledPart → ℕ
roots_depth ts [] = 0
roots_depth ts (r ∷ rs) = max (root_depth ts r) (roots_depth ts rs)

-- how many literals there are
abbrev pub given_literals : Option PooledLiteral → ℕ
given_literals None = 0
given_literals (Some x) = 1

abbrev pub conjunct_literals : PooledConjunct → ℕ
conjunct_literals c = length c.when + given_literals c.gives

abbrev pub conjuncts_literals : List PooledConjunct → ℕ
conjuncts_literals [] = 0
conjuncts_literals (c ∷ cs) = conjunct_literals c + conjuncts_literals cs

abbrev pub obligation_literals : PooledObligation → ℕ
obligation_literals ob = conjuncts_literals ob.known + (length ob.path + conjunct_literals ob.goal)
