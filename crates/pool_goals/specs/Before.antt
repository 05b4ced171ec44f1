-- What paths by numbers stand for, and conjuncts by numbers behind the literals of both paths.
use Rattle.std.specs.Prelude.{Bool, ◌&&◌, List, ◌++◌, map}
use Rattle.std.specs.List.{list_all}
use Rattle.rule_terms.specs.declared.obligation.Conjunct.{Conjunct}
use Rattle.rule_terms.specs.declared.path.Path.{Path}
use Rattle.term_pool.specs.declared.node.Node.{Node}
use Rattle.term_pool.specs.declared.pooled.PooledLiteral.{PooledLiteral}
use Rattle.term_pool.specs.declared.pooled.PooledConjunct.{PooledConjunct}
use Rattle.term_pool.specs.Numbered.{Term, store_numbered, has_store, terms_of_nodes}
use Rattle.term_pool.specs.Pooled.{literal_in, literal_numbered, conjunct_numbered}
use Rattle.parallel_wp.specs.Precondition.{goal_at, precondition}
use Rattle.pool_goals.specs.declared.path.PooledPath.{PooledPath}

abbrev pub path_numbered : List Term → PooledPath → Path
path_numbered ts p = record { literals = map (literal_numbered ts) p.literals; store = store_numbered ts p.store; stop = p.stop }

-- whether the numbers are of the pool
abbrev pub path_in : List Term → PooledPath → Bool
path_in ts p = list_all (literal_in ts) p.literals && has_store ts p.store

-- the goals and the preconditions for which conjuncts by numbers ask, one after another
abbrev pub goals_numbered : List Node → PooledPath → PooledPath → List PooledConjunct → List Conjunct
goals_numbered ns left right cs = map (goal_at (path_numbered (terms_of_nodes ns) left) (path_numbered (terms_of_nodes ns) right)) (map (conjunct_numbered (terms_of_nodes ns)) cs)

abbrev pub preconditions_numbered : List Node → PooledPath → PooledPath → List PooledConjunct → List Conjunct
preconditions_numbered ns left right cs = map (precondition (path_numbered (terms_of_nodes ns) left) (path_numbered (terms_of_nodes ns) right)) (map (conjunct_numbered (terms_of_nodes ns)) cs)

-- a conjunct behind the literals of both paths
abbrev pub behind : List PooledLiteral → PooledConjunct → PooledConjunct
behind literals c = record { when = literals ++ c.when; gives = c.gives }
