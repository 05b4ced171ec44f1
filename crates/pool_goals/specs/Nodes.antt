-- The nodes of items by numbers, from those of the numbers' terms.
use Rattle.std.specs.Prelude.{ℕ, suc, ◌+◌, List, [], ◌∷◌, Option, Some, None, slice_get}
use Rattle.term_pool.specs.declared.pooled.PooledAtom.{PooledAtom}
use Rattle.term_pool.specs.declared.pooled.PooledAtom.TheVariants.{SameName, SameStore, SameValue, AtMost, Ends, Holds}
use Rattle.term_pool.specs.declared.pooled.PooledLiteral.{PooledLiteral}
use Rattle.term_pool.specs.declared.pooled.PooledConjunct.{PooledConjunct}
use Rattle.term_pool.specs.declared.pooled.PooledObligation.{PooledObligation}
use Rattle.term_pool.specs.Numbered.{Term}
use Rattle.term_pool.specs.Kept.{nodes_there}

unfoldable pub atom_found : List Term → PooledAtom → ℕ
atom_found ts (SameName x y) = 0
atom_found ts (SameStore a b) = nodes_there (slice_get ts a) + nodes_there (slice_get ts b)
atom_found ts (SameValue a b) = nodes_there (slice_get ts a) + nodes_there (slice_get ts b)
atom_found ts (AtMost a b c) = nodes_there (slice_get ts a) + nodes_there (slice_get ts b)
atom_found ts (Ends s) = nodes_there (slice_get ts s)
atom_found ts (Holds k s) = nodes_there (slice_get ts s)

abbrev pub literals_found : List Term → List PooledLiteral → ℕ
literals_found ts [] = 0
literals_found ts (x ∷ xs) = suc (atom_found ts x.atom) + literals_found ts xs

abbrev pub gives_found : List Term → Option PooledLiteral → ℕ
gives_found ts None = 0
gives_found ts (Some x) = suc (atom_found ts x.atom)

abbrev pub conjunct_found : List Term → PooledConjunct → ℕ
conjunct_found ts c = literals_found ts c.when + gives_found ts c.gives

abbrev pub conjuncts_found : List Term → List PooledConjunct → ℕ
conjuncts_found ts [] = 0
conjuncts_found ts (c ∷ cs) = conjunct_found ts c + conjuncts_found ts cs

abbrev pub obligation_found : List Term → PooledObligation → ℕ
obligation_found ts ob = conjuncts_found ts ob.known + (literals_found ts ob.path + conjunct_found ts ob.goal)
