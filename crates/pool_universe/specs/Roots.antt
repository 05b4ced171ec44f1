-- The numbers of which an obligation speaks, and its test parameters, in the order of a walk and with repeats.
use Rattle.std.specs.Prelude.{ℕ, List, [], ◌∷◌, ◌++◌, Option, Some, None}
use Rattle.std.specs.List.{flat_map}
use Rattle.term_pool.specs.declared.pooled.PooledAtom.{PooledAtom}
use Rattle.term_pool.specs.declared.pooled.PooledAtom.TheVariants.{SameName, SameStore, SameValue, AtMost, Ends, Holds}
use Rattle.term_pool.specs.declared.pooled.PooledLiteral.{PooledLiteral}
use Rattle.term_pool.specs.declared.pooled.PooledConjunct.{PooledConjunct}
use Rattle.term_pool.specs.declared.pooled.PooledObligation.{PooledObligation}
use Rattle.pool_universe.specs.declared.part.PooledPart.{PooledPart}
use Rattle.pool_universe.specs.declared.part.PooledPart.TheVariants.{Store, Value, Place, Expr, Test}

unfoldable pub atom_roots : PooledAtom → List PooledPart
atom_roots (SameName x y) = []
atom_roots (SameStore a b) = Store a ∷ Store b ∷ []
atom_roots (SameValue a b) = Value a ∷ Value b ∷ []
atom_roots (AtMost a b c) = Value a ∷ Value b ∷ []
atom_roots (Ends s) = Store s ∷ []
atom_roots (Holds k s) = Test k ∷ Store s ∷ []

abbrev pub literal_roots : PooledLiteral → List PooledPart
literal_roots x = atom_roots x.atom

abbrev pub literals_roots : List PooledLiteral → List PooledPart
literals_roots xs = flat_map literal_roots xs

abbrev pub gives_roots : Option PooledLiteral → List PooledPart
gives_roots None = []
gives_roots (Some x) = literal_roots x

abbrev pub conjunct_roots : PooledConjunct → List PooledPart
conjunct_roots c = literals_roots c.when ++ gives_roots c.gives

abbrev pub conjuncts_roots : List PooledConjunct → List PooledPart
conjuncts_roots cs = flat_map conjunct_roots cs

unfoldable pub obligation_roots : PooledObligation → List PooledPart
obligation_roots ob = conjuncts_roots ob.known ++ (literals_roots ob.path ++ conjunct_roots ob.goal)

-- the number to be marked for a root, and what is found at once
abbrev pub root_numbers : PooledPart → List ℕ
root_numbers (Store n) = n ∷ []
root_numbers (Value n) = n ∷ []
root_numbers _ = []

abbrev pub root_tests : PooledPart → List PooledPart
root_tests (Test k) = Test k ∷ []
root_tests _ = []
