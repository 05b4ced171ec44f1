-- What occurs in terms by numbers of a pool: numbers of stores and of values, places by numbers, and parameters.
use Rattle.std.specs.Prelude.{ℕ, Bool, true, false, List, [], ◌∷◌, ◌++◌, Option, Some, None, slice_set}
use Rattle.rule_terms.specs.Term as terms
use Rattle.rule_terms.specs.Parts.{Part, a_store, a_value, a_place, an_expr, a_test, store_parts, value_parts}
use Rattle.term_pool.specs.declared.node.Node.{Node}
use Rattle.term_pool.specs.declared.node.Node.TheVariants.{L, R, Put, Run, Num, Get, Ev, Add, Sub, Mul}
use Rattle.term_pool.specs.declared.node.PooledPlace.{PooledPlace}
use Rattle.term_pool.specs.Numbered.{Term, store_numbered, value_numbered, values_numbered, has_store, has_value, has_values}
use Rattle.term_pool.specs.Numbered as numbered
use Rattle.pool_universe.specs.declared.part.PooledPart.{PooledPart}
use Rattle.pool_universe.specs.declared.part.PooledPart.TheVariants.{Store, Value, Place, Expr, Test}
use Rattle.pool_universe.specs.contracts.part.PooledPartPartialEq.TheImpl as part_eq

abbrev pub place_numbered : List Term → PooledPlace → terms.Place
place_numbered ts p = record { name = p.name; indices = values_numbered ts p.indices }

-- the part for which a part by numbers stands
abbrev pub part_numbered : List Term → PooledPart → Part
part_numbered ts (Store n) = a_store (store_numbered ts n)
part_numbered ts (Value n) = a_value (value_numbered ts n)
part_numbered ts (Place p) = a_place (place_numbered ts p)
part_numbered ts (Expr k) = an_expr k
part_numbered ts (Test k) = a_test k

-- whether its numbers are of the pool, of a store where a store is asked and of values where values are
abbrev pub part_in : List Term → PooledPart → Bool
part_in ts (Store n) = has_store ts n
part_in ts (Value n) = has_value ts n
part_in ts (Place p) = has_values ts p.indices
part_in ts (Expr k) = true
part_in ts (Test k) = true

-- what occurs in the term of a number, itself too
abbrev pub parts_there : Option Term → List Part
parts_there None = []
parts_there (Some (numbered.a_store s)) = store_parts s
parts_there (Some (numbered.a_value v)) = value_parts v

-- what occurs at the top of a node that stands at a number
unfoldable pub top_parts : ℕ → Node → List PooledPart
top_parts at L = Store at ∷ []
top_parts at R = Store at ∷ []
top_parts at (Put s p v) = Store at ∷ Place p ∷ []
top_parts at (Run k s) = Store at ∷ []
top_parts at (Num z) = Value at ∷ []
top_parts at (Get p s) = Value at ∷ Place p ∷ []
top_parts at (Ev k s) = Value at ∷ Expr k ∷ []
top_parts at (Add a b) = Value at ∷ []
top_parts at (Sub a b) = Value at ∷ []
top_parts at (Mul a b) = Value at ∷ []

-- the numbers of its parts
unfoldable pub part_numbers : Node → List ℕ
part_numbers L = []
part_numbers R = []
part_numbers (Put s p v) = s ∷ (p.indices ++ v ∷ [])
part_numbers (Run k s) = s ∷ []
part_numbers (Num z) = []
part_numbers (Get p s) = p.indices ++ s ∷ []
part_numbers (Ev k s) = s ∷ []
part_numbers (Add a b) = a ∷ b ∷ []
part_numbers (Sub a b) = a ∷ b ∷ []
part_numbers (Mul a b) = a ∷ b ∷ []

-- marks with those of more numbers
unfoldable pub marked_all : List Bool → List ℕ → List Bool
marked_all marks [] = marks
marked_all marks (n ∷ ns) = marked_all (slice_set marks n true) ns

-- whether a mark is there and set
abbrev pub is_set : Option Bool → Bool
is_set None = false
is_set (Some b) = b

-- the same of a number, at which no node may stand
abbrev pub top_there : ℕ → Option Node → List PooledPart
top_there at None = []
top_there at (Some n) = top_parts at n

abbrev pub numbers_there : Option Node → List ℕ
numbers_there None = []
numbers_there (Some n) = part_numbers n

-- equality as a test
abbrev pub part_same : PooledPart → PooledPart → Bool
part_same p q = (part_eq.ghosts).eq p q

-- a store term, and a place or a parameter
abbrev pub is_store : PooledPart → Bool
is_store (Store n) = true
is_store _ = false

abbrev pub is_reading : PooledPart → Bool
is_reading (Place p) = true
is_reading (Expr k) = true
is_reading (Test k) = true
is_reading _ = false
