-- What a pool keeps: each node with the nodes and the depth of its term, which stand still at 2^64 - 1.
use Rattle.std.specs.Prelude.{◌≡◌, ◌<◌, ◌^◌, ◌+◌, suc, max, ℕ, List, [], ◌∷◌, map, length, Option, Some, None, slice_get}
use Rattle.std.specs.Map.{keys_of, values_of}
use Rattle.rule_terms.specs.Term.{store_depth, value_depth}
use Rattle.rule_terms.specs.Counts.{store_nodes, value_nodes, saturated}
use Rattle.rule_terms.specs.declared.size.Size.{Size}
use Rattle.term_pool.specs.declared.node.Node.{Node}
use Rattle.term_pool.specs.declared.node.Node.TheVariants.{L, R, Put, Run, Num, Get, Ev, Add, Sub, Mul}
use Rattle.term_pool.specs.Numbered.{Term, a_store, a_value, terms_of_nodes, IsPool}

-- the nodes of a term, with repeats
abbrev pub term_nodes : Term → ℕ
term_nodes (a_store s) = store_nodes s
term_nodes (a_value v) = value_nodes v

abbrev pub nodes_there : Option Term → ℕ
nodes_there None = 0
nodes_there (Some t) = term_nodes t

-- the nodes of a node's term, from those of the numbers that it names
abbrev pub numbers_nodes : List Term → List ℕ → ℕ
numbers_nodes ts [] = 0
numbers_nodes ts (n ∷ ns) = nodes_there (slice_get ts n) + numbers_nodes ts ns

unfoldable pub parts_nodes : List Term → Node → ℕ
parts_nodes ts L = 1
parts_nodes ts R = 1
parts_nodes ts (Put s p v) = suc (nodes_there (slice_get ts s) + (numbers_nodes ts p.indices + nodes_there (slice_get ts v)))
parts_nodes ts (Run k s) = suc (nodes_there (slice_get ts s))
parts_nodes ts (Num z) = 1
parts_nodes ts (Get p s) = suc (numbers_nodes ts p.indices + nodes_there (slice_get ts s))
parts_nodes ts (Ev k s) = suc (nodes_there (slice_get ts s))
parts_nodes ts (Add a b) = suc (nodes_there (slice_get ts a) + nodes_there (slice_get ts b))
parts_nodes ts (Sub a b) = suc (nodes_there (slice_get ts a) + nodes_there (slice_get ts b))
parts_nodes ts (Mul a b) = suc (nodes_there (slice_get ts a) + nodes_there (slice_get ts b))

-- the depth of a term, and that of a node's term from those of the numbers that it names
abbrev pub term_depth : Term → ℕ
term_depth (a_store s) = store_depth s
term_depth (a_value v) = value_depth v

abbrev pub depth_there : Option Term → ℕ
depth_there None = 0
depth_there (Some t) = term_depth t

abbrev pub numbers_depth : List Term → List ℕ → ℕ
numbers_depth ts [] = 0
numbers_depth ts (n ∷ ns) = max (depth_there (slice_get ts n)) (numbers_depth ts ns)

unfoldable pub parts_depth : List Term → Node → ℕ
parts_depth ts L = 1
parts_depth ts R = 1
parts_depth ts (Put s p v) = suc (max (depth_there (slice_get ts s)) (max (numbers_depth ts p.indices) (depth_there (slice_get ts v))))
parts_depth ts (Run k s) = suc (depth_there (slice_get ts s))
parts_depth ts (Num z) = 1
parts_depth ts (Get p s) = suc (max (numbers_depth ts p.indices) (depth_there (slice_get ts s)))
parts_depth ts (Ev k s) = suc (depth_there (slice_get ts s))
parts_depth ts (Add a b) = suc (max (depth_there (slice_get ts a)) (depth_there (slice_get ts b)))
parts_depth ts (Sub a b) = suc (max (depth_there (slice_get ts a)) (depth_there (slice_get ts b)))
parts_depth ts (Mul a b) = suc (max (depth_there (slice_get ts a)) (depth_there (slice_get ts b)))

-- what is kept of a term
abbrev pub size : Term → Size
size t = record { nodes = saturated (term_nodes t); depth = saturated (term_depth t) }

pub record IsKept (es : List (Node × Size)) : Type 0 where
  pub pool : IsPool (keys_of es)
  pub sized : values_of es ≡ map size (terms_of_nodes (keys_of es))
  pub small : length es < 2 ^ 32

-- a node that stands at no number
abbrev pub IsMissing : List Node → Node → Type 0
IsMissing ns n = (i : ℕ) → slice_get ns i ≡ Some n → ⊥
