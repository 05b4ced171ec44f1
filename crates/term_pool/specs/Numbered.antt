-- What the numbers of a pool stand for: the terms of its nodes, one after another, each made of terms before it.
-- A number that is of no store stands for L where a store is asked, and one that is of no value for 0 where a value is.
use Rattle.std.specs.Prelude.{◌≡◌, ℕ, pos, Bool, true, false, ◌&&◌, List, [], ◌∷◌, ◌++◌, Option, Some, length, slice_get}
use Rattle.rule_terms.specs.Term.{StoreTerm, left_store, right_store, put, run, ValueTerm, num, get, ev, add, sub, mul, ValueTerms, no_terms, term}
use Rattle.term_pool.specs.declared.node.Node.{Node}
use Rattle.term_pool.specs.declared.node.Node.TheVariants.{L, R, Put, Run, Num, Get, Ev, Add, Sub, Mul}

pub data Term : Type 0 where
  a_store : StoreTerm → Term
  a_value : ValueTerm → Term

abbrev pub as_store : Option Term → StoreTerm
as_store (Some (a_store s)) = s
as_store _ = left_store

abbrev pub as_value : Option Term → ValueTerm
as_value (Some (a_value v)) = v
as_value _ = num (pos 0)

-- the store and the value of a number
abbrev pub store_numbered : List Term → ℕ → StoreTerm
store_numbered ts n = as_store (slice_get ts n)

abbrev pub value_numbered : List Term → ℕ → ValueTerm
value_numbered ts n = as_value (slice_get ts n)

unfoldable pub values_numbered : List Term → List ℕ → ValueTerms
values_numbered ts [] = no_terms
values_numbered ts (n ∷ ns) = term (value_numbered ts n) (values_numbered ts ns)

-- the term of a node whose parts are among these terms
unfoldable pub built : List Term → Node → Term
built ts L = a_store left_store
built ts R = a_store right_store
built ts (Put s p v) = a_store (put (store_numbered ts s) p.name (values_numbered ts p.indices) (value_numbered ts v))
built ts (Run k s) = a_store (run k (store_numbered ts s))
built ts (Num z) = a_value (num z)
built ts (Get p s) = a_value (get p.name (values_numbered ts p.indices) (store_numbered ts s))
built ts (Ev k s) = a_value (ev k (store_numbered ts s))
built ts (Add a b) = a_value (add (value_numbered ts a) (value_numbered ts b))
built ts (Sub a b) = a_value (sub (value_numbered ts a) (value_numbered ts b))
built ts (Mul a b) = a_value (mul (value_numbered ts a) (value_numbered ts b))

unfoldable pub grown : List Term → List Node → List Term
grown ts [] = ts
grown ts (n ∷ ns) = grown (ts ++ built ts n ∷ []) ns

-- the terms of a list of nodes, in order
abbrev pub terms_of_nodes : List Node → List Term
terms_of_nodes ns = grown [] ns

-- whether a number is of a store, and of a value
abbrev pub is_store_there : Option Term → Bool
is_store_there (Some (a_store s)) = true
is_store_there _ = false

abbrev pub is_value_there : Option Term → Bool
is_value_there (Some (a_value v)) = true
is_value_there _ = false

abbrev pub has_store : List Term → ℕ → Bool
has_store ts n = is_store_there (slice_get ts n)

abbrev pub has_value : List Term → ℕ → Bool
has_value ts n = is_value_there (slice_get ts n)

unfoldable pub has_values : List Term → List ℕ → Bool
has_values ts [] = true
has_values ts (n ∷ ns) = has_value ts n && has_values ts ns

-- whether the parts of a node are among these terms, a store where a store is asked and a value where a value is
unfoldable pub names_earlier : List Term → Node → Bool
names_earlier ts L = true
names_earlier ts R = true
names_earlier ts (Put s p v) = has_store ts s && (has_values ts p.indices && has_value ts v)
names_earlier ts (Run k s) = has_store ts s
names_earlier ts (Num z) = true
names_earlier ts (Get p s) = has_values ts p.indices && has_store ts s
names_earlier ts (Ev k s) = has_store ts s
names_earlier ts (Add a b) = has_value ts a && has_value ts b
names_earlier ts (Sub a b) = has_value ts a && has_value ts b
names_earlier ts (Mul a b) = has_value ts a && has_value ts b

unfoldable pub each_names_earlier : List Term → List Node → Bool
each_names_earlier ts [] = true
each_names_earlier ts (n ∷ ns) = names_earlier ts n && each_names_earlier (ts ++ built ts n ∷ []) ns

-- the term that a node has in a pool
abbrev pub node_term : List Node → Node → Term
node_term ns n = built (terms_of_nodes ns) n

-- a number that stands for a term, and numbers that stand for values beside one another
abbrev pub IsNumber : List Node → ℕ → Term → Type 0
IsNumber ns n t = slice_get (terms_of_nodes ns) n ≡ Some t

abbrev pub AreNumbers : List Node → List ℕ → ValueTerms → Type 0
AreNumbers ns js vs = (has_values (terms_of_nodes ns) js ≡ true) × (values_numbered (terms_of_nodes ns) js ≡ vs)

-- no two numbers stand for the same term
abbrev pub Once : List Term → Type 0
Once ts = (i j : ℕ) (t : Term) → slice_get ts i ≡ Some t → slice_get ts j ≡ Some t → i ≡ j

-- a pool: each node names nodes before it alone, and each term has one number
pub record IsPool (ns : List Node) : Type 0 where
  pub earlier : each_names_earlier [] ns ≡ true
  pub once : Once (terms_of_nodes ns)

abbrev pub NodesOnce : Type 0
NodesOnce = (ns : List Node) → IsPool ns → (i j : ℕ) (n : Node) → slice_get ns i ≡ Some n → slice_get ns j ≡ Some n → i ≡ j

-- terms that keep their numbers among others
abbrev pub Within : List Term → List Term → Type 0
Within ts us = (i : ℕ) (t : Term) → slice_get ts i ≡ Some t → slice_get us i ≡ Some t

-- a node at its number: its parts are before it, and its term is made of theirs
pub record Stands (ts : List Term) (i : ℕ) (n : Node) : Type 0 where
  pub before : List Term
  pub short : length before ≡ i
  pub within : Within before ts
  pub names : names_earlier before n ≡ true
  pub is : slice_get ts i ≡ Some (built before n)
