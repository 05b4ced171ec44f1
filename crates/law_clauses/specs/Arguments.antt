-- The arguments of a term, and the top that is left without them: two terms with one top and equal arguments are equal.
use Rattle.std.specs.Prelude.{ℕ, Bool, true, false, ◌==◌, List, [], ◌∷◌, Option, Some, None}
use Rattle.std.specs.Ordering.{int_eq}
use Rattle.rule_terms.specs.Term.{StoreTerm, left_store, right_store, put, run, ValueTerm, num, get, ev, add, sub, mul, ValueTerms, no_terms, term}
use Rattle.rule_terms.specs.Order.{store_same, value_same}
use Rattle.rule_terms.specs.declared.obligation.Atom.{Atom}
use Rattle.rule_terms.specs.declared.obligation.Atom.TheVariants.{SameName, SameStore, SameValue}
use Rattle.term_meaning.specs.Indices.{count}

pub data Argument : Type 0 where
  of_name : ℕ → Argument
  of_store : StoreTerm → Argument
  of_value : ValueTerm → Argument

abbrev pub index_arguments : ValueTerms → List Argument → List Argument
index_arguments no_terms more = more
index_arguments (term v vs) more = of_value v ∷ index_arguments vs more

-- of `put` its store, name, indices and value; of `get` its name, indices and store
abbrev pub store_arguments : StoreTerm → List Argument
store_arguments left_store = []
store_arguments right_store = []
store_arguments (put s x is v) = of_store s ∷ of_name x ∷ index_arguments is (of_value v ∷ [])
store_arguments (run k s) = of_store s ∷ []

abbrev pub value_arguments : ValueTerm → List Argument
value_arguments (num z) = []
value_arguments (get x is s) = of_name x ∷ index_arguments is (of_store s ∷ [])
value_arguments (ev k s) = of_store s ∷ []
value_arguments (add a b) = of_value a ∷ of_value b ∷ []
value_arguments (sub a b) = of_value a ∷ of_value b ∷ []
value_arguments (mul a b) = of_value a ∷ of_value b ∷ []

-- the same constructor, and the same parameter, constant or number of indices
unfoldable pub store_top : StoreTerm → StoreTerm → Bool
store_top left_store left_store = true
store_top right_store right_store = true
store_top (put s x is v) (put t y js w) = count is == count js
store_top (run j s) (run k t) = j == k
store_top _ _ = false

unfoldable pub value_top : ValueTerm → ValueTerm → Bool
value_top (num y) (num z) = int_eq y z
value_top (get x is s) (get y js t) = count is == count js
value_top (ev j s) (ev k t) = j == k
value_top (add a b) (add c d) = true
value_top (sub a b) (sub c d) = true
value_top (mul a b) (mul c d) = true
value_top _ _ = false

abbrev pub identical : Argument → Argument → Bool
identical (of_name x) (of_name y) = x == y
identical (of_store s) (of_store t) = store_same s t
identical (of_value v) (of_value w) = value_same v w
identical _ _ = false

-- that the one argument is equal to the other
abbrev pub equality : Argument → Argument → Option Atom
equality (of_name x) (of_name y) = Some (SameName x y)
equality (of_store s) (of_store t) = Some (SameStore s t)
equality (of_value v) (of_value w) = Some (SameValue v w)
equality _ _ = None
