-- The plain trees of terms and places, from parts that are trees already.
-- The indices of a place are a list there and `ValueTerms` in the tree.
use Rattle.std.specs.Prelude.{ℕ, List, [], ◌∷◌}
use Rattle.rule_terms.specs.Term.{StoreTerm, left_store, right_store, put, run, ValueTerm, num, get, ev, add, sub, mul, ValueTerms, no_terms, term, Place}
use Rattle.rule_terms.specs.declared.term.StoreNode.{StoreNode}
use Rattle.rule_terms.specs.declared.term.StoreNode.TheVariants.{L, R, Put, Run}
use Rattle.rule_terms.specs.declared.term.ValueNode.{ValueNode}
use Rattle.rule_terms.specs.declared.term.ValueNode.TheVariants.{Num, Get, Ev, Add, Sub, Mul}

abbrev pub terms_of : List ValueTerm → ValueTerms
terms_of [] = no_terms
terms_of (v ∷ vs) = term v (terms_of vs)

abbrev pub place_of : ℕ → List ValueTerm → Place
place_of x is = record { name = x; indices = terms_of is }

abbrev pub store_of : StoreNode → StoreTerm
store_of L = left_store
store_of R = right_store
store_of (Put s p v) = put s p.name p.indices v
store_of (Run k s) = run k s

abbrev pub value_of : ValueNode → ValueTerm
value_of (Num z) = num z
value_of (Get p s) = get p.name p.indices s
value_of (Ev k s) = ev k s
value_of (Add a b) = add a b
value_of (Sub a b) = sub a b
value_of (Mul a b) = mul a b
