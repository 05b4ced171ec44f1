-- How a pool grows: nodes that are missing go last, parts before the whole, each once; what was there keeps its number.
use Rattle.std.specs.Prelude.{◌≡◌, Bool, false, List, [], ◌∷◌, ◌++◌}
use Rattle.rule_terms.specs.Term.{StoreTerm, left_store, right_store, put, run, ValueTerm, num, get, ev, add, sub, mul, ValueTerms, no_terms, term}
use Rattle.rule_terms.specs.Order.{store_same, value_same}
use Rattle.rule_terms.specs.Added.{added_all}
use Rattle.term_pool.specs.declared.node.Node.{Node}
use Rattle.term_pool.specs.Numbered.{Term, a_store, a_value, terms_of_nodes}

-- the terms of which a term is made, itself last, in the order in which terms are written, with repeats
unfoldable mutual
  pub store_terms : StoreTerm → List Term
  store_terms left_store = a_store left_store ∷ []
  store_terms right_store = a_store right_store ∷ []
  store_terms (put s x is v) = (store_terms s ++ (indices_terms is ++ value_terms v)) ++ a_store (put s x is v) ∷ []
  store_terms (run k s) = store_terms s ++ a_store (run k s) ∷ []

  pub value_terms : ValueTerm → List Term
  value_terms (num z) = a_value (num z) ∷ []
  value_terms (get x is s) = (indices_terms is ++ store_terms s) ++ a_value (get x is s) ∷ []
  value_terms (ev k s) = store_terms s ++ a_value (ev k s) ∷ []
  value_terms (add a b) = (value_terms a ++ value_terms b) ++ a_value (add a b) ∷ []
  value_terms (sub a b) = (value_terms a ++ value_terms b) ++ a_value (sub a b) ∷ []
  value_terms (mul a b) = (value_terms a ++ value_terms b) ++ a_value (mul a b) ∷ []

  pub indices_terms : ValueTerms → List Term
  indices_terms no_terms = []
  indices_terms (term v vs) = value_terms v ++ indices_terms vs

unfoldable pub term_same : Term → Term → Bool
term_same (a_store s) (a_store t) = store_same s t
term_same (a_value v) (a_value w) = value_same v w
term_same _ _ = false

-- the old nodes stay in front, and the terms are the old ones and then those of ts that were missing, each once
pub record Adds (old new : List Node) (ts : List Term) : Type 0 where
  pub more : List Node
  pub kept : new ≡ old ++ more
  pub terms : terms_of_nodes new ≡ added_all term_same (terms_of_nodes old) ts

-- the old nodes stay in front
abbrev pub Extends : List Node → List Node → Type 0
Extends old new = (more : List Node) × (new ≡ old ++ more)
