-- What occurs in an obligation, in the order of a walk and with repeats: store terms, value terms, places and parameters.
-- A place occurs where it is read or written, an expression parameter in `ev`, a test parameter in `holds`.
use Rattle.std.specs.Prelude.{ℕ, List, [], ◌∷◌, ◌++◌, Option, Some, None}
use Rattle.std.specs.List.{flat_map}
use Rattle.rule_terms.specs.Term.{StoreTerm, left_store, right_store, put, run, ValueTerm, num, get, ev, add, sub, mul, ValueTerms, no_terms, term, Place}
use Rattle.rule_terms.specs.declared.obligation.Atom.{Atom}
use Rattle.rule_terms.specs.declared.obligation.Atom.TheVariants.{SameName, SameStore, SameValue, AtMost, Ends, Holds}
use Rattle.rule_terms.specs.declared.obligation.Literal.{Literal}
use Rattle.rule_terms.specs.declared.obligation.Conjunct.{Conjunct}
use Rattle.rule_terms.specs.declared.obligation.Obligation.{Obligation}

pub data Part : Type 0 where
  a_store : StoreTerm → Part
  a_value : ValueTerm → Part
  a_place : Place → Part
  an_expr : ℕ → Part
  a_test : ℕ → Part

-- a term and what occurs in it, the whole before its arguments
unfoldable mutual
  pub store_parts : StoreTerm → List Part
  store_parts left_store = a_store left_store ∷ []
  store_parts right_store = a_store right_store ∷ []
  store_parts (put s x is v) = a_store (put s x is v) ∷ a_place (record { name = x; indices = is }) ∷ (store_parts s ++ (terms_parts is ++ value_parts v))
  store_parts (run k s) = a_store (run k s) ∷ store_parts s

  pub value_parts : ValueTerm → List Part
  value_parts (num z) = a_value (num z) ∷ []
  value_parts (get x is s) = a_value (get x is s) ∷ a_place (record { name = x; indices = is }) ∷ (terms_parts is ++ store_parts s)
  value_parts (ev k s) = a_value (ev k s) ∷ an_expr k ∷ store_parts s
  value_parts (add a b) = a_value (add a b) ∷ (value_parts a ++ value_parts b)
  value_parts (sub a b) = a_value (sub a b) ∷ (value_parts a ++ value_parts b)
  value_parts (mul a b) = a_value (mul a b) ∷ (value_parts a ++ value_parts b)

  pub terms_parts : ValueTerms → List Part
  terms_parts no_terms = []
  terms_parts (term v vs) = value_parts v ++ terms_parts vs

unfoldable pub atom_parts : Atom → List Part
atom_parts (SameName x y) = []
atom_parts (SameStore a b) = store_parts a ++ store_parts b
atom_parts (SameValue a b) = value_parts a ++ value_parts b
atom_parts (AtMost a b c) = value_parts a ++ value_parts b
atom_parts (Ends s) = store_parts s
atom_parts (Holds k s) = a_test k ∷ store_parts s

abbrev pub literal_parts : Literal → List Part
literal_parts l = atom_parts l.atom

abbrev pub literals_parts : List Literal → List Part
literals_parts ls = flat_map literal_parts ls

abbrev pub gives_parts : Option Literal → List Part
gives_parts None = []
gives_parts (Some l) = literal_parts l

abbrev pub conjunct_parts : Conjunct → List Part
conjunct_parts c = literals_parts c.when ++ gives_parts c.gives

abbrev pub conjuncts_parts : List Conjunct → List Part
conjuncts_parts cs = flat_map conjunct_parts cs

unfoldable pub obligation_parts : Obligation → List Part
obligation_parts ob = conjuncts_parts ob.known ++ (literals_parts ob.path ++ conjunct_parts ob.goal)

abbrev pub store_in : Part → List StoreTerm
store_in (a_store s) = s ∷ []
store_in _ = []

abbrev pub value_in : Part → List ValueTerm
value_in (a_value v) = v ∷ []
value_in _ = []

-- the store terms and the value terms among parts
abbrev pub stores_among : List Part → List StoreTerm
stores_among ps = flat_map store_in ps

abbrev pub values_among : List Part → List ValueTerm
values_among ps = flat_map value_in ps
