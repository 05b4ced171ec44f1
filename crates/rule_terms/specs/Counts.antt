-- How large terms, literals and an obligation are, over its known conjuncts, its path and its goal: nodes, and depth.
-- Code counts up to 2^64 - 1, and stands still there.
use Rattle.std.specs.Prelude.{ℕ, ◌+◌, ◌-◌, ◌^◌, suc, min, max, List, [], ◌∷◌, Option, Some, None}
use Rattle.rule_terms.specs.Term.{StoreTerm, left_store, right_store, put, run, ValueTerm, num, get, ev, add, sub, mul, ValueTerms, no_terms, term, store_depth, value_depth}
use Rattle.rule_terms.specs.declared.obligation.Atom.{Atom}
use Rattle.rule_terms.specs.declared.obligation.Atom.TheVariants.{SameName, SameStore, SameValue, AtMost, Ends, Holds}
use Rattle.rule_terms.specs.declared.obligation.Literal.{Literal}
use Rattle.rule_terms.specs.declared.obligation.Conjunct.{Conjunct}
use Rattle.rule_terms.specs.declared.obligation.Obligation.{Obligation}

-- nodes: one for each constructor of a store term or value term, with repeats
unfoldable mutual
  pub store_nodes : StoreTerm → ℕ
  store_nodes left_store = 1
  store_nodes right_store = 1
  store_nodes (put s x is v) = suc (store_nodes s + (terms_nodes is + value_nodes v))
  store_nodes (run k s) = suc (store_nodes s)

  pub value_nodes : ValueTerm → ℕ
  value_nodes (num z) = 1
  value_nodes (get x is s) = suc (terms_nodes is + store_nodes s)
  value_nodes (ev k s) = suc (store_nodes s)
  value_nodes (add a b) = suc (value_nodes a + value_nodes b)
  value_nodes (sub a b) = suc (value_nodes a + value_nodes b)
  value_nodes (mul a b) = suc (value_nodes a + value_nodes b)

  pub terms_nodes : ValueTerms → ℕ
  terms_nodes no_terms = 0
  terms_nodes (term v vs) = value_nodes v + terms_nodes vs

unfoldable pub atom_nodes : Atom → ℕ
atom_nodes (SameName x y) = 0
atom_nodes (SameStore a b) = store_nodes a + store_nodes b
atom_nodes (SameValue a b) = value_nodes a + value_nodes b
atom_nodes (AtMost a b c) = value_nodes a + value_nodes b
atom_nodes (Ends s) = store_nodes s
atom_nodes (Holds k s) = store_nodes s

-- .. and one for each literal
abbrev pub literal_nodes : Literal → ℕ
literal_nodes l = suc (atom_nodes l.atom)

abbrev pub literals_nodes : List Literal → ℕ
literals_nodes [] = 0
literals_nodes (l ∷ ls) = literal_nodes l + literals_nodes ls

abbrev pub gives_nodes : Option Literal → ℕ
gives_nodes None = 0
gives_nodes (Some l) = literal_nodes l

abbrev pub conjunct_nodes : Conjunct → ℕ
conjunct_nodes c = literals_nodes c.when + gives_nodes c.gives

abbrev pub conjuncts_nodes : List Conjunct → ℕ
conjuncts_nodes [] = 0
conjuncts_nodes (c ∷ cs) = conjunct_nodes c + conjuncts_nodes cs

abbrev pub obligation_nodes : Obligation → ℕ
obligation_nodes ob = conjuncts_nodes ob.known + (literals_nodes ob.path + conjunct_nodes ob.goal)

-- depth: the greatest number of nested constructors of store and value terms
abbrev pub atom_depth : Atom → ℕ
atom_depth (SameName x y) = 0
atom_depth (SameStore a b) = max (store_depth a) (store_depth b)
atom_depth (SameValue a b) = max (value_depth a) (value_depth b)
atom_depth (AtMost a b c) = max (value_depth a) (value_depth b)
atom_depth (Ends s) = store_depth s
atom_depth (Holds k s) = store_depth s

abbrev pub literal_depth : Literal → ℕ
literal_depth l = atom_depth l.atom

abbrev pub literals_depth : List Literal → ℕ
literals_depth [] = 0
literals_depth (l ∷ ls) = max (literal_depth l) (literals_depth ls)

abbrev pub gives_depth : Option Literal → ℕ
gives_depth None = 0
gives_depth (Some l) = literal_depth l

abbrev pub conjunct_depth : Conjunct → ℕ
conjunct_depth c = max (literals_depth c.when) (gives_depth c.gives)

abbrev pub conjuncts_depth : List Conjunct → ℕ
conjuncts_depth [] = 0
conjuncts_depth (c ∷ cs) = max (conjunct_depth c) (conjuncts_depth cs)

abbrev pub obligation_depth : Obligation → ℕ
obligation_depth ob = max (conjuncts_depth ob.known) (max (literals_depth ob.path) (conjunct_depth ob.goal))

abbrev pub saturated : ℕ → ℕ
saturated n = min n (2 ^ 64 - 1)
