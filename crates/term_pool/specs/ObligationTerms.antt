-- The terms of which an obligation's terms are made, in the order of a walk, with repeats: known conjuncts, path, goal.
use Rattle.std.specs.Prelude.{List, [], ◌++◌, Option, Some, None}
use Rattle.std.specs.List.{flat_map}
use Rattle.rule_terms.specs.declared.obligation.Atom.{Atom}
use Rattle.rule_terms.specs.declared.obligation.Atom.TheVariants.{SameName, SameStore, SameValue, AtMost, Ends, Holds}
use Rattle.rule_terms.specs.declared.obligation.Literal.{Literal}
use Rattle.rule_terms.specs.declared.obligation.Conjunct.{Conjunct}
use Rattle.rule_terms.specs.declared.obligation.Obligation.{Obligation}
use Rattle.term_pool.specs.Numbered.{Term}
use Rattle.term_pool.specs.Growth.{store_terms, value_terms}

unfoldable pub atom_terms : Atom → List Term
atom_terms (SameName x y) = []
atom_terms (SameStore a b) = store_terms a ++ store_terms b
atom_terms (SameValue a b) = value_terms a ++ value_terms b
atom_terms (AtMost a b c) = value_terms a ++ value_terms b
atom_terms (Ends s) = store_terms s
atom_terms (Holds k s) = store_terms s

abbrev pub literal_terms : Literal → List Term
literal_terms l = atom_terms l.atom

abbrev pub literals_terms : List Literal → List Term
literals_terms ls = flat_map literal_terms ls

abbrev pub gives_terms : Option Literal → List Term
gives_terms None = []
gives_terms (Some l) = literal_terms l

abbrev pub conjunct_terms : Conjunct → List Term
conjunct_terms c = literals_terms c.when ++ gives_terms c.gives

abbrev pub conjuncts_terms : List Conjunct → List Term
conjuncts_terms cs = flat_map conjunct_terms cs

abbrev pub obligation_terms : Obligation → List Term
obligation_terms ob = conjuncts_terms ob.known ++ (literals_terms ob.path ++ conjunct_terms ob.goal)
