-- What atoms, literals, conjuncts and obligations over the numbers of a pool stand for: the same over the terms of these numbers.
-- `.._in` says that each number is of the pool, of a store where a store is asked and of a value where a value is.
use Rattle.std.specs.Prelude.{◌≡◌, Bool, true, ◌&&◌, List, map, Option, Some, None}
use Rattle.std.specs.List.{list_all}
use Rattle.rule_terms.specs.declared.obligation.Atom.{Atom}
use Rattle.rule_terms.specs.declared.obligation.Atom.TheVariants as tree
use Rattle.rule_terms.specs.declared.obligation.Literal.{Literal}
use Rattle.rule_terms.specs.declared.obligation.Conjunct.{Conjunct}
use Rattle.rule_terms.specs.declared.obligation.Obligation.{Obligation}
use Rattle.term_pool.specs.declared.node.Node.{Node}
use Rattle.term_pool.specs.declared.pooled.PooledAtom.{PooledAtom}
use Rattle.term_pool.specs.declared.pooled.PooledAtom.TheVariants.{SameName, SameStore, SameValue, AtMost, Ends, Holds}
use Rattle.term_pool.specs.declared.pooled.PooledLiteral.{PooledLiteral}
use Rattle.term_pool.specs.declared.pooled.PooledConjunct.{PooledConjunct}
use Rattle.term_pool.specs.declared.pooled.PooledObligation.{PooledObligation}
use Rattle.term_pool.specs.Numbered.{Term, store_numbered, value_numbered, has_store, has_value, terms_of_nodes}

unfoldable pub atom_numbered : List Term → PooledAtom → Atom
atom_numbered ts (SameName x y) = tree.SameName x y
atom_numbered ts (SameStore a b) = tree.SameStore (store_numbered ts a) (store_numbered ts b)
atom_numbered ts (SameValue a b) = tree.SameValue (value_numbered ts a) (value_numbered ts b)
atom_numbered ts (AtMost a b c) = tree.AtMost (value_numbered ts a) (value_numbered ts b) c
atom_numbered ts (Ends s) = tree.Ends (store_numbered ts s)
atom_numbered ts (Holds k s) = tree.Holds k (store_numbered ts s)

abbrev pub literal_numbered : List Term → PooledLiteral → Literal
literal_numbered ts x = record { sign = x.sign; atom = atom_numbered ts x.atom }

abbrev pub gives_numbered : List Term → Option PooledLiteral → Option Literal
gives_numbered ts None = None
gives_numbered ts (Some x) = Some (literal_numbered ts x)

abbrev pub conjunct_numbered : List Term → PooledConjunct → Conjunct
conjunct_numbered ts c = record { when = map (literal_numbered ts) c.when; gives = gives_numbered ts c.gives }

-- what an obligation by numbers stands for
abbrev pub obligation_numbered : List Node → PooledObligation → Obligation
obligation_numbered ns ob = record {
  params = ob.params;
  conditions = ob.conditions;
  known = map (conjunct_numbered (terms_of_nodes ns)) ob.known;
  path = map (literal_numbered (terms_of_nodes ns)) ob.path;
  goal = conjunct_numbered (terms_of_nodes ns) ob.goal;
}

-- the obligation of the same rule, over these
abbrev pub of_rule : Obligation → List PooledConjunct → List PooledLiteral → PooledConjunct → PooledObligation
of_rule ob known path goal = record { params = ob.params; conditions = ob.conditions; known = known; path = path; goal = goal }

-- whether the numbers are of the pool
unfoldable pub atom_in : List Term → PooledAtom → Bool
atom_in ts (SameName x y) = true
atom_in ts (SameStore a b) = has_store ts a && has_store ts b
atom_in ts (SameValue a b) = has_value ts a && has_value ts b
atom_in ts (AtMost a b c) = has_value ts a && has_value ts b
atom_in ts (Ends s) = has_store ts s
atom_in ts (Holds k s) = has_store ts s

abbrev pub literal_in : List Term → PooledLiteral → Bool
literal_in ts x = atom_in ts x.atom

abbrev pub gives_in : List Term → Option PooledLiteral → Bool
gives_in ts None = true
gives_in ts (Some x) = literal_in ts x

abbrev pub conjunct_in : List Term → PooledConjunct → Bool
conjunct_in ts c = list_all (literal_in ts) c.when && gives_in ts c.gives

abbrev pub obligation_in : List Node → PooledObligation → Bool
obligation_in ns ob =
    list_all (conjunct_in (terms_of_nodes ns)) ob.known && (list_all (literal_in (terms_of_nodes ns)) ob.path && conjunct_in (terms_of_nodes ns) ob.goal)

-- an item by numbers of a pool that stands for an item, and items beside one another
abbrev pub AtomOf : List Node → PooledAtom → Atom → Type 0
AtomOf ns x a = (atom_in (terms_of_nodes ns) x ≡ true) × (atom_numbered (terms_of_nodes ns) x ≡ a)

abbrev pub LiteralOf : List Node → PooledLiteral → Literal → Type 0
LiteralOf ns x l = (literal_in (terms_of_nodes ns) x ≡ true) × (literal_numbered (terms_of_nodes ns) x ≡ l)

abbrev pub LiteralsOf : List Node → List PooledLiteral → List Literal → Type 0
LiteralsOf ns xs ls = (list_all (literal_in (terms_of_nodes ns)) xs ≡ true) × (map (literal_numbered (terms_of_nodes ns)) xs ≡ ls)

abbrev pub GivesOf : List Node → Option PooledLiteral → Option Literal → Type 0
GivesOf ns x l = (gives_in (terms_of_nodes ns) x ≡ true) × (gives_numbered (terms_of_nodes ns) x ≡ l)

abbrev pub ConjunctOf : List Node → PooledConjunct → Conjunct → Type 0
ConjunctOf ns x c = (conjunct_in (terms_of_nodes ns) x ≡ true) × (conjunct_numbered (terms_of_nodes ns) x ≡ c)

abbrev pub ConjunctsOf : List Node → List PooledConjunct → List Conjunct → Type 0
ConjunctsOf ns xs cs = (list_all (conjunct_in (terms_of_nodes ns)) xs ≡ true) × (map (conjunct_numbered (terms_of_nodes ns)) xs ≡ cs)
