-- The laws of universes: the parts of their terms are in them, and they do not depend on the order of what is known.
use Rattle.std.specs.Prelude.{◌↔◌, ℕ, List, Contains}
use Rattle.rule_terms.specs.Term.{StoreTerm, ValueTerm, get, ev}
use Rattle.rule_terms.specs.Parts.{Part, a_store, a_value, a_place, an_expr, a_test, store_parts, value_parts, obligation_parts}
use Rattle.term_universe.specs.Universe.{universe_stores, universe_values, universe_tests}
use Rattle.rule_terms.specs.declared.obligation.Conjunct.{Conjunct}
use Rattle.rule_terms.specs.declared.obligation.Obligation.{Obligation}

-- what the universe holds of what occurs: a store term or value term itself, what is read at each of its stores, a test at each of them
abbrev pub InUniverse : Obligation → Part → Type 0
InUniverse ob (a_store s) = Contains (universe_stores ob) s
InUniverse ob (a_value v) = Contains (universe_values ob) v
InUniverse ob (a_place p) = (s : StoreTerm) → Contains (universe_stores ob) s → Contains (universe_values ob) (get p.name p.indices s)
InUniverse ob (an_expr k) = (s : StoreTerm) → Contains (universe_stores ob) s → Contains (universe_values ob) (ev k s)
InUniverse ob (a_test k) = (s : StoreTerm) → Contains (universe_stores ob) s → Contains (universe_tests ob) (k, s)

-- of what occurs in the obligation, and in the terms of the universe
abbrev pub SubtermsAreThere : Type 0
SubtermsAreThere = ((ob : Obligation) (p : Part) → Contains (obligation_parts ob) p → InUniverse ob p)
    × ((ob : Obligation) (s : StoreTerm) → Contains (universe_stores ob) s → (p : Part) → Contains (store_parts s) p → InUniverse ob p)
    × ((ob : Obligation) (v : ValueTerm) → Contains (universe_values ob) v → (p : Part) → Contains (value_parts v) p → InUniverse ob p)
    × ((ob : Obligation) (t : ℕ × StoreTerm) → Contains (universe_tests ob) t → Contains (universe_stores ob) t.1)

-- two lists with the same members, as often and in whatever order
pub record SameMembers {X : Type 0} (xs ys : List X) : Type 0 where
  pub each : (x : X) → Contains xs x ↔ Contains ys x

pub record SameUniverse (ob other : Obligation) : Type 0 where
  pub stores : SameMembers (universe_stores ob) (universe_stores other)
  pub values : SameMembers (universe_values ob) (universe_values other)
  pub tests : SameMembers (universe_tests ob) (universe_tests other)

abbrev pub OrderIsFree : Type 0
OrderIsFree = (ob : Obligation) (known : List Conjunct) → SameMembers ob.known known → SameUniverse ob (record ob { known = known })
