-- What the parts of an obligation read of a store, less what a list holds already.
use Rattle.std.specs.Prelude.{Bool, cond, List, [], ◌∷◌}
use Rattle.std.specs.List.{list_any, flat_map}
use Rattle.rule_terms.specs.Term.{StoreTerm, ValueTerm}
use Rattle.rule_terms.specs.Parts.{Part}
use Rattle.rule_terms.specs.Order.{value_same}
use Rattle.term_universe.specs.Universe.{reading}

-- the items that are not in a list
unfoldable pub not_in : {X : Type 0} → (X → X → Bool) → List X → List X → List X
not_in same base [] = []
not_in same base (y ∷ ys) = cond (list_any (same y) base) (not_in same base ys) (y ∷ not_in same base ys)

abbrev pub new_reading : List ValueTerm → StoreTerm → Part → List ValueTerm
new_reading base s p = not_in value_same base (reading s p)

abbrev pub new_readings : List ValueTerm → List Part → StoreTerm → List ValueTerm
new_readings base ps s = flat_map (new_reading base s) ps
