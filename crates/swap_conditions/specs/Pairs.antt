-- The names of the counters over which two statements swap, and the places that clash.
use Rattle.std.specs.Prelude.{Bool, List, [], ◌∷◌}
use Rattle.toy_imp.specs.declared.name.Name.{Name}
use Rattle.toy_imp.specs.Expr.{Exprs}
use Rattle.swap_conditions.specs.declared.swapping.Counters.{Counters}
use Rattle.swap_conditions.specs.declared.swapping.Counters.TheVariants as counters
use Rattle.swap_conditions.specs.declared.swapping.Swap.{Swap}
use Rattle.swap_conditions.specs.SwapText.{clashes}

abbrev pub names_of : Counters → List Name
names_of (counters.One k) = k.now ∷ []
names_of (counters.Two k l) = k.now ∷ l.now ∷ []

-- a place of a name that they share, without what the region demands
abbrev pub clash_of : Swap → Name → Exprs → Bool
clash_of q = clashes q.region (names_of q.counters) q.first.now q.second.now
