-- A store term with all its writes taken off, and the places of these writes, outermost first.
use Rattle.std.specs.Prelude.{List, [], ◌∷◌}
use Rattle.rule_terms.specs.Term.{StoreTerm, left_store, right_store, put, run, Place}

unfoldable pub base_of : StoreTerm → StoreTerm
base_of left_store = left_store
base_of right_store = right_store
base_of (put s x is v) = base_of s
base_of (run k s) = run k s

unfoldable pub written_in : StoreTerm → List Place
written_in left_store = []
written_in right_store = []
written_in (put s x is v) = record { name = x; indices = is } ∷ written_in s
written_in (run k s) = []
