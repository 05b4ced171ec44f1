-- Conditions of a rule that are listed and say that two runs, or a run and a write, may be exchanged.
use Rattle.std.specs.Prelude.{◌==◌, ◌&&◌, ◌||◌, ℕ, Bool, false, List}
use Rattle.std.specs.List.{list_any}
use Rattle.toy_imp.specs.declared.condition.Condition.{Condition}
use Rattle.toy_imp.specs.declared.condition.Condition.TheVariants.{Commutes, Ignores}

abbrev pub is_commutes : ℕ → ℕ → Condition → Bool
is_commutes j k (Commutes a b) = (a == j && b == k) || (a == k && b == j)
is_commutes j k _ = false

abbrev pub is_ignores : ℕ → ℕ → Condition → Bool
is_ignores k x (Ignores a b) = a == k && b == x
is_ignores k x _ = false

-- `commutes` of the two statement parameters is listed, in either order
unfoldable pub commute : List Condition → ℕ → ℕ → Bool
commute conditions j k = list_any (is_commutes j k) conditions

-- `ignores` of the statement parameter and the name parameter is listed
unfoldable pub ignores : List Condition → ℕ → ℕ → Bool
ignores conditions k x = list_any (is_ignores k x) conditions
