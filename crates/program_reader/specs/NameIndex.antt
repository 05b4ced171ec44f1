-- What an index of declared names has: at each name the number of the first parameter that is called so.
use Rattle.std.specs.Prelude.{◌≡◌, ℕ, List, Option, None, Some, bytes_eq, if◌then◌else◌}
use Rattle.std.specs.declared.vec.Vec.{Vec}
use Rattle.std.specs.declared.alloc.Global.{Global}
use Rattle.std.specs.List.{position_from}
use Rattle.std.specs.Map.{lookup}
use Rattle.std.specs.Option.{option_or}
use Rattle.toy_imp.specs.declared.param.Param.{Param}

-- the number that the entries have at a name
abbrev pub number_at : List (Vec ℕ Global × ℕ) → List ℕ → Option ℕ
number_at entries x = lookup (λ name. bytes_eq x name.items) entries

-- the number of the first parameter of this name, where the first of them all has number i
abbrev pub first_from : ℕ → List Param → List ℕ → Option ℕ
first_from i ps x = position_from (λ p. bytes_eq p.name x) i ps

-- each name has the number of its first parameter, and no other name has one
abbrev pub IsIndexOf : List (Vec ℕ Global × ℕ) → List Param → Type 0
IsIndexOf entries ps = (x : List ℕ) → number_at entries x ≡ first_from 0 ps x

-- the new entries have what the old ones have, and this number at this name where the old ones have none
abbrev pub AddsNumber : List (Vec ℕ Global × ℕ) → List ℕ → ℕ → List (Vec ℕ Global × ℕ) → Type 0
AddsNumber old name number new = (x : List ℕ) → number_at new x ≡ option_or (number_at old x) (if bytes_eq name x then Some number else None)
