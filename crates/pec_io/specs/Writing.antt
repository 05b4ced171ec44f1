-- What a write does to the room that a sink tells, and what a writing of many pieces leaves:
-- all of the bytes, or a front part of them that is not all.
use Rattle.std.specs.Prelude.{◌≡◌, ℕ, ◌-◌, ◌<◌, ◌≤◌, Option, None, Some, Result, Ok, List, length, take}
use Rattle.std.specs.Io.KnownBytes.{Appends}

-- a piece of n bytes for which the told room is enough is taken whole, and the room falls by n
abbrev pub TakesWhole : {E : Type 0} → Option ℕ → Option ℕ → ℕ → Result ℕ E → Type 0
TakesWhole (Some room) new n result = n ≤ room → (result ≡ Ok n) × (new ≡ Some (room - n))
TakesWhole None new n result = Unit {0}

-- the told room is enough for n bytes
abbrev pub HasRoom : Option ℕ → ℕ → Type 0
HasRoom (Some room) n = n ≤ room
HasRoom None n = ⊥

-- a front part of the bytes was appended, and not all of them
pub record AppendsPart (old new : Option (List ℕ)) (bytes : List ℕ) : Type 0 where
  pub count : ℕ
  pub short : count < length bytes
  pub appended : Appends old new (take count bytes)
