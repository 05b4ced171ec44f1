-- What a reading takes of the bytes that a source has left: a front part of them, of a length that
-- is known where the source tells its bytes.
use Rattle.std.specs.Prelude.{ℕ, ◌-◌, Option, None, Some, List, length}
use Rattle.std.specs.Io.KnownBytes.{Consumes}

-- a front part of the bytes was taken, and the others are left
pub record TakesFront (old new : Option (List ℕ)) : Type 0 where
  pub taken : List ℕ
  pub consumed : Consumes old new taken

-- how many bytes were taken, where the source tells its bytes
abbrev pub taken_count : Option (List ℕ) → Option (List ℕ) → Option ℕ
taken_count (Some before) (Some after) = Some (length before - length after)
taken_count _ _ = None
