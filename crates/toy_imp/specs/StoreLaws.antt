-- The laws of stores: what is read after a write, and which stores are equal.
-- They say all that any proof needs to know of `read` and `write`.
use Rattle.std.specs.Prelude.{◌≡◌, ◌≢◌, ℤ}
use Rattle.toy_imp.specs.Cell.{Cell}
use Rattle.toy_imp.specs.Store.{Store, read, write}

-- a cell holds what was written into it
abbrev pub WriteIsRead : Type 0
WriteIsRead = (s : Store) (c : Cell) (v : ℤ) → read (write s c v) c ≡ v

-- every other cell holds what it held
abbrev pub WriteKeepsOthers : Type 0
WriteKeepsOthers = (s : Store) (c : Cell) (v : ℤ) (q : Cell) → q ≢ c → read (write s c v) q ≡ read s q

-- stores that agree at every cell are equal
abbrev pub AgreeingIsEqual : Type 0
AgreeingIsEqual = (s t : Store) → ((c : Cell) → read s c ≡ read t c) → s ≡ t
