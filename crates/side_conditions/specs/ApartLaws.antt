-- What the frame law says of two texts: blocks that are apart end alike in both orders, and one without an `assert` is quiet. Two blocks are apart where neither writes a name that the other reads or writes.
use Rattle.std.specs.Prelude.{◌≡◌, ℕ, true, false, ◌||◌, List}
use Rattle.toy_imp.specs.Block.{Block, append}
use Rattle.toy_imp.specs.Ends.{EndAlike, IsQuiet}
use Rattle.side_conditions.specs.Places.{block_asserts}
use Rattle.side_conditions.specs.Seeking.{reads_name, writes_name}

-- the first writes no name that the second reads or writes
abbrev pub WritesApart : Block → Block → Type 0
WritesApart b c = (z : List ℕ) → writes_name b z ≡ true → (reads_name c z || writes_name c z) ≡ false

-- so blocks of which neither does end alike in both orders; whether they halt is not said
abbrev pub ApartCommute : Type 0
ApartCommute = (b c : Block) → WritesApart b c → WritesApart c b → EndAlike (append b c) (append c b)

-- a block in which no `assert` stands halts from no store
abbrev pub AssertlessIsQuiet : Type 0
AssertlessIsQuiet = (b : Block) → block_asserts b ≡ false → IsQuiet b
