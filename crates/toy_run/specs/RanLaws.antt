-- The law of runs from the empty store: what a run comes to is determined by the block and the number of steps.
use Rattle.std.specs.Prelude.{◌≡◌, ℕ}
use Rattle.toy_imp.specs.Block.{Block}
use Rattle.toy_run.specs.declared.ran.Ran.{Ran}
use Rattle.toy_run.specs.Ran.{ComesTo}

abbrev pub OneRan : Type 0
OneRan = (block : Block) (steps : ℕ) (a b : Ran) → ComesTo block steps a → ComesTo block steps b → a ≡ b
