-- Refutations that are built from the end of the text: those that wait to be branches, the first in the text first. A split is put in
-- front of the first two (`joined`), and what is built is whole where one waits.
use Rattle.std.specs.Prelude.{List, [], ◌∷◌, Option, Some, None}
use Rattle.refutations.specs.Refutation.{Refutation}

abbrev pub only : List Refutation → Option Refutation
only [] = None
only (r ∷ []) = Some r
only (r ∷ s ∷ more) = None
