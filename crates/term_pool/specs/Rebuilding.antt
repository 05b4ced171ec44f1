-- How far up the numbers of a list go: above each of them.
use Rattle.std.specs.Prelude.{ℕ, suc, max, List, [], ◌∷◌}

abbrev pub above : List ℕ → ℕ
above [] = 0
above (n ∷ ns) = max (suc n) (above ns)
