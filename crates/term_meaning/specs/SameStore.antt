-- Whether two stores are the same, as a test: their cells that are not 0, in order, agree one by one.
-- So are names, by their bytes.
use Rattle.std.specs.Prelude.{ℕ, ℤ, Bool, List}
use Rattle.std.specs.Ordering.{nat_cmp, int_cmp, ordering_then, is_eq}
use Rattle.std.specs.declared.cmp.Ordering.{Ordering}
use Rattle.std.specs.Cmp.Lexicographic.{slice_cmp}
use Rattle.std.specs.FinMap as map
use Rattle.toy_imp.specs.Cell.{Cell, cell_cmp}
use Rattle.toy_imp.specs.Store.{Store}

-- cells and what they hold
abbrev pub held_cmp : Cell × ℤ → Cell × ℤ → Ordering
held_cmp a b = ordering_then (cell_cmp a.0 b.0) (int_cmp a.1 b.1)

unfoldable pub same_store : Store → Store → Bool
same_store s t = is_eq (slice_cmp held_cmp (map.entries s.cells) (map.entries t.cells))

abbrev pub same_bytes : List ℕ → List ℕ → Bool
same_bytes a b = is_eq (slice_cmp nat_cmp a b)
