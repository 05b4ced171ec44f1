-- A cell is a name and a list of whole numbers, its indices; a variable is a cell without indices.
-- Two cells are the same exactly where the bytes of their names and all their indices agree.
use Rattle.std.specs.Prelude.{ℕ, ℤ, List, []}
use Rattle.std.specs.Ordering.{nat_cmp, int_cmp, ordering_then}
use Rattle.std.specs.declared.cmp.Ordering.{Ordering}
use Rattle.std.specs.Cmp.Lexicographic.{slice_cmp}
use Rattle.toy_imp.specs.declared.name.Name.{Name}
use Rattle.toy_imp.specs.declared.name.Name.TheVariants.{Own, Par}

-- the name's bytes, and the indices
abbrev pub Cell : Type 0
Cell = List ℕ × List ℤ

-- the bytes of a name; a parameter that stands for no name has none
abbrev pub spelled : Name → List ℕ
spelled (Own bytes) = bytes
spelled (Par k) = []

abbrev pub variable : Name → Cell
variable x = (spelled x, [])

-- by the bytes of the names, then by the indices, both in lexicographic order
abbrev pub cell_cmp : Cell → Cell → Ordering
cell_cmp a b = ordering_then (slice_cmp nat_cmp a.0 b.0) (slice_cmp int_cmp a.1 b.1)
