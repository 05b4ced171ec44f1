-- The store that a list of cells makes: from the store in which every cell holds 0 each value is written, the last one last.
use Rattle.std.specs.Prelude.{Bool, List, fold}
use Rattle.std.specs.Ordering.{int_eq}
use Rattle.std.specs.List.{list_all}
use Rattle.toy_imp.specs.Cell as places
use Rattle.toy_imp.specs.Store.{Store, read, write}
use Rattle.toy_run.specs.declared.cell.Cell.{Cell}
use Rattle.toy_run.specs.Stored.{empty_store}

abbrev pub cell_of : Cell → places.Cell
cell_of c = (c.name, c.indices)

abbrev pub with_cell : Store → Cell → Store
with_cell s c = write s (cell_of c) c.value

unfoldable pub store_by : List Cell → Store
store_by cells = fold with_cell empty_store cells

-- two lists make stores that hold the same in a cell, and in each of some cells
abbrev pub agrees_at : List Cell → List Cell → Cell → Bool
agrees_at a b c = int_eq (read (store_by a) (cell_of c)) (read (store_by b) (cell_of c))

abbrev pub agree_on : List Cell → List Cell → List Cell → Bool
agree_on a b cells = list_all (agrees_at a b) cells
