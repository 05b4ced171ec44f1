-- The cells of a store that are not 0, each once, in order of name bytes, then number of indices, then indices.
use Rattle.std.specs.Prelude.{◌≡◌, ◌≢◌, ◌↔◌, pos, List, [], Contains}
use Rattle.std.specs.declared.cmp.Ordering.{Ordering}
use Rattle.std.specs.List.Sorted.{IsStrictlySortedBy}
use Rattle.toy_imp.specs.Cell as imp
use Rattle.toy_imp.specs.Store.{Store, read}
use Rattle.toy_run.specs.declared.cell.Cell.{Cell}
use Rattle.toy_run.specs.Place.{listed_cmp}

-- the name and the indices
abbrev pub key_of : Cell → imp.Cell
key_of c = (c.name, c.indices)

abbrev pub cell_order : Cell → Cell → Ordering
cell_order a b = listed_cmp (key_of a) (key_of b)

abbrev pub has_indices : Cell → Type 0
has_indices c = c.indices ≢ []

abbrev pub is_not_zero : Cell → Type 0
is_not_zero c = c.value ≢ pos 0

pub record AreCells (s : Store) (cells : List Cell) : Type 0 where
  pub in_order : IsStrictlySortedBy cell_order cells
  pub exact : (c : Cell) → Contains cells c ↔ ((read s (c.name, c.indices) ≡ c.value) × (c.value ≢ pos 0))
