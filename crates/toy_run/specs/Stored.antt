-- The store that lists of entries make: from the empty store the value of each is written into its place, and then the value of
-- each variable under its name. Every cell of the empty store holds 0.
use Rattle.std.specs.Prelude.{◌≡◌, ◌≢◌, ℕ, ◌<◌, ℤ, pos, List, [], ◌∷◌, length, slice_index_or, Some}
use Rattle.std.specs.List.{AllByRecursion}
use Rattle.std.specs.declared.cmp.Ordering.TheVariants.{Less}
use Rattle.std.specs.FinMap as map
use denote.Bor.{Bor}
use Rattle.toy_imp.specs.Cell.{cell_cmp}
use Rattle.toy_imp.specs.Cell as imp
use Rattle.toy_imp.specs.Store.{Store, write}
use Rattle.toy_run.specs.declared.cell.Cell.{Cell}
use Rattle.toy_run.specs.declared.place.Place.{Place}
use Rattle.toy_run.specs.Cells.{key_of}
use Rattle.toy_run.specs.Place.{cell_of, listed_cmp}

-- no place has an entry there
pub none_held : (c : imp.Cell) → map.get (map.empty {X = ℤ} {R = cell_cmp}) c ≢ Some (pos 0)
none_held c = rw (map.get-empty cell_cmp c) (λ e. cc)

unfoldable pub empty_store : Store
empty_store = record { cells = map.empty; nonzero = none_held }

unfoldable pub store_of : List (Place × ℤ) → Store
store_of [] = empty_store
store_of (e ∷ es) = write (store_of es) (cell_of e.0) e.1

-- a name with a value stands for the variable of that name
unfoldable pub with_variables : List (Bor (List ℕ) × ℤ) → Store → Store
with_variables [] s = s
with_variables (e ∷ es) s = write (with_variables es s) (e.0.now, []) e.1

-- the store of variables and of cells with indices
abbrev pub store_by : List (Bor (List ℕ) × ℤ) → List (Place × ℤ) → Store
store_by vs es = with_variables vs (store_of es)

-- cells written over a store, the first of the list last
unfoldable pub with_cells : List Cell → Store → Store
with_cells [] s = s
with_cells (c ∷ cs) s = write (with_cells cs s) (key_of c) c.value

-- no cell of a list is this one
abbrev pub IsApart : imp.Cell → List Cell → Type 0
IsApart k cs = AllByRecursion (λ c. key_of c ≢ k) cs

-- each cell of a list is listed before this one
abbrev pub IsBehind : imp.Cell → List Cell → Type 0
IsBehind k cs = AllByRecursion (λ c. listed_cmp (key_of c) k ≡ Less) cs

-- this cell stands in a list at a number
abbrev pub IsCellAt : List Cell → imp.Cell → ℕ → Type 0
IsCellAt cs k i = (i < length cs) × ((d : Cell) → key_of (slice_index_or cs i d) ≡ k)
