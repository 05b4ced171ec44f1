-- What the conditions on statements and expressions mean: keeping a value, ignoring a name, commuting, being positive, being constant.
-- They speak of runs that end; whether a block ends is said by none of them, and whether it halts by `commutes` alone.
use Rattle.std.specs.Prelude.{◌≡◌, ℤ, pos, List, ◌≤ℤ◌}
use Rattle.toy_imp.specs.declared.name.Name.{Name}
use Rattle.toy_imp.specs.Cell.{spelled, variable}
use Rattle.toy_imp.specs.Store.{Store, read, write}
use Rattle.toy_imp.specs.Value.{value}
use Rattle.toy_imp.specs.Truth.{truth}
use Rattle.toy_imp.specs.Ends.{Ends, EndAlike, IsQuiet}
use Rattle.toy_imp.specs.Expr.{Expr}
use Rattle.toy_imp.specs.Test.{Test}
use Rattle.toy_imp.specs.Block.{Block, append}

-- each run of the block that ends leaves the value of the expression
pub record KeepsExpr (b : Block) (e : Expr) : Type 0 where
  pub kept : (s t : Store) → Ends b s t → value e t ≡ value e s

-- .. the truth of the test
pub record KeepsTest (b : Block) (q : Test) : Type 0 where
  pub kept : (s t : Store) → Ends b s t → truth q t ≡ truth q s

-- .. the variable of the name; its cells with indices may change
pub record KeepsName (b : Block) (x : Name) : Type 0 where
  pub kept : (s t : Store) → Ends b s t → read t (variable x) ≡ read s (variable x)

-- writing any cell of the name does not change the value of the expression
pub record ExprIgnores (e : Expr) (x : Name) : Type 0 where
  pub same : (s : Store) (at : List ℤ) (v : ℤ) → value e (write s (spelled x, at) v) ≡ value e s

-- .. the truth of the test
pub record TestIgnores (q : Test) (x : Name) : Type 0 where
  pub same : (s : Store) (at : List ℤ) (v : ℤ) → truth q (write s (spelled x, at) v) ≡ truth q s

-- for each cell of the name and each number v: from a store with v in that cell the block ends in u exactly where from the store itself it ends in some t, and u is t with v in that cell
pub record StmtIgnores (b : Block) (x : Name) : Type 0 where
  pub to : (at : List ℤ) (v : ℤ) (s u : Store) → Ends b (write s (spelled x, at) v) u → (t : Store) × Ends b s t × (u ≡ write t (spelled x, at) v)
  pub back : (at : List ℤ) (v : ℤ) (s t : Store) → Ends b s t → Ends b (write s (spelled x, at) v) (write t (spelled x, at) v)

-- two blocks that halt from no store, and one after the other end alike in both orders
pub record StmtsCommute (b c : Block) : Type 0 where
  pub first_quiet : IsQuiet b
  pub second_quiet : IsQuiet c
  pub alike : EndAlike (append b c) (append c b)

-- at least 1 in every store
pub record IsPositive (e : Expr) : Type 0 where
  pub positive : (s : Store) → pos 1 ≤ℤ value e s

-- the same in every store
pub record IsConstant (e : Expr) : Type 0 where
  pub same : (s t : Store) → value e s ≡ value e t
