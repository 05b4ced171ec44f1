-- What the frame law says of a text and of what it leaves alone: a block keeps what it does not write.
-- An expression or a test is kept where none of its names is written, and a variable where its name is not.
use Rattle.std.specs.Prelude.{◌≡◌, ℕ, true, false, List}
use Rattle.toy_imp.specs.declared.name.Name.{Name}
use Rattle.toy_imp.specs.Cell.{spelled}
use Rattle.toy_imp.specs.Block.{Block}
use Rattle.toy_imp.specs.Expr.{Expr}
use Rattle.toy_imp.specs.Test.{Test}
use Rattle.toy_imp.specs.Keeps.{KeepsExpr, KeepsTest, KeepsName}
use Rattle.side_conditions.specs.Places.{expr_has, test_has}
use Rattle.side_conditions.specs.Seeking.{named, writes_name}

abbrev pub UnwrittenExprKept : Type 0
UnwrittenExprKept = (b : Block) (e : Expr) → ((z : List ℕ) → writes_name b z ≡ true → expr_has (named z) e ≡ false) → KeepsExpr b e

abbrev pub UnwrittenTestKept : Type 0
UnwrittenTestKept = (b : Block) (q : Test) → ((z : List ℕ) → writes_name b z ≡ true → test_has (named z) q ≡ false) → KeepsTest b q

abbrev pub UnwrittenNameKept : Type 0
UnwrittenNameKept = (b : Block) (x : Name) → writes_name b (spelled x) ≡ false → KeepsName b x
