-- What the frame law says of a text and a name that does not stand in it: writing a cell of the name changes nothing for the text.
-- An expression and a test do not hold the name; a block neither reads nor writes it.
use Rattle.std.specs.Prelude.{◌≡◌, false}
use Rattle.toy_imp.specs.declared.name.Name.{Name}
use Rattle.toy_imp.specs.Cell.{spelled}
use Rattle.toy_imp.specs.Block.{Block}
use Rattle.toy_imp.specs.Expr.{Expr}
use Rattle.toy_imp.specs.Test.{Test}
use Rattle.toy_imp.specs.Keeps.{ExprIgnores, TestIgnores, StmtIgnores}
use Rattle.side_conditions.specs.Places.{expr_has, test_has}
use Rattle.side_conditions.specs.Seeking.{named, reads_name, writes_name}

abbrev pub AbsentIgnoredByExpr : Type 0
AbsentIgnoredByExpr = (e : Expr) (x : Name) → expr_has (named (spelled x)) e ≡ false → ExprIgnores e x

abbrev pub AbsentIgnoredByTest : Type 0
AbsentIgnoredByTest = (q : Test) (x : Name) → test_has (named (spelled x)) q ≡ false → TestIgnores q x

abbrev pub AbsentIgnoredByStmt : Type 0
AbsentIgnoredByStmt = (b : Block) (x : Name) → reads_name b (spelled x) ≡ false → writes_name b (spelled x) ≡ false → StmtIgnores b x
