-- A value that is spellable is the value of its canonical tree, under whatever names are declared.
-- So the canonical text of an expression, a test or a block can be read back, to the same value. And what is read is
-- spellable, if each test and each statement that is a name alone is declared.
use Rattle.std.specs.Prelude.{◌≡◌, List, length, true, false}
use Rattle.toy_imp.specs.declared.param.Param.{Param}
use Rattle.toy_imp.specs.Expr.{Expr}
use Rattle.toy_imp.specs.Test.{Test}
use Rattle.toy_imp.specs.Block.{Block}
use Rattle.toy_imp.specs.ExprGrammar.{ExprTree, expr_value}
use Rattle.toy_imp.specs.TestGrammar.{TestTree, test_tree_value}
use Rattle.toy_imp.specs.BlockGrammar.{StmtsTree, stmts_value}
use Rattle.toy_imp.specs.ExprCanonical.{canonical_expr}
use Rattle.toy_imp.specs.TestCanonical.{canonical_test}
use Rattle.toy_imp.specs.BlockCanonical.{canonical_block}
use Rattle.toy_imp.specs.Spellable.{is_spellable, is_spellable_test, is_spellable_block, is_missing}
use Rattle.toy_imp.specs.Uses.{test_any, block_any}

abbrev pub CanonicalExprReadsBack : Type 0
CanonicalExprReadsBack = (ps : List Param) (e : Expr) → is_spellable ps e ≡ true → expr_value ps (canonical_expr ps e) ≡ e

abbrev pub CanonicalTestReadsBack : Type 0
CanonicalTestReadsBack = (ps : List Param) (t : Test) → is_spellable_test ps t ≡ true → test_tree_value ps (canonical_test ps t) ≡ t

abbrev pub CanonicalBlockReadsBack : Type 0
CanonicalBlockReadsBack = (ps : List Param) (b : Block) → is_spellable_block ps b ≡ true → stmts_value ps (canonical_block ps b) ≡ b

abbrev pub ReadExprIsSpellable : Type 0
ReadExprIsSpellable = (ps : List Param) (a : ExprTree) → is_spellable ps (expr_value ps a) ≡ true

abbrev pub ReadTestIsSpellable : Type 0
ReadTestIsSpellable = (ps : List Param) (a : TestTree) → test_any (is_missing (length ps)) (test_tree_value ps a) ≡ false → is_spellable_test ps (test_tree_value ps a) ≡ true

abbrev pub ReadBlockIsSpellable : Type 0
ReadBlockIsSpellable = (ps : List Param) (a : StmtsTree) → block_any (is_missing (length ps)) (stmts_value ps a) ≡ false → is_spellable_block ps (stmts_value ps a) ≡ true
