-- What holds of each own name in a value: of the names that are no parameters of a rule.
-- A text can have those that are IDs and no reserved words (`IsName` of texts).
use Rattle.std.specs.Prelude.{ℕ, List}
use Rattle.toy_imp.specs.declared.name.Name.{Name}
use Rattle.toy_imp.specs.declared.name.Name.TheVariants.{Own, Par}
use Rattle.toy_imp.specs.Expr.{Expr, num, at, add, sub, mul, par_expr, Exprs, no_exprs, expr}
use Rattle.toy_imp.specs.Test.{Test, less, less_eq, equal, not_of, and_of, or_of, par_test}
use Rattle.toy_imp.specs.Block.{Stmt, skip, put, assert_that, if_then, while_do, for_to, let_in, par_stmt, Block, empty, stmt}

abbrev pub NameIs : (List ℕ → Type 0) → Name → Type 0
NameIs P (Own x) = P x
NameIs P (Par k) = Unit {0}

abbrev mutual
  pub ExprNamesAre : (List ℕ → Type 0) → Expr → Type 0
  ExprNamesAre P (num z) = Unit {0}
  ExprNamesAre P (at x es) = NameIs P x × ExprsNamesAre P es
  ExprNamesAre P (add a b) = ExprNamesAre P a × ExprNamesAre P b
  ExprNamesAre P (sub a b) = ExprNamesAre P a × ExprNamesAre P b
  ExprNamesAre P (mul a b) = ExprNamesAre P a × ExprNamesAre P b
  ExprNamesAre P (par_expr k) = Unit {0}

  pub ExprsNamesAre : (List ℕ → Type 0) → Exprs → Type 0
  ExprsNamesAre P no_exprs = Unit {0}
  ExprsNamesAre P (expr e es) = ExprNamesAre P e × ExprsNamesAre P es

abbrev pub TestNamesAre : (List ℕ → Type 0) → Test → Type 0
TestNamesAre P (less a b) = ExprNamesAre P a × ExprNamesAre P b
TestNamesAre P (less_eq a b) = ExprNamesAre P a × ExprNamesAre P b
TestNamesAre P (equal a b) = ExprNamesAre P a × ExprNamesAre P b
TestNamesAre P (not_of t) = TestNamesAre P t
TestNamesAre P (and_of t u) = TestNamesAre P t × TestNamesAre P u
TestNamesAre P (or_of t u) = TestNamesAre P t × TestNamesAre P u
TestNamesAre P (par_test k) = Unit {0}

abbrev mutual
  pub StmtNamesAre : (List ℕ → Type 0) → Stmt → Type 0
  StmtNamesAre P skip = Unit {0}
  StmtNamesAre P (put x es e) = NameIs P x × ExprsNamesAre P es × ExprNamesAre P e
  StmtNamesAre P (assert_that t) = TestNamesAre P t
  StmtNamesAre P (if_then t b c) = TestNamesAre P t × BlockNamesAre P b × BlockNamesAre P c
  StmtNamesAre P (while_do t b) = TestNamesAre P t × BlockNamesAre P b
  StmtNamesAre P (for_to x lo hi b) = NameIs P x × ExprNamesAre P lo × ExprNamesAre P hi × BlockNamesAre P b
  StmtNamesAre P (let_in x e b) = NameIs P x × ExprNamesAre P e × BlockNamesAre P b
  StmtNamesAre P (par_stmt k) = Unit {0}

  pub BlockNamesAre : (List ℕ → Type 0) → Block → Type 0
  BlockNamesAre P empty = Unit {0}
  BlockNamesAre P (stmt s b) = StmtNamesAre P s × BlockNamesAre P b
