-- What a condition that an instance meets says of what stands for its parameters, whatever their kinds.
-- A parameter that stands for itself is 0, false, or never ends, so that most conditions say of it what they say of a filling.
use Rattle.std.specs.Prelude.{◌≡◌, ◌≢◌, ℕ, List, [], Option, Some, None, slice_get, refl}
use Rattle.std.proofs.Common.{sym, ◌∙◌, subst}
use Rattle.toy_imp.specs.declared.name.Name.{Name}
use Rattle.toy_imp.specs.declared.condition.Condition.TheVariants as condition
use Rattle.toy_imp.specs.declared.instance.Filling.{Filling}
use Rattle.toy_imp.specs.declared.instance.Filling.TheVariants as filling
use Rattle.toy_imp.specs.declared.instance.Instance.{Instance}
use Rattle.toy_imp.specs.Cell.{spelled}
use Rattle.toy_imp.specs.Store.{Store}
use Rattle.toy_imp.specs.Value.{value}
use Rattle.toy_imp.specs.Truth.{truth}
use Rattle.toy_imp.specs.Run.{Outcome, ended, halted}
use Rattle.toy_imp.specs.Ends.{ComesOut, Ends, IsQuiet}
use Rattle.toy_imp.specs.Fill.{name_by, expr_by, test_by, block_by, name_at, expr_at, test_at, block_at}
use Rattle.toy_imp.specs.Keeps.{KeepsExpr, KeepsTest, KeepsName, ExprIgnores, TestIgnores, StmtIgnores, StmtsCommute, IsPositive, IsConstant}
use Rattle.toy_imp.specs.Swaps.{SwapsOver}
use Rattle.toy_imp.specs.declared.condition.Region.{Region}
use Rattle.toy_imp.specs.Meets.{Keeps, Ignores, Commutes, Positive, Constant, Distinct, Quiet, Swaps, Meets}
use Rattle.toy_imp.specs.Block.{par_stmt, Block, empty, stmt}
use Rattle.toy_imp.specs.Test.{par_test}
use Rattle.toy_imp.specs.Expr.{par_expr}
use Rattle.toy_imp.proofs.Runs.{open_never_ends}

-- ---- of what stands for itself
open_comes_out : {A : Type 0} (k : ℕ) (s : Store) (o : Outcome) → ComesOut (stmt (par_stmt k) empty) s o → A
open_comes_out k s o r =
    let none : ◌≡◌ {A = Option Outcome} None (Some o) = sym (open_never_ends r.steps k [] s) ∙ r.reached in
    cc

pub open_ends : {A : Type 0} (k : ℕ) (s t : Store) → Ends (stmt (par_stmt k) empty) s t → A
open_ends k s t r = open_comes_out k s (ended t) r

open_is_quiet : (k : ℕ) → IsQuiet (stmt (par_stmt k) empty)
open_is_quiet k = record { never = λ s t r. open_comes_out k s (halted t) r }

open_expr_kept : (b : Block) (k : ℕ) → KeepsExpr b (par_expr k)
unfolding value
open_expr_kept b k = record { kept = λ s t r. refl }

open_test_kept : (b : Block) (k : ℕ) → KeepsTest b (par_test k)
unfolding truth
open_test_kept b k = record { kept = λ s t r. refl }

open_expr_ignores : (k : ℕ) (x : Name) → ExprIgnores (par_expr k) x
unfolding value
open_expr_ignores k x = record { same = λ s at v. refl }

open_test_ignores : (k : ℕ) (x : Name) → TestIgnores (par_test k) x
unfolding truth
open_test_ignores k x = record { same = λ s at v. refl }

open_stmt_ignores : (k : ℕ) (x : Name) → StmtIgnores (stmt (par_stmt k) empty) x
open_stmt_ignores k x = record { to = λ at v s u r. open_ends k _ u r; back = λ at v s t r. open_ends k s t r }

-- ---- `keeps`
keeps_expr : (k e : ℕ) (f g : Option Filling) → Keeps f g → KeepsExpr (block_by k f) (expr_by e g)
keeps_expr k e None g h = absurd h
keeps_expr k e (Some (filling.Name x)) g h = absurd h
keeps_expr k e (Some (filling.Expr a)) g h = absurd h
keeps_expr k e (Some (filling.Test q)) g h = absurd h
keeps_expr k e (Some (filling.Stmt b)) None h = absurd h
keeps_expr k e (Some (filling.Stmt b)) (Some (filling.Name x)) h = open_expr_kept b e
keeps_expr k e (Some (filling.Stmt b)) (Some (filling.Expr a)) h = h
keeps_expr k e (Some (filling.Stmt b)) (Some (filling.Test q)) h = open_expr_kept b e
keeps_expr k e (Some (filling.Stmt b)) (Some (filling.Stmt c)) h = absurd h

keeps_test : (k e : ℕ) (f g : Option Filling) → Keeps f g → KeepsTest (block_by k f) (test_by e g)
keeps_test k e None g h = absurd h
keeps_test k e (Some (filling.Name x)) g h = absurd h
keeps_test k e (Some (filling.Expr a)) g h = absurd h
keeps_test k e (Some (filling.Test q)) g h = absurd h
keeps_test k e (Some (filling.Stmt b)) None h = absurd h
keeps_test k e (Some (filling.Stmt b)) (Some (filling.Name x)) h = open_test_kept b e
keeps_test k e (Some (filling.Stmt b)) (Some (filling.Expr a)) h = open_test_kept b e
keeps_test k e (Some (filling.Stmt b)) (Some (filling.Test q)) h = h
keeps_test k e (Some (filling.Stmt b)) (Some (filling.Stmt c)) h = absurd h

keeps_name : (k e : ℕ) (f : Option Filling) (x : Name) → Keeps f (Some (filling.Name x)) → KeepsName (block_by k f) x
keeps_name k e None x h = absurd h
keeps_name k e (Some (filling.Name y)) x h = absurd h
keeps_name k e (Some (filling.Expr a)) x h = absurd h
keeps_name k e (Some (filling.Test q)) x h = absurd h
keeps_name k e (Some (filling.Stmt b)) x h = h

-- ---- `ignores`
ignores_expr : (k x : ℕ) (f g : Option Filling) → Ignores f g → ExprIgnores (expr_by k f) (name_by x g)
ignores_expr k x None g h = absurd h
ignores_expr k x (Some (filling.Name y)) g h = absurd h
ignores_expr k x (Some (filling.Expr e)) None h = absurd h
ignores_expr k x (Some (filling.Expr e)) (Some (filling.Name y)) h = h
ignores_expr k x (Some (filling.Expr e)) (Some (filling.Expr a)) h = absurd h
ignores_expr k x (Some (filling.Expr e)) (Some (filling.Test q)) h = absurd h
ignores_expr k x (Some (filling.Expr e)) (Some (filling.Stmt b)) h = absurd h
ignores_expr k x (Some (filling.Test q)) g h = open_expr_ignores k (name_by x g)
ignores_expr k x (Some (filling.Stmt b)) g h = open_expr_ignores k (name_by x g)

ignores_test : (k x : ℕ) (f g : Option Filling) → Ignores f g → TestIgnores (test_by k f) (name_by x g)
ignores_test k x None g h = absurd h
ignores_test k x (Some (filling.Name y)) g h = absurd h
ignores_test k x (Some (filling.Test p)) None h = absurd h
ignores_test k x (Some (filling.Test p)) (Some (filling.Name y)) h = h
ignores_test k x (Some (filling.Test p)) (Some (filling.Expr a)) h = absurd h
ignores_test k x (Some (filling.Test p)) (Some (filling.Test q)) h = absurd h
ignores_test k x (Some (filling.Test p)) (Some (filling.Stmt b)) h = absurd h
ignores_test k x (Some (filling.Expr e)) g h = open_test_ignores k (name_by x g)
ignores_test k x (Some (filling.Stmt b)) g h = open_test_ignores k (name_by x g)

ignores_stmt : (k x : ℕ) (f g : Option Filling) → Ignores f g → StmtIgnores (block_by k f) (name_by x g)
ignores_stmt k x None g h = absurd h
ignores_stmt k x (Some (filling.Name y)) g h = absurd h
ignores_stmt k x (Some (filling.Stmt b)) None h = absurd h
ignores_stmt k x (Some (filling.Stmt b)) (Some (filling.Name y)) h = h
ignores_stmt k x (Some (filling.Stmt b)) (Some (filling.Expr a)) h = absurd h
ignores_stmt k x (Some (filling.Stmt b)) (Some (filling.Test q)) h = absurd h
ignores_stmt k x (Some (filling.Stmt b)) (Some (filling.Stmt c)) h = absurd h
ignores_stmt k x (Some (filling.Expr e)) g h = open_stmt_ignores k (name_by x g)
ignores_stmt k x (Some (filling.Test q)) g h = open_stmt_ignores k (name_by x g)

-- ---- the others
commutes : (j k : ℕ) (f g : Option Filling) → Commutes f g → StmtsCommute (block_by j f) (block_by k g)
commutes j k None g h = absurd h
commutes j k (Some (filling.Name x)) g h = absurd h
commutes j k (Some (filling.Expr e)) g h = absurd h
commutes j k (Some (filling.Test q)) g h = absurd h
commutes j k (Some (filling.Stmt b)) None h = absurd h
commutes j k (Some (filling.Stmt b)) (Some (filling.Name x)) h = absurd h
commutes j k (Some (filling.Stmt b)) (Some (filling.Expr e)) h = absurd h
commutes j k (Some (filling.Stmt b)) (Some (filling.Test q)) h = absurd h
commutes j k (Some (filling.Stmt b)) (Some (filling.Stmt c)) h = h

quiet : (k : ℕ) (f : Option Filling) → Quiet f → IsQuiet (block_by k f)
quiet k None h = absurd h
quiet k (Some (filling.Name x)) h = absurd h
quiet k (Some (filling.Expr e)) h = absurd h
quiet k (Some (filling.Test q)) h = absurd h
quiet k (Some (filling.Stmt b)) h = h

swaps : (j k : ℕ) (f g : Option Filling) (counters : List Name) (region : Region) → Swaps f g counters region → SwapsOver (block_by j f) (block_by k g) counters region
swaps j k None g counters region h = absurd h
swaps j k (Some (filling.Name x)) g counters region h = absurd h
swaps j k (Some (filling.Expr e)) g counters region h = absurd h
swaps j k (Some (filling.Test q)) g counters region h = absurd h
swaps j k (Some (filling.Stmt b)) None counters region h = absurd h
swaps j k (Some (filling.Stmt b)) (Some (filling.Name x)) counters region h = absurd h
swaps j k (Some (filling.Stmt b)) (Some (filling.Expr e)) counters region h = absurd h
swaps j k (Some (filling.Stmt b)) (Some (filling.Test q)) counters region h = absurd h
swaps j k (Some (filling.Stmt b)) (Some (filling.Stmt c)) counters region h = h

positive : (k : ℕ) (f : Option Filling) → Positive f → IsPositive (expr_by k f)
positive k None h = absurd h
positive k (Some (filling.Name x)) h = absurd h
positive k (Some (filling.Expr e)) h = h
positive k (Some (filling.Test q)) h = absurd h
positive k (Some (filling.Stmt b)) h = absurd h

constant : (k : ℕ) (f : Option Filling) → Constant f → IsConstant (expr_by k f)
constant k None h = absurd h
constant k (Some (filling.Name x)) h = absurd h
constant k (Some (filling.Expr e)) h = h
constant k (Some (filling.Test q)) h = absurd h
constant k (Some (filling.Stmt b)) h = absurd h

distinct : (x y : ℕ) (f g : Option Filling) → Distinct f g → spelled (name_by x f) ≢ spelled (name_by y g)
distinct x y None g h = absurd h
distinct x y (Some (filling.Name a)) None h = absurd h
distinct x y (Some (filling.Name a)) (Some (filling.Name b)) h = h
distinct x y (Some (filling.Name a)) (Some (filling.Expr e)) h = absurd h
distinct x y (Some (filling.Name a)) (Some (filling.Test q)) h = absurd h
distinct x y (Some (filling.Name a)) (Some (filling.Stmt b)) h = absurd h
distinct x y (Some (filling.Expr e)) g h = absurd h
distinct x y (Some (filling.Test q)) g h = absurd h
distinct x y (Some (filling.Stmt b)) g h = absurd h

module _ (i : Instance) where
  pub keeps_value : (k e : ℕ) → Meets i (condition.Keeps k e) → KeepsExpr (block_at i k) (expr_at i e)
  keeps_value k e h = keeps_expr k e (slice_get i.fillings k) (slice_get i.fillings e) h

  pub keeps_truth : (k q : ℕ) → Meets i (condition.Keeps k q) → KeepsTest (block_at i k) (test_at i q)
  keeps_truth k q h = keeps_test k q (slice_get i.fillings k) (slice_get i.fillings q) h

  -- the second parameter stands for a name: what stands for itself has the empty name, and its variable may change
  pub keeps_variable : (k x : ℕ) (name : Name) → slice_get i.fillings x ≡ Some (filling.Name name) → Meets i (condition.Keeps k x) → KeepsName (block_at i k) (name_at i x)
  keeps_variable k x name is h =
      let kept : KeepsName (block_at i k) name = keeps_name k x (slice_get i.fillings k) name (subst (λ o. Keeps (slice_get i.fillings k) o) is h) in
      subst (λ o. KeepsName (block_at i k) (name_by x o)) (sym is) kept

  pub ignores_value : (e x : ℕ) → Meets i (condition.Ignores e x) → ExprIgnores (expr_at i e) (name_at i x)
  ignores_value e x h = ignores_expr e x (slice_get i.fillings e) (slice_get i.fillings x) h

  pub ignores_truth : (q x : ℕ) → Meets i (condition.Ignores q x) → TestIgnores (test_at i q) (name_at i x)
  ignores_truth q x h = ignores_test q x (slice_get i.fillings q) (slice_get i.fillings x) h

  pub ignores_run : (k x : ℕ) → Meets i (condition.Ignores k x) → StmtIgnores (block_at i k) (name_at i x)
  ignores_run k x h = ignores_stmt k x (slice_get i.fillings k) (slice_get i.fillings x) h

  pub runs_commute : (j k : ℕ) → Meets i (condition.Commutes j k) → StmtsCommute (block_at i j) (block_at i k)
  runs_commute j k h = commutes j k (slice_get i.fillings j) (slice_get i.fillings k) h

  pub statement_is_quiet : (k : ℕ) → Meets i (condition.Quiet k) → IsQuiet (block_at i k)
  statement_is_quiet k h = quiet k (slice_get i.fillings k) h

  pub statements_swap : (j k : ℕ) (names : List ℕ) (region : Region) → (h : Meets i (condition.Swaps j k names region)) → SwapsOver (block_at i j) (block_at i k) h.counters region
  statements_swap j k names region h = swaps j k (slice_get i.fillings j) (slice_get i.fillings k) h.counters region h.swaps

  pub is_positive : (e : ℕ) → Meets i (condition.Positive e) → IsPositive (expr_at i e)
  is_positive e h = positive e (slice_get i.fillings e) h

  pub is_constant : (e : ℕ) → Meets i (condition.Constant e) → IsConstant (expr_at i e)
  is_constant e h = constant e (slice_get i.fillings e) h

  pub names_distinct : (x y : ℕ) → Meets i (condition.Distinct x y) → spelled (name_at i x) ≢ spelled (name_at i y)
  names_distinct x y h = distinct x y (slice_get i.fillings x) (slice_get i.fillings y) h
