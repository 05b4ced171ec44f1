-- Lists of expressions and of statements, filled one item after another.
-- What is filled of a list's front grows by what stands for the next item.
use Rattle.std.specs.Prelude.{◌≡◌, ℕ, zero, suc, ◌+◌, ◌<◌, ◌≤◌, List, [], ◌∷◌, map, take, length, refl, Result, Ok, Err, IfOk}
use Rattle.std.proofs.Common.{sym, ◌∙◌, ap, arith, get_or, add-one}
use Rattle.std.proofs.lemmas.List.{take_all}
use Rattle.toy_imp.specs.declared.instance.Instance.{Instance}
use Rattle.toy_imp.specs.Expr.{Expr, expr}
use Rattle.toy_imp.specs.ExprView.{exprs_of}
use Rattle.toy_imp.specs.Block.{Stmt, par_stmt, Block, empty, append}
use Rattle.toy_imp.specs.BlockView.{block_of}
use Rattle.toy_imp.specs.Fill.{block_at, fill_expr, fill_exprs, fill_stmt, fill}
use Rattle.toy_imp.proofs.Alikes.{append-empty}
use Rattle.toy_imp.proofs.Fills.{fill_stmt-append, fill-append}
use Rattle.toy_imp.proofs.Runs.{before-append}
use Rattle.toy_imp.specs.Run.{Item, before}

pub exprs_filled : (i : Instance) (es : List Expr) → exprs_of (map (fill_expr i) es) ≡ fill_exprs i (exprs_of es)
unfolding fill_exprs
exprs_filled i [] = refl
exprs_filled i (e ∷ es) = ap (expr (fill_expr i e)) (exprs_filled i es)

-- all of a list filled, one after another
pub all_filled : (i : Instance) (es filled : List Expr) (k : ℕ) → length es ≤ k → filled ≡ map (fill_expr i) (take k es) → exprs_of filled ≡ fill_exprs i (exprs_of es)
all_filled i es filled k h e = ap exprs_of (e ∙ ap (map (fill_expr i)) (take_all k es h)) ∙ exprs_filled i es

-- what stands for a statement that is a parameter, with nothing behind it
pub alone : {E : Type 0} (i : Instance) (s : Stmt) (k : ℕ) (o : Result Block E) → s ≡ par_stmt k → IfOk o (λ b. b ≡ block_at i k) → IfOk o (λ b. b ≡ fill_stmt i s empty)
unfolding fill_stmt
alone i s k (Ok b) e h = h ∙ sym (append-empty (block_at i k)) ∙ ap (λ u. fill_stmt i u empty) (sym e)
alone i s k (Err r) e h = h

one_more : (i : Instance) (ss : List Stmt) (k : ℕ) (d : Stmt) → k < length ss → fill i (block_of (take (suc k) ss)) ≡ append (fill i (block_of (take k ss))) (fill_stmt i (get_or ss k d) empty)
unfolding fill
one_more i [] k d h = absurd (omega arith)
one_more i (s ∷ ss) zero d h = refl
one_more i (s ∷ ss) (suc k) d h = ap (fill_stmt i s) (one_more i ss k d (omega arith)) ∙ fill_stmt-append i s (fill i (block_of (take k ss))) (fill_stmt i (get_or ss k d) empty)

pub one_more_filled : (i : Instance) (ss : List Stmt) (k : ℕ) (d : Stmt) → k < length ss → fill i (block_of (take (k + 1) ss)) ≡ append (fill i (block_of (take k ss))) (fill_stmt i (get_or ss k d) empty)
one_more_filled i ss k d h = rw add-one (one_more i ss k d h)

-- the work of a filled list that is cut in two
pub filled_work_by_parts : (i : Instance) (p q : Block) (work : List Item) → before (fill i (append p q)) work ≡ before (fill i p) (before (fill i q) work)
filled_work_by_parts i p q work = ap (λ b. before b work) (fill-append i p q) ∙ before-append (fill i p) (fill i q) work
