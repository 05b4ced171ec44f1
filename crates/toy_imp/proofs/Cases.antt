-- The equations of value, truth, fill, step and run, one for each case.
-- Crates above cite them, or the rulesets of them, and keep the words in their goals.
use Rattle.std.specs.Prelude.{◌≡◌, ℕ, zero, suc, ℤ, pos, ◌+ℤ◌, ◌-ℤ◌, ◌*ℤ◌, false, not, ◌&&◌, ◌||◌, cond, List, [], ◌∷◌, Some, None, refl, int_lt, int_le}
use Rattle.std.specs.Ordering.{int_eq}
use Rattle.toy_imp.specs.declared.name.Name.{Name}
use Rattle.toy_imp.specs.declared.name.Name.TheVariants.{Own, Par}
use Rattle.toy_imp.specs.declared.instance.Instance.{Instance}
use Rattle.toy_imp.specs.Cell.{spelled, variable}
use Rattle.toy_imp.specs.Store.{Store, read, write}
use Rattle.toy_imp.specs.Value.{value, values}
use Rattle.toy_imp.specs.Truth.{truth}
use Rattle.toy_imp.specs.Run.{Item, act, turns, restore, halt, before, step, ended, halted, run}
use Rattle.toy_imp.specs.Fill.{name_at, expr_at, test_at, block_at, fill_name, fill_expr, fill_exprs, fill_test, fill_stmt, fill}
use Rattle.toy_imp.specs.Expr.{Expr, num, at, add, sub, mul, par_expr, Exprs, no_exprs, expr}
use Rattle.toy_imp.specs.Test.{Test, less, less_eq, equal, not_of, and_of, or_of, par_test}
use Rattle.toy_imp.specs.Block.{Stmt, skip, put, assert_that, if_then, while_do, for_to, let_in, par_stmt, Block, empty, stmt, append}

-- ---- values
pub value-num : (z : ℤ) (s : Store) → value (num z) s ≡ z
unfolding value
value-num z s = refl

pub value-at : (x : Name) (es : Exprs) (s : Store) → value (at x es) s ≡ read s (spelled x, values es s)
unfolding value
value-at x es s = refl

pub value-add : (a b : Expr) (s : Store) → value (add a b) s ≡ value a s +ℤ value b s
unfolding value
value-add a b s = refl

pub value-sub : (a b : Expr) (s : Store) → value (sub a b) s ≡ value a s -ℤ value b s
unfolding value
value-sub a b s = refl

pub value-mul : (a b : Expr) (s : Store) → value (mul a b) s ≡ value a s *ℤ value b s
unfolding value
value-mul a b s = refl

pub value-par : (k : ℕ) (s : Store) → value (par_expr k) s ≡ pos 0
unfolding value
value-par k s = refl

pub values-none : (s : Store) → values no_exprs s ≡ []
unfolding values
values-none s = refl

pub values-more : (e : Expr) (es : Exprs) (s : Store) → values (expr e es) s ≡ value e s ∷ values es s
unfolding values
values-more e es s = refl

-- ---- truth
pub truth-less : (a b : Expr) (s : Store) → truth (less a b) s ≡ int_lt (value a s) (value b s)
unfolding truth
truth-less a b s = refl

pub truth-less_eq : (a b : Expr) (s : Store) → truth (less_eq a b) s ≡ int_le (value a s) (value b s)
unfolding truth
truth-less_eq a b s = refl

pub truth-equal : (a b : Expr) (s : Store) → truth (equal a b) s ≡ int_eq (value a s) (value b s)
unfolding truth
truth-equal a b s = refl

pub truth-not : (t : Test) (s : Store) → truth (not_of t) s ≡ not (truth t s)
unfolding truth
truth-not t s = refl

pub truth-and : (t u : Test) (s : Store) → truth (and_of t u) s ≡ (truth t s && truth u s)
unfolding truth
truth-and t u s = refl

pub truth-or : (t u : Test) (s : Store) → truth (or_of t u) s ≡ (truth t s || truth u s)
unfolding truth
truth-or t u s = refl

pub truth-par : (k : ℕ) (s : Store) → truth (par_test k) s ≡ false
unfolding truth
truth-par k s = refl

-- ---- fill
pub fill_name-own : (i : Instance) (bytes : List ℕ) → fill_name i (Own bytes) ≡ Own bytes
unfolding fill_name
fill_name-own i bytes = refl

pub fill_name-par : (i : Instance) (k : ℕ) → fill_name i (Par k) ≡ name_at i k
unfolding fill_name
fill_name-par i k = refl

pub fill_expr-num : (i : Instance) (z : ℤ) → fill_expr i (num z) ≡ num z
unfolding fill_expr
fill_expr-num i z = refl

pub fill_expr-at : (i : Instance) (x : Name) (es : Exprs) → fill_expr i (at x es) ≡ at (fill_name i x) (fill_exprs i es)
unfolding fill_expr
fill_expr-at i x es = refl

pub fill_expr-add : (i : Instance) (a b : Expr) → fill_expr i (add a b) ≡ add (fill_expr i a) (fill_expr i b)
unfolding fill_expr
fill_expr-add i a b = refl

pub fill_expr-sub : (i : Instance) (a b : Expr) → fill_expr i (sub a b) ≡ sub (fill_expr i a) (fill_expr i b)
unfolding fill_expr
fill_expr-sub i a b = refl

pub fill_expr-mul : (i : Instance) (a b : Expr) → fill_expr i (mul a b) ≡ mul (fill_expr i a) (fill_expr i b)
unfolding fill_expr
fill_expr-mul i a b = refl

pub fill_expr-par : (i : Instance) (k : ℕ) → fill_expr i (par_expr k) ≡ expr_at i k
unfolding fill_expr
fill_expr-par i k = refl

pub fill_exprs-none : (i : Instance) → fill_exprs i no_exprs ≡ no_exprs
unfolding fill_exprs
fill_exprs-none i = refl

pub fill_exprs-more : (i : Instance) (e : Expr) (es : Exprs) → fill_exprs i (expr e es) ≡ expr (fill_expr i e) (fill_exprs i es)
unfolding fill_exprs
fill_exprs-more i e es = refl

pub fill_test-less : (i : Instance) (a b : Expr) → fill_test i (less a b) ≡ less (fill_expr i a) (fill_expr i b)
unfolding fill_test
fill_test-less i a b = refl

pub fill_test-less_eq : (i : Instance) (a b : Expr) → fill_test i (less_eq a b) ≡ less_eq (fill_expr i a) (fill_expr i b)
unfolding fill_test
fill_test-less_eq i a b = refl

pub fill_test-equal : (i : Instance) (a b : Expr) → fill_test i (equal a b) ≡ equal (fill_expr i a) (fill_expr i b)
unfolding fill_test
fill_test-equal i a b = refl

pub fill_test-not : (i : Instance) (t : Test) → fill_test i (not_of t) ≡ not_of (fill_test i t)
unfolding fill_test
fill_test-not i t = refl

pub fill_test-and : (i : Instance) (t u : Test) → fill_test i (and_of t u) ≡ and_of (fill_test i t) (fill_test i u)
unfolding fill_test
fill_test-and i t u = refl

pub fill_test-or : (i : Instance) (t u : Test) → fill_test i (or_of t u) ≡ or_of (fill_test i t) (fill_test i u)
unfolding fill_test
fill_test-or i t u = refl

pub fill_test-par : (i : Instance) (k : ℕ) → fill_test i (par_test k) ≡ test_at i k
unfolding fill_test
fill_test-par i k = refl

pub fill_stmt-skip : (i : Instance) (rest : Block) → fill_stmt i skip rest ≡ stmt skip rest
unfolding fill_stmt
fill_stmt-skip i rest = refl

pub fill_stmt-put : (i : Instance) (x : Name) (es : Exprs) (e : Expr) (rest : Block) → fill_stmt i (put x es e) rest ≡ stmt (put (fill_name i x) (fill_exprs i es) (fill_expr i e)) rest
unfolding fill_stmt
fill_stmt-put i x es e rest = refl

pub fill_stmt-assert : (i : Instance) (t : Test) (rest : Block) → fill_stmt i (assert_that t) rest ≡ stmt (assert_that (fill_test i t)) rest
unfolding fill_stmt
fill_stmt-assert i t rest = refl

pub fill_stmt-if : (i : Instance) (t : Test) (b c : Block) (rest : Block) → fill_stmt i (if_then t b c) rest ≡ stmt (if_then (fill_test i t) (fill i b) (fill i c)) rest
unfolding fill_stmt
fill_stmt-if i t b c rest = refl

pub fill_stmt-while : (i : Instance) (t : Test) (b : Block) (rest : Block) → fill_stmt i (while_do t b) rest ≡ stmt (while_do (fill_test i t) (fill i b)) rest
unfolding fill_stmt
fill_stmt-while i t b rest = refl

pub fill_stmt-for : (i : Instance) (x : Name) (lo hi : Expr) (b : Block) (rest : Block) → fill_stmt i (for_to x lo hi b) rest ≡ stmt (for_to (fill_name i x) (fill_expr i lo) (fill_expr i hi) (fill i b)) rest
unfolding fill_stmt
fill_stmt-for i x lo hi b rest = refl

pub fill_stmt-let : (i : Instance) (x : Name) (e : Expr) (b : Block) (rest : Block) → fill_stmt i (let_in x e b) rest ≡ stmt (let_in (fill_name i x) (fill_expr i e) (fill i b)) rest
unfolding fill_stmt
fill_stmt-let i x e b rest = refl

pub fill_stmt-par : (i : Instance) (k : ℕ) (rest : Block) → fill_stmt i (par_stmt k) rest ≡ append (block_at i k) rest
unfolding fill_stmt
fill_stmt-par i k rest = refl

pub fill-empty : (i : Instance) → fill i empty ≡ empty
unfolding fill
fill-empty i = refl

pub fill-stmt : (i : Instance) (s : Stmt) (b : Block) → fill i (stmt s b) ≡ fill_stmt i s (fill i b)
unfolding fill
fill-stmt i s b = refl

-- ---- steps
pub step-skip : (s : Store) (work : List Item) → step (act skip) s work ≡ record { store = s; work = work }
unfolding step
step-skip s work = refl

pub step-put : (x : Name) (es : Exprs) (e : Expr) (s : Store) (work : List Item) → step (act (put x es e)) s work ≡ record { store = write s (spelled x, values es s) (value e s); work = work }
unfolding step
step-put x es e s work = refl

pub step-assert : (t : Test) (s : Store) (work : List Item) → step (act (assert_that t)) s work ≡ record { store = s; work = cond (truth t s) work (halt ∷ work) }
unfolding step
step-assert t s work = refl

pub step-if : (t : Test) (b c : Block) (s : Store) (work : List Item) → step (act (if_then t b c)) s work ≡ record { store = s; work = cond (truth t s) (before b work) (before c work) }
unfolding step
step-if t b c s work = refl

pub step-while : (t : Test) (b : Block) (s : Store) (work : List Item) → step (act (while_do t b)) s work ≡ record { store = s; work = cond (truth t s) (before b (act (while_do t b) ∷ work)) work }
unfolding step
step-while t b s work = refl

pub step-for : (x : Name) (lo hi : Expr) (b : Block) (s : Store) (work : List Item) → step (act (for_to x lo hi b)) s work ≡ record { store = s; work = turns x (value lo s) (value hi s) b ∷ restore x (read s (variable x)) ∷ work }
unfolding step
step-for x lo hi b s work = refl

pub step-let : (x : Name) (e : Expr) (b : Block) (s : Store) (work : List Item) → step (act (let_in x e b)) s work ≡ record { store = write s (variable x) (value e s); work = before b (restore x (read s (variable x)) ∷ work) }
unfolding step
step-let x e b s work = refl

pub step-par : (k : ℕ) (s : Store) (work : List Item) → step (act (par_stmt k)) s work ≡ record { store = s; work = act (par_stmt k) ∷ work }
unfolding step
step-par k s work = refl

pub step-turns : (x : Name) (k hi : ℤ) (b : Block) (s : Store) (work : List Item) → step (turns x k hi b) s work ≡ record { store = cond (int_lt k hi) (write s (variable x) k) s; work = cond (int_lt k hi) (before b (turns x (k +ℤ pos 1) hi b ∷ work)) work }
unfolding step
step-turns x k hi b s work = refl

pub step-restore : (x : Name) (v : ℤ) (s : Store) (work : List Item) → step (restore x v) s work ≡ record { store = write s (variable x) v; work = work }
unfolding step
step-restore x v s work = refl

-- ---- runs
pub run-done : (n : ℕ) (s : Store) → run n [] s ≡ Some (ended s)
unfolding run
run-done n s = refl

pub run-halted : (n : ℕ) (work : List Item) (s : Store) → run n (halt ∷ work) s ≡ Some (halted s)
unfolding run
run-halted n work s = refl

-- of a statement, which is never to halt; so too of turns and of a restoring
pub run-spent : (a : Stmt) (work : List Item) (s : Store) → run zero (act a ∷ work) s ≡ None
unfolding run
run-spent a work s = refl

-- a step more, before `halt` too
pub run-next : (n : ℕ) (item : Item) (work : List Item) (s : Store) → run (suc n) (item ∷ work) s ≡ run n ((step item s work).work) ((step item s work).store)
unfolding run step
run-next n halt work s = refl
run-next n (act a) work s = refl
run-next n (turns x k hi b) work s = refl
run-next n (restore x v) work s = refl

pub ruleset value_cases = (value-num, value-at, value-add, value-sub, value-mul, value-par, values-none, values-more)

pub ruleset truth_cases = (truth-less, truth-less_eq, truth-equal, truth-not, truth-and, truth-or, truth-par)

pub ruleset fill_cases = (fill_name-own, fill_name-par, fill_expr-num, fill_expr-at, fill_expr-add, fill_expr-sub, fill_expr-mul, fill_expr-par, fill_exprs-none, fill_exprs-more, fill_test-less, fill_test-less_eq, fill_test-equal, fill_test-not, fill_test-and, fill_test-or, fill_test-par, fill_stmt-skip, fill_stmt-put, fill_stmt-assert, fill_stmt-if, fill_stmt-while, fill_stmt-for, fill_stmt-let, fill_stmt-par, fill-empty, fill-stmt)

pub ruleset step_cases = (step-skip, step-put, step-assert, step-if, step-while, step-for, step-let, step-par, step-turns, step-restore)

pub ruleset run_cases = (run-done, run-halted, run-spent, run-next)
