-- The frame law, by recursion on the steps: two stores that agree on what the first step reads leave the same work, the same writes
-- are done to both, and what agreed before still agrees.
use Rattle.std.specs.Prelude.{◌≡◌, zero, suc, ℤ, Bool, true, false, cond, not, ◌&&◌, ◌||◌, ◌+ℤ◌, ◌-ℤ◌, ◌*ℤ◌, List, [], ◌∷◌, ◌++◌, int_lt, int_le, refl}
use Rattle.std.specs.Ordering.{int_eq}
use Rattle.std.proofs.Common.{sym, ◌∙◌, ap, ap₂, subst, inl, inr}
use Rattle.toy_imp.specs.Cell.{Cell, spelled, variable}
use Rattle.toy_imp.specs.Store.{Store, read, write}
use Rattle.toy_imp.specs.Value.{value, values}
use Rattle.toy_imp.specs.Truth.{truth}
use Rattle.toy_imp.specs.Expr.{Expr, num, at, add, sub, mul, par_expr, Exprs, no_exprs, expr}
use Rattle.toy_imp.specs.Test.{Test, less, less_eq, equal, not_of, and_of, or_of, par_test}
use Rattle.toy_imp.specs.Block.{skip, put, assert_that, if_then, while_do, for_to, let_in, par_stmt}
use Rattle.toy_imp.specs.Run.{Item, act, turns, restore, halt, before, step, run}
use Rattle.toy_imp.proofs.Stores.{write_is_read, write_keeps_others, cells_decided}
use Rattle.side_conditions.specs.Each.{Each}
use Rattle.side_conditions.specs.Frame.{Write, expr_cells, exprs_cells, test_cells, step_reads, step_writes, after, reads, writes, written}
use Rattle.side_conditions.specs.FrameLaws.{Agree, SameSteps, FrameLaw, WorkTellsOutcome, WritesTellStore, IsApart, OthersKept}

-- ---- facts of lists in two parts
pub each_left : {A : Type 0} (P : A → Type 0) (xs ys : List A) → Each P (xs ++ ys) → Each P xs
each_left P [] ys h = tt
each_left P (x ∷ xs) ys h = (h.0, each_left P xs ys h.1)

pub each_right : {A : Type 0} (P : A → Type 0) (xs ys : List A) → Each P (xs ++ ys) → Each P ys
each_right P [] ys h = h
each_right P (x ∷ xs) ys h = each_right P xs ys h.1

pub each_both : {A : Type 0} (P : A → Type 0) (xs ys : List A) → Each P xs → Each P ys → Each P (xs ++ ys)
each_both P [] ys h k = k
each_both P (x ∷ xs) ys h k = (h.0, each_both P xs ys h.1 k)

module _ (s t : Store) where
  left : (xs ys : List Cell) → Agree (xs ++ ys) s t → Agree xs s t
  left xs ys h = each_left (λ c. read s c ≡ read t c) xs ys h

  right : (xs ys : List Cell) → Agree (xs ++ ys) s t → Agree ys s t
  right xs ys h = each_right (λ c. read s c ≡ read t c) xs ys h

  -- ---- evaluation: the same value, and the same cells are read
  mutual
    unfolding value values

    pub value_alike : (e : Expr) → Agree (expr_cells e s) s t → value e s ≡ value e t
    value_alike (num z) h = refl
    value_alike (at x es) h =
        (right (exprs_cells es s) ((spelled x, values es s) ∷ []) h).0
        ∙ ap (λ is. read t (spelled x, is)) (values_alike es (left (exprs_cells es s) ((spelled x, values es s) ∷ []) h))
    value_alike (add a b) h = ap₂ (λ v w. v +ℤ w) (value_alike a (left (expr_cells a s) (expr_cells b s) h)) (value_alike b (right (expr_cells a s) (expr_cells b s) h))
    value_alike (sub a b) h = ap₂ (λ v w. v -ℤ w) (value_alike a (left (expr_cells a s) (expr_cells b s) h)) (value_alike b (right (expr_cells a s) (expr_cells b s) h))
    value_alike (mul a b) h = ap₂ (λ v w. v *ℤ w) (value_alike a (left (expr_cells a s) (expr_cells b s) h)) (value_alike b (right (expr_cells a s) (expr_cells b s) h))
    value_alike (par_expr k) h = refl

    pub values_alike : (es : Exprs) → Agree (exprs_cells es s) s t → values es s ≡ values es t
    values_alike no_exprs h = refl
    values_alike (expr e es) h = ap₂ (λ v vs. v ∷ vs) (value_alike e (left (expr_cells e s) (exprs_cells es s) h)) (values_alike es (right (expr_cells e s) (exprs_cells es s) h))

  mutual
    pub cells_alike : (e : Expr) → Agree (expr_cells e s) s t → expr_cells e s ≡ expr_cells e t
    cells_alike (num z) h = refl
    cells_alike (at x es) h =
        let inside : Agree (exprs_cells es s) s t = left (exprs_cells es s) ((spelled x, values es s) ∷ []) h in
        ap₂ (λ cs is. cs ++ (spelled x, is) ∷ []) (all_cells_alike es inside) (values_alike es inside)
    cells_alike (add a b) h = ap₂ (λ v w. v ++ w) (cells_alike a (left (expr_cells a s) (expr_cells b s) h)) (cells_alike b (right (expr_cells a s) (expr_cells b s) h))
    cells_alike (sub a b) h = ap₂ (λ v w. v ++ w) (cells_alike a (left (expr_cells a s) (expr_cells b s) h)) (cells_alike b (right (expr_cells a s) (expr_cells b s) h))
    cells_alike (mul a b) h = ap₂ (λ v w. v ++ w) (cells_alike a (left (expr_cells a s) (expr_cells b s) h)) (cells_alike b (right (expr_cells a s) (expr_cells b s) h))
    cells_alike (par_expr k) h = refl

    pub all_cells_alike : (es : Exprs) → Agree (exprs_cells es s) s t → exprs_cells es s ≡ exprs_cells es t
    all_cells_alike no_exprs h = refl
    all_cells_alike (expr e es) h = ap₂ (λ v w. v ++ w) (cells_alike e (left (expr_cells e s) (exprs_cells es s) h)) (all_cells_alike es (right (expr_cells e s) (exprs_cells es s) h))

  pub truth_alike : (q : Test) → Agree (test_cells q s) s t → truth q s ≡ truth q t
  unfolding truth
  truth_alike (less a b) h = ap₂ int_lt (value_alike a (left (expr_cells a s) (expr_cells b s) h)) (value_alike b (right (expr_cells a s) (expr_cells b s) h))
  truth_alike (less_eq a b) h = ap₂ int_le (value_alike a (left (expr_cells a s) (expr_cells b s) h)) (value_alike b (right (expr_cells a s) (expr_cells b s) h))
  truth_alike (equal a b) h = ap₂ int_eq (value_alike a (left (expr_cells a s) (expr_cells b s) h)) (value_alike b (right (expr_cells a s) (expr_cells b s) h))
  truth_alike (not_of q) h = ap not (truth_alike q h)
  truth_alike (and_of q u) h = ap₂ (λ v w. v && w) (truth_alike q (left (test_cells q s) (test_cells u s) h)) (truth_alike u (right (test_cells q s) (test_cells u s) h))
  truth_alike (or_of q u) h = ap₂ (λ v w. v || w) (truth_alike q (left (test_cells q s) (test_cells u s) h)) (truth_alike u (right (test_cells q s) (test_cells u s) h))
  truth_alike (par_test k) h = refl

  pub test_cells_alike : (q : Test) → Agree (test_cells q s) s t → test_cells q s ≡ test_cells q t
  test_cells_alike (less a b) h = ap₂ (λ v w. v ++ w) (cells_alike a (left (expr_cells a s) (expr_cells b s) h)) (cells_alike b (right (expr_cells a s) (expr_cells b s) h))
  test_cells_alike (less_eq a b) h = ap₂ (λ v w. v ++ w) (cells_alike a (left (expr_cells a s) (expr_cells b s) h)) (cells_alike b (right (expr_cells a s) (expr_cells b s) h))
  test_cells_alike (equal a b) h = ap₂ (λ v w. v ++ w) (cells_alike a (left (expr_cells a s) (expr_cells b s) h)) (cells_alike b (right (expr_cells a s) (expr_cells b s) h))
  test_cells_alike (not_of q) h = test_cells_alike q h
  test_cells_alike (and_of q u) h = ap₂ (λ v w. v ++ w) (test_cells_alike q (left (test_cells q s) (test_cells u s) h)) (test_cells_alike u (right (test_cells q s) (test_cells u s) h))
  test_cells_alike (or_of q u) h = ap₂ (λ v w. v ++ w) (test_cells_alike q (left (test_cells q s) (test_cells u s) h)) (test_cells_alike u (right (test_cells q s) (test_cells u s) h))
  test_cells_alike (par_test k) h = refl

  -- ---- one step
  record SameStep (item : Item) (work : List Item) : Type 0 where
    reads_are : step_reads item s ≡ step_reads item t
    writes_are : step_writes item s ≡ step_writes item t
    work_is : (step item s work).work ≡ (step item t work).work

  same_step : (item : Item) (work : List Item) → Agree (step_reads item s) s t → SameStep item work
  unfolding step
  same_step (act skip) work h = record { reads_are = refl; writes_are = refl; work_is = refl }
  same_step (act (put x is e)) work h =
      let first : Agree (exprs_cells is s) s t = left (exprs_cells is s) (expr_cells e s) h in
      let second : Agree (expr_cells e s) s t = right (exprs_cells is s) (expr_cells e s) h in
      record {
        reads_are = ap₂ (λ v w. v ++ w) (all_cells_alike is first) (cells_alike e second);
        writes_are = ap₂ (λ is v. ((spelled x, is), v) ∷ []) (values_alike is first) (value_alike e second);
        work_is = refl;
      }
  same_step (act (assert_that q)) work h = record { reads_are = test_cells_alike q h; writes_are = refl; work_is = ap (λ b. cond b work (halt ∷ work)) (truth_alike q h) }
  same_step (act (if_then q b c)) work h = record { reads_are = test_cells_alike q h; writes_are = refl; work_is = ap (λ d. cond d (before b work) (before c work)) (truth_alike q h) }
  same_step (act (while_do q b)) work h = record { reads_are = test_cells_alike q h; writes_are = refl; work_is = ap (λ d. cond d (before b (act (while_do q b) ∷ work)) work) (truth_alike q h) }
  same_step (act (for_to x lo hi b)) work h =
      let first : Agree (expr_cells lo s) s t = left (expr_cells lo s) (expr_cells hi s ++ variable x ∷ []) h in
      let others : Agree (expr_cells hi s ++ variable x ∷ []) s t = right (expr_cells lo s) (expr_cells hi s ++ variable x ∷ []) h in
      let second : Agree (expr_cells hi s) s t = left (expr_cells hi s) (variable x ∷ []) others in
      let old : read s (variable x) ≡ read t (variable x) = (right (expr_cells hi s) (variable x ∷ []) others).0 in
      record {
        reads_are = ap₂ (λ v w. v ++ (w ++ variable x ∷ [])) (cells_alike lo first) (cells_alike hi second);
        writes_are = refl;
        work_is = λ j. turns x (value_alike lo first j) (value_alike hi second j) b ∷ restore x (old j) ∷ work;
      }
  same_step (act (let_in x e b)) work h =
      let first : Agree (expr_cells e s) s t = left (expr_cells e s) (variable x ∷ []) h in
      let old : read s (variable x) ≡ read t (variable x) = (right (expr_cells e s) (variable x ∷ []) h).0 in
      record {
        reads_are = ap (λ v. v ++ variable x ∷ []) (cells_alike e first);
        writes_are = ap (λ v. (variable x, v) ∷ []) (value_alike e first);
        work_is = ap (λ v. before b (restore x v ∷ work)) old;
      }
  same_step (act (par_stmt k)) work h = record { reads_are = refl; writes_are = refl; work_is = refl }
  same_step (turns x k hi b) work h = record { reads_are = refl; writes_are = refl; work_is = refl }
  same_step (restore x v) work h = record { reads_are = refl; writes_are = refl; work_is = refl }
  same_step halt work h = record { reads_are = refl; writes_are = refl; work_is = refl }

-- the store behind a step is the one before with the step's writes done
written_if : (b : Bool) (s : Store) (c : Cell) (v : ℤ) → cond b (write s c v) s ≡ written s (cond b ((c, v) ∷ []) [])
written_if true s c v = refl
written_if false s c v = refl

pub step_store : (item : Item) (s : Store) (work : List Item) → (step item s work).store ≡ written s (step_writes item s)
unfolding step
step_store (act skip) s work = refl
step_store (act (put x is e)) s work = refl
step_store (act (assert_that q)) s work = refl
step_store (act (if_then q b c)) s work = refl
step_store (act (while_do q b)) s work = refl
step_store (act (for_to x lo hi b)) s work = refl
step_store (act (let_in x e b)) s work = refl
step_store (act (par_stmt k)) s work = refl
step_store (turns x k hi b) s work = written_if (int_lt k hi) s (variable x) k
step_store (restore x v) s work = refl
step_store halt s work = refl

-- ---- writes
pub written-append : (s : Store) (ws vs : List Write) → written s (ws ++ vs) ≡ written (written s ws) vs
written-append s [] vs = refl
written-append s (w ∷ ws) vs = written-append (write s w.0 w.1) ws vs

-- what agreed agrees after the same write
agree_write : (s t : Store) (c : Cell) (v : ℤ) (q : Cell) → read s q ≡ read t q → read (write s c v) q ≡ read (write t c v) q
agree_write s t c v q h = elim (cells_decided q c) as (λ _. read (write s c v) q ≡ read (write t c v) q) [
  | inl e ↦ ap (read (write s c v)) e ∙ write_is_read s c v ∙ sym (ap (read (write t c v)) e ∙ write_is_read t c v)
  | inr apart ↦ write_keeps_others s c v q apart ∙ h ∙ sym (write_keeps_others t c v q apart)
]

pub agree_written : (ws : List Write) (s t : Store) (q : Cell) → read s q ≡ read t q → read (written s ws) q ≡ read (written t ws) q
agree_written [] s t q h = h
agree_written (w ∷ ws) s t q h = agree_written ws (write s w.0 w.1) (write t w.0 w.1) q (agree_write s t w.0 w.1 q h)

all_agree : (cs : List Cell) (ws : List Write) (s t : Store) → Agree cs s t → Agree cs (written s ws) (written t ws)
all_agree [] ws s t h = tt
all_agree (c ∷ cs) ws s t h = (agree_written ws s t c h.0, all_agree cs ws s t h.1)

-- ---- the laws
pub frame : FrameLaw
frame n [] s t h = record { same_reads = refl; same_writes = refl; same_work = refl }
frame zero (item ∷ work) s t h = record { same_reads = refl; same_writes = refl; same_work = refl }
frame (suc n) (item ∷ work) s t h =
    let rest : List Cell = reads n ((step item s work).work) ((step item s work).store) in
    let one : SameStep s t item work = same_step s t item work (left s t (step_reads item s) rest h) in
    let first_store = step_store item s work in
    let second_store : written t (step_writes item s) ≡ (step item t work).store = ap (written t) one.writes_are ∙ sym (step_store item t work) in
    let agree : Agree rest (written s (step_writes item s)) (written t (step_writes item s)) = all_agree rest (step_writes item s) s t (right s t (step_reads item s) rest h) in
    let moved : Agree rest ((step item s work).store) ((step item t work).store) = subst (λ u. Agree rest ((step item s work).store) u) second_store (subst (λ u. Agree rest u (written t (step_writes item s))) (sym first_store) agree) in
    let more : SameSteps n ((step item s work).work) ((step item s work).store) ((step item t work).store) = frame n ((step item s work).work) ((step item s work).store) ((step item t work).store) moved in
    record {
      same_reads = ap₂ (λ v w. v ++ w) one.reads_are (more.same_reads ∙ ap (λ w. reads n w ((step item t work).store)) one.work_is);
      same_writes = ap₂ (λ v w. v ++ w) one.writes_are (more.same_writes ∙ ap (λ w. writes n w ((step item t work).store)) one.work_is);
      same_work = more.same_work ∙ ap (λ w. (after n w ((step item t work).store)).work) one.work_is;
    }

pub work_tells_outcome : WorkTellsOutcome
unfolding run step
work_tells_outcome n [] s = refl
work_tells_outcome zero (halt ∷ work) s = refl
work_tells_outcome (suc n) (halt ∷ work) s = work_tells_outcome n (halt ∷ work) s
work_tells_outcome zero (act a ∷ work) s = refl
work_tells_outcome zero (turns x k hi b ∷ work) s = refl
work_tells_outcome zero (restore x v ∷ work) s = refl
work_tells_outcome (suc n) (act a ∷ work) s = work_tells_outcome n _ _
work_tells_outcome (suc n) (turns x k hi b ∷ work) s = work_tells_outcome n _ _
work_tells_outcome (suc n) (restore x v ∷ work) s = work_tells_outcome n _ _

pub writes_tell_store : WritesTellStore
writes_tell_store n [] s = refl
writes_tell_store zero (item ∷ work) s = refl
writes_tell_store (suc n) (item ∷ work) s =
    let later : List Write = writes n ((step item s work).work) ((step item s work).store) in
    writes_tell_store n ((step item s work).work) ((step item s work).store)
    ∙ ap (λ u. written u later) (step_store item s work)
    ∙ sym (written-append s (step_writes item s) later)

pub written_keeps : (ws : List Write) (s : Store) (c : Cell) → IsApart c ws → read (written s ws) c ≡ read s c
written_keeps [] s c h = refl
written_keeps (w ∷ ws) s c h = written_keeps ws (write s w.0 w.1) c h.1 ∙ write_keeps_others s w.0 w.1 c h.0

pub others_kept : OthersKept
others_kept n work s c h = ap (λ u. read u c) (writes_tell_store n work s) ∙ written_keeps (writes n work s) s c h
