-- How work splits and joins at `++`, and that there is at most one outcome.
use Rattle.std.specs.Prelude.{◌≡◌, ◌⊎◌, ℕ, zero, suc, ◌+◌, ◌≤◌, Bool, true, false, cond, List, [], ◌∷◌, ◌++◌, Some, None, refl, int_lt}
use Rattle.std.proofs.Common.{sym, ◌∙◌, ap, ap₂, subst, inl, inr, arith}
use Rattle.toy_imp.specs.Store.{Store}
use Rattle.toy_imp.specs.Test.{Test}
use Rattle.toy_imp.specs.Truth.{truth}
use Rattle.toy_imp.specs.Block.{skip, put, assert_that, if_then, while_do, for_to, let_in, par_stmt, Block, empty, stmt, append}
use Rattle.toy_imp.specs.Run.{Item, act, turns, restore, halt, before, step, Outcome, ended, halted, run}
use Rattle.toy_imp.specs.Ends.{Reaches}
use Rattle.toy_imp.specs.RunLaws.{Parts, HaltsBefore}

-- ---- a step in front of more work
cond-append : (b : Bool) (x y w : List Item) → cond b (x ++ w) (y ++ w) ≡ cond b x y ++ w
cond-append true x y w = refl
cond-append false x y w = refl

pub before-work : (b : Block) (u w : List Item) → before b (u ++ w) ≡ before b u ++ w
before-work empty u w = refl
before-work (stmt s b) u w = ap (λ l. act s ∷ l) (before-work b u w)

pub before-append : (b c : Block) (work : List Item) → before (append b c) work ≡ before b (before c work)
before-append empty c work = refl
before-append (stmt s b) c work = ap (λ l. act s ∷ l) (before-append b c work)

-- a block in front of work is its own work and then the other
pub before-split : (b : Block) (work : List Item) → before b work ≡ before b [] ++ work
before-split b work = before-work b [] work

pub store-append : (item : Item) (s : Store) (u w : List Item) → (step item s (u ++ w)).store ≡ (step item s u).store
unfolding step
store-append (act skip) s u w = refl
store-append (act (put x is e)) s u w = refl
store-append (act (assert_that t)) s u w = refl
store-append (act (if_then t b c)) s u w = refl
store-append (act (while_do t b)) s u w = refl
store-append (act (for_to x lo hi b)) s u w = refl
store-append (act (let_in x e b)) s u w = refl
store-append (act (par_stmt k)) s u w = refl
store-append (turns x k hi b) s u w = refl
store-append (restore x v) s u w = refl
store-append halt s u w = refl

pub work-append : (item : Item) (s : Store) (u w : List Item) → (step item s (u ++ w)).work ≡ (step item s u).work ++ w
unfolding step
work-append (act skip) s u w = refl
work-append (act (put x is e)) s u w = refl
work-append (act (assert_that t)) s u w = cond-append (truth t s) u (halt ∷ u) w
work-append (act (if_then t b c)) s u w = ap₂ (cond (truth t s)) (before-work b u w) (before-work c u w) ∙ cond-append (truth t s) _ _ w
work-append (act (while_do t b)) s u w = ap (λ l. cond (truth t s) l (u ++ w)) (before-work b (act (while_do t b) ∷ u) w) ∙ cond-append (truth t s) _ _ w
work-append (act (for_to x lo hi b)) s u w = refl
work-append (act (let_in x e b)) s u w = before-work b _ w
work-append (act (par_stmt k)) s u w = refl
work-append (turns x k hi b) s u w = ap (λ l. cond (int_lt k hi) l (u ++ w)) (before-work b _ w) ∙ cond-append (int_lt k hi) _ _ w
work-append (restore x v) s u w = refl
work-append halt s u w = refl

-- ---- more steps than are needed
pub run-more : (n m : ℕ) (work : List Item) (s : Store) (o : Outcome) → n ≤ m → run n work s ≡ Some o → run m work s ≡ Some o
unfolding run
run-more n m [] s o le e = e
run-more n m (halt ∷ work) s o le e = e
run-more zero m (item ∷ work) s o le e = cc
run-more (suc n) zero (item ∷ work) s o le e = absurd (omega arith)
run-more (suc n) (suc m) (item ∷ work) s o le e = run-more n m _ _ o (omega arith) e

pub one_run : (n m : ℕ) (work : List Item) (s : Store) (o p : Outcome) → run n work s ≡ Some o → run m work s ≡ Some p → o ≡ p
one_run n m work s o p e f =
    let first : run (n + m) work s ≡ Some o = run-more n (n + m) work s o (omega arith) e in
    let second : run (n + m) work s ≡ Some p = run-more m (n + m) work s p (omega arith) f in
    cc

pub one_outcome : (work : List Item) (s : Store) (o p : Outcome) → Reaches work s o → Reaches work s p → o ≡ p
one_outcome work s o p r q = one_run r.steps q.steps work s o p r.reached q.reached

-- ---- of outcomes
store_of : Outcome → Store
store_of (ended s) = s
store_of (halted s) = s

has_ended : Outcome → Bool
has_ended (ended s) = true
has_ended (halted s) = false

-- .. a run that ends ends in one store, one that halts halts in one, and none does both
pub one_final_store : (work : List Item) (s t u : Store) → Reaches work s (ended t) → Reaches work s (ended u) → t ≡ u
unfolding store_of
one_final_store work s t u r q = ap store_of (one_outcome work s (ended t) (ended u) r q)

pub one_halted_store : (work : List Item) (s t u : Store) → Reaches work s (halted t) → Reaches work s (halted u) → t ≡ u
unfolding store_of
one_halted_store work s t u r q = ap store_of (one_outcome work s (halted t) (halted u) r q)

pub never_both : {A : Type 0} (work : List Item) (s t u : Store) → Reaches work s (ended t) → Reaches work s (halted u) → A
unfolding has_ended
never_both work s t u r q = let e : true ≡ false = ap has_ended (one_outcome work s (ended t) (halted u) r q) in cc

-- ---- splitting and joining
pub work_splits : (n : ℕ) (u w : List Item) (s : Store) (o : Outcome) → run n (u ++ w) s ≡ Some o → Parts n u w s o ⊎ HaltsBefore n u s o
unfolding run
work_splits n [] w s o e = inl (record { first = 0; second = n; as_many = omega arith; between = s; front = refl; rear = e })
work_splits n (halt ∷ u) w s o e = let is : o ≡ halted s = cc in inr (record { store = s; is = is; front = refl })
work_splits zero (item ∷ u) w s o e = cc
work_splits (suc n) (item ∷ u) w s o e =
    let moved : run n ((step item s u).work ++ w) ((step item s u).store) ≡ Some o = ap₂ (run n) (sym (work-append item s u w)) (sym (store-append item s u w)) ∙ e in
    elim (work_splits n ((step item s u).work) w _ o moved) [
      | inl parts ↦ inl (record { first = suc parts.first; second = parts.second; as_many = omega (arith, parts.as_many); between = parts.between; front = parts.front; rear = parts.rear })
      | inr stops ↦ inr (record { store = stops.store; is = stops.is; front = stops.front })
    ]

pub joined : (n k m : ℕ) (u w : List Item) (s between : Store) (o : Outcome) → n + k ≤ m → run n u s ≡ Some (ended between) → run k w between ≡ Some o → run m (u ++ w) s ≡ Some o
unfolding run
joined n k m [] w s between o le e f =
    let same : between ≡ s = cc in
    run-more k m w s o (omega arith) (subst (λ x. run k w x ≡ Some o) same f)
joined n k m (halt ∷ u) w s between o le e f = cc
joined zero k m (item ∷ u) w s between o le e f = cc
joined (suc n) k zero (item ∷ u) w s between o le e f = absurd (omega arith)
joined (suc n) k (suc m) (item ∷ u) w s between o le e f =
    ap₂ (run m) (work-append item s u w) (store-append item s u w) ∙ joined n k m _ w _ between o (omega arith) e f

-- work that halts does so in front of any other
pub halts_in_front : (n : ℕ) (u w : List Item) (s t : Store) → run n u s ≡ Some (halted t) → run n (u ++ w) s ≡ Some (halted t)
unfolding run
halts_in_front n [] w s t e = cc
halts_in_front n (halt ∷ u) w s t e = e
halts_in_front zero (item ∷ u) w s t e = cc
halts_in_front (suc n) (item ∷ u) w s t e = ap₂ (run n) (work-append item s u w) (store-append item s u w) ∙ halts_in_front n _ w _ t e

pub work_joins : (n : ℕ) (u w : List Item) (s : Store) (o : Outcome) → Parts n u w s o ⊎ HaltsBefore n u s o → run n (u ++ w) s ≡ Some o
work_joins n u w s o (inl p) = joined p.first p.second n u w s p.between o (omega (arith, p.as_many)) p.front p.rear
work_joins n u w s o (inr h) = halts_in_front n u w s h.store h.front ∙ ap Some (sym h.is)

-- ---- the same of outcomes
pub record Through (u w : List Item) (s : Store) (o : Outcome) : Type 0 where
  pub between : Store
  pub front : Reaches u s (ended between)
  pub rear : Reaches w between o

pub record StopsInFront (u : List Item) (s : Store) (o : Outcome) : Type 0 where
  pub store : Store
  pub is : o ≡ halted store
  pub front : Reaches u s (halted store)

pub passes : (u w : List Item) (s : Store) (o : Outcome) → Reaches (u ++ w) s o → Through u w s o ⊎ StopsInFront u s o
passes u w s o r =
    elim (work_splits r.steps u w s o r.reached) [
      | inl parts ↦ inl (record { between = parts.between; front = record { steps = parts.first; reached = parts.front }; rear = record { steps = parts.second; reached = parts.rear } })
      | inr stops ↦ inr (record { store = stops.store; is = stops.is; front = record { steps = r.steps; reached = stops.front } })
    ]

not_halted : {A : Type 0} (t u : Store) → ended t ≡ halted u → A
unfolding has_ended
not_halted t u e = let f : true ≡ false = ap has_ended e in cc

-- what ends has gone through
pub through : (u w : List Item) (s t : Store) → Reaches (u ++ w) s (ended t) → Through u w s (ended t)
through u w s t r = elim (passes u w s (ended t) r) [ inl way ↦ way | inr stops ↦ not_halted t stops.store stops.is ]

-- what halts halts in front, or has gone through
pub halts_through : (u w : List Item) (s t : Store) → Reaches (u ++ w) s (halted t) → Reaches u s (halted t) ⊎ Through u w s (halted t)
halts_through u w s t r = elim (passes u w s (halted t) r) [ inl way ↦ inr way | inr stops ↦ inl (subst (λ p. Reaches u s p) (sym stops.is) stops.front) ]

pub reaches_through : (u w : List Item) (s between : Store) (o : Outcome) → Reaches u s (ended between) → Reaches w between o → Reaches (u ++ w) s o
reaches_through u w s between o a b = record { steps = a.steps + b.steps; reached = joined a.steps b.steps (a.steps + b.steps) u w s between o (omega arith) a.reached b.reached }

pub reaches_halt : (u w : List Item) (s t : Store) → Reaches u s (halted t) → Reaches (u ++ w) s (halted t)
reaches_halt u w s t r = record { steps = r.steps; reached = halts_in_front r.steps u w s t r.reached }

pub stops_in_front : (u w : List Item) (s : Store) (o : Outcome) → StopsInFront u s o → Reaches (u ++ w) s o
stops_in_front u w s o h = subst (λ p. Reaches (u ++ w) s p) (sym h.is) (reaches_halt u w s h.store h.front)

-- ---- one step more
pub reaches_next : (item : Item) (work : List Item) (s : Store) (o : Outcome) → Reaches ((step item s work).work) ((step item s work).store) o → Reaches (item ∷ work) s o
unfolding run step
reaches_next halt work s o r = r
reaches_next (act a) work s o r = record { steps = suc r.steps; reached = r.reached }
reaches_next (turns x k hi b) work s o r = record { steps = suc r.steps; reached = r.reached }
reaches_next (restore x v) work s o r = record { steps = suc r.steps; reached = r.reached }

first_done : (n : ℕ) (item : Item) (work : List Item) (s : Store) (o : Outcome) → run n (item ∷ work) s ≡ Some o → Reaches ((step item s work).work) ((step item s work).store) o
unfolding run step
first_done n halt work s o e = record { steps = n; reached = e }
first_done zero item work s o e = cc
first_done (suc n) item work s o e = record { steps = n; reached = e }

pub next_reaches : (item : Item) (work : List Item) (s : Store) (o : Outcome) → Reaches (item ∷ work) s o → Reaches ((step item s work).work) ((step item s work).store) o
next_reaches item work s o r = first_done r.steps item work s o r.reached

-- ---- an `assert` that is false
pub assert_halts : (t : Test) (s : Store) (work : List Item) → truth t s ≡ false → Reaches (act (assert_that t) ∷ work) s (halted s)
unfolding run step
assert_halts t s work e = record { steps = 1; reached = ap (λ b. run 0 (cond b work (halt ∷ work)) s) e }

-- ---- a parameter that stands for no statement
pub open_never_ends : (n k : ℕ) (work : List Item) (s : Store) → run n (act (par_stmt k) ∷ work) s ≡ None
unfolding run step
open_never_ends zero k work s = refl
open_never_ends (suc n) k work s = open_never_ends n k work s
