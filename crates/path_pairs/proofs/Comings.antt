-- Steps that lead from work in a store to other work in another store, one after another, and what a run does behind them.
use Rattle.std.specs.Prelude.{◌≡◌, ℕ, zero, suc, ◌+◌, ◌-◌, ◌≤◌, List, [], ◌∷◌, ◌++◌, Some, refl}
use Rattle.std.proofs.Common.{sym, ◌∙◌, ap, subst, inl, inr, arith}
use Rattle.toy_imp.specs.Ends.{Reaches}
use Rattle.toy_imp.specs.Block.{Stmt}
use Rattle.toy_imp.specs.Run.{Item, act, halt, Done, step, Outcome, ended, halted, run}
use Rattle.toy_imp.specs.Store.{Store}
use Rattle.toy_imp.proofs.Runs.{store-append, work-append}
use Rattle.term_meaning.proofs.Agreeing.{some_equal, none_some}
use Rattle.path_pairs.specs.Comes.{steps_on, Comes}
use Rattle.path_pairs.specs.PathLaws.{GetsOn, GoesOn}

-- so many steps, and then more
pub steps_more : (k j : ℕ) (work : List Item) (s : Store) (d : Done) → steps_on k work s ≡ Some d → steps_on (k + j) work s ≡ steps_on j d.work d.store
unfolding steps_on
steps_more zero j work s d e =
    let none : 0 + j ≡ j = omega arith in
    ap (λ n. steps_on n work s) none ∙ ap (λ (x : Done). steps_on j x.work x.store) (some_equal _ d e)
steps_more (suc k) j [] s d e = none_some d e
steps_more (suc k) j (halt ∷ work) s d e = none_some d e
steps_more (suc k) j (item ∷ work) s d e =
    let next : suc k + j ≡ suc (k + j) = omega arith in
    ap (λ n. steps_on n (item ∷ work) s) next ∙ steps_more k j _ _ d e

pub comes_self : (work : List Item) (s : Store) → Comes work s work s
unfolding steps_on
comes_self work s = record { steps = 0; there = refl }

pub comes_same : (u w : List Item) (s : Store) → u ≡ w → Comes u s w s
comes_same u w s e = subst (λ x. Comes u s x s) e (comes_self u s)

-- .. by some step at least
pub record ComesByStep (first : List Item) (s : Store) (second : List Item) (m : Store) : Type 0 where
  pub comes : Comes first s second m
  pub some : 1 ≤ comes.steps

pub one_step : (a : Stmt) (work : List Item) (s : Store) → ComesByStep (act a ∷ work) s ((step (act a) s work).work) ((step (act a) s work).store)
unfolding steps_on
one_step a work s = record { comes = record { steps = 1; there = refl }; some = omega arith }

pub comes_through : (u v w : List Item) (s m n : Store) → Comes u s v m → Comes v m w n → Comes u s w n
comes_through u v w s m n a b = record {
  steps = a.steps + b.steps;
  there = steps_more a.steps b.steps u s (record { store = m; work = v }) a.there ∙ b.there;
}

pub steps_through : (u v w : List Item) (s m n : Store) (a : Comes u s v m) (b : Comes v m w n) → (comes_through u v w s m n a b).steps ≡ a.steps + b.steps
unfolding comes_through
steps_through u v w s m n a b = refl

-- ---- some step is made, or less is left
pub gets_on_more : (k now left more : ℕ) → GetsOn k now left → left ≤ more → GetsOn k now more
gets_on_more k now left more (inl some) le = inl some
gets_on_more k now left more (inr less) le = inr (omega (arith, less, le))

pub gets_on_through : (k j n left between now : ℕ) → n ≡ k + j → GetsOn k between left → GetsOn j now (suc between) → GetsOn n now left
gets_on_through k j n left between now e (inl some) g = inl (omega (arith, e, some))
gets_on_through k j n left between now e (inr less) (inl some) = inl (omega (arith, e, some))
gets_on_through k j n left between now e (inr less) (inr g) = inr (omega (arith, less, g))

-- ---- runs
pub run_from : (k j : ℕ) (work : List Item) (s : Store) (d : Done) → steps_on k work s ≡ Some d → run (k + j) work s ≡ run j d.work d.store
unfolding steps_on run
run_from zero j work s d e =
    let none : 0 + j ≡ j = omega arith in
    ap (λ n. run n work s) none ∙ ap (λ (x : Done). run j x.work x.store) (some_equal _ d e)
run_from (suc k) j [] s d e = none_some d e
run_from (suc k) j (halt ∷ work) s d e = none_some d e
run_from (suc k) j (item ∷ work) s d e =
    let next : suc k + j ≡ suc (k + j) = omega arith in
    ap (λ n. run n (item ∷ work) s) next ∙ run_from k j _ _ d e

-- a run that ends makes all these steps, and the rest of its steps behind them
pub run_behind : (k n : ℕ) (work : List Item) (s : Store) (o : Outcome) (d : Done) → steps_on k work s ≡ Some d → run n work s ≡ Some o → (k ≤ n) × (run (n - k) d.work d.store ≡ Some o)
unfolding steps_on run
run_behind zero n work s o d e f =
    let none : n - 0 ≡ n = omega arith in
    (omega arith, sym (ap (λ (x : Done). run (n - 0) x.work x.store) (some_equal _ d e)) ∙ ap (λ m. run m work s) none ∙ f)
run_behind (suc k) n [] s o d e f = none_some d e
run_behind (suc k) n (halt ∷ work) s o d e f = none_some d e
run_behind (suc k) zero (item ∷ work) s o d e f = none_some o f
run_behind (suc k) (suc n) (item ∷ work) s o d e f =
    let h : (k ≤ n) × (run (n - k) d.work d.store ≡ Some o) = run_behind k n _ _ o d e f in
    let next : suc n - suc k ≡ n - k = omega arith in
    (omega (arith, h.0), ap (λ m. run m d.work d.store) next ∙ h.1)

pub reaches_behind : (u w : List Item) (s m : Store) (o : Outcome) → Comes u s w m → Reaches u s o → Reaches w m o
reaches_behind u w s m o c e = record {
  steps = e.steps - c.steps;
  reached = (run_behind c.steps e.steps u s o (record { store = m; work = w }) c.there e.reached).1;
}

pub reaches_before : (u w : List Item) (s m : Store) (o : Outcome) → Comes u s w m → Reaches w m o → Reaches u s o
reaches_before u w s m o c e = record {
  steps = c.steps + e.steps;
  reached = run_from c.steps e.steps u s (record { store = m; work = w }) c.there ∙ e.reached;
}

-- work that is done comes, in front of other work, to that other work
done_in : (n : ℕ) (u w : List Item) (s m : Store) → run n u s ≡ Some (ended m) → Comes (u ++ w) s w m
unfolding steps_on run
done_in n [] w s m e = let same : s ≡ m = cc in record { steps = 0; there = λ j. Some (record { store = same j; work = w }) }
done_in n (halt ∷ u) w s m e = cc
done_in zero (item ∷ u) w s m e = none_some (ended m) e
done_in (suc n) (item ∷ u) w s m e =
    let on : Comes ((step item s u).work ++ w) ((step item s u).store) w m = done_in n _ w _ m e in
    record { steps = suc on.steps; there = (λ j. steps_on on.steps (work-append item s u w j) (store-append item s u w j)) ∙ on.there }

pub done_comes : (u w : List Item) (s m : Store) → Reaches u s (ended m) → Comes (u ++ w) s w m
done_comes u w s m e = done_in e.steps u w s m e.reached

-- work of which nothing is left has ended
-- .. and work before `halt` has halted
pub comes_halts : (u w : List Item) (s m : Store) → Comes u s (halt ∷ w) m → Reaches u s (halted m)
unfolding run
comes_halts u w s m c = reaches_before u (halt ∷ w) s m (halted m) c (record { steps = 0; reached = refl })

pub comes_ends : (u : List Item) (s m : Store) → Comes u s [] m → Reaches u s (ended m)
unfolding run
comes_ends u s m c = reaches_before u [] s m (ended m) c (record { steps = 0; reached = refl })

pub run_goes_on : (u w : List Item) (s m : Store) (c : Comes u s w m) → GoesOn u s w m c.steps
run_goes_on u w s m c = record {
  more = λ n. run_from c.steps n u s (record { store = m; work = w }) c.there;
  left = λ n o e. run_behind c.steps n u s o (record { store = m; work = w }) c.there e;
  outcome = λ o. (reaches_behind u w s m o c, reaches_before u w s m o c);
}
