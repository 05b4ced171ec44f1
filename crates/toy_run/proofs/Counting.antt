-- How the machine's state after each number of steps is that of the definition, and what its answers then say.
use Rattle.std.specs.Prelude.{◌≡◌, ℕ, zero, suc, ◌+◌, List, [], ◌∷◌, Some, None, refl}
use Rattle.std.proofs.Common.{sym, ◌∙◌, ap, ap₂, subst, arith, below_more, add-one}
use Rattle.toy_imp.specs.Store.{Store}
use Rattle.toy_imp.specs.Run.{Item, Done, halt, step, ended, halted, run}
use Rattle.toy_run.specs.declared.step.Width.{Width}
use Rattle.toy_run.specs.declared.step.Width.TheVariants.{Narrow, Wide}
use Rattle.toy_run.specs.Narrow.{NarrowItem}
use Rattle.toy_run.specs.Steps.{after, NarrowNext, WideNext, NarrowUpTo, WideAt, ComesOutAt}
use Rattle.toy_run.specs.Does.{Does}
use Rattle.toy_run.specs.Work.{first_of}
use Rattle.toy_run.specs.declared.work.Item.TheVariants.{Acts, Turns, Restore, Halt}
use Rattle.toy_run.specs.declared.work.Item as machine

-- ---- one step more
pub after-more : (n : ℕ) (work : List Item) (s : Store) (item : Item) (rest : List Item) → (after n work s).work ≡ item ∷ rest → after (suc n) work s ≡ step item ((after n work s).store) rest
unfolding after
after-more zero [] s item rest e = cc
after-more zero (i ∷ w) s item rest e = let one : i ≡ item = cc in let two : w ≡ rest = cc in ap₂ (λ j v. step j s v) one two
after-more (suc n) [] s item rest e = cc
after-more (suc n) (i ∷ w) s item rest e = after-more n _ _ item rest e

-- a run that has halted stays so
halt_stays : (n : ℕ) (work : List Item) (s : Store) → after n (halt ∷ work) s ≡ record { store = s; work = halt ∷ work }
unfolding after step
halt_stays zero work s = refl
halt_stays (suc n) work s = halt_stays n work s

no_more : {A : Type 0} (n : ℕ) (work : List Item) (s : Store) → (after n (halt ∷ work) s).work ≡ [] → A
no_more n work s e = let clash : halt ∷ work ≡ [] = sym (ap (λ (d : Done). d.work) (halt_stays n work s)) ∙ e in cc

first_of_list : Item → List Item → Item
first_of_list d [] = d
first_of_list d (i ∷ w) = i

pub run_ended : (n : ℕ) (work : List Item) (s : Store) → (after n work s).work ≡ [] → run n work s ≡ Some (ended ((after n work s).store))
unfolding after run step
run_ended zero [] s e = refl
run_ended zero (i ∷ w) s e = cc
run_ended (suc n) [] s e = refl
run_ended (suc n) (halt ∷ w) s e = no_more n w s e
run_ended (suc n) (i ∷ w) s e = run_ended n _ _ e

pub run_halted : (n : ℕ) (work : List Item) (s : Store) (rest : List Item) → (after n work s).work ≡ halt ∷ rest → run n work s ≡ Some (halted ((after n work s).store))
unfolding after run step
run_halted zero [] s rest e = cc
run_halted zero (halt ∷ w) s rest e = refl
run_halted zero (i ∷ w) s rest e = cc
run_halted (suc n) [] s rest e = cc
run_halted (suc n) (halt ∷ w) s rest e = ap (λ (d : Done). Some (halted d.store)) (sym (halt_stays n w s))
run_halted (suc n) (i ∷ w) s rest e = run_halted n _ _ rest e

-- an item that is to be done, and not to halt
abbrev pub IsToDo : Item → Type 0
IsToDo halt = ⊥
IsToDo _ = Unit {0}

pub to_do : (i : machine.Item) → (i ≡ Halt → ⊥) → IsToDo (first_of i)
to_do (Acts s rest) h = tt
to_do (Turns x k hi b) h = tt
to_do (Restore x v) h = tt
to_do Halt h = absurd (h refl)

still_halted : {A : Type 0} (n : ℕ) (work : List Item) (s : Store) (item : Item) (rest : List Item) → IsToDo item → (after n (halt ∷ work) s).work ≡ item ∷ rest → A
unfolding first_of_list
still_halted n work s item rest doing e =
    let same : halt ∷ work ≡ item ∷ rest = sym (ap (λ (d : Done). d.work) (halt_stays n work s)) ∙ e in
    absurd (subst IsToDo (sym (ap (first_of_list item) same)) doing)

pub run_open : (n : ℕ) (work : List Item) (s : Store) (item : Item) (rest : List Item) → IsToDo item → (after n work s).work ≡ item ∷ rest → run n work s ≡ None
unfolding after run step
run_open zero [] s item rest doing e = cc
run_open zero (halt ∷ w) s item rest doing e = still_halted zero w s item rest doing e
run_open zero (i ∷ w) s item rest doing e = refl
run_open (suc n) [] s item rest doing e = cc
run_open (suc n) (halt ∷ w) s item rest doing e = still_halted n w s item rest doing e
run_open (suc n) (i ∷ w) s item rest doing e = run_open n _ _ item rest doing e

-- ---- the machine after n narrow steps, with this store and this work left
pub record Stands (n : ℕ) (work : List Item) (s : Store) (t : Store) (left : List Item) : Type 0 where
  pub narrow : NarrowUpTo n work s
  pub holds : (after n work s).store ≡ t
  pub remains : (after n work s).work ≡ left

pub at_first : (work : List Item) (s : Store) → Stands 0 work s s work
unfolding after
at_first work s = record { narrow = λ k h. absurd (omega arith); holds = refl; remains = refl }

narrow_next : (left : List Item) (t : Store) (item : Item) (rest : List Item) (u : Store) → IsToDo item → left ≡ item ∷ rest → t ≡ u → NarrowItem item u → NarrowNext left t
unfolding first_of_list
narrow_next [] t item rest u doing e p h = cc
narrow_next (halt ∷ w) t item rest u doing e p h = absurd (subst IsToDo (sym (ap (first_of_list item) e)) doing)
narrow_next (i ∷ w) t item rest u doing e p h = let one : item ≡ i = cc in subst (λ j. NarrowItem j t) one (subst (λ v. NarrowItem item v) (sym p) h)

wide_next : (left : List Item) (t : Store) (item : Item) (rest : List Item) (u : Store) → IsToDo item → left ≡ item ∷ rest → t ≡ u → ¬ (NarrowItem item u) → WideNext left t
unfolding first_of_list
wide_next [] t item rest u doing e p h = cc
wide_next (halt ∷ w) t item rest u doing e p h = absurd (subst IsToDo (sym (ap (first_of_list item) e)) doing)
wide_next (i ∷ w) t item rest u doing e p h = let one : i ≡ item = cc in λ n. h (subst (λ v. NarrowItem item v) p (subst (λ j. NarrowItem j t) one n))

none_ended : (n : ℕ) (work : List Item) (s : Store) (left : List Item) (t : Store) → (after n work s).work ≡ left → NarrowNext left t → run n work s ≡ None
none_ended n work s [] t e h = absurd h
none_ended n work s (halt ∷ w) t e h = absurd h
none_ended n work s (i ∷ w) t e h = run_open n work s i w tt e

pub at_next : (n : ℕ) (work : List Item) (s t : Store) (item : Item) (rest : List Item) (u : Store) (left : List Item)
    → IsToDo item → Stands n work s t (item ∷ rest) → Does item t rest Narrow u left → Stands (n + 1) work s u left
at_next n work s t item rest u left doing stands does = rw add-one (record {
  narrow = λ k h. below_more (λ j. NarrowNext ((after j work s).work) ((after j work s).store)) n stands.narrow (narrow_next _ _ item rest t doing stands.remains stands.holds does.0) k (omega arith);
  holds = ap (λ d. d.store) next ∙ sym does.1;
  remains = ap (λ d. d.work) next ∙ sym does.2;
})
  where
    next : after (suc n) work s ≡ step item t rest
    next = after-more n work s item rest stands.remains ∙ ap (λ v. step item v rest) stands.holds

pub at_wide : (n : ℕ) (work : List Item) (s t : Store) (item : Item) (rest : List Item) (u : Store) (left : List Item)
    → IsToDo item → Stands n work s t (item ∷ rest) → Does item t rest Wide u left → WideAt (n + 1) work s
at_wide n work s t item rest u left doing stands does = record {
  before = n;
  counted = add-one n;
  narrow = stands.narrow;
  wide = wide_next _ _ item rest t doing stands.remains stands.holds does;
}

pub at_halt : (n : ℕ) (work : List Item) (s t : Store) (rest : List Item) → Stands n work s t (halt ∷ rest) → ComesOutAt n work s (halted t)
at_halt n work s t rest stands = record {
  reached = run_halted n work s rest stands.remains ∙ ap (λ u. Some (halted u)) stands.holds;
  least = λ k h. none_ended k work s _ _ refl (stands.narrow k h);
}

pub at_end : (n : ℕ) (work : List Item) (s t : Store) → Stands n work s t [] → ComesOutAt n work s (ended t)
at_end n work s t stands = record {
  reached = run_ended n work s stands.remains ∙ ap (λ u. Some (ended u)) stands.holds;
  least = λ k h. none_ended k work s _ _ refl (stands.narrow k h);
}

pub at_spent : (n : ℕ) (work : List Item) (s t : Store) (item : Item) (rest : List Item) → IsToDo item → Stands n work s t (item ∷ rest) → run n work s ≡ None
at_spent n work s t item rest doing stands = run_open n work s item rest doing stands.remains

-- ---- the same, at what the machine has in hand
pub starts : (work left : List Item) (s t : Store) → t ≡ s → left ≡ work → Stands 0 work s t left
starts work left s t e p = subst (λ v. Stands 0 work s v left) (sym e) (subst (λ l. Stands 0 work s s l) (sym p) (at_first work s))

with_first : (n : ℕ) (work : List Item) (s t : Store) (all : List Item) (item : Item) (rest : List Item) → all ≡ item ∷ rest → Stands n work s t all → Stands n work s t (item ∷ rest)
with_first n work s t all item rest e stands = subst (λ l. Stands n work s t l) e stands

pub goes_on : (n : ℕ) (work : List Item) (s t : Store) (all : List Item) (item : Item) (rest : List Item) (w : Width) (u : Store) (left : List Item)
    → IsToDo item → all ≡ item ∷ rest → Stands n work s t all → Does item t rest w u left → (w ≡ Wide → ⊥) → Stands (n + 1) work s u left
goes_on n work s t all item rest Narrow u left doing e stands does h = at_next n work s t item rest u left doing (with_first n work s t all item rest e stands) does
goes_on n work s t all item rest Wide u left doing e stands does h = absurd (h refl)

pub stops_wide : (n : ℕ) (work : List Item) (s t : Store) (all : List Item) (item : Item) (rest : List Item) (w : Width) (u : Store) (left : List Item)
    → IsToDo item → all ≡ item ∷ rest → Stands n work s t all → Does item t rest w u left → w ≡ Wide → WideAt (n + 1) work s
stops_wide n work s t all item rest Narrow u left doing e stands does h = cc
stops_wide n work s t all item rest Wide u left doing e stands does h = at_wide n work s t item rest u left doing (with_first n work s t all item rest e stands) does

pub stops_spent : (n steps : ℕ) (work : List Item) (s t : Store) (all : List Item) (item : Item) (rest : List Item) → IsToDo item → n ≡ steps → all ≡ item ∷ rest → Stands n work s t all → (run steps work s ≡ None) × NarrowUpTo steps work s
stops_spent n steps work s t all item rest doing is e stands =
    subst (λ k. (run k work s ≡ None) × NarrowUpTo k work s) is (at_spent n work s t item rest doing (with_first n work s t all item rest e stands), stands.narrow)

pub stops_ended : (n : ℕ) (work : List Item) (s t : Store) (all : List Item) → all ≡ [] → Stands n work s t all → ComesOutAt n work s (ended t)
stops_ended n work s t all e stands = at_end n work s t (subst (λ l. Stands n work s t l) e stands)

pub stops_halted : (n : ℕ) (work : List Item) (s t : Store) (all : List Item) (i : machine.Item) (rest : List Item) → i ≡ Halt → all ≡ first_of i ∷ rest → Stands n work s t all → ComesOutAt n work s (halted t)
stops_halted n work s t all i rest is e stands = at_halt n work s t rest (subst (λ l. Stands n work s t l) (e ∙ ap (λ j. first_of j ∷ rest) is) stands)
