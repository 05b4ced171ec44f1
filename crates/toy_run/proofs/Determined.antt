-- Cells in order are told by which cells are among them, and what a run comes to by the block and the number of steps.
use Rattle.std.specs.Prelude.{◌≡◌, ◌⊎◌, ℕ, zero, suc, ◌<◌, ◌≤◌, List, [], ◌∷◌, length, Contains, Some, None, refl}
use Rattle.std.proofs.Common.{sym, ◌∙◌, ap, ap₂, subst, inl, inr, arith, get_or}
use Rattle.std.specs.Cmp.{IsTotalOrder}
use Rattle.std.specs.declared.cmp.Ordering.TheVariants.{Less, Equal}
use Rattle.std.specs.List.{AllByRecursion}
use Rattle.std.specs.List.Sorted.{IsStrictlySortedBy}
use Rattle.std.proofs.lemmas.Cmp.{tied_itself, on_total}
use Rattle.std.proofs.lemmas.Bool.{cases_order}
use Rattle.toy_imp.specs.Store.{Store}
use Rattle.toy_imp.specs.Block.{Block}
use Rattle.toy_imp.specs.Run.{Item, halt, before, Outcome, ended, halted, run}
use Rattle.toy_imp.proofs.Runs.{run-more, one_final_store, one_halted_store, never_both}
use Rattle.toy_run.specs.declared.cell.Cell.{Cell}
use Rattle.toy_run.specs.declared.ran.Ran.{Ran}
use Rattle.toy_run.specs.declared.ran.Ran.TheVariants.{Ended, Halted, Spent, Wide}
use Rattle.toy_run.specs.Cells.{cell_order, AreCells}
use Rattle.toy_run.specs.Place.{listed_total}
use Rattle.toy_run.specs.Ran.{Comes, ComesTo}
use Rattle.toy_run.specs.Steps.{after, NarrowNext, WideNext, NarrowUpTo, WideAt, ComesOutAt}
use Rattle.toy_run.specs.Stored.{empty_store}
use Rattle.toy_run.proofs.Counting.{run_open}

-- ---- which cells are among a list of cells
abbrev IsAmong : List Cell → Cell → Type 0
IsAmong [] c = ⊥
IsAmong (d ∷ cs) c = (d ≡ c) ⊎ IsAmong cs c

among_at : (cs : List Cell) (c : Cell) (k : ℕ) → k < length cs → get_or cs k c ≡ c → IsAmong cs c
among_at [] c k h is = absurd (omega arith)
among_at (d ∷ cs) c zero h is = inl is
among_at (d ∷ cs) c (suc k) h is = inr (among_at cs c k (omega arith) is)

is_among : (cs : List Cell) (c : Cell) → Contains cs c → IsAmong cs c
is_among cs c there = among_at cs c there.0 there.1 there.2

contained : (cs : List Cell) (c : Cell) → IsAmong cs c → Contains cs c
contained [] c there = absurd there
contained (d ∷ cs) c (inl is) = (0, omega arith, is)
contained (d ∷ cs) c (inr there) = let rest : Contains cs c = contained cs c there in (suc rest.0, omega (arith, rest.1), rest.2)

-- ---- cells in order with the same cells among them are the same list
cells_total : IsTotalOrder cell_order
cells_total = on_total (λ (c : Cell). (c.name, c.indices)) listed_total

not_before_itself : {A : Type 0} (c : Cell) → cell_order c c ≡ Less → A
not_before_itself c e = let tied : cell_order c c ≡ Equal = tied_itself cells_total c in cc

later : (a : Cell) (cs : List Cell) (c : Cell) → AllByRecursion (λ y. cell_order a y ≡ Less) cs → IsAmong cs c → cell_order a c ≡ Less
later a [] c all there = absurd there
later a (d ∷ cs) c all (inl is) = subst (λ x. cell_order a x ≡ Less) is all.0
later a (d ∷ cs) c all (inr there) = later a cs c all.1 there

same_first : (a b : Cell) (xs ys : List Cell) → AllByRecursion (λ y. cell_order a y ≡ Less) xs → AllByRecursion (λ y. cell_order b y ≡ Less) ys
    → IsAmong (a ∷ xs) b → IsAmong (b ∷ ys) a → a ≡ b
same_first a b xs ys after_a after_b (inl is) there = is
same_first a b xs ys after_a after_b (inr here) (inl is) = sym is
same_first a b xs ys after_a after_b (inr here) (inr there) =
    not_before_itself a (cells_total.trans a b a (later a xs b after_a here) (later b ys a after_b there))

among_rest : (a b : Cell) (xs ys : List Cell) → b ≡ a → AllByRecursion (λ y. cell_order a y ≡ Less) xs
    → ((c : Cell) → IsAmong (a ∷ xs) c → IsAmong (b ∷ ys) c) → (c : Cell) → IsAmong xs c → IsAmong ys c
among_rest a b xs ys same after_a over c there = rest (over c (inr there))
  where
    rest : IsAmong (b ∷ ys) c → IsAmong ys c
    rest (inl is) = not_before_itself a (subst (λ x. cell_order a x ≡ Less) (sym is ∙ same) (later a xs c after_a there))
    rest (inr found) = found

same_cells : (cs ds : List Cell) → IsStrictlySortedBy cell_order cs → IsStrictlySortedBy cell_order ds
    → ((c : Cell) → IsAmong cs c → IsAmong ds c) → ((c : Cell) → IsAmong ds c → IsAmong cs c) → cs ≡ ds
unfolding IsStrictlySortedBy
same_cells [] [] p q over back = refl
same_cells [] (d ∷ ds) p q over back = absurd (back d (inl refl))
same_cells (c ∷ cs) [] p q over back = absurd (over c (inl refl))
same_cells (c ∷ cs) (d ∷ ds) p q over back =
    let first : c ≡ d = same_first c d cs ds p.0 q.0 (back d (inl refl)) (over c (inl refl)) in
    ap₂ (λ x l. x ∷ l) first (same_cells cs ds p.1 q.1 (among_rest c d cs ds (sym first) p.0 over) (among_rest d c ds cs first q.0 back))

over_to : (s t : Store) (cs ds : List Cell) → s ≡ t → AreCells s cs → AreCells t ds → (c : Cell) → IsAmong cs c → IsAmong ds c
over_to s t cs ds same p q c there =
    is_among ds c (((subst (λ u. AreCells u ds) (sym same) q).exact c).1 ((p.exact c).0 (contained cs c there)))

one_listing : (s t : Store) (cs ds : List Cell) → s ≡ t → AreCells s cs → AreCells t ds → cs ≡ ds
one_listing s t cs ds same p q = same_cells cs ds p.in_order q.in_order (over_to s t cs ds same p q) (over_to t s ds cs (sym same) q p)

-- ---- a run comes out after one number of steps
not_sooner : (n m : ℕ) (work : List Item) (s : Store) (o p : Outcome) → ComesOutAt n work s o → ComesOutAt m work s p → n < m → ⊥
not_sooner n m work s o p a b h =
    let none : run n work s ≡ None = b.least n h in
    let some : run n work s ≡ Some o = a.reached in
    cc

one_number : (n m : ℕ) (work : List Item) (s : Store) (o p : Outcome) → ComesOutAt n work s o → ComesOutAt m work s p → n ≡ m
one_number n m work s o p a b = elim (cases_order n m) [
  | inl same ↦ same
  | inr order ↦ elim order [ inl h ↦ absurd (not_sooner n m work s o p a b h) | inr h ↦ absurd (not_sooner m n work s p o b a h) ]
]

-- ---- a step is not both narrow and not narrow, and where there is one the run has not come out
not_both : {A : Type 0} (left : List Item) (t : Store) → NarrowNext left t → WideNext left t → A
not_both [] t narrow wide = absurd narrow
not_both (halt ∷ left) t narrow wide = absurd narrow
not_both (item ∷ left) t narrow wide = absurd (wide narrow)

none_at_wide : (n : ℕ) (work : List Item) (s : Store) (left : List Item) (t : Store) → (after n work s).work ≡ left → WideNext left t → run n work s ≡ None
none_at_wide n work s [] t e wide = absurd wide
none_at_wide n work s (halt ∷ left) t e wide = absurd wide
none_at_wide n work s (item ∷ left) t e wide = run_open n work s item left tt e

-- a run does not come out by m steps and have a wide step at the next
out_and_wide : {A : Type 0} (n m : ℕ) (work : List Item) (s : Store) (o : Outcome) → n ≤ m → run n work s ≡ Some o → WideNext ((after m work s).work) ((after m work s).store) → A
out_and_wide n m work s o h out wide =
    let none : run m work s ≡ None = none_at_wide m work s _ _ refl wide in
    let some : run m work s ≡ Some o = run-more n m work s o h out in
    cc

never_wide : {A : Type 0} (n k : ℕ) (work : List Item) (s : Store) (o : Outcome) → ComesOutAt n work s o → NarrowUpTo n work s → WideAt k work s → A
never_wide n k work s o out narrow at = elim (cases_order at.before n) [
  | inl same ↦ out_and_wide n at.before work s o (omega (arith, same)) out.reached at.wide
  | inr order ↦ elim order [
    | inl h ↦ not_both _ _ (narrow at.before h) at.wide
    | inr h ↦ out_and_wide n at.before work s o (omega arith) out.reached at.wide
  ]
]

never_spent : {A : Type 0} (n steps : ℕ) (work : List Item) (s : Store) (o : Outcome) → n ≤ steps → ComesOutAt n work s o → run steps work s ≡ None → A
never_spent n steps work s o h out none = let some : run steps work s ≡ Some o = run-more n steps work s o h out.reached in cc

spent_or_wide : {A : Type 0} (k steps : ℕ) (work : List Item) (s : Store) → k ≤ steps → NarrowUpTo steps work s → WideAt k work s → A
spent_or_wide k steps work s h narrow at = not_both _ _ (narrow at.before (omega (arith, at.counted))) at.wide

not_wide_sooner : (k j : ℕ) (work : List Item) (s : Store) (a : WideAt k work s) (b : WideAt j work s) → a.before < b.before → ⊥
not_wide_sooner k j work s a b h = not_both _ _ (b.narrow a.before h) a.wide

one_wide : (k j : ℕ) (work : List Item) (s : Store) → WideAt k work s → WideAt j work s → k ≡ j
one_wide k j work s a b = elim (cases_order a.before b.before) [
  | inl same ↦ a.counted ∙ ap suc same ∙ sym b.counted
  | inr order ↦ elim order [ inl h ↦ absurd (not_wide_sooner k j work s a b h) | inr h ↦ absurd (not_wide_sooner j k work s b a h) ]
]

-- ---- what a run comes to
end_and_halt : {A : Type 0} (n m : ℕ) (work : List Item) (s t u : Store) → ComesOutAt n work s (ended t) → ComesOutAt m work s (halted u) → A
end_and_halt n m work s t u a b = never_both work s t u (record { steps = n; reached = a.reached }) (record { steps = m; reached = b.reached })

comes_once : (work : List Item) (s : Store) (steps : ℕ) (a b : Ran) → Comes work s steps a → Comes work s steps b → a ≡ b
comes_once work s steps (Ended cs n) (Ended ds m) p q =
    let a = p.1 in
    let b = q.1 in
    let same : a.store ≡ b.store = one_final_store work s a.store b.store (record { steps = n; reached = a.comes_out.reached }) (record { steps = m; reached = b.comes_out.reached }) in
    ap₂ Ended (one_listing a.store b.store cs ds same a.listed b.listed) (one_number n m work s _ _ a.comes_out b.comes_out)
comes_once work s steps (Ended cs n) (Halted ds m) p q = end_and_halt n m work s _ _ p.1.comes_out q.1.comes_out
comes_once work s steps (Ended cs n) Spent p q = never_spent n steps work s _ p.0 p.1.comes_out q.0
comes_once work s steps (Ended cs n) (Wide k) p q = never_wide n k work s _ p.1.comes_out p.1.narrow q.1
comes_once work s steps (Halted cs n) (Ended ds m) p q = end_and_halt m n work s _ _ q.1.comes_out p.1.comes_out
comes_once work s steps (Halted cs n) (Halted ds m) p q =
    let a = p.1 in
    let b = q.1 in
    let same : a.store ≡ b.store = one_halted_store work s a.store b.store (record { steps = n; reached = a.comes_out.reached }) (record { steps = m; reached = b.comes_out.reached }) in
    ap₂ Halted (one_listing a.store b.store cs ds same a.listed b.listed) (one_number n m work s _ _ a.comes_out b.comes_out)
comes_once work s steps (Halted cs n) Spent p q = never_spent n steps work s _ p.0 p.1.comes_out q.0
comes_once work s steps (Halted cs n) (Wide k) p q = never_wide n k work s _ p.1.comes_out p.1.narrow q.1
comes_once work s steps Spent (Ended ds m) p q = never_spent m steps work s _ q.0 q.1.comes_out p.0
comes_once work s steps Spent (Halted ds m) p q = never_spent m steps work s _ q.0 q.1.comes_out p.0
comes_once work s steps Spent Spent p q = refl
comes_once work s steps Spent (Wide k) p q = spent_or_wide k steps work s q.0 p.1 q.1
comes_once work s steps (Wide k) (Ended ds m) p q = never_wide m k work s _ q.1.comes_out q.1.narrow p.1
comes_once work s steps (Wide k) (Halted ds m) p q = never_wide m k work s _ q.1.comes_out q.1.narrow p.1
comes_once work s steps (Wide k) Spent p q = spent_or_wide k steps work s p.0 q.1 p.1
comes_once work s steps (Wide k) (Wide j) p q = ap Wide (one_wide k j work s p.1 q.1)

pub one_ran : (block : Block) (steps : ℕ) (a b : Ran) → ComesTo block steps a → ComesTo block steps b → a ≡ b
one_ran block steps a b p q = comes_once (before block []) empty_store steps a b p q
