-- Where blocks end and where they halt: two after one another, and one with a variable set round it.
-- A halt gives nothing back, so a block with a variable set round it halts where the block inside does, in the same store.
use Rattle.std.specs.Prelude.{◌≡◌, ◌⊎◌, ℤ, List, [], ◌∷◌, ◌++◌, Some}
use Rattle.std.proofs.Common.{sym, ◌∙◌, ap, subst, inl, inr}
use Rattle.toy_imp.specs.declared.name.Name.{Name}
use Rattle.toy_imp.specs.Cell.{variable}
use Rattle.toy_imp.specs.Store.{Store, read, write}
use Rattle.toy_imp.specs.Expr.{num}
use Rattle.toy_imp.specs.Block.{let_in, Block, empty, stmt, append}
use Rattle.toy_imp.specs.Run.{Item, act, restore, before, step, ended, halted}
use Rattle.toy_imp.specs.Ends.{Reaches, Ends, Halts}
use Rattle.toy_imp.proofs.Cases.{step-let, value-num, run-done}
use Rattle.toy_imp.proofs.Runs.{Through, through, halts_through, reaches_through, reaches_halt, never_both, before-split}
use Rattle.toy_imp.proofs.Alikes.{append_work}
use Rattle.iteration_order.proofs.Unrolled.{after_step, before_step, step-given_back}

-- ---- two blocks after one another, where they end
pub record AppendEnds (p q : Block) (s t : Store) : Type 0 where
  pub middle : Store
  pub first : Ends p s middle
  pub second : Ends q middle t

pub append_ends : (p q : Block) (s t : Store) → Ends (append p q) s t → AppendEnds p q s t
append_ends p q s t r =
    let way : Through (before p []) (before q []) s (ended t) = through (before p []) (before q []) s t (subst (λ w. Reaches w s (ended t)) (append_work p q) r) in
    record { middle = way.between; first = way.front; second = way.rear }

pub ends_append : (p q : Block) (s t : Store) → AppendEnds p q s t → Ends (append p q) s t
ends_append p q s t e = subst (λ w. Reaches w s (ended t)) (sym (append_work p q)) (reaches_through (before p []) (before q []) s e.middle (ended t) e.first e.second)

-- .. and where they halt: in the first, or behind it in the second
pub record SecondHalts (p q : Block) (s t : Store) : Type 0 where
  pub middle : Store
  pub first : Ends p s middle
  pub second : Halts q middle t

pub append_halts : (p q : Block) (s t : Store) → Halts (append p q) s t → Halts p s t ⊎ SecondHalts p q s t
append_halts p q s t r =
    elim (halts_through (before p []) (before q []) s t (subst (λ w. Reaches w s (halted t)) (append_work p q) r)) [
      | inl front ↦ inl front
      | inr way ↦ inr (record { middle = way.between; first = way.front; second = way.rear })
    ]

pub first_halts : (p q : Block) (s t : Store) → Halts p s t → Halts (append p q) s t
first_halts p q s t r = subst (λ w. Reaches w s (halted t)) (sym (append_work p q)) (reaches_halt (before p []) (before q []) s t r)

pub second_halts : (p q : Block) (s t : Store) → SecondHalts p q s t → Halts (append p q) s t
second_halts p q s t e = subst (λ w. Reaches w s (halted t)) (sym (append_work p q)) (reaches_through (before p []) (before q []) s e.middle (halted t) e.first e.second)

pub empty_ends : (s t : Store) → Ends empty s t → s ≡ t
empty_ends s t r = let e : Some (ended s) ≡ Some (ended t) = sym (run-done r.steps s) ∙ r.reached in cc

pub never_halts : {A : Type 0} (s t : Store) → Reaches [] s (halted t) → A
never_halts s t r = never_both [] s s t (record { steps = 0; reached = run-done 0 s }) r

pub ends_empty : (s t : Store) → s ≡ t → Ends empty s t
ends_empty s t e = subst (λ u. Ends empty s u) e (record { steps = 0; reached = run-done 0 s })

abbrev pub set_to : Name → ℤ → Block → Block
set_to x k p = stmt (let_in x (num k) p) empty

pub record LetEnds (x : Name) (k : ℤ) (p : Block) (s t : Store) : Type 0 where
  pub middle : Store
  pub inside : Ends p (write s (variable x) k) middle
  pub is : write middle (variable x) (read s (variable x)) ≡ t

pub step-set_to : (x : Name) (k : ℤ) (p : Block) (s : Store) (work : List Item) →
    step (act (let_in x (num k) p)) s work ≡ record { store = write s (variable x) k; work = before p (restore x (read s (variable x)) ∷ work) }
step-set_to x k p s work = step-let x (num k) p s work ∙ ap (λ z. record { store = write s (variable x) z; work = before p (restore x (read s (variable x)) ∷ work) }) (value-num k s)

pub let_ends : (x : Name) (k : ℤ) (p : Block) (s t : Store) → Ends (set_to x k p) s t → LetEnds x k p s t
let_ends x k p s t r =
    let stepped : Reaches (before p (restore x (read s (variable x)) ∷ [])) (write s (variable x) k) (ended t) = after_step _ _ s (ended t) _ (step-set_to x k p s []) r in
    let way : Through (before p []) (restore x (read s (variable x)) ∷ []) (write s (variable x) k) (ended t) =
    through _ _ _ t (subst (λ w. Reaches w (write s (variable x) k) (ended t)) (before-split p (restore x (read s (variable x)) ∷ [])) stepped) in
    record {
      middle = way.between;
      inside = way.front;
      is = empty_ends _ t (after_step _ _ way.between (ended t) _ (step-given_back x (read s (variable x)) way.between []) way.rear);
    }

pub ends_let : (x : Name) (k : ℤ) (p : Block) (s t : Store) → LetEnds x k p s t → Ends (set_to x k p) s t
ends_let x k p s t e =
    let rear : Reaches (restore x (read s (variable x)) ∷ []) e.middle (ended t) =
    before_step _ _ e.middle (ended t) _ (step-given_back x (read s (variable x)) e.middle []) (ends_empty _ t e.is) in
    let whole : Reaches (before p [] ++ restore x (read s (variable x)) ∷ []) (write s (variable x) k) (ended t) = reaches_through _ _ _ e.middle (ended t) e.inside rear in
    before_step _ _ s (ended t) _ (step-set_to x k p s [])
    (subst (λ w. Reaches w (write s (variable x) k) (ended t)) (sym (before-split p (restore x (read s (variable x)) ∷ []))) whole)

-- a halt inside is a halt of the whole, in the same store: nothing is given back
pub let_halts : (x : Name) (k : ℤ) (p : Block) (s t : Store) → Halts (set_to x k p) s t → Halts p (write s (variable x) k) t
let_halts x k p s t r =
    let r0 = read s (variable x) in
    let stepped : Reaches (before p (restore x r0 ∷ [])) (write s (variable x) k) (halted t) = after_step _ _ s (halted t) _ (step-set_to x k p s []) r in
    elim (halts_through (before p []) (restore x r0 ∷ []) (write s (variable x) k) t (subst (λ w. Reaches w (write s (variable x) k) (halted t)) (before-split p (restore x r0 ∷ [])) stepped)) [
      | inl front ↦ front
      | inr way ↦ never_halts _ t (after_step _ _ way.between (halted t) _ (step-given_back x r0 way.between []) way.rear)
    ]

pub halts_let : (x : Name) (k : ℤ) (p : Block) (s t : Store) → Halts p (write s (variable x) k) t → Halts (set_to x k p) s t
halts_let x k p s t r =
    let r0 = read s (variable x) in
    before_step _ _ s (halted t) _ (step-set_to x k p s [])
    (subst (λ w. Reaches w (write s (variable x) k) (halted t)) (sym (before-split p (restore x r0 ∷ []))) (reaches_halt (before p []) (restore x r0 ∷ []) _ t r))
