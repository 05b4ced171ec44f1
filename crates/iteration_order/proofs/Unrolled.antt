-- A loop runs as the list of its turns: while turns are left, to do them and then to give the counter its value back
-- is to give it back at once and then to run the turns as `let`s, each of which sets the counter and gives it back.
use Rattle.std.specs.Prelude.{◌≡◌, ℕ, zero, suc, ℤ, pos, ◌+ℤ◌, ◌-ℤ◌, ◌≤ℤ◌, ◌<ℤ◌, true, false, cond, List, [], ◌∷◌, int_lt, refl}
use Rattle.std.proofs.Common.{sym, ◌∙◌, ap, ap₂, subst, arith}
use Rattle.std.proofs.lemmas.Int.{ints, by_lt_z}
use Rattle.toy_imp.specs.declared.name.Name.{Name}
use Rattle.toy_imp.specs.Cell.{variable}
use Rattle.toy_imp.specs.Store.{Store, read, write}
use Rattle.toy_imp.specs.Value.{value}
use Rattle.toy_imp.specs.Expr.{Expr, num}
use Rattle.toy_imp.specs.Block.{for_to, let_in, Block}
use Rattle.toy_imp.specs.Run.{Item, act, turns, restore, before, Done, step, Outcome}
use Rattle.toy_imp.specs.Ends.{Reaches, Alike}
use Rattle.toy_imp.proofs.Cases.{step-let, step-for, value-num}
use Rattle.toy_imp.proofs.Runs.{reaches_next, next_reaches}
use Rattle.toy_imp.proofs.Alikes.{rear_replaced}
use Rattle.toy_imp.proofs.Stores.{write_is_read, write-write, write-read}
use Rattle.iteration_order.specs.RunningOrder.{count_up, or_zero, turns_between}
use Rattle.iteration_order.specs.Exchange.{joined}
use Rattle.iteration_order.specs.Loops.{turn_at, LoopIsItsTurns}
use Rattle.iteration_order.proofs.Ranges.{or_zero-positive, turns-none}

-- ---- one step, whose outcome is known
pub after_step : (item : Item) (work : List Item) (s : Store) (t : Outcome) (d : Done) → step item s work ≡ d → Reaches (item ∷ work) s t → Reaches d.work d.store t
after_step item work s t d e r = subst (λ d. Reaches d.work d.store t) e (next_reaches item work s t r)

pub before_step : (item : Item) (work : List Item) (s : Store) (t : Outcome) (d : Done) → step item s work ≡ d → Reaches d.work d.store t → Reaches (item ∷ work) s t
before_step item work s t d e r = reaches_next item work s t (subst (λ d. Reaches d.work d.store t) (sym e) r)

step-turn : (x : Name) (k hi : ℤ) (b : Block) (s : Store) (work : List Item) → int_lt k hi ≡ true →
    step (turns x k hi b) s work ≡ record { store = write s (variable x) k; work = before b (turns x (k +ℤ pos 1) hi b ∷ work) }
unfolding step
step-turn x k hi b s work e = ap (λ c. record { store = cond c (write s (variable x) k) s; work = cond c (before b (turns x (k +ℤ pos 1) hi b ∷ work)) work }) e

step-no_turn : (x : Name) (k hi : ℤ) (b : Block) (s : Store) (work : List Item) → int_lt k hi ≡ false →
    step (turns x k hi b) s work ≡ record { store = s; work = work }
unfolding step
step-no_turn x k hi b s work e = ap (λ c. record { store = cond c (write s (variable x) k) s; work = cond c (before b (turns x (k +ℤ pos 1) hi b ∷ work)) work }) e

pub step-given_back : (x : Name) (v : ℤ) (s : Store) (work : List Item) → step (restore x v) s work ≡ record { store = write s (variable x) v; work = work }
unfolding step
step-given_back x v s work = refl

-- a turn as a `let`, where the counter was given v back
step-turn_at : (x : Name) (k v : ℤ) (b : Block) (s : Store) (work : List Item) →
    step (act (let_in x (num k) b)) (write s (variable x) v) work ≡ record { store = write s (variable x) k; work = before b (restore x v ∷ work) }
step-turn_at x k v b s work =
    step-let x (num k) b (write s (variable x) v) work ∙
    ap₂ (λ u z. record { store = u; work = before b (restore x z ∷ work) })
    (ap (write (write s (variable x) v) (variable x)) (value-num k (write s (variable x) v)) ∙ write-write s (variable x) v k)
    (write_is_read s (variable x) v)

-- ---- the turns
module _ (x : Name) (hi : ℤ) (b : Block) (v : ℤ) where
  -- the work of the loop, and of its turns as `let`s
  loop_work : ℤ → List Item
  loop_work k = turns x k hi b ∷ restore x v ∷ []

  let_work : List ℤ → List Item
  let_work ks = restore x v ∷ before (joined (turn_at x b) ks) []

  no_turn : (k : ℤ) → int_lt k hi ≡ false → Alike (loop_work k) (let_work [])
  unfolding loop_work let_work
  no_turn k e = record {
    to = λ s t r. after_step _ _ s t _ (step-no_turn x k hi b s (restore x v ∷ []) e) r;
    back = λ s t r. before_step _ _ s t _ (step-no_turn x k hi b s (restore x v ∷ []) e) r;
  }

  one_turn : (k : ℤ) (ks : List ℤ) → int_lt k hi ≡ true → Alike (loop_work (k +ℤ pos 1)) (let_work ks) → Alike (loop_work k) (let_work (k ∷ ks))
  unfolding loop_work let_work
  one_turn k ks e rest =
      let bodies : Alike (before b (turns x (k +ℤ pos 1) hi b ∷ restore x v ∷ [])) (before b (restore x v ∷ before (joined (turn_at x b) ks) [])) =
      rear_replaced b _ _ rest in
      record {
        to = λ s t r.
            before_step _ _ s t _ (step-given_back x v s (act (let_in x (num k) b) ∷ before (joined (turn_at x b) ks) []))
            (before_step _ _ _ t _ (step-turn_at x k v b s (before (joined (turn_at x b) ks) []))
            (bodies.to _ t (after_step _ _ s t _ (step-turn x k hi b s (restore x v ∷ []) e) r)));
        back = λ s t r.
            before_step _ _ s t _ (step-turn x k hi b s (restore x v ∷ []) e)
            (bodies.back _ t
            (after_step _ _ _ t _ (step-turn_at x k v b s (before (joined (turn_at x b) ks) []))
            (after_step _ _ s t _ (step-given_back x v s (act (let_in x (num k) b) ∷ before (joined (turn_at x b) ks) [])) r)));
      }

  -- so many turns
  some_turns : (n : ℕ) (k : ℤ) → hi ≡ k +ℤ pos n → Alike (loop_work k) (let_work (count_up k n))
  some_turns zero k is = no_turn k (grind (arith, ints))
  some_turns (suc n) k is = one_turn k (count_up (k +ℤ pos 1) n) (grind (arith, ints)) (some_turns n (k +ℤ pos 1) (omega (arith, ints)))

  all_turns : (low : ℤ) → Alike (loop_work low) (let_work (turns_between low hi))
  unfolding turns_between
  all_turns low = by_lt_z low hi
      (λ (lt : low <ℤ hi).
      let size = or_zero-positive (hi -ℤ low) (omega (arith, ints)) in
      some_turns (or_zero (hi -ℤ low)) low (omega (arith, ints)))
      (λ (le : hi ≤ℤ low). subst (λ ks. Alike (loop_work low) (let_work ks)) (sym (turns-none low hi le)) (no_turn low (grind (arith, ints))))

module _ (x : Name) (low high : Expr) (b : Block) (s : Store) where
  loop_to : (t : Outcome) → Reaches (act (for_to x low high b) ∷ []) s t → Reaches (before (joined (turn_at x b) (turns_between (value low s) (value high s))) []) s t
  unfolding loop_work let_work
  loop_to t r =
      let v = read s (variable x) in
      let started : Reaches (turns x (value low s) (value high s) b ∷ restore x v ∷ []) s t = after_step _ _ s t _ (step-for x low high b s []) r in
      let turned = (all_turns x (value high s) b v (value low s)).to s t started in
      subst (λ u. Reaches (before (joined (turn_at x b) (turns_between (value low s) (value high s))) []) u t) (write-read s (variable x))
      (after_step _ _ s t _ (step-given_back x v s (before (joined (turn_at x b) (turns_between (value low s) (value high s))) [])) turned)

  loop_back : (t : Outcome) → Reaches (before (joined (turn_at x b) (turns_between (value low s) (value high s))) []) s t → Reaches (act (for_to x low high b) ∷ []) s t
  unfolding loop_work let_work
  loop_back t r =
      let v = read s (variable x) in
      let given_back : Reaches (restore x v ∷ before (joined (turn_at x b) (turns_between (value low s) (value high s))) []) s t =
      before_step _ _ s t _ (step-given_back x v s (before (joined (turn_at x b) (turns_between (value low s) (value high s))) []))
      (subst (λ u. Reaches (before (joined (turn_at x b) (turns_between (value low s) (value high s))) []) u t) (sym (write-read s (variable x))) r) in
      before_step _ _ s t _ (step-for x low high b s []) ((all_turns x (value high s) b v (value low s)).back s t given_back)

pub loop_is_its_turns : LoopIsItsTurns
loop_is_its_turns x low high b s = record { to = loop_to x low high b s; back = loop_back x low high b s }
