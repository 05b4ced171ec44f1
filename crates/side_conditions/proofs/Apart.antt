-- Blocks that are apart, by the frame law both ways round: each reads nothing that the other has written, so it does the same from the
-- store without the other's writes, and writes into different cells may come in either order.
use Rattle.std.specs.Prelude.{◌≡◌, ◌≢◌, ℕ, zero, suc, ℤ, pos, Bool, true, false, cond, ◌||◌, ◌+ℤ◌, List, [], ◌∷◌, Some, int_lt, refl}
use Rattle.std.proofs.Common.{sym, ◌∙◌, ap, subst, true≢false}
use Rattle.toy_imp.specs.Cell.{Cell}
use Rattle.toy_imp.specs.Store.{Store, write}
use Rattle.toy_imp.specs.Truth.{truth}
use Rattle.toy_imp.specs.Block.{skip, put, assert_that, if_then, while_do, for_to, let_in, par_stmt, Block, empty, stmt, append}
use Rattle.toy_imp.specs.Run.{Item, act, turns, restore, halt, before, step, Outcome, ended, halted, run}
use Rattle.toy_imp.specs.Ends.{Reaches, Ends}
use Rattle.toy_imp.proofs.Stores.{writes_commute}
use Rattle.toy_imp.proofs.Runs.{Through, through, reaches_through}
use Rattle.toy_imp.proofs.Alikes.{append_work}
use Rattle.side_conditions.specs.Each.{Each}
use Rattle.side_conditions.specs.Places.{stmt_asserts, block_asserts}
use Rattle.side_conditions.specs.Seeking.{reads_name, writes_name}
use Rattle.side_conditions.specs.Frame.{Write, after, reads, writes, written, outcome}
use Rattle.side_conditions.specs.FrameLaws.{Agree, SameSteps, IsApart, IsWithinText}
use Rattle.side_conditions.specs.ApartLaws.{WritesApart, ApartCommute, AssertlessIsQuiet}
use Rattle.side_conditions.proofs.Framing.{frame, work_tells_outcome, writes_tell_store, written_keeps}
use Rattle.side_conditions.proofs.Within.{first_no, second_no, within_text}

-- ---- runs that end, by their steps
pub record EndsBy (b : Block) (s t : Store) : Type 0 where
  pub steps : ℕ
  pub nothing_left : (after steps (before b []) s).work ≡ []
  pub store_is : written s (writes steps (before b []) s) ≡ t

store_or : Store → Outcome → Store
store_or d (ended s) = s
store_or d (halted s) = d

has_ended : Outcome → Bool
has_ended (ended s) = true
has_ended (halted s) = false

none_left : (work : List Item) (s t : Store) → outcome work s ≡ Some (ended t) → (work ≡ []) × (s ≡ t)
unfolding store_or has_ended
none_left [] s t e = let same : ended s ≡ ended t = cc in (refl, ap (store_or s) same)
none_left (halt ∷ work) s t e = let same : halted s ≡ ended t = cc in absurd (true≢false (sym (ap has_ended same)))
none_left (act a ∷ work) s t e = cc
none_left (turns x k hi b ∷ work) s t e = cc
none_left (restore x v ∷ work) s t e = cc

pub ends_by : (b : Block) (s t : Store) → Ends b s t → EndsBy b s t
ends_by b s t r =
    let n : ℕ = r.steps in
    let told = none_left ((after n (before b []) s).work) ((after n (before b []) s).store) t (sym (work_tells_outcome n (before b []) s) ∙ r.reached) in
    record { steps = n; nothing_left = told.0; store_is = sym (writes_tell_store n (before b []) s) ∙ told.1 }

by_ends : (b : Block) (s : Store) (n : ℕ) → (after n (before b []) s).work ≡ [] → Ends b s (written s (writes n (before b []) s))
by_ends b s n e = record {
  steps = n;
  reached = work_tells_outcome n (before b []) s ∙ ap (λ w. outcome w ((after n (before b []) s).store)) e ∙ ap (λ u. Some (ended u)) (writes_tell_store n (before b []) s);
}

-- the same run from a store that agrees on its reads
pub moved : (b : Block) (s u : Store) (n : ℕ) → (after n (before b []) s).work ≡ [] → Agree (reads n (before b []) s) s u → Ends b u (written u (writes n (before b []) s))
moved b s u n e agree =
    let same : SameSteps n (before b []) s u = frame n (before b []) s u agree in
    subst (λ ws. Ends b u (written u ws)) (sym same.same_writes) (by_ends b u n (sym same.same_work ∙ e))

-- ---- writes into different cells
flip : (c d : Cell) → c ≢ d → d ≢ c
flip c d h e = h (sym e)

pub past : (ws : List Write) (s : Store) (c : Cell) (v : ℤ) → IsApart c ws → written (write s c v) ws ≡ write (written s ws) c v
past [] s c v h = refl
past (w ∷ ws) s c v h = ap (λ u. written u ws) (writes_commute s c w.0 v w.1 (flip c w.0 h.0)) ∙ past ws (write s w.0 w.1) c v h.1

exchanged : (vs ws : List Write) (s : Store) → Each (λ (v : Write). IsApart v.0 ws) vs → written (written s vs) ws ≡ written (written s ws) vs
exchanged [] ws s h = refl
exchanged (v ∷ vs) ws s h = exchanged vs ws (write s v.0 v.1) h.1 ∙ ap (λ u. written u vs) (past ws s v.0 v.1 h.0)

-- ---- cells of names that are apart
module _ (b c : Block) (apart : WritesApart b c) where
  WrittenBy : Write → Type 0
  WrittenBy w = writes_name b w.0.0 ≡ true

  UsedBy : Cell → Type 0
  UsedBy d = (reads_name c d.0 || writes_name c d.0) ≡ true

  cell_apart : (d : Cell) (ws : List Write) → UsedBy d → Each WrittenBy ws → IsApart d ws
  unfolding WrittenBy UsedBy
  cell_apart d [] used h = tt
  cell_apart d (w ∷ ws) used h =
      (λ e. true≢false (sym used ∙ ap (λ (f : Cell). reads_name c f.0 || writes_name c f.0) e ∙ apart w.0.0 h.0), cell_apart d ws used h.1)

  agree_before : (cs : List Cell) (ws : List Write) (s : Store) → Each UsedBy cs → Each WrittenBy ws → Agree cs (written s ws) s
  agree_before [] ws s used h = tt
  agree_before (d ∷ cs) ws s used h = (written_keeps ws s d (cell_apart d ws used.0 h), agree_before cs ws s used.1 h)

  agree_after : (cs : List Cell) (ws : List Write) (s : Store) → Each UsedBy cs → Each WrittenBy ws → Agree cs s (written s ws)
  agree_after [] ws s used h = tt
  agree_after (d ∷ cs) ws s used h = (sym (written_keeps ws s d (cell_apart d ws used.0 h)), agree_after cs ws s used.1 h)

  WrittenThere : Write → Type 0
  WrittenThere v = writes_name c v.0.0 ≡ true

  or_second : (p q : Bool) → q ≡ true → (p || q) ≡ true
  or_second true q e = refl
  or_second false q e = e

  writes_apart : (vs ws : List Write) → Each WrittenThere vs → Each WrittenBy ws → Each (λ (v : Write). IsApart v.0 ws) vs
  unfolding WrittenThere UsedBy
  writes_apart [] ws g h = tt
  writes_apart (v ∷ vs) ws g h = (cell_apart v.0 ws (or_second (reads_name c v.0.0) (writes_name c v.0.0) g.0) h, writes_apart vs ws g.1 h)

one_way : (b c : Block) → WritesApart b c → WritesApart c b → (s t : Store) → Ends (append b c) s t → Ends (append c b) s t
unfolding WrittenBy UsedBy WrittenThere
one_way b c first second s t r =
    let way : Through (before b []) (before c []) s (ended t) = through (before b []) (before c []) s t (subst (λ w. Reaches w s (ended t)) (append_work b c) r) in
    let m : Store = way.between in
    let front : EndsBy b s m = ends_by b s m way.front in
    let rear : EndsBy c m t = ends_by c m t way.rear in
    let ws : List Write = writes front.steps (before b []) s in
    let vs : List Write = writes rear.steps (before c []) m in
    let of_b : IsWithinText b front.steps s = within_text b front.steps s in
    let of_c : IsWithinText c rear.steps m = within_text c rear.steps m in
    let rs : List Cell = reads rear.steps (before c []) m in
    let without : Agree rs m s = subst (λ u. Agree rs u s) front.store_is (agree_before b c first rs ws s of_c.read_names of_b.written_names) in
    let c_first : Ends c s (written s vs) = moved c m s rear.steps rear.nothing_left without in
    let with_it : Agree (reads front.steps (before b []) s) s (written s vs) = agree_after c b second (reads front.steps (before b []) s) vs s of_b.read_names of_c.written_names in
    let b_second : Ends b (written s vs) (written (written s vs) ws) = moved b s (written s vs) front.steps front.nothing_left with_it in
    let stores : written (written s vs) ws ≡ t = exchanged vs ws s (writes_apart b c first vs ws of_c.written_names of_b.written_names) ∙ ap (λ u. written u vs) front.store_is ∙ rear.store_is in
    let b_to : Ends b (written s vs) t = subst (λ u. Ends b (written s vs) u) stores b_second in
    subst (λ w. Reaches w s (ended t)) (sym (append_work c b)) (reaches_through (before c []) (before b []) s (written s vs) (ended t) c_first b_to)

pub apart_commute : ApartCommute
apart_commute b c first second = record { to = one_way b c first second; back = one_way c b second first }

-- ---- without an `assert`
NeverHalts : Item → Type 0
NeverHalts (act a) = stmt_asserts a ≡ false
NeverHalts (turns x k hi b) = block_asserts b ≡ false
NeverHalts (restore x v) = Unit {0}
NeverHalts halt = ⊥

block_never : (b : Block) (work : List Item) → block_asserts b ≡ false → Each NeverHalts work → Each NeverHalts (before b work)
unfolding NeverHalts
block_never empty work h k = k
block_never (stmt a b) work h k = (first_no _ _ h, block_never b work (second_no _ _ h) k)

either : (d : Bool) (u w : List Item) → Each NeverHalts u → Each NeverHalts w → Each NeverHalts (cond d u w)
either true u w h k = h
either false u w h k = k

step_never : (item : Item) (s : Store) (work : List Item) → NeverHalts item → Each NeverHalts work → Each NeverHalts ((step item s work).work)
unfolding step NeverHalts
step_never (act skip) s work h k = k
step_never (act (put x is e)) s work h k = k
step_never (act (assert_that t)) s work h k = absurd (true≢false h)
step_never (act (if_then t b c)) s work h k = either (truth t s) _ _ (block_never b work (first_no _ _ h) k) (block_never c work (second_no _ _ h) k)
step_never (act (while_do t b)) s work h k = either (truth t s) _ _ (block_never b (act (while_do t b) ∷ work) h (h, k)) k
step_never (act (for_to x lo hi b)) s work h k = (h, (tt, k))
step_never (act (let_in x e b)) s work h k = block_never b _ h (tt, k)
step_never (act (par_stmt j)) s work h k = (h, k)
step_never (turns x j hi b) s work h k = either (int_lt j hi) _ _ (block_never b (turns x (j +ℤ pos 1) hi b ∷ work) h (h, k)) k
step_never (restore x v) s work h k = k
step_never halt s work h k = absurd h

run_never : (n : ℕ) (work : List Item) (s t : Store) → Each NeverHalts work → run n work s ≡ Some (halted t) → ⊥
unfolding run has_ended NeverHalts
run_never n [] s t h e = let same : ended s ≡ halted t = cc in true≢false (ap has_ended same)
run_never n (halt ∷ work) s t h e = h.0
run_never zero (act a ∷ work) s t h e = cc
run_never zero (turns x k hi b ∷ work) s t h e = cc
run_never zero (restore x v ∷ work) s t h e = cc
run_never (suc n) (act a ∷ work) s t h e = run_never n _ _ t (step_never (act a) s work h.0 h.1) e
run_never (suc n) (turns x k hi b ∷ work) s t h e = run_never n _ _ t (step_never (turns x k hi b) s work h.0 h.1) e
run_never (suc n) (restore x v ∷ work) s t h e = run_never n _ _ t (step_never (restore x v) s work h.0 h.1) e

pub assertless_is_quiet : AssertlessIsQuiet
assertless_is_quiet b h = record { never = λ s t r. run_never r.steps (before b []) s t (block_never b [] h tt) r.reached }
