-- A block with names set round it ends as the block does from the store with the names set; of what the block writes all is done
-- but the writes into the variables of those names, which get their old values back.
use Rattle.std.specs.Prelude.{◌≡◌, ◌≢◌, ◌⊎◌, ℕ, ℤ, List, [], ◌∷◌, refl}
use Rattle.std.proofs.Common.{sym, ◌∙◌, ap, subst, inl, inr}
use Rattle.toy_imp.specs.declared.name.Name.{Name}
use Rattle.toy_imp.specs.Cell.{Cell, variable}
use Rattle.toy_imp.specs.Store.{Store, read, write}
use Rattle.toy_imp.specs.Value.{value}
use Rattle.toy_imp.specs.Expr.{num}
use Rattle.toy_imp.specs.Block.{Block, empty, stmt, let_in}
use Rattle.toy_imp.specs.Run.{act, restore, before, step, ended, run}
use Rattle.toy_imp.specs.Ends.{Reaches, Ends}
use Rattle.toy_imp.specs.Swaps.{set_round}
use Rattle.toy_imp.proofs.Stores.{write_is_read, write_keeps_others, write-read, write-write, writes_commute, cells_decided}
use Rattle.toy_imp.proofs.Runs.{before-split, Through, through, reaches_through, reaches_next, next_reaches, one_final_store}
use Rattle.side_conditions.specs.Each.{Each}
use Rattle.side_conditions.specs.Frame.{Write, after, writes, written}
use Rattle.side_conditions.proofs.Apart.{EndsBy, ends_by}

-- ---- writes without those into a cell
with_or : (c : Cell) (w : Write) → ((w.0 ≡ c) ⊎ (w.0 ≢ c)) → List Write → List Write
with_or c w (inl e) ws = ws
with_or c w (inr h) ws = w ∷ ws

without : Cell → List Write → List Write
without c [] = []
without c (w ∷ ws) = with_or c w (cells_decided w.0 c) (without c ws)

flip : (c d : Cell) → c ≢ d → d ≢ c
flip c d h e = h (sym e)

-- a cell that is written last gets that number, whatever was written into it before
one_restored : (c : Cell) (v : ℤ) (w : Write) (ws : List Write) (s : Store) (d : (w.0 ≡ c) ⊎ (w.0 ≢ c))
    → ((u : Store) → write (written u ws) c v ≡ written (write u c v) (without c ws))
    → write (written (write s w.0 w.1) ws) c v ≡ written (write s c v) (with_or c w d (without c ws))
unfolding with_or
one_restored c v w ws s (inl e) rest =
    rest (write s w.0 w.1)
    ∙ ap (λ u. written u (without c ws)) (ap (λ q. write (write s q w.1) c v) e ∙ write-write s c w.1 v)
one_restored c v w ws s (inr h) rest =
    rest (write s w.0 w.1)
    ∙ ap (λ u. written u (without c ws)) (writes_commute s w.0 c w.1 v (flip w.0 c h))

restored : (c : Cell) (v : ℤ) (ws : List Write) (s : Store) → write (written s ws) c v ≡ written (write s c v) (without c ws)
unfolding without
restored c v [] s = refl
restored c v (w ∷ ws) s = one_restored c v w ws s (cells_decided w.0 c) (λ u. restored c v ws u)

given_back : (c : Cell) (v : ℤ) (ws : List Write) (s : Store) → write (written (write s c v) ws) c (read s c) ≡ written s (without c ws)
given_back c v ws s =
    restored c (read s c) ws (write s c v)
    ∙ ap (λ u. written u (without c ws)) (write-write s c v (read s c) ∙ write-read s c)

each_with : (P : Write → Type 0) (c : Cell) (w : Write) (d : (w.0 ≡ c) ⊎ (w.0 ≢ c)) (ws : List Write) → P w → Each P ws → Each P (with_or c w d ws)
unfolding with_or
each_with P c w (inl e) ws h k = k
each_with P c w (inr a) ws h k = (h, k)

each_without : (P : Write → Type 0) (c : Cell) (ws : List Write) → Each P ws → Each P (without c ws)
unfolding without
each_without P c [] h = tt
each_without P c (w ∷ ws) h = each_with P c w (cells_decided w.0 c) (without c ws) h.0 (each_without P c ws h.1)

-- ---- one name set round a block
restore_ends : (y : Name) (v : ℤ) (s : Store) → Reaches (restore y v ∷ []) s (ended (write s (variable y) v))
unfolding run step
restore_ends y v s = record { steps = 1; reached = refl }

record InLet (x : Name) (v : ℤ) (p : Block) (s t : Store) : Type 0 where
  inner : Store
  inside_ends : Ends p (write s (variable x) v) inner
  restores : write inner (variable x) (read s (variable x)) ≡ t

in_let : (x : Name) (v : ℤ) (p : Block) (s t : Store) → Ends (stmt (let_in x (num v) p) empty) s t → InLet x v p s t
unfolding step value
in_let x v p s t r =
    let set : Store = write s (variable x) v in
    let old : ℤ = read s (variable x) in
    let inner : Reaches (before p (restore x old ∷ [])) set (ended t) = next_reaches (act (let_in x (num v) p)) [] s (ended t) r in
    let way : Through (before p []) (restore x old ∷ []) set (ended t) =
    through (before p []) (restore x old ∷ []) set t (subst (λ l. Reaches l set (ended t)) (before-split p (restore x old ∷ [])) inner) in
    record {
      inner = way.between;
      inside_ends = way.front;
      restores = one_final_store (restore x old ∷ []) way.between (write way.between (variable x) old) t (restore_ends x old way.between) way.rear;
    }

let_ends : (x : Name) (v : ℤ) (p : Block) (s m : Store) → Ends p (write s (variable x) v) m → Ends (stmt (let_in x (num v) p) empty) s (write m (variable x) (read s (variable x)))
unfolding step value
let_ends x v p s m r =
    let set : Store = write s (variable x) v in
    let old : ℤ = read s (variable x) in
    let last : Store = write m (variable x) old in
    let parts = reaches_through (before p []) (restore x old ∷ []) set m (ended last) r (restore_ends x old m) in
    reaches_next (act (let_in x (num v) p)) [] s (ended last) (subst (λ l. Reaches l set (ended last)) (sym (before-split p (restore x old ∷ []))) parts)

-- ---- several names
-- the store with the names set
abbrev pub inside : List Name → List ℤ → Store → Store
inside [] vs s = s
inside (x ∷ xs) [] s = s
inside (x ∷ xs) (v ∷ vs) s = inside xs vs (write s (variable x) v)

-- what is written into other cells than theirs
pub outside : List Name → List ℤ → List Write → List Write
outside [] vs ws = ws
outside (x ∷ xs) [] ws = ws
outside (x ∷ xs) (v ∷ vs) ws = without (variable x) (outside xs vs ws)

pub each_outside : (P : Write → Type 0) (xs : List Name) (vs : List ℤ) (ws : List Write) → Each P ws → Each P (outside xs vs ws)
unfolding outside
each_outside P [] vs ws h = h
each_outside P (x ∷ xs) [] ws h = h
each_outside P (x ∷ xs) (v ∷ vs) ws h = each_without P (variable x) (outside xs vs ws) (each_outside P xs vs ws h)

pub record TurnBy (xs : List Name) (vs : List ℤ) (b : Block) (s t : Store) : Type 0 where
  pub steps : ℕ
  pub nothing_left : (after steps (before b []) (inside xs vs s)).work ≡ []
  pub store_is : written s (outside xs vs (writes steps (before b []) (inside xs vs s))) ≡ t

pub turn_by : (xs : List Name) (vs : List ℤ) (b : Block) (s t : Store) → Ends (set_round xs vs b) s t → TurnBy xs vs b s t
unfolding outside
turn_by [] vs b s t r =
    let by : EndsBy b s t = ends_by b s t r in
    record { steps = by.steps; nothing_left = by.nothing_left; store_is = by.store_is }
turn_by (x ∷ xs) [] b s t r =
    let by : EndsBy b s t = ends_by b s t r in
    record { steps = by.steps; nothing_left = by.nothing_left; store_is = by.store_is }
turn_by (x ∷ xs) (v ∷ vs) b s t r =
    let parts : InLet x v (set_round xs vs b) s t = in_let x v (set_round xs vs b) s t r in
    let by : TurnBy xs vs b (write s (variable x) v) parts.inner = turn_by xs vs b (write s (variable x) v) parts.inner parts.inside_ends in
    let ws : List Write = outside xs vs (writes by.steps (before b []) (inside xs vs (write s (variable x) v))) in
    record {
      steps = by.steps;
      nothing_left = by.nothing_left;
      store_is = sym (given_back (variable x) v ws s) ∙ ap (λ u. write u (variable x) (read s (variable x))) by.store_is ∙ parts.restores;
    }

pub by_turn : (xs : List Name) (vs : List ℤ) (b : Block) (s : Store) (ws : List Write)
    → Ends b (inside xs vs s) (written (inside xs vs s) ws) → Ends (set_round xs vs b) s (written s (outside xs vs ws))
unfolding outside
by_turn [] vs b s ws r = r
by_turn (x ∷ xs) [] b s ws r = r
by_turn (x ∷ xs) (v ∷ vs) b s ws r =
    let inner : Ends (set_round xs vs b) (write s (variable x) v) (written (write s (variable x) v) (outside xs vs ws)) = by_turn xs vs b (write s (variable x) v) ws r in
    subst (λ u. Ends (stmt (let_in x (num v) (set_round xs vs b)) empty) s u) (given_back (variable x) v (outside xs vs ws) s)
    (let_ends x v (set_round xs vs b) s (written (write s (variable x) v) (outside xs vs ws)) inner)

-- stores that agree at a cell do so with the names set
set_agree : (c d : Cell) (v : ℤ) (s t : Store) → ((d ≡ c) ⊎ (d ≢ c)) → read s d ≡ read t d → read (write s c v) d ≡ read (write t c v) d
set_agree c d v s t (inl e) h =
    ap (read (write s c v)) e ∙ write_is_read s c v ∙ sym (write_is_read t c v) ∙ ap (read (write t c v)) (sym e)
set_agree c d v s t (inr apart) h = write_keeps_others s c v d apart ∙ h ∙ sym (write_keeps_others t c v d apart)

pub inside_agree : (xs : List Name) (vs : List ℤ) (d : Cell) (s t : Store) → read s d ≡ read t d → read (inside xs vs s) d ≡ read (inside xs vs t) d
inside_agree [] vs d s t h = h
inside_agree (x ∷ xs) [] d s t h = h
inside_agree (x ∷ xs) (v ∷ vs) d s t h =
    inside_agree xs vs d (write s (variable x) v) (write t (variable x) v) (set_agree (variable x) d v s t (cells_decided d (variable x)) h)
