-- Two blocks with names set round either end alike in both orders, where what either touches is apart from what the other writes.
-- By the frame law each does the same from the store without the other's writes.
use Rattle.std.specs.Prelude.{◌≡◌, ℕ, ℤ, List, [], ◌∷◌, ◌++◌, refl}
use Rattle.std.proofs.Common.{sym, ◌∙◌, ap, subst}
use Rattle.toy_imp.specs.declared.name.Name.{Name}
use Rattle.toy_imp.specs.Cell.{Cell}
use Rattle.toy_imp.specs.Store.{Store, read, write}
use Rattle.toy_imp.specs.Block.{Block, append}
use Rattle.toy_imp.specs.Run.{before, ended}
use Rattle.toy_imp.specs.Ends.{Reaches, Ends, EndAlike}
use Rattle.toy_imp.specs.Swaps.{set_round}
use Rattle.toy_imp.proofs.Runs.{Through, through, reaches_through}
use Rattle.toy_imp.proofs.Alikes.{append_work}
use Rattle.side_conditions.specs.Each.{Each}
use Rattle.side_conditions.specs.Frame.{Write, reads, writes, written}
use Rattle.side_conditions.specs.FrameLaws.{Agree, IsApart}
use Rattle.side_conditions.proofs.Framing.{each_left, each_right, written_keeps}
use Rattle.side_conditions.proofs.Apart.{moved, past}
use Rattle.swap_conditions.proofs.Turns.{inside, outside, each_outside, TurnBy, turn_by, by_turn, inside_agree}

-- ---- the cells that a run touches
abbrev pub cells_of : List Write → List Cell
cells_of [] = []
cells_of (w ∷ ws) = w.0 ∷ cells_of ws

abbrev pub touched : ℕ → Block → Store → List Cell
touched n b s = reads n (before b []) s ++ cells_of (writes n (before b []) s)

abbrev pub AllApart : List Cell → List Write → Type 0
AllApart cs ws = Each (λ c. IsApart c ws) cs

of_cells : (P : Cell → Type 0) (ws : List Write) → Each P (cells_of ws) → Each (λ (w : Write). P w.0) ws
of_cells P [] h = tt
of_cells P (w ∷ ws) h = (h.0, of_cells P ws h.1)

each_step : {A : Type 0} (P Q : A → Type 0) (xs : List A) → ((x : A) → P x → Q x) → Each P xs → Each Q xs
each_step P Q [] f h = tt
each_step P Q (x ∷ xs) f h = (f x h.0, each_step P Q xs f h.1)

exchanged : (vs ws : List Write) (s : Store) → Each (λ (v : Write). IsApart v.0 ws) vs → written (written s vs) ws ≡ written (written s ws) vs
exchanged [] ws s h = refl
exchanged (v ∷ vs) ws s h = exchanged vs ws (write s v.0 v.1) h.1 ∙ ap (λ u. written u vs) (past ws s v.0 v.1 h.0)

-- stores that agree on what is apart from the writes between
module _ (xs : List Name) (vs : List ℤ) (ys : List Name) (us : List ℤ) where
  before_writes : (cs : List Cell) (ws : List Write) (s m : Store) → written s (outside xs vs ws) ≡ m → AllApart cs ws → Agree cs (inside ys us m) (inside ys us s)
  before_writes [] ws s m e h = tt
  before_writes (d ∷ cs) ws s m e h =
      let same : read m d ≡ read s d = ap (λ u. read u d) (sym e) ∙ written_keeps (outside xs vs ws) s d (each_outside _ xs vs ws h.0) in
      (inside_agree ys us d m s same, before_writes cs ws s m e h.1)

  after_writes : (cs : List Cell) (ws : List Write) (s : Store) → AllApart cs ws → Agree cs (inside ys us s) (inside ys us (written s (outside xs vs ws)))
  after_writes [] ws s h = tt
  after_writes (d ∷ cs) ws s h =
      (inside_agree ys us d s (written s (outside xs vs ws)) (sym (written_keeps (outside xs vs ws) s d (each_outside _ xs vs ws h.0))), after_writes cs ws s h.1)

-- ---- two runs that are apart, from stores of which each knows something
pub record RunsApart (b c : Block) (I J : Store → Type 0) : Type 0 where
  pub second_apart : (n k : ℕ) (s t : Store) → I s → J t → AllApart (touched k c t) (writes n (before b []) s)
  pub first_apart : (n k : ℕ) (s t : Store) → I s → J t → AllApart (touched n b s) (writes k (before c []) t)

runs_turned : (b c : Block) (I J : Store → Type 0) → RunsApart b c I J → RunsApart c b J I
runs_turned b c I J r = record {
  second_apart = λ n k s t i j. r.first_apart k n t s j i;
  first_apart = λ n k s t i j. r.second_apart k n t s j i;
}

one_way : (b c : Block) (I J : Store → Type 0) (xs ys : List Name) (vs us : List ℤ) → RunsApart b c I J
    → ((s : Store) → I (inside xs vs s)) → ((s : Store) → J (inside ys us s))
    → (s t : Store) → Ends (append (set_round xs vs b) (set_round ys us c)) s t → Ends (append (set_round ys us c) (set_round xs vs b)) s t
one_way b c I J xs ys vs us apart i j s t r =
    let p : Block = set_round xs vs b in
    let q : Block = set_round ys us c in
    let way : Through (before p []) (before q []) s (ended t) = through (before p []) (before q []) s t (subst (λ w. Reaches w s (ended t)) (append_work p q) r) in
    let m : Store = way.between in
    let front : TurnBy xs vs b s m = turn_by xs vs b s m way.front in
    let rear : TurnBy ys us c m t = turn_by ys us c m t way.rear in
    let of_b : List Write = writes front.steps (before b []) (inside xs vs s) in
    let of_c : List Write = writes rear.steps (before c []) (inside ys us m) in
    let first : List Cell = reads front.steps (before b []) (inside xs vs s) in
    let second : List Cell = reads rear.steps (before c []) (inside ys us m) in
    let c_apart : AllApart (second ++ cells_of of_c) of_b = apart.second_apart front.steps rear.steps (inside xs vs s) (inside ys us m) (i s) (j m) in
    let b_apart : AllApart (first ++ cells_of of_b) of_c = apart.first_apart front.steps rear.steps (inside xs vs s) (inside ys us m) (i s) (j m) in
    let aside : Agree second (inside ys us m) (inside ys us s) = before_writes xs vs ys us second of_b s m front.store_is (each_left _ second (cells_of of_c) c_apart) in
    let c_first : Ends q s (written s (outside ys us of_c)) = by_turn ys us c s of_c (moved c (inside ys us m) (inside ys us s) rear.steps rear.nothing_left aside) in
    let n : Store = written s (outside ys us of_c) in
    let along : Agree first (inside xs vs s) (inside xs vs n) = after_writes ys us xs vs first of_c s (each_left _ first (cells_of of_b) b_apart) in
    let b_second : Ends p n (written n (outside xs vs of_b)) = by_turn xs vs b n of_b (moved b (inside xs vs s) (inside xs vs n) front.steps front.nothing_left along) in
    let writes_apart : Each (λ (w : Write). IsApart w.0 (outside xs vs of_b)) (outside ys us of_c) =
    each_outside _ ys us of_c (each_step (λ (w : Write). IsApart w.0 of_b) _ of_c (λ w h. each_outside _ xs vs of_b h)
    (of_cells (λ d. IsApart d of_b) of_c (each_right _ second (cells_of of_c) c_apart))) in
    let stores : written n (outside xs vs of_b) ≡ t = exchanged (outside ys us of_c) (outside xs vs of_b) s writes_apart ∙ ap (λ u. written u (outside ys us of_c)) front.store_is ∙ rear.store_is in
    let b_to : Ends p n t = subst (λ u. Ends p n u) stores b_second in
    subst (λ w. Reaches w s (ended t)) (sym (append_work q p)) (reaches_through (before q []) (before p []) s n (ended t) c_first b_to)

pub exchange : (b c : Block) (I J : Store → Type 0) (xs ys : List Name) (vs us : List ℤ) → RunsApart b c I J
    → ((s : Store) → I (inside xs vs s)) → ((s : Store) → J (inside ys us s))
    → EndAlike (append (set_round xs vs b) (set_round ys us c)) (append (set_round ys us c) (set_round xs vs b))
exchange b c I J xs ys vs us apart i j = record {
  to = one_way b c I J xs ys vs us apart i j;
  back = one_way c b J I ys xs us vs (runs_turned b c I J apart) j i;
}
