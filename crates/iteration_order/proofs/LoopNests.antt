-- A nest of loops runs as the list of its turns in running order, by recursion on the nest.
-- All along, a fact about stores is kept: that the counters round the loops and the symbols have their values.
use Rattle.std.specs.Prelude.{◌≡◌, ◌≢◌, ℤ, List, [], ◌∷◌, ◌++◌, map, All, AllPairs, Contains, refl}
use Rattle.std.specs.List.{flat_map}
use Rattle.std.proofs.Common.{sym, ◌∙◌, ap, ap₂, subst, inl, inr, zero, suc, arith}
use Rattle.std.proofs.lemmas.List.Elements.{All-contains}
use Rattle.toy_imp.specs.declared.name.Name.{Name}
use Rattle.toy_imp.specs.Cell.{spelled, variable}
use Rattle.toy_imp.specs.Store.{Store, read, write}
use Rattle.toy_imp.specs.Value.{value}
use Rattle.toy_imp.specs.Expr.{Expr}
use Rattle.toy_imp.specs.Block.{Block, empty, append}
use Rattle.toy_imp.specs.Keeps.{KeepsExpr, KeepsName, ExprIgnores}
use Rattle.toy_imp.specs.Swaps.{set_round}
use Rattle.toy_imp.specs.Run.{Outcome, ended, halted}
use Rattle.toy_imp.specs.Ends.{ComesOut, Ends, Halts}
use Rattle.toy_imp.proofs.Alikes.{append-empty, append-assoc}
use Rattle.toy_imp.proofs.Stores.{write_is_read, write_keeps_others, write-write, write-read}
use Rattle.iteration_order.specs.declared.bounds.Bounds.{Bounds}
use Rattle.iteration_order.specs.Affine.{value_at}
use Rattle.iteration_order.specs.RunningOrder.{turns_between, turns_of, tuples_within}
use Rattle.iteration_order.specs.Exchange.{joined}
use Rattle.iteration_order.specs.Loops.{SameFrom, turn_at, Loop, counters_of, nest_round, HaveBounds, NestIsItsTurns}
use Rattle.iteration_order.proofs.Standing.{Stands, contains}
use Rattle.iteration_order.proofs.Pieces.{Ascends}
use Rattle.iteration_order.proofs.Unrolled.{loop_is_its_turns}
use Rattle.iteration_order.proofs.Endings.{append_ends, ends_append, append_halts, first_halts, second_halts, empty_ends, never_halts, ends_empty, set_to, let_ends, ends_let, let_halts, halts_let}

-- ---- blocks that end and halt alike from one store
by_outcome : (P : Outcome → Type 0) → ((t : Store) → P (ended t)) → ((t : Store) → P (halted t)) → (o : Outcome) → P o
by_outcome P ends halts (ended t) = ends t
by_outcome P ends halts (halted t) = halts t

-- from how they end and how they halt
record Alikeness (s : Store) (p q : Block) : Type 0 where
  ends : (t : Store) → Ends p s t → Ends q s t
  back : (t : Store) → Ends q s t → Ends p s t
  halts : (t : Store) → Halts p s t → Halts q s t
  halts_back : (t : Store) → Halts q s t → Halts p s t

alike_from : (s : Store) (p q : Block) → Alikeness s p q → SameFrom s p q
alike_from s p q a = record {
  to = by_outcome (λ o. ComesOut p s o → ComesOut q s o) a.ends a.halts;
  back = by_outcome (λ o. ComesOut q s o → ComesOut p s o) a.back a.halts_back;
}

from_self : (s : Store) (p : Block) → SameFrom s p p
from_self s p = record { to = λ t r. r; back = λ t r. r }

from_chain : (s : Store) (p q c : Block) → SameFrom s p q → SameFrom s q c → SameFrom s p c
from_chain s p q c a b = record { to = λ t r. b.to t (a.to t r); back = λ t r. a.back t (b.back t r) }

from_equal : (s : Store) (p q : Block) → p ≡ q → SameFrom s p q
from_equal s p q e = subst (λ b. SameFrom s p b) e (from_self s p)

-- ---- from each store of which a fact holds
abbrev Keeps : (Store → Type 0) → Block → Type 0
Keeps I p = (s t : Store) → I s → Ends p s t → I t

abbrev SameIn : (Store → Type 0) → Block → Block → Type 0
SameIn I p q = (s : Store) → I s → SameFrom s p q

append_same : (I : Store → Type 0) (p q c d : Block) → SameIn I p q → Keeps I q → SameIn I c d → SameIn I (append p c) (append q d)
append_same I p q c d same keeps rest s i = alike_from s _ _ (record {
  ends = λ t r.
      let e = append_ends p c s t r in
      let first = (same s i).to (ended e.middle) e.first in
      ends_append q d s t (record { middle = e.middle; first = first; second = (rest e.middle (keeps s e.middle i first)).to (ended t) e.second });
  back = λ t r.
      let e = append_ends q d s t r in
      ends_append p c s t (record { middle = e.middle; first = (same s i).back (ended e.middle) e.first; second = (rest e.middle (keeps s e.middle i e.first)).back (ended t) e.second });
  halts = λ t r. elim (append_halts p c s t r) [
    | inl h ↦ first_halts q d s t ((same s i).to (halted t) h)
    | inr e ↦ let first = (same s i).to (ended e.middle) e.first in
        second_halts q d s t (record { middle = e.middle; first = first; second = (rest e.middle (keeps s e.middle i first)).to (halted t) e.second })
  ];
  halts_back = λ t r. elim (append_halts q d s t r) [
    | inl h ↦ first_halts p c s t ((same s i).back (halted t) h)
    | inr e ↦ second_halts p c s t (record { middle = e.middle; first = (same s i).back (ended e.middle) e.first; second = (rest e.middle (keeps s e.middle i e.first)).back (halted t) e.second })
  ];
})

joined_keeps : {A : Type 0} (I : Store → Type 0) (f : A → Block) (xs : List A) → ((x : A) → Keeps I (f x)) → Keeps I (joined f xs)
joined_keeps I f [] each s t i r = subst I (empty_ends s t r) i
joined_keeps I f (x ∷ xs) each s t i r =
    let e = append_ends (f x) (joined f xs) s t r in
    joined_keeps I f xs each e.middle t (each x s e.middle i e.first) e.second

let_same : (I J : Store → Type 0) (x : Name) (k : ℤ) (p q : Block) → ((s : Store) → I s → J (write s (variable x) k)) → SameIn J p q → SameIn I (set_to x k p) (set_to x k q)
let_same I J x k p q into same s i = alike_from s _ _ (record {
  ends = λ t r.
      let e = let_ends x k p s t r in
      ends_let x k q s t (record { middle = e.middle; inside = (same _ (into s i)).to (ended e.middle) e.inside; is = e.is });
  back = λ t r.
      let e = let_ends x k q s t r in
      ends_let x k p s t (record { middle = e.middle; inside = (same _ (into s i)).back (ended e.middle) e.inside; is = e.is });
  halts = λ t r. halts_let x k q s t ((same _ (into s i)).to (halted t) (let_halts x k p s t r));
  halts_back = λ t r. halts_let x k p s t ((same _ (into s i)).back (halted t) (let_halts x k q s t r));
})

let_keeps : (I : Store → Type 0) (x : Name) (k : ℤ) (p : Block) → ((s : Store) (w : ℤ) → I s → I (write s (variable x) w)) → Keeps I p → Keeps I (set_to x k p)
let_keeps I x k p closed keeps s t i r =
    let e = let_ends x k p s t r in
    subst I e.is (closed e.middle _ (keeps _ e.middle (closed s k i) e.inside))

-- a `let` round nothing
set_back : (x : Name) (k : ℤ) (s : Store) → write (write s (variable x) k) (variable x) (read s (variable x)) ≡ s
set_back x k s = write-write s (variable x) k (read s (variable x)) ∙ write-read s (variable x)

let_empty : (x : Name) (k : ℤ) (s : Store) → SameFrom s (set_to x k empty) empty
let_empty x k s = alike_from s _ _ (record {
  ends = λ t r.
      let e = let_ends x k empty s t r in
      ends_empty s t (sym (set_back x k s) ∙ ap (λ u. write u (variable x) (read s (variable x))) (empty_ends _ _ e.inside) ∙ e.is);
  back = λ t r. ends_let x k empty s t (record { middle = write s (variable x) k; inside = ends_empty _ _ refl; is = set_back x k s ∙ empty_ends s t r });
  halts = λ t r. never_halts _ t (let_halts x k empty s t r);
  halts_back = λ t r. never_halts _ t r;
})

-- a `let` round two blocks, of which the first keeps what was set, is one round each
set_again : (x : Name) (k r : ℤ) (m : Store) → read m (variable x) ≡ k → write (write m (variable x) r) (variable x) k ≡ m
set_again x k r m e = write-write m (variable x) r k ∙ ap (write m (variable x)) (sym e) ∙ write-read m (variable x)

module _ (x : Name) (k : ℤ) (p c : Block) (keeps : Keeps (λ s. read s (variable x) ≡ k) p) (s : Store) where
  split_to : (t : Store) → Ends (set_to x k (append p c)) s t → Ends (append (set_to x k p) (set_to x k c)) s t
  split_to t r =
      let r0 = read s (variable x) in
      let e = let_ends x k (append p c) s t r in
      let a = append_ends p c (write s (variable x) k) e.middle e.inside in
      let held : read a.middle (variable x) ≡ k = keeps _ a.middle (write_is_read s (variable x) k) a.first in
      let between = write a.middle (variable x) r0 in
      let first : Ends (set_to x k p) s between = ends_let x k p s between (record { middle = a.middle; inside = a.first; is = refl }) in
      let second : Ends (set_to x k c) between t = ends_let x k c between t (record {
        middle = e.middle;
        inside = subst (λ u. Ends c u e.middle) (sym (set_again x k r0 a.middle held)) a.second;
        is = ap (write e.middle (variable x)) (write_is_read a.middle (variable x) r0) ∙ e.is;
      }) in
      ends_append (set_to x k p) (set_to x k c) s t (record { middle = between; first = first; second = second })

  split_back : (t : Store) → Ends (append (set_to x k p) (set_to x k c)) s t → Ends (set_to x k (append p c)) s t
  split_back t r =
      let r0 = read s (variable x) in
      let a = append_ends (set_to x k p) (set_to x k c) s t r in
      let e = let_ends x k p s a.middle a.first in
      let f = let_ends x k c a.middle t a.second in
      let held : read e.middle (variable x) ≡ k = keeps _ e.middle (write_is_read s (variable x) k) e.inside in
      let again : write a.middle (variable x) k ≡ e.middle = ap (λ u. write u (variable x) k) (sym e.is) ∙ set_again x k r0 e.middle held in
      let value_back : r0 ≡ read a.middle (variable x) = sym (write_is_read e.middle (variable x) r0) ∙ ap (λ u. read u (variable x)) e.is in
      ends_let x k (append p c) s t (record {
        middle = f.middle;
        inside = ends_append p c (write s (variable x) k) f.middle (record { middle = e.middle; first = e.inside; second = subst (λ u. Ends c u f.middle) again f.inside });
        is = ap (write f.middle (variable x)) value_back ∙ f.is;
      })

  split_halts : (t : Store) → Halts (set_to x k (append p c)) s t → Halts (append (set_to x k p) (set_to x k c)) s t
  split_halts t r = elim (append_halts p c (write s (variable x) k) t (let_halts x k (append p c) s t r)) [
    | inl h ↦ first_halts (set_to x k p) (set_to x k c) s t (halts_let x k p s t h)
    | inr a ↦
        let r0 = read s (variable x) in
        let held : read a.middle (variable x) ≡ k = keeps _ a.middle (write_is_read s (variable x) k) a.first in
        let between = write a.middle (variable x) r0 in
        second_halts (set_to x k p) (set_to x k c) s t (record {
          middle = between;
          first = ends_let x k p s between (record { middle = a.middle; inside = a.first; is = refl });
          second = halts_let x k c between t (subst (λ u. Halts c u t) (sym (set_again x k r0 a.middle held)) a.second);
        })
  ]

  split_halts_back : (t : Store) → Halts (append (set_to x k p) (set_to x k c)) s t → Halts (set_to x k (append p c)) s t
  split_halts_back t r = elim (append_halts (set_to x k p) (set_to x k c) s t r) [
    | inl h ↦ halts_let x k (append p c) s t (first_halts p c _ t (let_halts x k p s t h))
    | inr a ↦
        let r0 = read s (variable x) in
        let e = let_ends x k p s a.middle a.first in
        let held : read e.middle (variable x) ≡ k = keeps _ e.middle (write_is_read s (variable x) k) e.inside in
        let again : write a.middle (variable x) k ≡ e.middle = ap (λ u. write u (variable x) k) (sym e.is) ∙ set_again x k r0 e.middle held in
        halts_let x k (append p c) s t
        (second_halts p c _ t (record { middle = e.middle; first = e.inside; second = subst (λ u. Halts c u t) again (let_halts x k c a.middle t a.second) }))
  ]

  let_splits : SameFrom s (set_to x k (append p c)) (append (set_to x k p) (set_to x k c))
  let_splits = alike_from s _ _ (record { ends = split_to; back = split_back; halts = split_halts; halts_back = split_halts_back })

let_joined : {A : Type 0} (I : Store → Type 0) (x : Name) (k : ℤ) (f : A → Block) (ts : List A) → ((t : A) → Keeps (λ s. read s (variable x) ≡ k) (f t)) →
    ((t : A) → Keeps I (set_to x k (f t))) → SameIn I (set_to x k (joined f ts)) (joined (λ t. set_to x k (f t)) ts)
let_joined I x k f [] held keeps s i = let_empty x k s
let_joined I x k f (t ∷ ts) held keeps s i =
    from_chain s _ _ _ (let_splits x k (f t) (joined f ts) (held t) s)
    (append_same I _ _ _ _ (λ u j. from_self u (set_to x k (f t))) (keeps t) (let_joined I x k f ts held keeps) s i)

joined-append : {A : Type 0} (f : A → Block) (xs ys : List A) → joined f (xs ++ ys) ≡ append (joined f xs) (joined f ys)
joined-append f [] ys = refl
joined-append f (x ∷ xs) ys = ap (append (f x)) (joined-append f xs ys) ∙ sym (append-assoc (f x) (joined f xs) (joined f ys))

joined-map : {A B : Type 0} (f : B → Block) (g : A → B) (xs : List A) → joined f (map g xs) ≡ joined (λ x. f (g x)) xs
joined-map f g [] = refl
joined-map f g (x ∷ xs) = ap (append (f (g x))) (joined-map f g xs)

-- ---- the nest
-- the fact, and a counter's value beside it
abbrev With : (Store → Type 0) → Name → ℤ → Store → Type 0
With I x v s = I s × (read s (variable x) ≡ v)

-- where the fact holds, the bounds are those of the nest at the values of the counters round it
abbrev BoundsIn : (Store → Type 0) → List ℤ → List ℤ → List Loop → List Bounds → Type 0
BoundsIn I vs cs [] [] = Unit {0}
BoundsIn I vs cs [] (b ∷ nest) = ⊥
BoundsIn I vs cs (l ∷ loops) [] = ⊥
BoundsIn I vs cs (l ∷ loops) (b ∷ nest) =
    ((s : Store) → I s → value l.low s ≡ value_at b.low vs cs) × ((s : Store) → I s → value l.high s ≡ value_at b.high vs cs) ×
    ((v : ℤ) → BoundsIn (With I l.counter v) (vs ++ v ∷ []) cs loops nest)

module _ (body : Block) where
  -- a turn keeps what the body keeps and what no write to a counter changes
  turn_keeps : (I : Store → Type 0) (xs : List Name) (t : List ℤ) → ((x : Name) → Stands xs x → (s : Store) (w : ℤ) → I s → I (write s (variable x) w)) →
      Keeps I body → Keeps I (set_round xs t body)
  turn_keeps I [] t closed keeps = keeps
  turn_keeps I (x ∷ xs) [] closed keeps = keeps
  turn_keeps I (x ∷ xs) (v ∷ t) closed keeps = let_keeps I x v _ (closed x (inl refl)) (turn_keeps I xs t (λ y r. closed y (inr r)) keeps)

  record Steady (I : Store → Type 0) (xs : List Name) : Type 0 where
    closed : (x : Name) → Stands xs x → (s : Store) (w : ℤ) → I s → I (write s (variable x) w)
    keeps : Keeps I body
    counters_kept : (x : Name) → Stands xs x → KeepsName body x
    apart : Ascends (λ x y. spelled x ≢ spelled y) xs

  -- a counter's value is kept by writes to the other counters, and by the body
  counter_closed : (x y : Name) (v : ℤ) → spelled x ≢ spelled y → (s : Store) (w : ℤ) → read s (variable x) ≡ v → read (write s (variable y) w) (variable x) ≡ v
  counter_closed x y v apart s w e = write_keeps_others s (variable y) w (variable x) (λ same. apart (ap (λ c. c.0) same)) ∙ e

  steady_inside : (I : Store → Type 0) (x : Name) (xs : List Name) (v : ℤ) → Steady I (x ∷ xs) → Steady (With I x v) xs
  steady_inside I x xs v st = record {
    closed = λ y r s w i. (st.closed y (inr r) s w i.0, counter_closed x y v (st.apart.0 y r) s w i.1);
    keeps = λ s t i r. (st.keeps s t i.0 r, (st.counters_kept x (inl refl)).kept s t r ∙ i.1);
    counters_kept = λ y r. st.counters_kept y (inr r);
    apart = st.apart.1;
  }

  turn_holds : (I : Store → Type 0) (x : Name) (xs : List Name) (v : ℤ) (t : List ℤ) → Steady I (x ∷ xs) → Keeps (λ s. read s (variable x) ≡ v) (set_round xs t body)
  turn_holds I x xs v t st = turn_keeps (λ s. read s (variable x) ≡ v) xs t (λ y r s w e. counter_closed x y v (st.apart.0 y r) s w e) (λ s u e r. (st.counters_kept x (inl refl)).kept s u r ∙ e)

  module _ (cs : List ℤ) where
    -- one turn of the outer loop
    module _ (I : Store → Type 0) (x : Name) (xs : List Name) (st : Steady I (x ∷ xs)) (inside : Block) (ts : ℤ → List (List ℤ))
        (inner : (v : ℤ) → SameIn (With I x v) inside (joined (λ t. set_round xs t body) (ts v))) where
      one_turn : (v : ℤ) → SameIn I (set_to x v inside) (joined (λ t. set_round (x ∷ xs) t body) (map (λ t. v ∷ t) (ts v)))
      one_turn v s i =
          from_chain s _ _ _ (let_same I (With I x v) x v inside (joined (λ t. set_round xs t body) (ts v)) (λ u j. (st.closed x (inl refl) u v j, write_is_read u (variable x) v)) (inner v) s i)
          (from_chain s _ _ _
          (let_joined I x v (λ t. set_round xs t body) (ts v) (λ t. turn_holds I x xs v t st) (λ t. turn_keeps I (x ∷ xs) (v ∷ t) st.closed st.keeps) s i)
          (from_equal s _ _ (sym (joined-map (λ t. set_round (x ∷ xs) t body) (λ t. v ∷ t) (ts v)))))

      all_turns : (vs : List ℤ) → SameIn I (joined (turn_at x inside) vs) (joined (λ t. set_round (x ∷ xs) t body) (flat_map (λ v. map (λ t. v ∷ t) (ts v)) vs))
      all_turns [] s i = from_self s empty
      all_turns (v ∷ vs) s i =
          from_chain s _ _ _
          (append_same I _ _ _ _ (one_turn v) (joined_keeps I (λ t. set_round (x ∷ xs) t body) (map (λ t. v ∷ t) (ts v)) (λ t. turn_keeps I (x ∷ xs) t st.closed st.keeps)) (all_turns vs) s i)
          (from_equal s _ _ (sym (joined-append (λ t. set_round (x ∷ xs) t body) (map (λ t. v ∷ t) (ts v)) (flat_map (λ v. map (λ t. v ∷ t) (ts v)) vs))))

    nest_same : (loops : List Loop) (nest : List Bounds) (I : Store → Type 0) (vs : List ℤ) → Steady I (counters_of loops) → BoundsIn I vs cs loops nest →
        SameIn I (nest_round loops body) (joined (λ t. set_round (counters_of loops) t body) (tuples_within nest vs cs))
    unfolding tuples_within
    nest_same [] [] I vs st bounds s i = from_equal s _ _ (sym (append-empty body))
    nest_same [] (b ∷ nest) I vs st bounds s i = absurd bounds
    nest_same (l ∷ loops) [] I vs st bounds s i = absurd bounds
    nest_same (l ∷ loops) (b ∷ nest) I vs st bounds s i =
        let inner : (v : ℤ) → SameIn (With I l.counter v) (nest_round loops body) (joined (λ t. set_round (counters_of loops) t body) (tuples_within nest (vs ++ v ∷ []) cs)) =
        λ v. nest_same loops nest (With I l.counter v) (vs ++ v ∷ []) (steady_inside I l.counter (counters_of loops) v st) (bounds.2 v) in
        let turns : turns_between (value l.low s) (value l.high s) ≡ turns_of b vs cs = ap₂ turns_between (bounds.0 s i) (bounds.1 s i) in
        from_chain s _ _ _ (loop_is_its_turns l.counter l.low l.high (nest_round loops body) s)
        (from_chain s _ _ _ (from_equal s _ _ (ap (joined (turn_at l.counter (nest_round loops body))) turns))
        (all_turns I l.counter (counters_of loops) st (nest_round loops body) (λ v. tuples_within nest (vs ++ v ∷ []) cs) inner (turns_of b vs cs) s i))

-- ---- from what the law is given
map_same : {A B : Type 0} (f g : A → B) (xs : List A) → ((x : A) → Stands xs x → f x ≡ g x) → map f xs ≡ map g xs
map_same f g [] same = refl
map_same f g (x ∷ xs) same = ap₂ (λ y ys. y ∷ ys) (same x (inl refl)) (map_same f g xs (λ z r. same z (inr r)))

map-push : {A B : Type 0} (f : A → B) (xs : List A) (x : A) → map f (xs ++ x ∷ []) ≡ map f xs ++ f x ∷ []
map-push f [] x = refl
map-push f (y ∷ xs) x = ap (λ l. f y ∷ l) (map-push f xs x)

bounds_in : (symbols : List Expr) (cs : List ℤ) (loops : List Loop) (nest : List Bounds) (I : Store → Type 0) (around : List Name) (vs : List ℤ) →
    ((s : Store) → I s → map (λ x. read s (variable x)) around ≡ vs) → ((s : Store) → I s → map (λ e. value e s) symbols ≡ cs) →
    HaveBounds around symbols loops nest → BoundsIn I vs cs loops nest
bounds_in symbols cs [] [] I around vs counters values have = tt
bounds_in symbols cs [] (b ∷ nest) I around vs counters values have = absurd have
bounds_in symbols cs (l ∷ loops) [] I around vs counters values have = absurd have
bounds_in symbols cs (l ∷ loops) (b ∷ nest) I around vs counters values have = (
  λ s i. have.0.same s ∙ ap₂ (value_at b.low) (counters s i) (values s i),
  λ s i. have.1.same s ∙ ap₂ (value_at b.high) (counters s i) (values s i),
  λ v. bounds_in symbols cs loops nest (With I l.counter v) (around ++ l.counter ∷ []) (vs ++ v ∷ [])
      (λ s i. map-push (λ x. read s (variable x)) around l.counter ∙ ap₂ (λ us u. us ++ u ∷ []) (counters s i.0) i.1)
      (λ s i. values s i.0) have.2,
)

ascends : {A : Type 0} (R : A → A → Type 0) (xs : List A) → AllPairs R xs → Ascends R xs
ascends R [] pairs = tt
ascends R (x ∷ xs) pairs = (λ y r. first y (contains xs y r), ascends R xs (λ i j d lt within. pairs (suc i) (suc j) d (omega arith) (omega arith)))
  where
    first : (y : _) → Contains xs y → R x y
    first y (k, lt, e) = subst (R x) e (pairs zero (suc k) y (omega arith) (omega arith))

pub nest_is_its_turns : NestIsItsTurns
nest_is_its_turns loops nest symbols b have steady s =
    nest_same b (map (λ e. value e s) symbols) loops nest holds [] (record {
      closed = λ x r u w i. map_same _ _ symbols (λ e q. ignores e q x r u w) ∙ i;
      keeps = λ u t i r. map_same _ _ symbols (λ e q. (All-contains (λ e. KeepsExpr b e) symbols e steady.symbols_kept (contains symbols e q)).kept u t r) ∙ i;
      counters_kept = λ x r. All-contains (λ x. KeepsName b x) (counters_of loops) x steady.counters_kept (contains (counters_of loops) x r);
      apart = ascends (λ x y. spelled x ≢ spelled y) (counters_of loops) steady.apart;
    }) (bounds_in symbols (map (λ e. value e s) symbols) loops nest holds [] [] (λ u i. refl) (λ u i. i) have) s refl
  where
    holds : Store → Type 0
    holds u = map (λ e. value e u) symbols ≡ map (λ e. value e s) symbols

    ignores : (e : Expr) → Stands symbols e → (x : Name) → Stands (counters_of loops) x → (u : Store) (w : ℤ) → value e (write u (variable x) w) ≡ value e u
    ignores e q x r u w =
        let each = All-contains (λ e. All (λ x. ExprIgnores e x) (counters_of loops)) symbols e steady.symbols_ignore (contains symbols e q) in
        (All-contains (λ x. ExprIgnores e x) (counters_of loops) x each (contains (counters_of loops) x r)).same u [] w
