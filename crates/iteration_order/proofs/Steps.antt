-- One turn of the loops that count and list tuples: what is found and what is left make the whole, and no turn is left at the end.
use Rattle.std.specs.Prelude.{◌≡◌, ◌≤◌, ◌<◌, ◌+◌, ◌^◌, ℕ, suc, ℤ, pos, ◌+ℤ◌, ◌≤ℤ◌, ◌<ℤ◌, List, [], ◌∷◌, ◌++◌, map, length, slice_index_or, true, false, FitsSigned, refl}
use Rattle.std.specs.Int.{w128}
use Rattle.std.specs.Int.Signed.{lt_z}
use Rattle.std.specs.List.{flat_map}
use Rattle.std.proofs.Common.{sym, ◌∙◌, ap, ap₂, arith, to_z, of_z, lit<, append_assoc, length-append, append-nil, inl, inr}
use Rattle.std.proofs.lemmas.Int.{ints, to_z-of_z}
use Rattle.std.proofs.lemmas.List.Concat.{flat_map_single}
use Rattle.iteration_order.specs.declared.bounds.Bounds.{Bounds}
use Rattle.iteration_order.specs.Affine.{value_at, IsAtMost}
use Rattle.iteration_order.specs.RunningOrder.{turns_between, turns_of, tuples_within, tuples_between, pairs_between, running_order, outer_turns, AreMany}
use Rattle.iteration_order.proofs.Weights.{at_most, above, below, fits, kept}
use Rattle.iteration_order.proofs.Ranges.{turns-none, turns-next}

-- ---- the counter of a loop of the code
pub record GoesOn (v high : ℤ) : Type 0 where
  pub below : v <ℤ high
  pub next_is : to_z w128 (of_z w128 (v +ℤ pos 1)) ≡ v +ℤ pos 1

pub goes_on : (v high : ℤ) → FitsSigned w128 v → FitsSigned w128 high → lt_z v (to_z w128 (of_z w128 high)) ≡ true → GoesOn v high
goes_on v high v_fits high_fits tested =
    let kept = to_z-of_z w128 high high_fits in
    let test : lt_z v high ≡ true = ap (lt_z v) (sym kept) ∙ tested in
    let below : v <ℤ high = grind (arith, ints) in
    let v_mag = v_fits.sfits in
    let high_mag = high_fits.sfits in
    record { below = below; next_is = omega (arith, ints) }

pub ends : (v high : ℤ) → FitsSigned w128 high → lt_z v (to_z w128 (of_z w128 high)) ≡ false → high ≤ℤ v
ends v high high_fits tested =
    let kept = to_z-of_z w128 high high_fits in
    let test : lt_z v high ≡ false = ap (lt_z v) (sym kept) ∙ tested in
    grind (arith, ints)

-- ---- lists that are made turn by turn
tuples-next : (around : List ℤ) (v high : ℤ) → v <ℤ high → tuples_between around v high ≡ (around ++ v ∷ []) ∷ tuples_between around (v +ℤ pos 1) high
unfolding tuples_between
tuples-next around v high lt = ap (map (λ v. around ++ v ∷ [])) (turns-next v high lt)

tuples-none : (around : List ℤ) (v high : ℤ) → high ≤ℤ v → tuples_between around v high ≡ []
unfolding tuples_between
tuples-none around v high le = ap (map (λ v. around ++ v ∷ [])) (turns-none v high le)

length-map : {A B : Type 0} (f : A → B) (xs : List A) → length (map f xs) ≡ length xs
length-map f [] = refl
length-map f (x ∷ xs) = ap suc (length-map f xs)

pub length-tuples : (around : List ℤ) (low high : ℤ) → length (tuples_between around low high) ≡ length (turns_between low high)
unfolding tuples_between
length-tuples around low high = length-map (λ v. around ++ v ∷ []) (turns_between low high)

-- the tuples of one loop, by its bounds
tuples-one : (b : Bounds) (around symbols : List ℤ) → tuples_within (b ∷ []) around symbols ≡ map (λ v. v ∷ []) (turns_of b around symbols)
unfolding tuples_within
tuples-one b around symbols = flat_map_single (λ v. v ∷ []) (turns_of b around symbols)

map-map : {A B C : Type 0} (g : B → C) (f : A → B) (xs : List A) → map g (map f xs) ≡ map (λ x. g (f x)) xs
map-map g f [] = refl
map-map g f (x ∷ xs) = ap (λ l. g (f x) ∷ l) (map-map g f xs)

-- one turn of the outer of two loops
turn_tuples : (inner : Bounds) (symbols : List ℤ) (v : ℤ) → map (λ t. v ∷ t) (tuples_within (inner ∷ []) (v ∷ []) symbols) ≡
    tuples_between (v ∷ []) (value_at inner.low (v ∷ []) symbols) (value_at inner.high (v ∷ []) symbols)
unfolding tuples_between
turn_tuples inner symbols v = ap (map (λ t. v ∷ t)) (tuples-one inner (v ∷ []) symbols) ∙ map-map (λ t. v ∷ t) (λ w. w ∷ []) (turns_of inner (v ∷ []) symbols)

pairs-next : (inner : Bounds) (symbols : List ℤ) (v high : ℤ) → v <ℤ high → pairs_between inner symbols v high ≡
    tuples_between (v ∷ []) (value_at inner.low (v ∷ []) symbols) (value_at inner.high (v ∷ []) symbols) ++ pairs_between inner symbols (v +ℤ pos 1) high
unfolding pairs_between
pairs-next inner symbols v high lt =
    ap (flat_map (λ v. map (λ t. v ∷ t) (tuples_within (inner ∷ []) (v ∷ []) symbols))) (turns-next v high lt) ∙
    ap (λ l. l ++ flat_map (λ v. map (λ t. v ∷ t) (tuples_within (inner ∷ []) (v ∷ []) symbols)) (turns_between (v +ℤ pos 1) high)) (turn_tuples inner symbols v)

pairs-none : (inner : Bounds) (symbols : List ℤ) (v high : ℤ) → high ≤ℤ v → pairs_between inner symbols v high ≡ []
unfolding pairs_between
pairs-none inner symbols v high le = ap (flat_map (λ v. map (λ t. v ∷ t) (tuples_within (inner ∷ []) (v ∷ []) symbols))) (turns-none v high le)

-- ---- the steps
pub push_step : (around : List ℤ) (old new whole : List (List ℤ)) (v high next : ℤ) → v <ℤ high → next ≡ v +ℤ pos 1 → new ≡ old ++ (around ++ v ∷ []) ∷ [] →
    old ++ tuples_between around v high ≡ whole → new ++ tuples_between around next high ≡ whole
push_step around old new whole v high next lt next_is new_is left =
    ap₂ (λ l w. l ++ tuples_between around w high) new_is next_is ∙
    append_assoc old ((around ++ v ∷ []) ∷ []) (tuples_between around (v +ℤ pos 1) high) ∙
    ap (λ l. old ++ l) (sym (tuples-next around v high lt)) ∙ left

pub push_done : (around : List ℤ) (old whole : List (List ℤ)) (v high : ℤ) → high ≤ℤ v → old ++ tuples_between around v high ≡ whole → old ≡ whole
push_done around old whole v high le left = sym (append-nil old) ∙ ap (λ l. old ++ l) (sym (tuples-none around v high le)) ∙ left

pub pairs_step : (inner : Bounds) (symbols : List ℤ) (old new whole : List (List ℤ)) (v high next low_in high_in : ℤ) → v <ℤ high → next ≡ v +ℤ pos 1 →
    low_in ≡ value_at inner.low (v ∷ []) symbols → high_in ≡ value_at inner.high (v ∷ []) symbols → new ≡ old ++ tuples_between (v ∷ []) low_in high_in →
    old ++ pairs_between inner symbols v high ≡ whole → new ++ pairs_between inner symbols next high ≡ whole
pairs_step inner symbols old new whole v high next low_in high_in lt next_is low_is high_is new_is left =
    ap₂ (λ l w. l ++ pairs_between inner symbols w high) (new_is ∙ ap₂ (λ x y. old ++ tuples_between (v ∷ []) x y) low_is high_is) next_is ∙
    append_assoc old (tuples_between (v ∷ []) (value_at inner.low (v ∷ []) symbols) (value_at inner.high (v ∷ []) symbols)) (pairs_between inner symbols (v +ℤ pos 1) high) ∙
    ap (λ l. old ++ l) (sym (pairs-next inner symbols v high lt)) ∙ left

pub pairs_done : (inner : Bounds) (symbols : List ℤ) (old whole : List (List ℤ)) (v high : ℤ) → high ≤ℤ v → old ++ pairs_between inner symbols v high ≡ whole → old ≡ whole
pairs_done inner symbols old whole v high le left = sym (append-nil old) ∙ ap (λ l. old ++ l) (sym (pairs-none inner symbols v high le)) ∙ left

-- a turn's tuples are as many as the inner loop has turns
pub count_step : (inner : Bounds) (symbols : List ℤ) (v high low_in high_in : ℤ) → v <ℤ high →
    low_in ≡ value_at inner.low (v ∷ []) symbols → high_in ≡ value_at inner.high (v ∷ []) symbols →
    length (pairs_between inner symbols v high) ≡ length (turns_between low_in high_in) + length (pairs_between inner symbols (v +ℤ pos 1) high)
count_step inner symbols v high low_in high_in lt low_is high_is =
    ap length (pairs-next inner symbols v high lt) ∙
    length-append (tuples_between (v ∷ []) (value_at inner.low (v ∷ []) symbols) (value_at inner.high (v ∷ []) symbols)) (pairs_between inner symbols (v +ℤ pos 1) high) ∙
    ap (λ n. n + length (pairs_between inner symbols (v +ℤ pos 1) high))
    (length-tuples (v ∷ []) _ _ ∙ ap₂ (λ x y. length (turns_between x y)) (sym low_is) (sym high_is))

pub count_done : (inner : Bounds) (symbols : List ℤ) (v high : ℤ) → high ≤ℤ v → length (pairs_between inner symbols v high) ≡ 0
count_done inner symbols v high le = ap length (pairs-none inner symbols v high le)

-- what the count of the code is after one more turn
pub record MoreCounted (inner : Bounds) (symbols : List ℤ) (v high count p : ℤ) (total : ℕ) : Type 0 where
  pub fits : FitsSigned w128 (count +ℤ to_z w128 (of_z w128 p))
  pub is : to_z w128 (of_z w128 (count +ℤ to_z w128 (of_z w128 p))) ≡ count +ℤ p
  pub positive : pos 0 ≤ℤ (count +ℤ p)
  pub left : (count +ℤ p) +ℤ pos (length (pairs_between inner symbols (v +ℤ pos 1) high)) ≡ pos total

pub more_counted : (inner : Bounds) (symbols : List ℤ) (v high low_in high_in count p : ℤ) (total : ℕ) → v <ℤ high →
    low_in ≡ value_at inner.low (v ∷ []) symbols → high_in ≡ value_at inner.high (v ∷ []) symbols →
    p ≡ pos (length (turns_between low_in high_in)) → IsAtMost (2 ^ 111) p → pos 0 ≤ℤ count → count ≤ℤ pos 65536 →
    count +ℤ pos (length (pairs_between inner symbols v high)) ≡ pos total → MoreCounted inner symbols v high count p total
more_counted inner symbols v high low_in high_in count p total lt low_is high_is p_is p_small positive few left =
    let step = count_step inner symbols v high low_in high_in lt low_is high_is in
    let p_above = above p in
    let p_below = below p in
    let p_kept : to_z w128 (of_z w128 p) ≡ p = kept (2 ^ 111) p p_small (lit< tt) in
    let both : IsAtMost (2 ^ 112) (count +ℤ p) = at_most (2 ^ 112) (count +ℤ p) (omega (arith, ints)) (omega (arith, ints)) in
    let inner_is : count +ℤ to_z w128 (of_z w128 p) ≡ count +ℤ p = ap (λ z. count +ℤ z) p_kept in
    record {
      fits = rw inner_is (fits (2 ^ 112) (count +ℤ p) both (lit< tt));
      is = rw inner_is (kept (2 ^ 112) (count +ℤ p) both (lit< tt));
      positive = omega (arith, ints);
      left = omega (arith, ints);
    }

pub above_most : (z : ℤ) → lt_z (pos 65536) z ≡ true → pos 65536 <ℤ z
above_most z test = grind (arith, ints)

pub at_most_most : (z : ℤ) → lt_z (pos 65536) z ≡ false → z ≤ℤ pos 65536
at_most_most z test = grind (arith, ints)

pub few_turns : (r : ℤ) (n : ℕ) → r ≡ pos n → IsAtMost (2 ^ 111) r → lt_z (pos 65536) (to_z w128 (of_z w128 r)) ≡ false → n ≤ 65536
few_turns r n r_is small tested =
    let test : lt_z (pos 65536) r ≡ false = ap (lt_z (pos 65536)) (sym (kept (2 ^ 111) r small (lit< tt))) ∙ tested in
    let le = at_most_most r test in
    omega (arith, ints)

-- ---- one loop and two
pub running-one : (b : Bounds) (symbols : List ℤ) → running_order (b ∷ []) symbols ≡ tuples_between [] (value_at b.low [] symbols) (value_at b.high [] symbols)
unfolding tuples_between
running-one b symbols = tuples-one b [] symbols

pub running-two : (b inner : Bounds) (symbols : List ℤ) → running_order (b ∷ inner ∷ []) symbols ≡ pairs_between inner symbols (value_at b.low [] symbols) (value_at b.high [] symbols)
unfolding pairs_between tuples_within
running-two b inner symbols = refl

-- a list of one loop, and one of two
pub one_loop : (nest : List Bounds) (b : Bounds) → 1 ≤ length nest → length nest ≤ 1 → b ≡ slice_index_or nest 0 b → nest ≡ b ∷ []
one_loop [] b some few is = absurd (omega arith)
one_loop (a ∷ []) b some few is = ap (λ x. x ∷ []) (sym is)
one_loop (a ∷ b' ∷ nest) b some few is = absurd (omega arith)

pub two_loops : (nest : List Bounds) (b inner : Bounds) → length nest ≡ 2 → b ≡ slice_index_or nest 0 b → inner ≡ slice_index_or nest 1 inner → nest ≡ b ∷ inner ∷ []
two_loops [] b inner two is inner_is = absurd (omega arith)
two_loops (a ∷ []) b inner two is inner_is = absurd (omega arith)
two_loops (a ∷ a' ∷ []) b inner two is inner_is = ap₂ (λ x y. x ∷ y ∷ []) (sym is) (sym inner_is)
two_loops (a ∷ a' ∷ a'' ∷ nest) b inner two is inner_is = absurd (omega arith)

module _ (nest : List Bounds) (symbols : List ℤ) (b : Bounds) (low high : ℤ) (low_is : low ≡ value_at b.low [] symbols) (high_is : high ≡ value_at b.high [] symbols) where
  pub order_one : nest ≡ b ∷ [] → running_order nest symbols ≡ tuples_between [] low high
  order_one is = ap (λ n. running_order n symbols) is ∙ running-one b symbols ∙ ap₂ (tuples_between []) (sym low_is) (sym high_is)

  pub order_two : (inner : Bounds) → nest ≡ b ∷ inner ∷ [] → running_order nest symbols ≡ pairs_between inner symbols low high
  order_two inner is = ap (λ n. running_order n symbols) is ∙ running-two b inner symbols ∙ ap₂ (pairs_between inner symbols) (sym low_is) (sym high_is)

  outer_is : (rest : List Bounds) → nest ≡ b ∷ rest → outer_turns nest symbols ≡ turns_between low high
  outer_is rest is = ap (λ n. outer_turns n symbols) is ∙ ap₂ turns_between (sym low_is) (sym high_is)

  pub few_one : nest ≡ b ∷ [] → length (turns_between low high) ≤ 65536 → AreMany nest symbols → ⊥
  few_one is few (inl many) = absurd (omega (arith, ap length (order_one is), length-tuples [] low high))
  few_one is few (inr many) = absurd (omega (arith, ap length (outer_is [] is)))

  pub few_two : (inner : Bounds) → nest ≡ b ∷ inner ∷ [] → length (turns_between low high) ≤ 65536 → length (pairs_between inner symbols low high) ≤ 65536 → AreMany nest symbols → ⊥
  few_two inner is few short (inl many) = absurd (omega (arith, ap length (order_two inner is)))
  few_two inner is few short (inr many) = absurd (omega (arith, ap length (outer_is (inner ∷ []) is)))

  pub many_two : (inner : Bounds) → nest ≡ b ∷ inner ∷ [] → 65536 < length (pairs_between inner symbols low high) → AreMany nest symbols
  many_two inner is many = inl (omega (arith, ap length (order_two inner is)))
