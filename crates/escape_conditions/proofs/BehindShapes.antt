-- The words for a term that is the value of an expression, a write behind a run or a run behind a run.
use Rattle.std.proofs.Common.{◌≡◌, ℕ, ℤ, pos, ◌+ℤ◌, true, ◌==◌, ◌&&◌, sym, subst, true≢false, arith}
use Rattle.std.proofs.lemmas.Int.{ints}
use Rattle.std.proofs.lemmas.Bool.{and_parts, and_from}
use Rattle.rule_terms.specs.Term.{StoreTerm, put, run, ValueTerm, ev, Place}
use Rattle.rule_terms.specs.Order.{store_same, value_same, place_same}
use Rattle.law_clauses.specs.Shapes.{place, put_at, is_run, is_ev}
use Rattle.law_clauses.proofs.Same.{same_truth, store_is, value_is, place_is, number_is, run_is, ev_is}
use Rattle.law_clauses.proofs.Itself.{number_itself, store_itself, value_itself, place_itself, run_itself, ev_itself}
use Rattle.escape_conditions.specs.Shapes.{writes_behind, runs_behind}

pub plus_nothing : (z : ℤ) → z +ℤ pos 0 ≡ z
plus_nothing z = omega (arith, ints)

pub ev_same : (w : ValueTerm) (i : ℕ) (s : StoreTerm) → value_same (ev i s) w ≡ is_ev w i s
ev_same w i s =
    same_truth (value_same (ev i s) w) (is_ev w i s)
    (λ h. subst (λ (u : ValueTerm). is_ev u i s ≡ true) (value_is (ev i s) w h) (ev_itself i s))
    (λ h. subst (λ (u : ValueTerm). value_same (ev i s) u ≡ true) (sym (ev_is w i s h)) (value_itself (ev i s)))

write_is : (t : StoreTerm) (k : ℕ) (s : StoreTerm) (p : Place) (v : ValueTerm) → writes_behind t k s p v ≡ true → t ≡ put_at (run k s) p v
unfolding writes_behind
write_is (put u y js w) k s p v h =
    let one = and_parts (is_run u k s) (place_same (place y js) p && value_same w v) h in
    let two = and_parts (place_same (place y js) p) (value_same w v) one.1 in
    let at = place_is (place y js) p two.0 in
    λ j. put (run_is u k s one.0 j) ((at j).name) ((at j).indices) (value_is w v two.1 j)
write_is _ k s p v h = absurd (true≢false (sym h))

write_itself : (k : ℕ) (s : StoreTerm) (p : Place) (v : ValueTerm) → writes_behind (put_at (run k s) p v) k s p v ≡ true
unfolding writes_behind
write_itself k s p v = and_from (is_run (run k s) k s) _ (run_itself k s) (and_from (place_same p p) (value_same v v) (place_itself p) (value_itself v))

pub write_same : (t : StoreTerm) (k : ℕ) (s : StoreTerm) (p : Place) (v : ValueTerm) → store_same (put_at (run k s) p v) t ≡ writes_behind t k s p v
write_same t k s p v =
    same_truth (store_same (put_at (run k s) p v) t) (writes_behind t k s p v)
    (λ h. subst (λ (u : StoreTerm). writes_behind u k s p v ≡ true) (store_is (put_at (run k s) p v) t h) (write_itself k s p v))
    (λ h. subst (λ (u : StoreTerm). store_same (put_at (run k s) p v) u ≡ true) (sym (write_is t k s p v h)) (store_itself (put_at (run k s) p v)))

second_run_is : (t : StoreTerm) (j k : ℕ) (s : StoreTerm) → runs_behind t j k s ≡ true → t ≡ run j (run k s)
unfolding runs_behind
second_run_is (run i u) j k s h =
    let parts = and_parts (i == j) (is_run u k s) h in
    λ m. run (number_is i j parts.0 m) (run_is u k s parts.1 m)
second_run_is _ j k s h = absurd (true≢false (sym h))

second_run_itself : (j k : ℕ) (s : StoreTerm) → runs_behind (run j (run k s)) j k s ≡ true
unfolding runs_behind
second_run_itself j k s = and_from (j == j) (is_run (run k s) k s) (number_itself j) (run_itself k s)

pub run_same : (t : StoreTerm) (j k : ℕ) (s : StoreTerm) → store_same (run j (run k s)) t ≡ runs_behind t j k s
run_same t j k s =
    same_truth (store_same (run j (run k s)) t) (runs_behind t j k s)
    (λ h. subst (λ (u : StoreTerm). runs_behind u j k s ≡ true) (store_is (run j (run k s)) t h) (second_run_itself j k s))
    (λ h. subst (λ (u : StoreTerm). store_same (run j (run k s)) u ≡ true) (sym (second_run_is t j k s h)) (store_itself (run j (run k s))))
