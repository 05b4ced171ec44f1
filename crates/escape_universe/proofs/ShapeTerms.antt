-- The words for a term that is a run, a write or a run behind a write, and for two terms.
use Rattle.std.proofs.Common.{◌≡◌, ℕ, true, ◌==◌, ◌&&◌, ◌||◌, [], ◌∷◌, false, sym, ◌∙◌, subst, true≢false}
use Rattle.std.specs.List.{list_any}
use Rattle.std.proofs.lemmas.Bool.{and_parts, and_from}
use Rattle.rule_terms.specs.Term.{StoreTerm, put, run, ValueTerm, ValueTerms, Place}
use Rattle.rule_terms.specs.Order.{store_same, value_same, place_same}
use Rattle.law_clauses.specs.Shapes.{place, put_at, is_run, is_put}
use Rattle.law_clauses.proofs.Same.{same_truth, store_is, value_is, place_is, number_is, run_is, or_false}
use Rattle.law_clauses.proofs.Itself.{number_itself, store_itself, run_itself, put_itself}
use Rattle.escape_universe.specs.Shapes.{runs_write}

pub run_same : (t : StoreTerm) (k : ℕ) (s : StoreTerm) → store_same (run k s) t ≡ is_run t k s
run_same t k s =
    same_truth (store_same (run k s) t) (is_run t k s)
    (λ h. subst (λ (u : StoreTerm). is_run u k s ≡ true) (store_is (run k s) t h) (run_itself k s))
    (λ h. subst (λ (u : StoreTerm). store_same (run k s) u ≡ true) (sym (run_is t k s h)) (store_itself (run k s)))

put_is : (t s : StoreTerm) (x : ℕ) (is : ValueTerms) (v : ValueTerm) → is_put t s x is v ≡ true → t ≡ put s x is v
unfolding is_put
put_is (put u y js w) s x is v h =
    let one = and_parts (store_same u s) (place_same (place y js) (place x is) && value_same w v) h in
    let two = and_parts (place_same (place y js) (place x is)) (value_same w v) one.1 in
    let at = place_is (place y js) (place x is) two.0 in
    λ j. put (store_is u s one.0 j) ((at j).name) ((at j).indices) (value_is w v two.1 j)
put_is _ s x is v h = absurd (true≢false (sym h))

pub write_same : (t s : StoreTerm) (p : Place) (v : ValueTerm) → store_same (put_at s p v) t ≡ is_put t s p.name p.indices v
write_same t s p v =
    same_truth (store_same (put_at s p v) t) (is_put t s p.name p.indices v)
    (λ h. subst (λ (u : StoreTerm). is_put u s p.name p.indices v ≡ true) (store_is (put_at s p v) t h) (put_itself s p.name p.indices v))
    (λ h. subst (λ (u : StoreTerm). store_same (put_at s p v) u ≡ true) (sym (put_is t s p.name p.indices v h)) (store_itself (put_at s p v)))

behind_is : (t : StoreTerm) (k : ℕ) (s : StoreTerm) (p : Place) (v : ValueTerm) → runs_write t k s p v ≡ true → t ≡ run k (put_at s p v)
unfolding runs_write
behind_is (run i u) k s p v h =
    let parts = and_parts (i == k) (is_put u s p.name p.indices v) h in
    λ m. run (number_is i k parts.0 m) (put_is u s p.name p.indices v parts.1 m)
behind_is _ k s p v h = absurd (true≢false (sym h))

behind_itself : (k : ℕ) (s : StoreTerm) (p : Place) (v : ValueTerm) → runs_write (run k (put_at s p v)) k s p v ≡ true
unfolding runs_write
behind_itself k s p v = and_from (k == k) (is_put (put_at s p v) s p.name p.indices v) (number_itself k) (put_itself s p.name p.indices v)

pub behind_same : (t : StoreTerm) (k : ℕ) (s : StoreTerm) (p : Place) (v : ValueTerm) → store_same (run k (put_at s p v)) t ≡ runs_write t k s p v
behind_same t k s p v =
    same_truth (store_same (run k (put_at s p v)) t) (runs_write t k s p v)
    (λ h. subst (λ (u : StoreTerm). runs_write u k s p v ≡ true) (store_is (run k (put_at s p v)) t h) (behind_itself k s p v))
    (λ h. subst (λ (u : StoreTerm). store_same (run k (put_at s p v)) u ≡ true) (sym (behind_is t k s p v h)) (store_itself (run k (put_at s p v))))

pub same_back : (s t : StoreTerm) → store_same s t ≡ store_same t s
same_back s t =
    same_truth (store_same s t) (store_same t s)
    (λ h. subst (λ (u : StoreTerm). store_same t u ≡ true) (sym (store_is s t h)) (store_itself t))
    (λ h. subst (λ (u : StoreTerm). store_same s u ≡ true) (sym (store_is t s h)) (store_itself s))

-- some of two terms
pub either_same : (t a b : StoreTerm) → list_any (store_same t) (a ∷ b ∷ []) ≡ (store_same a t || store_same b t)
either_same t a b = λ j. same_back t a j || or_or j
  where
    or_or : (store_same t b || false) ≡ store_same b t
    or_or = or_false (store_same t b) ∙ same_back t b
