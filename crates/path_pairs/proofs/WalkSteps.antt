-- How far walks go, by the statements alone: some walk makes n steps before a stop exactly where the longest has as many,
-- for up to 65 steps.
use Rattle.std.specs.Prelude.{◌≡◌, ℕ, zero, suc, ◌+◌, ◌≤◌, max, Bool, true, false, cond, ◌||◌, List, [], ◌∷◌, ◌++◌, length, None, Some, refl}
use Rattle.std.proofs.Common.{sym, ◌∙◌, ap, subst, arith}
use Rattle.std.specs.List.{list_any}
use Rattle.std.proofs.lemmas.List.Folds.{list_any-append}
use Rattle.toy_imp.specs.Block.{Stmt, skip, put, assert_that, if_then, while_do, for_to, let_in, par_stmt, Block, empty, stmt}
use Rattle.toy_imp.specs.Points.{point_count}
use Rattle.toy_imp.specs.Test.{Test}
use Rattle.rule_terms.specs.Term.{StoreTerm}
use Rattle.rule_terms.specs.declared.obligation.Literal.{Literal}
use Rattle.rule_terms.specs.declared.path.Stop.{Stop}
use Rattle.rule_terms.specs.declared.path.Stop.TheVariants.{At, Halted}
use Rattle.path_pairs.specs.Outcomes.{outcomes}
use Rattle.path_pairs.specs.Rests.{Rest, stretch}
use Rattle.path_pairs.specs.Walks.{stops, stands, each_so, by_each, stmt_step, is_cut, goes_on}
use Rattle.path_pairs.specs.Along.{passes, most_steps, rest_steps}
use Rattle.path_pairs.proofs.OutcomeLengths.{as_many_outcomes, some_outcome}
use Rattle.path_pairs.proofs.Stopping.{passed, blocked}

-- k is at most m
abbrev pub reaches : ℕ → ℕ → Bool
reaches zero m = true
reaches (suc k) zero = false
reaches (suc k) (suc m) = reaches k m

pub within_reaches : (k m : ℕ) → k ≤ m → reaches k m ≡ true
within_reaches zero m h = refl
within_reaches (suc k) zero h = absurd (omega (arith, h))
within_reaches (suc k) (suc m) h = within_reaches k m (omega (arith, h))

pub reaches_within : (k m : ℕ) → reaches k m ≡ true → k ≤ m
reaches_within zero m h = omega arith
reaches_within (suc k) zero h = cc
reaches_within (suc k) (suc m) h = omega (arith, reaches_within k m h)

pub or_false : (x : Bool) → (x || false) ≡ x
or_false true = refl
or_false false = refl

or_same : (x : Bool) → (x || x) ≡ x
or_same true = refl
or_same false = refl

pub reaches_max : (k m n : ℕ) → (reaches k m || reaches k n) ≡ reaches k (max m n)
reaches_max zero m n = refl
reaches_max (suc k) zero n = let e : max 0 n ≡ n = omega arith in sym (ap (reaches (suc k)) e)
reaches_max (suc k) (suc m) zero = let e : max (suc m) 0 ≡ suc m = omega arith in or_false (reaches k m) ∙ sym (ap (reaches (suc k)) e)
reaches_max (suc k) (suc m) (suc n) = let e : max (suc m) (suc n) ≡ suc (max m n) = omega arith in reaches_max k m n ∙ sym (ap (reaches (suc k)) e)

-- whether walks from here go on, whatever they met and whatever their store is
abbrev pub GoesAs : ℕ → List ℕ → ℕ → Rest → Bool → Type 0
GoesAs k cuts exit rest v = (ls : List Literal) (s : StoreTerm) → goes_on k cuts exit (stands ls s rest) ≡ v

abbrev Exact : ℕ → List ℕ → ℕ → Type 0
Exact k cuts exit = (rest : Rest) → GoesAs k cuts exit rest (reaches k (rest_steps cuts rest))

each_goes : (k : ℕ) (cuts : List ℕ) (exit : ℕ) (rest : Rest) (v : Bool) → GoesAs k cuts exit rest v → (found : List (List Literal)) (ls : List Literal) (s : StoreTerm)
    → 1 ≤ length found → list_any (goes_on k cuts exit) (by_each found ls s rest) ≡ v
each_goes k cuts exit rest v h [] ls s some = absurd (omega (arith, some))
each_goes k cuts exit rest v h (x ∷ []) ls s some = ap (λ w. w || false) (h (ls ++ x) s) ∙ or_false v
each_goes k cuts exit rest v h (x ∷ y ∷ found) ls s some =
    let others : list_any (goes_on k cuts exit) (by_each (y ∷ found) ls s rest) ≡ v = each_goes k cuts exit rest v h (y ∷ found) ls s (omega arith) in
    let first : goes_on k cuts exit (stands (ls ++ x) s rest) ≡ v = h (ls ++ x) s in
    (λ i. first i || others i) ∙ or_same v

some_way : (t : Test) (way : Bool) (s : StoreTerm) → 1 ≤ length (outcomes t way s)
some_way t way s = subst (λ n. 1 ≤ n) (sym (as_many_outcomes t way s)) (some_outcome t way)

-- by the outcomes of a test
pub test_goes : (k : ℕ) (cuts : List ℕ) (exit : ℕ) (t : Test) (yes_rest no_rest : Rest) (x y : Bool) → GoesAs k cuts exit yes_rest x → GoesAs k cuts exit no_rest y
    → (ls : List Literal) (s : StoreTerm) → list_any (goes_on k cuts exit) (by_each (outcomes t true s) ls s yes_rest ++ by_each (outcomes t false s) ls s no_rest) ≡ (x || y)
test_goes k cuts exit t yes_rest no_rest x y h g ls s =
    let first : list_any (goes_on k cuts exit) (by_each (outcomes t true s) ls s yes_rest) ≡ x = each_goes k cuts exit yes_rest x h (outcomes t true s) ls s (some_way t true s) in
    let second : list_any (goes_on k cuts exit) (by_each (outcomes t false s) ls s no_rest) ≡ y = each_goes k cuts exit no_rest y g (outcomes t false s) ls s (some_way t false s) in
    list_any-append (goes_on k cuts exit) (by_each (outcomes t true s) ls s yes_rest) (by_each (outcomes t false s) ls s no_rest) ∙ (λ i. first i || second i)

pub stuck_stays : (k : ℕ) (cuts : List ℕ) (exit m : ℕ) (ls : List Literal) (s : StoreTerm) (stop : Stop)
    → (reaches k m || (goes_on k cuts exit (record { literals = ls; store = s; next = stops stop }) || false)) ≡ reaches k m
unfolding goes_on
stuck_stays zero cuts exit m ls s stop = refl
stuck_stays (suc k) cuts exit m ls s stop = or_false (reaches (suc k) m)

-- the outcomes in which an `assert` is false go on no further
none_goes : (k : ℕ) (cuts : List ℕ) (exit : ℕ) (found : List (List Literal)) (ls : List Literal) (s : StoreTerm) (stop : Stop) → list_any (goes_on (suc k) cuts exit) (each_so found ls s (stops stop)) ≡ false
unfolding goes_on
none_goes k cuts exit [] ls s stop = refl
none_goes k cuts exit (x ∷ found) ls s stop = none_goes k cuts exit found ls s stop

halting_stays : (k : ℕ) (cuts : List ℕ) (exit m : ℕ) (found : List (List Literal)) (ls : List Literal) (s : StoreTerm) (stop : Stop)
    → (reaches k m || list_any (goes_on k cuts exit) (each_so found ls s (stops stop))) ≡ reaches k m
halting_stays zero cuts exit m found ls s stop = refl
halting_stays (suc k) cuts exit m found ls s stop = ap (λ x. reaches (suc k) m || x) (none_goes k cuts exit found ls s stop) ∙ or_false (reaches (suc k) m)

pub assert_goes : (k : ℕ) (cuts : List ℕ) (exit : ℕ) (t : Test) (behind : Rest) (m : ℕ) → GoesAs k cuts exit behind (reaches k m)
    → (ls : List Literal) (s : StoreTerm) → list_any (goes_on k cuts exit) (by_each (outcomes t true s) ls s behind ++ each_so (outcomes t false s) ls s (stops Halted)) ≡ reaches k m
assert_goes k cuts exit t behind m h ls s =
    let first : list_any (goes_on k cuts exit) (by_each (outcomes t true s) ls s behind) ≡ reaches k m = each_goes k cuts exit behind _ h (outcomes t true s) ls s (some_way t true s) in
    list_any-append (goes_on k cuts exit) (by_each (outcomes t true s) ls s behind) (each_so (outcomes t false s) ls s (stops Halted))
    ∙ (λ i. first i || list_any (goes_on k cuts exit) (each_so (outcomes t false s) ls s (stops Halted)))
    ∙ halting_stays k cuts exit m (outcomes t false s) ls s Halted

-- a `while` that is no cut point
loop_goes : (k : ℕ) (cuts : List ℕ) (exit : ℕ) → suc k ≤ 65 → Exact k cuts exit → (n : ℕ) (t : Test) (c : Block) (here behind : Rest) (p : Bool) → passes cuts (suc n) c ≡ p
    → rest_steps cuts here ≡ cond p 65 (suc (max (most_steps cuts (suc n) c 0) (rest_steps cuts behind))) → (ls : List Literal) (s : StoreTerm)
    → list_any (goes_on k cuts exit) (by_each (outcomes t true s) ls s (stretch (suc n) c ∷ here) ++ by_each (outcomes t false s) ls s behind)
    ≡ reaches (suc k) (cond p 65 (suc (max (most_steps cuts (suc n) c 0) (rest_steps cuts behind))))
loop_goes k cuts exit small h n t c here behind true e d ls s =
    let far : k ≤ most_steps cuts (suc n) c (rest_steps cuts here) = passed cuts (suc n) c e k (rest_steps cuts here) (omega (arith, small)) (omega (arith, small, d)) in
    test_goes k cuts exit t (stretch (suc n) c ∷ here) behind _ _ (h (stretch (suc n) c ∷ here)) (h behind) ls s
    ∙ ap (λ x. x || reaches k (rest_steps cuts behind)) (within_reaches k _ far)
    ∙ sym (within_reaches (suc k) 65 small)
loop_goes k cuts exit small h n t c here behind false e d ls s =
    test_goes k cuts exit t (stretch (suc n) c ∷ here) behind _ _ (h (stretch (suc n) c ∷ here)) (h behind) ls s
    ∙ ap (λ m. reaches k m || reaches k (rest_steps cuts behind)) (blocked cuts (suc n) c e (rest_steps cuts here) 0)
    ∙ reaches_max k (most_steps cuts (suc n) c 0) (rest_steps cuts behind)

while_goes : (k : ℕ) (cuts : List ℕ) (exit : ℕ) → suc k ≤ 65 → Exact k cuts exit → (n : ℕ) (t : Test) (c : Block) (here behind : Rest) (q : Bool)
    → rest_steps cuts here ≡ cond q 0 (cond (passes cuts (suc n) c) 65 (suc (max (most_steps cuts (suc n) c 0) (rest_steps cuts behind)))) → (ls : List Literal) (s : StoreTerm)
    → elim (cond q (Some (At n)) None) as (λ o. Bool) [
      | None ↦ list_any (goes_on k cuts exit) (by_each (outcomes t true s) ls s (stretch (suc n) c ∷ here) ++ by_each (outcomes t false s) ls s behind)
      | Some stop ↦ false
    ]
    ≡ reaches (suc k) (cond q 0 (cond (passes cuts (suc n) c) 65 (suc (max (most_steps cuts (suc n) c 0) (rest_steps cuts behind)))))
while_goes k cuts exit small h n t c here behind true d ls s = refl
while_goes k cuts exit small h n t c here behind false d ls s = loop_goes k cuts exit small h n t c here behind (passes cuts (suc n) c) refl d ls s

par_goes : (k : ℕ) (cuts : List ℕ) (exit : ℕ) → Exact k cuts exit → (n : ℕ) (behind : Rest) (q : Bool) (ls more : List Literal) (s u : StoreTerm) (stop : Stop)
    → elim (cond q (Some (At n)) None) as (λ o. Bool) [
      | None ↦ goes_on k cuts exit (stands ls s behind) || (goes_on k cuts exit (record { literals = more; store = u; next = stops stop }) || false)
      | Some at ↦ false
    ]
    ≡ reaches (suc k) (cond q 0 (suc (rest_steps cuts behind)))
par_goes k cuts exit h n behind true ls more s u stop = refl
par_goes k cuts exit h n behind false ls more s u stop =
    ap (λ x. x || (goes_on k cuts exit (record { literals = more; store = u; next = stops stop }) || false)) (h behind ls s)
    ∙ stuck_stays k cuts exit (rest_steps cuts behind) more u stop

stmt_goes : (k : ℕ) (cuts : List ℕ) (exit : ℕ) → suc k ≤ 65 → Exact k cuts exit → (n : ℕ) (a : Stmt) (b : Block) (rest : Rest) → GoesAs (suc k) cuts exit (stretch n (stmt a b) ∷ rest) (reaches (suc k) (rest_steps cuts (stretch n (stmt a b) ∷ rest)))
unfolding goes_on stmt_step
stmt_goes k cuts exit small h n skip b rest ls s = ap (λ x. x || false) (h (stretch (n + 0) b ∷ rest) ls s) ∙ or_false _
stmt_goes k cuts exit small h n (put x is e) b rest ls s = ap (λ y. y || false) (h (stretch (n + 0) b ∷ rest) ls _) ∙ or_false _
stmt_goes k cuts exit small h n (assert_that t) b rest ls s = assert_goes k cuts exit t (stretch (n + 0) b ∷ rest) _ (h (stretch (n + 0) b ∷ rest)) ls s
stmt_goes k cuts exit small h n (if_then t c d) b rest ls s =
    test_goes k cuts exit t _ _ _ _ (h (stretch n c ∷ stretch (n + (point_count c + point_count d)) b ∷ rest)) (h (stretch (n + point_count c) d ∷ stretch (n + (point_count c + point_count d)) b ∷ rest)) ls s
    ∙ reaches_max k _ _
stmt_goes k cuts exit small h n (while_do t c) b rest ls s =
    while_goes k cuts exit small h n t c (stretch n (stmt (while_do t c) b) ∷ rest) (stretch (n + suc (point_count c)) b ∷ rest) (is_cut cuts n) refl ls s
stmt_goes k cuts exit small h n (for_to x lo hi c) b rest ls s = refl
stmt_goes k cuts exit small h n (let_in x e c) b rest ls s = refl
stmt_goes k cuts exit small h n (par_stmt j) b rest ls s = par_goes k cuts exit h n (stretch (n + 1) b ∷ rest) (is_cut cuts n) _ _ _ _ _

rest_goes : (k : ℕ) (cuts : List ℕ) (exit : ℕ) → suc k ≤ 65 → Exact k cuts exit → Exact (suc k) cuts exit
unfolding goes_on
rest_goes k cuts exit small h [] ls s = refl
rest_goes k cuts exit small h (stretch n empty ∷ rest) ls s = rest_goes k cuts exit small h rest ls s
rest_goes k cuts exit small h (stretch n (stmt a b) ∷ rest) ls s = stmt_goes k cuts exit small h n a b rest ls s

pub goes_exactly : (k : ℕ) (cuts : List ℕ) (exit : ℕ) → k ≤ 65 → (rest : Rest) (ls : List Literal) (s : StoreTerm) → goes_on k cuts exit (stands ls s rest) ≡ reaches k (rest_steps cuts rest)
unfolding goes_on
goes_exactly zero cuts exit small rest ls s = refl
goes_exactly (suc k) cuts exit small rest ls s = rest_goes k cuts exit small (goes_exactly k cuts exit (omega (arith, small))) rest ls s
