-- How many walks there are up to their stop, by the statements alone, where none makes more steps than are allowed.
use Rattle.std.specs.Prelude.{◌≡◌, ℕ, zero, suc, ◌+◌, ◌*◌, ◌≤◌, max, Bool, true, false, cond, List, [], ◌∷◌, ◌++◌, length, flat_map, None, Some, refl}
use Rattle.std.proofs.Common.{◌∙◌, ap, arith}
use Rattle.std.proofs.Math.Nat.{suc-mul}
use Rattle.std.proofs.lemmas.List.{length-append}
use Rattle.std.proofs.lemmas.Grind.{flat_map-append}
use Rattle.toy_imp.specs.Block.{Stmt, skip, put, assert_that, if_then, while_do, for_to, let_in, par_stmt, Block, empty, stmt}
use Rattle.toy_imp.specs.Points.{point_count}
use Rattle.toy_imp.specs.Test.{Test}
use Rattle.rule_terms.specs.Term.{StoreTerm}
use Rattle.rule_terms.specs.declared.obligation.Literal.{Literal}
use Rattle.rule_terms.specs.declared.path.Path.{Path}
use Rattle.rule_terms.specs.declared.path.Stop.{Stop}
use Rattle.rule_terms.specs.declared.path.Stop.TheVariants.{At, Halted}
use Rattle.path_pairs.specs.Outcomes.{outcomes}
use Rattle.path_pairs.specs.OutcomeCounts.{outcome_count}
use Rattle.path_pairs.specs.Rests.{Rest, stretch}
use Rattle.path_pairs.specs.Walks.{stops, stands, each_so, by_each, stmt_step, is_cut, walks}
use Rattle.path_pairs.specs.Along.{passes, most_steps, rest_steps, walk_count, rest_walks}
use Rattle.path_pairs.proofs.OutcomeLengths.{as_many_outcomes}
use Rattle.path_pairs.proofs.Stopping.{blocked, as_many}

-- how many walks there are from here, whatever they met and whatever their store is
abbrev pub Lengths : ℕ → List ℕ → ℕ → Rest → ℕ → Type 0
Lengths k cuts exit rest m = (ls : List Literal) (s : StoreTerm) → length (walks k cuts exit (stands ls s rest)) ≡ m

abbrev Counted : ℕ → List ℕ → ℕ → Type 0
Counted k cuts exit = (rest : Rest) → rest_steps cuts rest ≤ k → Lengths k cuts exit rest (rest_walks cuts rest)

each_length : (k : ℕ) (cuts : List ℕ) (exit : ℕ) (rest : Rest) (m : ℕ) → Lengths k cuts exit rest m → (found : List (List Literal)) (ls : List Literal) (s : StoreTerm)
    → length (flat_map (walks k cuts exit) (by_each found ls s rest)) ≡ length found * m
each_length k cuts exit rest m h [] ls s = omega arith
each_length k cuts exit rest m h (x ∷ found) ls s =
    let others : length (flat_map (walks k cuts exit) (by_each found ls s rest)) ≡ length found * m = each_length k cuts exit rest m h found ls s in
    let first : length (walks k cuts exit (stands (ls ++ x) s rest)) ≡ m = h (ls ++ x) s in
    length-append (walks k cuts exit (stands (ls ++ x) s rest)) (flat_map (walks k cuts exit) (by_each found ls s rest))
    ∙ omega (arith, others, first, suc-mul (length found) m)

-- by the outcomes of a test
pub test_length : (k : ℕ) (cuts : List ℕ) (exit : ℕ) (t : Test) (yes_rest no_rest : Rest) (x y : ℕ) → Lengths k cuts exit yes_rest x → Lengths k cuts exit no_rest y
    → (ls : List Literal) (s : StoreTerm) → length (flat_map (walks k cuts exit) (by_each (outcomes t true s) ls s yes_rest ++ by_each (outcomes t false s) ls s no_rest))
    ≡ outcome_count t true * x + outcome_count t false * y
test_length k cuts exit t yes_rest no_rest x y h g ls s =
    let first : length (flat_map (walks k cuts exit) (by_each (outcomes t true s) ls s yes_rest)) ≡ outcome_count t true * x =
    each_length k cuts exit yes_rest x h (outcomes t true s) ls s ∙ ap (λ n. n * x) (as_many_outcomes t true s) in
    let second : length (flat_map (walks k cuts exit) (by_each (outcomes t false s) ls s no_rest)) ≡ outcome_count t false * y =
    each_length k cuts exit no_rest y g (outcomes t false s) ls s ∙ ap (λ n. n * y) (as_many_outcomes t false s) in
    ap length (flat_map-append (walks k cuts exit) (by_each (outcomes t true s) ls s yes_rest) (by_each (outcomes t false s) ls s no_rest))
    ∙ length-append (flat_map (walks k cuts exit) (by_each (outcomes t true s) ls s yes_rest)) (flat_map (walks k cuts exit) (by_each (outcomes t false s) ls s no_rest))
    ∙ (λ i. first i + second i)

-- the outcomes in which an `assert` is false stop one by one
each_stops : (k : ℕ) (cuts : List ℕ) (exit : ℕ) (found : List (List Literal)) (ls : List Literal) (s : StoreTerm) (stop : Stop) → length (flat_map (walks k cuts exit) (each_so found ls s (stops stop))) ≡ length found
unfolding walks
each_stops k cuts exit [] ls s stop = refl
each_stops zero cuts exit (x ∷ found) ls s stop = ap suc (each_stops zero cuts exit found ls s stop)
each_stops (suc k) cuts exit (x ∷ found) ls s stop = ap suc (each_stops (suc k) cuts exit found ls s stop)

pub assert_length : (k : ℕ) (cuts : List ℕ) (exit : ℕ) (t : Test) (behind : Rest) (m : ℕ) → Lengths k cuts exit behind m
    → (ls : List Literal) (s : StoreTerm) → length (flat_map (walks k cuts exit) (by_each (outcomes t true s) ls s behind ++ each_so (outcomes t false s) ls s (stops Halted)))
    ≡ outcome_count t true * m + outcome_count t false * 1
assert_length k cuts exit t behind m h ls s =
    let first : length (flat_map (walks k cuts exit) (by_each (outcomes t true s) ls s behind)) ≡ outcome_count t true * m =
    each_length k cuts exit behind m h (outcomes t true s) ls s ∙ ap (λ n. n * m) (as_many_outcomes t true s) in
    let second : length (flat_map (walks k cuts exit) (each_so (outcomes t false s) ls s (stops Halted))) ≡ outcome_count t false * 1 =
    each_stops k cuts exit (outcomes t false s) ls s Halted ∙ as_many_outcomes t false s ∙ omega arith in
    ap length (flat_map-append (walks k cuts exit) (by_each (outcomes t true s) ls s behind) (each_so (outcomes t false s) ls s (stops Halted)))
    ∙ length-append (flat_map (walks k cuts exit) (by_each (outcomes t true s) ls s behind)) (flat_map (walks k cuts exit) (each_so (outcomes t false s) ls s (stops Halted)))
    ∙ (λ i. first i + second i)

pub alone : {A : Type 0} (xs : List A) → length (xs ++ []) ≡ length xs
alone xs = length-append xs [] ∙ omega arith

-- a walk that ends in a statement parameter or is stuck there
pub par_length : (k : ℕ) (cuts : List ℕ) (exit : ℕ) (behind : Rest) (m : ℕ) → Lengths k cuts exit behind m → (ls more : List Literal) (s u : StoreTerm) (stop : Stop)
    → length (walks k cuts exit (stands ls s behind) ++ (walks k cuts exit (record { literals = more; store = u; next = stops stop }) ++ [])) ≡ suc m
unfolding walks
par_length zero cuts exit behind m h ls more s u stop =
    let e : length (walks zero cuts exit (stands ls s behind)) ≡ m = h ls s in
    length-append (walks zero cuts exit (stands ls s behind)) _ ∙ omega (arith, e)
par_length (suc k) cuts exit behind m h ls more s u stop =
    let e : length (walks (suc k) cuts exit (stands ls s behind)) ≡ m = h ls s in
    length-append (walks (suc k) cuts exit (stands ls s behind)) _ ∙ omega (arith, e)

-- a `while` that is no cut point
loop_length : (k : ℕ) (cuts : List ℕ) (exit : ℕ) → suc k ≤ 64 → Counted k cuts exit → (n : ℕ) (t : Test) (c : Block) (here behind : Rest) (p : Bool) → passes cuts (suc n) c ≡ p
    → cond p 65 (suc (max (most_steps cuts (suc n) c 0) (rest_steps cuts behind))) ≤ suc k → (ls : List Literal) (s : StoreTerm)
    → length (flat_map (walks k cuts exit) (by_each (outcomes t true s) ls s (stretch (suc n) c ∷ here) ++ by_each (outcomes t false s) ls s behind))
    ≡ outcome_count t true * walk_count cuts (suc n) c 0 + outcome_count t false * rest_walks cuts behind
loop_length k cuts exit small h n t c here behind true e g ls s = absurd (omega (arith, small, g))
loop_length k cuts exit small h n t c here behind false e g ls s =
    let steps : most_steps cuts (suc n) c (rest_steps cuts here) ≡ most_steps cuts (suc n) c 0 = blocked cuts (suc n) c e (rest_steps cuts here) 0 in
    let inside : rest_steps cuts (stretch (suc n) c ∷ here) ≤ k = omega (arith, steps, g) in
    test_length k cuts exit t (stretch (suc n) c ∷ here) behind _ _ (h (stretch (suc n) c ∷ here) inside) (h behind (omega (arith, g))) ls s
    ∙ ap (λ m. outcome_count t true * m + outcome_count t false * rest_walks cuts behind) (as_many cuts (suc n) c e (rest_walks cuts here) 0)

while_length : (k : ℕ) (cuts : List ℕ) (exit : ℕ) → suc k ≤ 64 → Counted k cuts exit → (n : ℕ) (t : Test) (c : Block) (here behind : Rest) (q : Bool)
    → cond q 0 (cond (passes cuts (suc n) c) 65 (suc (max (most_steps cuts (suc n) c 0) (rest_steps cuts behind)))) ≤ suc k → (ls : List Literal) (s : StoreTerm)
    → length (elim (cond q (Some (At n)) None) as (λ o. List Path) [
      | None ↦ flat_map (walks k cuts exit) (by_each (outcomes t true s) ls s (stretch (suc n) c ∷ here) ++ by_each (outcomes t false s) ls s behind)
      | Some stop ↦ record { literals = ls; store = s; stop = stop } ∷ []
    ])
    ≡ cond q 1 (outcome_count t true * walk_count cuts (suc n) c 0 + outcome_count t false * rest_walks cuts behind)
while_length k cuts exit small h n t c here behind true g ls s = refl
while_length k cuts exit small h n t c here behind false g ls s = loop_length k cuts exit small h n t c here behind (passes cuts (suc n) c) refl g ls s

stmt_par_length : (k : ℕ) (cuts : List ℕ) (exit : ℕ) → Counted k cuts exit → (n : ℕ) (behind : Rest) (q : Bool) → cond q 0 (suc (rest_steps cuts behind)) ≤ suc k
    → (from first second : List Literal) (here s u : StoreTerm) (at : Stop)
    → length (elim (cond q (Some (At n)) None) as (λ o. List Path) [
      | None ↦ walks k cuts exit (stands first s behind) ++ (walks k cuts exit (record { literals = second; store = u; next = stops at }) ++ [])
      | Some stop ↦ record { literals = from; store = here; stop = stop } ∷ []
    ])
    ≡ cond q 1 (suc (rest_walks cuts behind))
stmt_par_length k cuts exit h n behind true g from first second here s u at = refl
stmt_par_length k cuts exit h n behind false g from first second here s u at = par_length k cuts exit behind (rest_walks cuts behind) (h behind (omega (arith, g))) first second s u at

stmt_length : (k : ℕ) (cuts : List ℕ) (exit : ℕ) → suc k ≤ 64 → Counted k cuts exit → (n : ℕ) (a : Stmt) (b : Block) (rest : Rest)
    → rest_steps cuts (stretch n (stmt a b) ∷ rest) ≤ suc k → Lengths (suc k) cuts exit (stretch n (stmt a b) ∷ rest) (rest_walks cuts (stretch n (stmt a b) ∷ rest))
unfolding walks stmt_step
stmt_length k cuts exit small h n skip b rest g ls s = alone _ ∙ h (stretch (n + 0) b ∷ rest) (omega (arith, g)) ls s
stmt_length k cuts exit small h n (put x is e) b rest g ls s = alone _ ∙ h (stretch (n + 0) b ∷ rest) (omega (arith, g)) ls _
stmt_length k cuts exit small h n (assert_that t) b rest g ls s =
    assert_length k cuts exit t (stretch (n + 0) b ∷ rest) _ (h (stretch (n + 0) b ∷ rest) (omega (arith, g))) ls s
stmt_length k cuts exit small h n (if_then t c d) b rest g ls s =
    test_length k cuts exit t _ _ _ _
    (h (stretch n c ∷ stretch (n + (point_count c + point_count d)) b ∷ rest) (omega (arith, g)))
    (h (stretch (n + point_count c) d ∷ stretch (n + (point_count c + point_count d)) b ∷ rest) (omega (arith, g))) ls s
stmt_length k cuts exit small h n (while_do t c) b rest g ls s =
    while_length k cuts exit small h n t c (stretch n (stmt (while_do t c) b) ∷ rest) (stretch (n + suc (point_count c)) b ∷ rest) (is_cut cuts n) g ls s
stmt_length k cuts exit small h n (for_to x lo hi c) b rest g ls s = refl
stmt_length k cuts exit small h n (let_in x e c) b rest g ls s = refl
stmt_length k cuts exit small h n (par_stmt j) b rest g ls s = stmt_par_length k cuts exit h n (stretch (n + 1) b ∷ rest) (is_cut cuts n) g ls _ _ s _ _ _

rest_length : (k : ℕ) (cuts : List ℕ) (exit : ℕ) → suc k ≤ 64 → Counted k cuts exit → Counted (suc k) cuts exit
unfolding walks
rest_length k cuts exit small h [] g ls s = refl
rest_length k cuts exit small h (stretch n empty ∷ rest) g ls s = rest_length k cuts exit small h rest g ls s
rest_length k cuts exit small h (stretch n (stmt a b) ∷ rest) g ls s = stmt_length k cuts exit small h n a b rest g ls s

-- of no step
while_still : (cuts : List ℕ) (exit n : ℕ) (p q : Bool) (m x : ℕ) → cond q 0 (cond p 65 (suc m)) ≤ 0 → (ls : List Literal) (s : StoreTerm)
    → length (elim (cond q (Some (At n)) None) as (λ o. List Path) [ None ↦ [] | Some stop ↦ record { literals = ls; store = s; stop = stop } ∷ [] ]) ≡ cond q 1 x
while_still cuts exit n p true m x g ls s = refl
while_still cuts exit n true false m x g ls s = absurd (omega (arith, g))
while_still cuts exit n false false m x g ls s = absurd (omega (arith, g))

still : (cuts : List ℕ) (exit : ℕ) → Counted zero cuts exit
unfolding walks
still cuts exit [] g ls s = refl
still cuts exit (stretch n empty ∷ rest) g ls s = still cuts exit rest g ls s
still cuts exit (stretch n (stmt skip b) ∷ rest) g ls s = absurd (omega (arith, g))
still cuts exit (stretch n (stmt (put x is e) b) ∷ rest) g ls s = absurd (omega (arith, g))
still cuts exit (stretch n (stmt (assert_that t) b) ∷ rest) g ls s = absurd (omega (arith, g))
still cuts exit (stretch n (stmt (if_then t c d) b) ∷ rest) g ls s = absurd (omega (arith, g))
still cuts exit (stretch n (stmt (while_do t c) b) ∷ rest) g ls s = while_still cuts exit n (passes cuts (suc n) c) (is_cut cuts n) _ _ g ls s
still cuts exit (stretch n (stmt (for_to x lo hi c) b) ∷ rest) g ls s = refl
still cuts exit (stretch n (stmt (let_in x e c) b) ∷ rest) g ls s = refl
still cuts exit (stretch n (stmt (par_stmt j) b) ∷ rest) g ls s = while_still cuts exit n false (is_cut cuts n) (rest_steps cuts (stretch (n + 1) b ∷ rest)) _ g ls s

pub walks_counted : (k : ℕ) (cuts : List ℕ) (exit : ℕ) → k ≤ 64 → (rest : Rest) → rest_steps cuts rest ≤ k → Lengths k cuts exit rest (rest_walks cuts rest)
walks_counted zero cuts exit small = still cuts exit
walks_counted (suc k) cuts exit small = rest_length k cuts exit small (walks_counted k cuts exit (omega (arith, small)))
