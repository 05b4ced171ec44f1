-- From each point of a side: whether some walk makes 65 steps, and how many paths there are where none does, by the statements
-- alone.
use Rattle.std.specs.Prelude.{◌≡◌, ℕ, zero, suc, ◌+◌, ◌≤◌, false, ◌||◌, List, [], ◌∷◌, length, flat_map, refl}
use Rattle.std.proofs.Common.{◌∙◌, ap, arith}
use Rattle.std.specs.List.{list_any}
use Rattle.toy_imp.specs.Block.{skip, put, assert_that, if_then, while_do, for_to, let_in, par_stmt, Block, empty, stmt}
use Rattle.toy_imp.specs.Points.{point_count, exit_point}
use Rattle.rule_terms.specs.Term.{StoreTerm}
use Rattle.rule_terms.specs.declared.obligation.Literal.{Literal}
use Rattle.rule_terms.specs.declared.path.Stop.{Stop}
use Rattle.path_pairs.specs.Rests.{Rest, stretch, rest_at}
use Rattle.path_pairs.specs.Walks.{stops, stands, stmt_step, step, walks, goes_on}
use Rattle.path_pairs.specs.Paths.{side_paths, has_long_walk}
use Rattle.path_pairs.specs.Along.{rest_steps, rest_walks, rest_onward, rest_branches, steps_from, number_from}
use Rattle.path_pairs.proofs.WalkSteps.{reaches, GoesAs, reaches_max, or_false, test_goes, assert_goes, stuck_stays, goes_exactly}
use Rattle.path_pairs.proofs.WalkLengths.{alone, test_length, assert_length, par_length, walks_counted}

par_onward : (k : ℕ) (cuts : List ℕ) (exit : ℕ) (behind : Rest) → GoesAs k cuts exit behind (reaches k (rest_steps cuts behind)) → (ls more : List Literal) (s u : StoreTerm) (stop : Stop)
    → (goes_on k cuts exit (stands ls s behind) || (goes_on k cuts exit (record { literals = more; store = u; next = stops stop }) || false)) ≡ reaches k (rest_steps cuts behind)
par_onward k cuts exit behind h ls more s u stop =
    ap (λ x. x || (goes_on k cuts exit (record { literals = more; store = u; next = stops stop }) || false)) (h ls s)
    ∙ stuck_stays k cuts exit (rest_steps cuts behind) more u stop

-- after a first step
onward_goes : (k : ℕ) (cuts : List ℕ) (exit : ℕ) → suc k ≤ 65 → (rest : Rest) (ls : List Literal) (s : StoreTerm)
    → list_any (goes_on (suc k) cuts exit) (step (stands ls s rest)) ≡ reaches (suc k) (rest_onward cuts rest)
unfolding stmt_step
onward_goes k cuts exit small [] ls s = refl
onward_goes k cuts exit small (stretch n empty ∷ rest) ls s = onward_goes k cuts exit small rest ls s
onward_goes k cuts exit small (stretch n (stmt skip b) ∷ rest) ls s = or_false _ ∙ goes_exactly (suc k) cuts exit small (stretch (n + 0) b ∷ rest) ls s
onward_goes k cuts exit small (stretch n (stmt (put x is e) b) ∷ rest) ls s = or_false _ ∙ goes_exactly (suc k) cuts exit small (stretch (n + 0) b ∷ rest) ls _
onward_goes k cuts exit small (stretch n (stmt (assert_that t) b) ∷ rest) ls s =
    assert_goes (suc k) cuts exit t (stretch (n + 0) b ∷ rest) _ (goes_exactly (suc k) cuts exit small (stretch (n + 0) b ∷ rest)) ls s
onward_goes k cuts exit small (stretch n (stmt (if_then t c d) b) ∷ rest) ls s =
    test_goes (suc k) cuts exit t _ _ _ _
    (goes_exactly (suc k) cuts exit small (stretch n c ∷ stretch (n + (point_count c + point_count d)) b ∷ rest))
    (goes_exactly (suc k) cuts exit small (stretch (n + point_count c) d ∷ stretch (n + (point_count c + point_count d)) b ∷ rest)) ls s
    ∙ reaches_max (suc k) _ _
onward_goes k cuts exit small (stretch n (stmt (while_do t c) b) ∷ rest) ls s =
    test_goes (suc k) cuts exit t _ _ _ _
    (goes_exactly (suc k) cuts exit small (stretch (suc n) c ∷ stretch n (stmt (while_do t c) b) ∷ rest))
    (goes_exactly (suc k) cuts exit small (stretch (n + suc (point_count c)) b ∷ rest)) ls s
    ∙ reaches_max (suc k) _ _
onward_goes k cuts exit small (stretch n (stmt (for_to x lo hi c) b) ∷ rest) ls s = refl
onward_goes k cuts exit small (stretch n (stmt (let_in x e c) b) ∷ rest) ls s = refl
onward_goes k cuts exit small (stretch n (stmt (par_stmt j) b) ∷ rest) ls s =
    par_onward (suc k) cuts exit (stretch (n + 1) b ∷ rest) (goes_exactly (suc k) cuts exit small (stretch (n + 1) b ∷ rest)) _ _ _ _ _

onward_length : (k : ℕ) (cuts : List ℕ) (exit : ℕ) → k ≤ 64 → (rest : Rest) → rest_onward cuts rest ≤ k → (ls : List Literal) (s : StoreTerm)
    → length (flat_map (walks k cuts exit) (step (stands ls s rest))) ≡ rest_branches cuts rest
unfolding stmt_step
onward_length k cuts exit small [] h ls s = refl
onward_length k cuts exit small (stretch n empty ∷ rest) h ls s = onward_length k cuts exit small rest h ls s
onward_length k cuts exit small (stretch n (stmt skip b) ∷ rest) h ls s = alone _ ∙ walks_counted k cuts exit small (stretch (n + 0) b ∷ rest) h ls s
onward_length k cuts exit small (stretch n (stmt (put x is e) b) ∷ rest) h ls s = alone _ ∙ walks_counted k cuts exit small (stretch (n + 0) b ∷ rest) h ls _
onward_length k cuts exit small (stretch n (stmt (assert_that t) b) ∷ rest) h ls s =
    assert_length k cuts exit t (stretch (n + 0) b ∷ rest) _ (walks_counted k cuts exit small (stretch (n + 0) b ∷ rest) h) ls s
onward_length k cuts exit small (stretch n (stmt (if_then t c d) b) ∷ rest) h ls s =
    test_length k cuts exit t _ _ _ _
    (walks_counted k cuts exit small (stretch n c ∷ stretch (n + (point_count c + point_count d)) b ∷ rest) (omega (arith, h)))
    (walks_counted k cuts exit small (stretch (n + point_count c) d ∷ stretch (n + (point_count c + point_count d)) b ∷ rest) (omega (arith, h))) ls s
onward_length k cuts exit small (stretch n (stmt (while_do t c) b) ∷ rest) h ls s =
    test_length k cuts exit t _ _ _ _
    (walks_counted k cuts exit small (stretch (suc n) c ∷ stretch n (stmt (while_do t c) b) ∷ rest) (omega (arith, h)))
    (walks_counted k cuts exit small (stretch (n + suc (point_count c)) b ∷ rest) (omega (arith, h))) ls s
onward_length k cuts exit small (stretch n (stmt (for_to x lo hi c) b) ∷ rest) h ls s = refl
onward_length k cuts exit small (stretch n (stmt (let_in x e c) b) ∷ rest) h ls s = refl
onward_length k cuts exit small (stretch n (stmt (par_stmt j) b) ∷ rest) h ls s =
    par_length k cuts exit (stretch (n + 1) b ∷ rest) (rest_walks cuts (stretch (n + 1) b ∷ rest)) (walks_counted k cuts exit small (stretch (n + 1) b ∷ rest) h) _ _ _ _ _

pub long_exactly : (side : Block) (cuts : List ℕ) (s : StoreTerm) (p : ℕ) → has_long_walk side cuts s p ≡ reaches 65 (steps_from p cuts (rest_at side p))
unfolding has_long_walk
long_exactly side cuts s zero = goes_exactly 65 cuts (exit_point side) (omega arith) (rest_at side 0) [] s
long_exactly side cuts s (suc p) = onward_goes 63 cuts (exit_point side) (omega arith) (rest_at side (suc p)) [] s

pub as_many_paths : (side : Block) (cuts : List ℕ) (s : StoreTerm) (p : ℕ) → steps_from p cuts (rest_at side p) ≤ 64
    → length (side_paths side cuts s p) ≡ number_from p cuts (rest_at side p)
unfolding side_paths
as_many_paths side cuts s zero h = walks_counted 64 cuts (exit_point side) (omega arith) (rest_at side 0) h [] s
as_many_paths side cuts s (suc p) h = onward_length 63 cuts (exit_point side) (omega arith) (rest_at side (suc p)) (omega (arith, h)) [] s
