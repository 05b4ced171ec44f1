-- Worked examples: sides with an `assert` first, last, in a loop, before and after a statement parameter, and in a branch; their paths
-- in order, with literals, stores and stops.
use Rattle.std.specs.Prelude.{◌≡◌, ℕ, zero, suc, Bool, true, false, List, [], ◌∷◌, pos, refl}
use Rattle.toy_imp.specs.declared.name.Name.TheVariants.{Par}
use Rattle.toy_imp.specs.Block.{Stmt, assert_that, if_then, while_do, par_stmt, Block, empty, stmt}
use Rattle.toy_imp.specs.Block as block
use Rattle.toy_imp.specs.Expr as expr
use Rattle.toy_imp.specs.Test.{Test, and_of, or_of, par_test}
use Rattle.rule_terms.specs.Term.{StoreTerm, left_store, put, run, num, no_terms}
use Rattle.rule_terms.specs.ValueAt.{value_at, values_at}
use Rattle.rule_terms.specs.declared.obligation.Atom.TheVariants.{Ends, Holds}
use Rattle.rule_terms.specs.declared.obligation.Literal.{Literal}
use Rattle.rule_terms.specs.declared.path.Path.{Path}
use Rattle.rule_terms.specs.declared.path.Stop.{Stop}
use Rattle.rule_terms.specs.declared.path.Stop.TheVariants.{At, Halted, Stuck}
use Rattle.path_pairs.specs.Outcomes.{outcomes}
use Rattle.path_pairs.specs.Paths.{side_paths, has_long_walk}
use Rattle.path_pairs.specs.Walks.{stmt_step, walks, goes_on}

-- the test parameters 0 and 3, the statement parameter 1, and the name parameter 2
abbrev b : Test
b = par_test 0

abbrev c : Test
c = par_test 3

abbrev s : Stmt
s = par_stmt 1

abbrev sets_x : Stmt
sets_x = block.put (Par 2) expr.no_exprs (expr.num (pos 1))

-- the store behind a run of S and behind `X := 1;`
abbrev behind_s : StoreTerm
behind_s = run 1 left_store

abbrev behind_x : StoreTerm
behind_x = put left_store 2 no_terms (num (pos 1))

abbrev holds : Bool → ℕ → StoreTerm → Literal
holds sign k u = record { sign = sign; atom = Holds k u }

abbrev ends : Bool → Literal
ends sign = record { sign = sign; atom = Ends behind_s }

abbrev path : List Literal → StoreTerm → Stop → Path
path ls u stop = record { literals = ls; store = u; stop = stop }

-- `assert B; S;`
abbrev first : Block
first = stmt (assert_that b) (stmt s empty)

assert_first : side_paths first (0 ∷ 1 ∷ 2 ∷ []) left_store 0 ≡ path (holds true 0 left_store ∷ []) left_store (At 1) ∷ path (holds false 0 left_store ∷ []) left_store Halted ∷ []
unfolding outcomes stmt_step walks side_paths
assert_first = refl

-- `S; assert B;`
abbrev last : Block
last = stmt s (stmt (assert_that b) empty)

assert_last : side_paths last (0 ∷ 1 ∷ 2 ∷ []) left_store 1
    ≡ path (ends true ∷ holds true 0 behind_s ∷ []) behind_s (At 2) ∷ path (ends true ∷ holds false 0 behind_s ∷ []) behind_s Halted ∷ path (ends false ∷ []) left_store (Stuck 1) ∷ []
unfolding outcomes stmt_step walks side_paths
assert_last = refl

-- `assert B; S; assert B;`, where S is no cut point
abbrev around : Block
around = stmt (assert_that b) (stmt s (stmt (assert_that b) empty))

assert_around : side_paths around (0 ∷ 2 ∷ []) left_store 0
    ≡ path (holds true 0 left_store ∷ ends true ∷ holds true 0 behind_s ∷ []) behind_s (At 2)
    ∷ path (holds true 0 left_store ∷ ends true ∷ holds false 0 behind_s ∷ []) behind_s Halted
    ∷ path (holds true 0 left_store ∷ ends false ∷ []) left_store (Stuck 1)
    ∷ path (holds false 0 left_store ∷ []) left_store Halted
    ∷ []
unfolding outcomes stmt_step walks side_paths
assert_around = refl

-- `while B { assert C; X := 1; }`
abbrev in_loop : Block
in_loop = stmt (while_do b (stmt (assert_that c) (stmt sets_x empty))) empty

assert_in_loop : side_paths in_loop (0 ∷ 1 ∷ 2 ∷ []) left_store 1
    ≡ path (holds true 0 left_store ∷ holds true 3 left_store ∷ []) behind_x (At 1)
    ∷ path (holds true 0 left_store ∷ holds false 3 left_store ∷ []) left_store Halted
    ∷ path (holds false 0 left_store ∷ []) left_store (At 2)
    ∷ []
unfolding outcomes stmt_step walks side_paths value_at values_at
assert_in_loop = refl

-- `while B { S; assert C; }` from S: round the loop and back, out of it, halted, or stuck
abbrev with_s : Block
with_s = stmt (while_do b (stmt s (stmt (assert_that c) empty))) empty

assert_behind_s : side_paths with_s (0 ∷ 2 ∷ 3 ∷ []) left_store 2
    ≡ path (ends true ∷ holds true 3 behind_s ∷ holds true 0 behind_s ∷ []) behind_s (At 2)
    ∷ path (ends true ∷ holds true 3 behind_s ∷ holds false 0 behind_s ∷ []) behind_s (At 3)
    ∷ path (ends true ∷ holds false 3 behind_s ∷ []) behind_s Halted
    ∷ path (ends false ∷ []) left_store (Stuck 1)
    ∷ []
unfolding outcomes stmt_step walks side_paths
assert_behind_s = refl

-- `if B { assert B; } else { } X := 1;`: what stands behind is not done where the run halts
abbrev in_branch : Block
in_branch = stmt (if_then b (stmt (assert_that b) empty) empty) (stmt sets_x empty)

assert_in_branch : side_paths in_branch (0 ∷ 1 ∷ []) left_store 0
    ≡ path (holds true 0 left_store ∷ holds true 0 left_store ∷ []) behind_x (At 1)
    ∷ path (holds true 0 left_store ∷ holds false 0 left_store ∷ []) left_store Halted
    ∷ path (holds false 0 left_store ∷ []) behind_x (At 1)
    ∷ []
unfolding outcomes stmt_step walks side_paths value_at values_at
assert_in_branch = refl

-- `X := 1; assert B;`: it halts in the store behind the write
abbrev written : Block
written = stmt sets_x (stmt (assert_that b) empty)

assert_written : side_paths written (0 ∷ 1 ∷ []) left_store 0 ≡ path (holds true 0 behind_x ∷ []) behind_x (At 1) ∷ path (holds false 0 behind_x ∷ []) behind_x Halted ∷ []
unfolding outcomes stmt_step walks side_paths value_at values_at
assert_written = refl

-- several outcomes of a test, first the true ones
asserts_either : side_paths (stmt (assert_that (or_of b c)) empty) (0 ∷ 1 ∷ []) left_store 0
    ≡ path (holds true 0 left_store ∷ []) left_store (At 1)
    ∷ path (holds false 0 left_store ∷ holds true 3 left_store ∷ []) left_store (At 1)
    ∷ path (holds false 0 left_store ∷ holds false 3 left_store ∷ []) left_store Halted
    ∷ []
unfolding outcomes stmt_step walks side_paths
asserts_either = refl

asserts_both : side_paths (stmt (assert_that (and_of b c)) empty) (0 ∷ 1 ∷ []) left_store 0
    ≡ path (holds true 0 left_store ∷ holds true 3 left_store ∷ []) left_store (At 1)
    ∷ path (holds false 0 left_store ∷ []) left_store Halted
    ∷ path (holds true 0 left_store ∷ holds false 3 left_store ∷ []) left_store Halted
    ∷ []
unfolding outcomes stmt_step walks side_paths
asserts_both = refl

-- The 65th step of a walk is too many, also where it halts: n `skip`s, and then `assert B;`.
abbrev skips : ℕ → Block
skips zero = stmt (assert_that b) empty
skips (suc n) = stmt block.skip (skips n)

halts_in_time : has_long_walk (skips 63) (0 ∷ 1 ∷ []) left_store 0 ≡ false
unfolding outcomes stmt_step goes_on has_long_walk
halts_in_time = refl

halts_too_late : has_long_walk (skips 64) (0 ∷ 1 ∷ []) left_store 0 ≡ true
unfolding outcomes stmt_step goes_on has_long_walk
halts_too_late = refl
