-- Worked examples of paths and of cut points.
-- Loops with statement parameters, tests in a row, listed cuts, the limits of steps, paths and pairs, and walks that halt.
use Rattle.std.specs.Prelude.{◌≡◌, ℕ, zero, suc, Bool, true, false, List, [], ◌∷◌, Ok, Err, refl}
use Rattle.toy_imp.specs.Block.{Stmt, skip, assert_that, if_then, while_do, par_stmt, Block, empty, stmt}
use Rattle.toy_imp.specs.Test.{Test, par_test}
use Rattle.toy_imp.specs.declared.rule.Rule.{Rule}
use Rattle.toy_imp.specs.declared.rule.Method.TheVariants.{Simulate}
use Rattle.toy_imp.specs.declared.rule.CutList.{CutList}
use Rattle.toy_imp.specs.declared.rule.CutList.TheVariants.{Default, Listed}
use Rattle.rule_terms.specs.Term.{StoreTerm, left_store, run}
use Rattle.rule_terms.specs.Counts.{store_nodes, atom_nodes}
use Rattle.rule_terms.specs.declared.obligation.Atom.{Atom}
use Rattle.rule_terms.specs.declared.obligation.Atom.TheVariants.{Ends, Holds}
use Rattle.rule_terms.specs.declared.obligation.Literal.{Literal}
use Rattle.rule_terms.specs.declared.path.Path.{Path}
use Rattle.rule_terms.specs.declared.path.Stop.{Stop}
use Rattle.rule_terms.specs.declared.path.Stop.TheVariants.{At, Halted, Stuck}
use Rattle.rule_terms.specs.declared.limit.LimitKind.TheVariants.{PathSteps, Paths, Pairs, Entries}
use Rattle.path_pairs.specs.Outcomes.{outcomes}
use Rattle.path_pairs.specs.Walks.{stmt_step, walks, goes_on}
use Rattle.path_pairs.specs.Paths.{side_paths, has_long_walk}
use Rattle.entry_pairs.specs.Cuts.{mark, walked, cuts}

-- the test parameter 0 and the statement parameter 1
abbrev b : Test
b = par_test 0

abbrev s : Stmt
s = par_stmt 1

abbrev rule_of : CutList → Block → Block → Rule
rule_of list left right = record { title = []; params = []; conditions = []; method = Simulate; cuts = list; left = left; right = right }

-- `while B { S; }` and the same loop unrolled once: `while B { S; if B { S; } else { } }`
abbrev one_turn : Block
one_turn = stmt (while_do b (stmt s empty)) empty

abbrev two_turns : Block
two_turns = stmt (while_do b (stmt s (stmt (if_then b (stmt s empty) empty) empty))) empty

unrolled : cuts (rule_of Default one_turn two_turns)
    ≡ Ok (record { left = 0 ∷ 2 ∷ 3 ∷ []; right = 0 ∷ 2 ∷ 3 ∷ 4 ∷ []; pairs = (0, 0) ∷ (3, 4) ∷ (2, 2) ∷ (2, 3) ∷ [] })
unfolding outcomes stmt_step walks goes_on side_paths has_long_walk walked store_nodes atom_nodes
unrolled = refl

-- `if B { skip; } else { skip; }`, n times
abbrev tests : ℕ → Block
tests zero = empty
tests (suc n) = stmt (if_then b (stmt skip empty) (stmt skip empty)) (tests n)

four_tests : cuts (rule_of Default (tests 4) (tests 4)) ≡ Ok (record { left = 0 ∷ 1 ∷ []; right = 0 ∷ 1 ∷ []; pairs = (0, 0) ∷ (1, 1) ∷ [] })
unfolding outcomes stmt_step walks goes_on side_paths has_long_walk walked store_nodes atom_nodes
four_tests = refl

nine_tests : cuts (rule_of Default (tests 9) (tests 9)) ≡ Err (mark 0 Pairs)
unfolding outcomes stmt_step walks goes_on side_paths has_long_walk walked store_nodes atom_nodes
nine_tests = refl

ten_tests : cuts (rule_of Default (tests 10) (tests 10)) ≡ Err (mark 0 Paths)
unfolding outcomes stmt_step walks goes_on side_paths has_long_walk walked store_nodes atom_nodes
ten_tests = refl

-- a loop without a cut point goes on
abbrev idle_loop : Block
idle_loop = stmt (while_do b (stmt skip empty)) empty

uncut_loop : cuts (rule_of (Listed []) idle_loop idle_loop) ≡ Err (mark 0 PathSteps)
unfolding outcomes stmt_step walks goes_on side_paths has_long_walk walked store_nodes atom_nodes
uncut_loop = refl

-- the same loop with a listed cut
cut_loop : cuts (rule_of (Listed ((1, 1) ∷ [])) idle_loop idle_loop)
    ≡ Ok (record { left = 0 ∷ 1 ∷ 2 ∷ []; right = 0 ∷ 1 ∷ 2 ∷ []; pairs = (0, 0) ∷ (2, 2) ∷ (1, 1) ∷ [] })
unfolding outcomes stmt_step walks goes_on side_paths has_long_walk walked store_nodes atom_nodes
cut_loop = refl

-- statement parameters of two numbers are no entry, in whatever order they stand
crossed : cuts (rule_of Default (stmt s (stmt (par_stmt 2) empty)) (stmt (par_stmt 2) (stmt s empty)))
    ≡ Ok (record { left = 0 ∷ 1 ∷ 2 ∷ 3 ∷ []; right = 0 ∷ 1 ∷ 2 ∷ 3 ∷ []; pairs = (0, 0) ∷ (3, 3) ∷ [] })
unfolding outcomes stmt_step walks goes_on side_paths has_long_walk walked store_nodes atom_nodes
crossed = refl

-- n loops one after another: eight of them on both sides are alike in 64 pairs, which with the ends are too many
abbrev loops : ℕ → Block
loops zero = empty
loops (suc n) = stmt (while_do b (stmt skip empty)) (loops n)

eight_loops : cuts (rule_of Default (loops 8) (loops 8)) ≡ Err (mark 49 Entries)
unfolding outcomes stmt_step walks goes_on side_paths has_long_walk walked store_nodes atom_nodes
eight_loops = refl

-- A walk from the start stops after no step where a cut point stands there ..
from_start : side_paths (stmt s empty) (0 ∷ 1 ∷ 2 ∷ []) left_store 0 ≡ record { literals = []; store = left_store; stop = At 1 } ∷ []
unfolding outcomes stmt_step walks side_paths
from_start = refl

-- .. and from that point it makes a step first: to the exit, or it is stuck.
abbrev ends_1 : Atom
ends_1 = Ends (run 1 left_store)

from_parameter : side_paths (stmt s empty) (0 ∷ 1 ∷ 2 ∷ []) left_store 1
    ≡ record { literals = record { sign = true; atom = ends_1 } ∷ []; store = run 1 left_store; stop = At 2 }
    ∷ record { literals = record { sign = false; atom = ends_1 } ∷ []; store = left_store; stop = Stuck 1 } ∷ []
unfolding outcomes stmt_step walks side_paths
from_parameter = refl

-- walks whose literals contradict one another are paths too
abbrev both_ways : Bool → Bool → Path
both_ways first second = record { literals = record { sign = first; atom = Holds 0 left_store } ∷ record { sign = second; atom = Holds 0 left_store } ∷ []; store = left_store; stop = At 1 }

two_tests : side_paths (tests 2) (0 ∷ 1 ∷ []) left_store 0 ≡ both_ways true true ∷ both_ways true false ∷ both_ways false true ∷ both_ways false false ∷ []
unfolding outcomes stmt_step walks side_paths
two_tests = refl

-- ---- walks that halt
abbrev holds : Bool → StoreTerm → Literal
holds way s = record { sign = way; atom = Holds 0 s }

abbrev ends : Bool → Literal
ends way = record { sign = way; atom = ends_1 }

abbrev path_of : List Literal → StoreTerm → Stop → Path
path_of ls s stop = record { literals = ls; store = s; stop = stop }

-- an `assert` before and behind a statement parameter is no cut point
abbrev guarded : Block
guarded = stmt (assert_that b) (stmt s (stmt (assert_that b) empty))

guarded_cuts : cuts (rule_of Default guarded guarded)
    ≡ Ok (record { left = 0 ∷ 1 ∷ 2 ∷ []; right = 0 ∷ 1 ∷ 2 ∷ []; pairs = (0, 0) ∷ (2, 2) ∷ (1, 1) ∷ [] })
unfolding outcomes stmt_step walks goes_on side_paths has_long_walk walked store_nodes atom_nodes
guarded_cuts = refl

-- a walk goes on where the test is true, and halts in the store as it is where it is false
guarded_start : side_paths guarded (0 ∷ 1 ∷ 2 ∷ []) left_store 0
    ≡ path_of (holds true left_store ∷ []) left_store (At 1) ∷ path_of (holds false left_store ∷ []) left_store Halted ∷ []
unfolding outcomes stmt_step walks side_paths
guarded_start = refl

-- behind the parameter it halts in the store in which that ended
guarded_parameter : side_paths guarded (0 ∷ 1 ∷ 2 ∷ []) left_store 1
    ≡ path_of (ends true ∷ holds true (run 1 left_store) ∷ []) (run 1 left_store) (At 2)
    ∷ path_of (ends true ∷ holds false (run 1 left_store) ∷ []) (run 1 left_store) Halted
    ∷ path_of (ends false ∷ []) left_store (Stuck 1) ∷ []
unfolding outcomes stmt_step walks side_paths
guarded_parameter = refl

-- `while B { assert B; }`: one turn ends at the loop, or halts in it
abbrev guarded_loop : Block
guarded_loop = stmt (while_do b (stmt (assert_that b) empty)) empty

guarded_loop_cuts : cuts (rule_of Default guarded_loop guarded_loop)
    ≡ Ok (record { left = 0 ∷ 1 ∷ 2 ∷ []; right = 0 ∷ 1 ∷ 2 ∷ []; pairs = (0, 0) ∷ (2, 2) ∷ (1, 1) ∷ [] })
unfolding outcomes stmt_step walks goes_on side_paths has_long_walk walked store_nodes atom_nodes
guarded_loop_cuts = refl

guarded_turn : side_paths guarded_loop (0 ∷ 1 ∷ 2 ∷ []) left_store 1
    ≡ path_of (holds true left_store ∷ holds true left_store ∷ []) left_store (At 1)
    ∷ path_of (holds true left_store ∷ holds false left_store ∷ []) left_store Halted
    ∷ path_of (holds false left_store ∷ []) left_store (At 2) ∷ []
unfolding outcomes stmt_step walks side_paths
guarded_turn = refl

-- a side that halts at once where the test is false, beside one that does nothing, makes no entry more
halts_alone : cuts (rule_of Default (stmt (assert_that b) empty) empty) ≡ Ok (record { left = 0 ∷ 1 ∷ []; right = 0 ∷ 1 ∷ []; pairs = (0, 0) ∷ (1, 1) ∷ [] })
unfolding outcomes stmt_step walks goes_on side_paths has_long_walk walked store_nodes atom_nodes
halts_alone = refl
