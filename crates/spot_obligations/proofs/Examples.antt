-- Worked examples: the spots of small rules and what is owed at them. They hold by computation alone.
use Rattle.std.specs.Prelude.{◌≡◌, ℕ, Bool, true, false, List, [], ◌∷◌, Option, Some, None, refl}
use Rattle.toy_imp.specs.Block.{assert_that, par_stmt, Block, empty, stmt}
use Rattle.toy_imp.specs.Test.{par_test}
use Rattle.toy_imp.specs.declared.condition.Condition.{Condition}
use Rattle.toy_imp.specs.declared.condition.Condition.TheVariants.{Keeps, Commutes, Quiet}
use Rattle.toy_imp.specs.declared.rule.Rule.{Rule}
use Rattle.toy_imp.specs.declared.rule.Method.TheVariants.{Simulate}
use Rattle.toy_imp.specs.declared.rule.CutList.TheVariants.{Listed}
use Rattle.rule_terms.specs.Term.{StoreTerm, left_store, right_store, run}
use Rattle.rule_terms.specs.Counts.{store_nodes, atom_nodes}
use Rattle.rule_terms.specs.declared.obligation.Atom.TheVariants.{Ends}
use Rattle.rule_terms.specs.declared.obligation.Literal.{Literal}
use Rattle.rule_terms.specs.declared.path.Stop.TheVariants.{At, Halted, Stuck}
use Rattle.path_pairs.specs.declared.cut_points.CutPoints.{CutPoints}
use Rattle.path_pairs.specs.Outcomes.{outcomes}
use Rattle.path_pairs.specs.Paths.{side_paths, has_long_walk}
use Rattle.path_pairs.specs.Walks.{stmt_step, walks, goes_on}
use Rattle.spot_obligations.specs.declared.entry.Entry.{Entry}
use Rattle.spot_obligations.specs.declared.entry.Spot.{Spot}
use Rattle.rule_terms.specs.Goals.{sides_equal, falsehood}
use Rattle.spot_obligations.specs.Owed.{one, nothing, is_quiet, owed}
use Rattle.spot_obligations.specs.Obligations.{among_paths, at_spot, obligation_of, obligation_at}
use Rattle.spot_obligations.specs.Spots.{spot_at, over_numbered, spots}

-- rules without cuts inside, whose exits are points m and n
abbrev rule_of : List Condition → Block → Block → Rule
rule_of conditions left right = record { title = []; params = []; conditions = conditions; method = Simulate; cuts = Listed []; left = left; right = right }

abbrev points_to : ℕ → ℕ → CutPoints
points_to m n = record { left = 0 ∷ m ∷ []; right = 0 ∷ n ∷ []; pairs = (0, 0) ∷ (m, n) ∷ [] }

-- `L = R` at the starts and at the exits
abbrev ends_to : ℕ → ℕ → List Entry
ends_to m n = record { left = 0; right = 0; conjuncts = sides_equal ∷ [] } ∷ record { left = m; right = n; conjuncts = sides_equal ∷ [] } ∷ []

abbrev of_start : ℕ → ℕ → Option ℕ → Spot
of_start a b c = spot_at 0 a b c

-- ---- two empty sides: one path each, which both stop at the exits
pub of_empty_sides : spots (rule_of [] empty empty) (points_to 1 1) (ends_to 1 1) ≡ of_start 0 0 (Some 0) ∷ []
unfolding outcomes stmt_step walks side_paths over_numbered owed
of_empty_sides = refl

-- ---- `assert B; assert B;` and `assert B;`: of six pairs of paths both halt in two
abbrev two_asserts : Block
two_asserts = stmt (assert_that (par_test 0)) (stmt (assert_that (par_test 0)) empty)

abbrev one_assert : Block
one_assert = stmt (assert_that (par_test 0)) empty

pub of_asserts : spots (rule_of [] two_asserts one_assert) (points_to 1 1) (ends_to 1 1)
    ≡ of_start 0 0 (Some 0) ∷ of_start 0 1 None ∷ of_start 1 0 None ∷ of_start 1 1 None ∷ of_start 2 0 None ∷ of_start 2 1 None ∷ []
unfolding outcomes stmt_step walks side_paths over_numbered owed
of_asserts = refl

-- ---- one statement parameter on both sides: where it is stuck on both, its stores have to be equal, but for one that is quiet
abbrev alone : Block
alone = stmt (par_stmt 0) empty

pub of_statement : spots (rule_of [] alone alone) (points_to 2 2) (ends_to 2 2) ≡ of_start 0 0 (Some 0) ∷ of_start 0 1 None ∷ of_start 1 0 None ∷ of_start 1 1 None ∷ []
unfolding outcomes stmt_step walks side_paths over_numbered owed is_quiet
of_statement = refl

pub of_quiet_statement : spots (rule_of (Quiet 0 ∷ []) alone alone) (points_to 2 2) (ends_to 2 2) ≡ of_start 0 0 (Some 0) ∷ of_start 0 1 None ∷ of_start 1 0 None ∷ []
unfolding outcomes stmt_step walks side_paths over_numbered owed is_quiet
of_quiet_statement = refl

-- ---- what is owed by how two paths stop
pub halts_owe : (entries : List Entry) → owed [] entries Halted Halted ≡ one sides_equal
unfolding owed
halts_owe entries = refl

pub one_halts : (entries : List Entry) (p : ℕ) → owed [] entries (At p) Halted ≡ one falsehood
unfolding owed
one_halts entries p = refl

pub two_statements : (entries : List Entry) → owed [] entries (Stuck 0) (Stuck 1) ≡ one falsehood
unfolding owed is_quiet
two_statements entries = refl

-- `keeps` does not make a statement quiet, `commutes` does
pub kept_is_not_quiet : (entries : List Entry) → owed (Keeps 0 1 ∷ []) entries (Stuck 0) (Stuck 0) ≡ one sides_equal
unfolding owed is_quiet
kept_is_not_quiet entries = refl

pub commuting_are_quiet : (entries : List Entry) → owed (Commutes 0 1 ∷ []) entries (Stuck 0) (Stuck 1) ≡ nothing
unfolding owed is_quiet
commuting_are_quiet entries = refl

-- paths that stop at a pair of points that is no entry
pub no_entry : owed [] (ends_to 2 2) (At 1) (At 2) ≡ one falsehood
unfolding owed
no_entry = refl

-- ---- an obligation: the statement ends on the left and is stuck on the right
abbrev literal : Bool → StoreTerm → Literal
literal sign s = record { sign = sign; atom = Ends (run 0 s) }

pub stuck_on_the_right : obligation_at (rule_of [] alone alone) (points_to 2 2) (ends_to 2 2) (of_start 0 1 None) 1
    ≡ Some (record { params = []; conditions = []; known = sides_equal ∷ []; path = literal true left_store ∷ literal false right_store ∷ []; goal = falsehood })
unfolding outcomes stmt_step walks goes_on side_paths has_long_walk store_nodes atom_nodes owed is_quiet among_paths at_spot obligation_of obligation_at
stuck_on_the_right = refl

-- the entry has one conjunct
pub two_used : obligation_at (rule_of [] alone alone) (points_to 2 2) (ends_to 2 2) (of_start 0 1 None) 2 ≡ None
unfolding outcomes stmt_step walks goes_on side_paths has_long_walk store_nodes atom_nodes owed is_quiet among_paths at_spot obligation_of obligation_at
two_used = refl
