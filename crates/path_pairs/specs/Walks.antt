-- Walks over a side: what they met so far, and what stands next. One step is a statement, or one outcome of a test.
-- A walk stops at a cut point or at the exit where that stands next, at an `assert` that is false, or stuck before a statement
-- parameter that does not end.
use Rattle.std.specs.Prelude.{ℕ, zero, suc, ◌+◌, ◌==◌, Bool, true, false, cond, List, [], ◌∷◌, ◌++◌, map, flat_map, Option, Some, None}
use Rattle.std.specs.List.{list_any}
use Rattle.toy_imp.specs.Block.{Stmt, skip, put, assert_that, if_then, while_do, for_to, let_in, par_stmt, empty, stmt}
use Rattle.toy_imp.specs.Points.{stmt_count, point_count}
use Rattle.rule_terms.specs.Term.{StoreTerm, run}
use Rattle.rule_terms.specs.Term as term
use Rattle.rule_terms.specs.ValueAt.{number_of, value_at, values_at}
use Rattle.rule_terms.specs.declared.obligation.Atom.TheVariants.{Ends}
use Rattle.rule_terms.specs.declared.obligation.Literal.{Literal}
use Rattle.rule_terms.specs.declared.path.Path.{Path}
use Rattle.rule_terms.specs.declared.path.Stop.{Stop}
use Rattle.rule_terms.specs.declared.path.Stop.TheVariants.{At, Halted, Stuck}
use Rattle.path_pairs.specs.Outcomes.{outcomes}
use Rattle.path_pairs.specs.Rests.{Rest, stretch}

-- how a walk goes on: with a rest that stands next, or not, where it has stopped for good
pub data Next : Type 0 where
  goes : Rest → Next
  stops : Stop → Next

-- a walk so far
pub record Walk : Type 0 where
  pub literals : List Literal
  pub store : StoreTerm
  pub next : Next

abbrev pub stands : List Literal → StoreTerm → Rest → Walk
stands ls s rest = record { literals = ls; store = s; next = goes rest }

-- the walks on by each of these outcomes, and those of them that stand before a rest
abbrev pub each_so : List (List Literal) → List Literal → StoreTerm → Next → List Walk
each_so found ls s next = map (λ more. record { literals = ls ++ more; store = s; next = next }) found

abbrev pub by_each : List (List Literal) → List Literal → StoreTerm → Rest → List Walk
by_each found ls s rest = each_so found ls s (goes rest)

-- One step from a statement whose first point has the number n: `here` it stands next itself, `behind` what follows it.
-- `for` and `let` have no walks.
unfoldable pub stmt_step : ℕ → Stmt → Rest → Rest → List Literal → StoreTerm → List Walk
stmt_step n skip here behind ls s = stands ls s behind ∷ []
stmt_step n (put x is e) here behind ls s = stands ls (term.put s (number_of x) (values_at is s) (value_at e s)) behind ∷ []
stmt_step n (assert_that t) here behind ls s = by_each (outcomes t true s) ls s behind ++ each_so (outcomes t false s) ls s (stops Halted)
stmt_step n (if_then t b c) here behind ls s =
    by_each (outcomes t true s) ls s (stretch n b ∷ behind) ++ by_each (outcomes t false s) ls s (stretch (n + point_count b) c ∷ behind)
stmt_step n (while_do t b) here behind ls s =
    by_each (outcomes t true s) ls s (stretch (suc n) b ∷ here) ++ by_each (outcomes t false s) ls s behind
stmt_step n (for_to x lo hi b) here behind ls s = []
stmt_step n (let_in x e b) here behind ls s = []
stmt_step n (par_stmt k) here behind ls s =
    stands (ls ++ record { sign = true; atom = Ends (run k s) } ∷ []) (run k s) behind
    ∷ record { literals = ls ++ record { sign = false; atom = Ends (run k s) } ∷ []; store = s; next = stops (Stuck k) } ∷ []

abbrev pub rest_step : Rest → List Literal → StoreTerm → List Walk
rest_step [] ls s = []
rest_step (stretch n empty ∷ rest) ls s = rest_step rest ls s
rest_step (stretch n (stmt a b) ∷ rest) ls s = stmt_step n a (stretch n (stmt a b) ∷ rest) (stretch (n + stmt_count a) b ∷ rest) ls s

-- the walks that are one step longer, in order
abbrev pub step : Walk → List Walk
step w = elim w.next [ stops stop ↦ [] | goes rest ↦ rest_step rest w.literals w.store ]

abbrev pub is_cut : List ℕ → ℕ → Bool
is_cut cuts p = list_any (λ c. c == p) cuts

-- where a walk stops that stands before a statement whose first point has the number n
abbrev pub stmt_stop : List ℕ → ℕ → Stmt → Option Stop
stmt_stop cuts n (while_do t b) = cond (is_cut cuts n) (Some (At n)) None
stmt_stop cuts n (par_stmt k) = cond (is_cut cuts n) (Some (At n)) None
stmt_stop cuts n _ = None

-- where a walk stops before its next step, if it does
abbrev pub rest_stop : List ℕ → ℕ → Rest → Option Stop
rest_stop cuts exit [] = Some (At exit)
rest_stop cuts exit (stretch n empty ∷ rest) = rest_stop cuts exit rest
rest_stop cuts exit (stretch n (stmt a b) ∷ rest) = stmt_stop cuts n a

abbrev pub stop_of : List ℕ → ℕ → Walk → Option Stop
stop_of cuts exit w = elim w.next [ stops stop ↦ Some stop | goes rest ↦ rest_stop cuts exit rest ]

-- the walks that stop within n steps more, in order
unfoldable pub walks : ℕ → List ℕ → ℕ → Walk → List Path
walks zero cuts exit w = elim (stop_of cuts exit w) [ None ↦ [] | Some stop ↦ record { literals = w.literals; store = w.store; stop = stop } ∷ [] ]
walks (suc n) cuts exit w = elim (stop_of cuts exit w) [ None ↦ flat_map (walks n cuts exit) (step w) | Some stop ↦ record { literals = w.literals; store = w.store; stop = stop } ∷ [] ]

-- the paths that halt by these outcomes of a test, as `each_so` gives them with `stops Halted`
abbrev pub halting_paths : List (List Literal) → List Literal → StoreTerm → List Path
halting_paths found ls s = map (λ more. record { literals = ls ++ more; store = s; stop = Halted }) found

-- some walk makes n steps more before a stop
unfoldable pub goes_on : ℕ → List ℕ → ℕ → Walk → Bool
goes_on zero cuts exit w = true
goes_on (suc n) cuts exit w = elim (stop_of cuts exit w) [ None ↦ list_any (goes_on n cuts exit) (step w) | Some stop ↦ false ]
