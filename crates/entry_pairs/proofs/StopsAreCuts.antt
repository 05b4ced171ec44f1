-- Each path stops at a cut point or at the exit of its side, where it stops at a point.
use Rattle.std.specs.Prelude.{◌≡◌, ℕ, zero, suc, ◌+◌, ◌==◌, Bool, true, false, cond, ◌&&◌, ◌||◌, List, [], ◌∷◌, flat_map, Option, Some, None, refl}
use Rattle.std.proofs.Common.{sym, ◌∙◌, ap, arith}
use Rattle.std.specs.List.{list_all}
use Rattle.std.proofs.lemmas.Bool.{or_left, or_right}
use Rattle.std.proofs.lemmas.Bool.Decides.{nat_tests}
use Rattle.std.proofs.lemmas.Option.{none-some, same_Some}
use Rattle.toy_imp.specs.Block.{Stmt, skip, put, assert_that, if_then, while_do, for_to, let_in, par_stmt, Block, empty, stmt}
use Rattle.toy_imp.specs.Points.{stmt_count, point_count, exit_point}
use Rattle.rule_terms.specs.Term.{StoreTerm}
use Rattle.rule_terms.specs.declared.obligation.Literal.{Literal}
use Rattle.rule_terms.specs.declared.path.Path.{Path}
use Rattle.rule_terms.specs.declared.path.Stop.{Stop}
use Rattle.rule_terms.specs.declared.path.Stop.TheVariants.{At, Halted, Stuck}
use Rattle.path_pairs.specs.Outcomes.{outcomes}
use Rattle.path_pairs.specs.Paths.{set_out, side_paths}
use Rattle.path_pairs.specs.Rests.{Rest, stretch}
use Rattle.path_pairs.specs.Walks.{Next, goes, stops, Walk, is_cut, each_so, stmt_step, rest_step, step, stmt_stop, rest_stop, stop_of, walks}
use Rattle.entry_pairs.proofs.AllPassing.{all_both, all_led}

abbrev pub is_stop : List ℕ → ℕ → Stop → Bool
is_stop cuts exit (At p) = is_cut cuts p || p == exit
is_stop cuts exit Halted = true
is_stop cuts exit (Stuck k) = true

abbrev pub stops_well : List ℕ → ℕ → Path → Bool
stops_well cuts exit p = is_stop cuts exit p.stop

module _ (cuts : List ℕ) (exit : ℕ) where
  abbrev is_next : Next → Bool
  is_next (goes rest) = true
  is_next (stops stop) = is_stop cuts exit stop

  abbrev is_walk : Walk → Bool
  is_walk w = is_next w.next

  -- ---- where a walk stops
  by_cut : (n : ℕ) (b : Bool) (stop : Stop) → is_cut cuts n ≡ b → cond b (Some (At n)) None ≡ Some stop → is_stop cuts exit stop ≡ true
  by_cut n true stop e h = ap (is_stop cuts exit) (sym (same_Some (At n) stop h)) ∙ or_left (is_cut cuts n) (n == exit) e
  by_cut n false stop e h = absurd (none-some stop h)

  stmt_stop_is : (n : ℕ) (a : Stmt) (stop : Stop) → stmt_stop cuts n a ≡ Some stop → is_stop cuts exit stop ≡ true
  stmt_stop_is n skip stop h = absurd (none-some stop h)
  stmt_stop_is n (put x is e) stop h = absurd (none-some stop h)
  stmt_stop_is n (assert_that t) stop h = absurd (none-some stop h)
  stmt_stop_is n (if_then t b c) stop h = absurd (none-some stop h)
  stmt_stop_is n (while_do t b) stop h = by_cut n (is_cut cuts n) stop refl h
  stmt_stop_is n (for_to x lo hi b) stop h = absurd (none-some stop h)
  stmt_stop_is n (let_in x e b) stop h = absurd (none-some stop h)
  stmt_stop_is n (par_stmt k) stop h = by_cut n (is_cut cuts n) stop refl h

  exit_stop : is_stop cuts exit (At exit) ≡ true
  exit_stop = or_right (is_cut cuts exit) (exit == exit) (grind (arith, nat_tests))

  rest_stop_is : (rest : Rest) (stop : Stop) → rest_stop cuts exit rest ≡ Some stop → is_stop cuts exit stop ≡ true
  rest_stop_is [] stop h = ap (is_stop cuts exit) (sym (same_Some (At exit) stop h)) ∙ exit_stop
  rest_stop_is (stretch n empty ∷ rest) stop h = rest_stop_is rest stop h
  rest_stop_is (stretch n (stmt a b) ∷ rest) stop h = stmt_stop_is n a stop h

  next_stop_is : (next : Next) (stop : Stop) → is_next next ≡ true
      → elim next as (λ x. Option Stop) [ stops s ↦ Some s | goes rest ↦ rest_stop cuts exit rest ] ≡ Some stop → is_stop cuts exit stop ≡ true
  next_stop_is (goes rest) stop h e = rest_stop_is rest stop e
  next_stop_is (stops s) stop h e = ap (is_stop cuts exit) (sym (same_Some s stop e)) ∙ h

  -- ---- a step
  each_are : (found : List (List Literal)) (ls : List Literal) (s : StoreTerm) (next : Next) → is_next next ≡ true → list_all is_walk (each_so found ls s next) ≡ true
  each_are [] ls s next h = refl
  each_are (more ∷ found) ls s next h = λ i. h i && each_are found ls s next h i

  stmt_step_are : (n : ℕ) (a : Stmt) (here behind : Rest) (ls : List Literal) (s : StoreTerm) → list_all is_walk (stmt_step n a here behind ls s) ≡ true
  unfolding stmt_step
  stmt_step_are n skip here behind ls s = refl
  stmt_step_are n (put x is e) here behind ls s = refl
  stmt_step_are n (assert_that t) here behind ls s =
      all_both is_walk (each_so (outcomes t true s) ls s (goes behind)) (each_so (outcomes t false s) ls s (stops Halted))
      (each_are (outcomes t true s) ls s (goes behind) refl) (each_are (outcomes t false s) ls s (stops Halted) refl)
  stmt_step_are n (if_then t b c) here behind ls s =
      all_both is_walk (each_so (outcomes t true s) ls s (goes (stretch n b ∷ behind))) (each_so (outcomes t false s) ls s (goes (stretch (n + point_count b) c ∷ behind)))
      (each_are (outcomes t true s) ls s (goes (stretch n b ∷ behind)) refl) (each_are (outcomes t false s) ls s (goes (stretch (n + point_count b) c ∷ behind)) refl)
  stmt_step_are n (while_do t b) here behind ls s =
      all_both is_walk (each_so (outcomes t true s) ls s (goes (stretch (suc n) b ∷ here))) (each_so (outcomes t false s) ls s (goes behind))
      (each_are (outcomes t true s) ls s (goes (stretch (suc n) b ∷ here)) refl) (each_are (outcomes t false s) ls s (goes behind) refl)
  stmt_step_are n (for_to x lo hi b) here behind ls s = refl
  stmt_step_are n (let_in x e b) here behind ls s = refl
  stmt_step_are n (par_stmt k) here behind ls s = refl

  rest_step_are : (rest : Rest) (ls : List Literal) (s : StoreTerm) → list_all is_walk (rest_step rest ls s) ≡ true
  rest_step_are [] ls s = refl
  rest_step_are (stretch n empty ∷ rest) ls s = rest_step_are rest ls s
  rest_step_are (stretch n (stmt a b) ∷ rest) ls s = stmt_step_are n a (stretch n (stmt a b) ∷ rest) (stretch (n + stmt_count a) b ∷ rest) ls s

  next_step_are : (next : Next) (ls : List Literal) (s : StoreTerm)
      → list_all is_walk (elim next as (λ x. List Walk) [ stops stop ↦ [] | goes rest ↦ rest_step rest ls s ]) ≡ true
  next_step_are (goes rest) ls s = rest_step_are rest ls s
  next_step_are (stops stop) ls s = refl

  -- ---- walks
  stopped : (ls : List Literal) (s : StoreTerm) (o : Option Stop) (others : List Path) → ((stop : Stop) → o ≡ Some stop → is_stop cuts exit stop ≡ true)
      → list_all (stops_well cuts exit) others ≡ true
      → list_all (stops_well cuts exit) (elim o as (λ x. List Path) [ None ↦ others | Some stop ↦ record { literals = ls; store = s; stop = stop } ∷ [] ]) ≡ true
  stopped ls s None others f h = h
  stopped ls s (Some stop) others f h = λ i. f stop refl i && true

  walks_are : (n : ℕ) (w : Walk) → is_walk w ≡ true → list_all (stops_well cuts exit) (walks n cuts exit w) ≡ true
  unfolding walks
  walks_are zero w h = stopped w.literals w.store (stop_of cuts exit w) [] (λ stop e. next_stop_is w.next stop h e) refl
  walks_are (suc n) w h =
      stopped w.literals w.store (stop_of cuts exit w) (flat_map (walks n cuts exit) (step w)) (λ stop e. next_stop_is w.next stop h e)
      (all_led is_walk (stops_well cuts exit) (walks n cuts exit) (walks_are n) (step w) (next_step_are w.next w.literals w.store))

pub paths_stop : (side : Block) (cuts : List ℕ) (s : StoreTerm) (p : ℕ) → list_all (stops_well cuts (exit_point side)) (side_paths side cuts s p) ≡ true
unfolding side_paths
paths_stop side cuts s zero = walks_are cuts (exit_point side) 64 (set_out side s 0) refl
paths_stop side cuts s (suc p) =
    all_led (is_walk cuts (exit_point side)) (stops_well cuts (exit_point side)) (walks 63 cuts (exit_point side)) (walks_are cuts (exit_point side) 63)
    (step (set_out side s (suc p))) (next_step_are cuts (exit_point side) (set_out side s (suc p)).next [] s)
