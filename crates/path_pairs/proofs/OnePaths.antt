-- Of all paths from a point the literals of exactly one are true, and it tells how a run of the rest at that point goes on:
-- by the steps of the walks, each of which has one true walk.
use Rattle.std.specs.Prelude.{◌≡◌, ℕ, zero, suc, ◌<◌, ◌≤◌, Bool, true, false, List, [], ◌∷◌, ◌++◌, filter, flat_map, Option, Some, None, refl}
use Rattle.std.specs.List.{list_all, list_any}
use Rattle.std.proofs.Common.{sym, ◌∙◌, ap, subst, true≢false, inr, arith}
use Rattle.std.proofs.lemmas.Bool.{or_parts}
use Rattle.toy_imp.specs.declared.instance.Instance.{Instance}
use Rattle.toy_imp.specs.declared.rule.Rule.{Rule}
use Rattle.toy_imp.specs.Block.{Stmt, skip, put, assert_that, if_then, while_do, for_to, let_in, par_stmt, Block, empty, stmt}
use Rattle.toy_imp.specs.Ends.{Reaches}
use Rattle.toy_imp.specs.Faults.{has_scope, stmt_has_scope}
use Rattle.toy_imp.specs.Fill.{fill}
use Rattle.toy_imp.specs.Points.{exit_point}
use Rattle.toy_imp.specs.Run.{Item, before, ended, halted}
use Rattle.toy_imp.specs.Store.{Store}
use Rattle.toy_imp.proofs.Alikes.{append-empty}
use Rattle.rule_terms.specs.Term.{StoreTerm, run}
use Rattle.rule_terms.specs.declared.obligation.Literal.{Literal}
use Rattle.rule_terms.specs.declared.path.Path.{Path}
use Rattle.rule_terms.specs.declared.path.Stop.{Stop}
use Rattle.rule_terms.specs.declared.path.Stop.TheVariants.{At, Halted, Stuck}
use Rattle.term_meaning.specs.Meaning.{store_of, literal_truth, CoversStore}
use Rattle.term_meaning.specs.Table.{Entry, Faithful}
use Rattle.path_pairs.specs.declared.cut_points.CutPoints.{CutPoints}
use Rattle.path_pairs.specs.declared.cut_points.Side.{Side}
use Rattle.path_pairs.specs.declared.cut_points.Side.TheVariants.{Left, Right}
use Rattle.path_pairs.specs.Comes.{Comes}
use Rattle.path_pairs.specs.Open.{block_is_open}
use Rattle.path_pairs.specs.PathLaws.{work_of, work_at, its_store, is_taken, CoversStores, block_length, rest_length, left_count, GetsOn, StopsAt, Tells, OnePath}
use Rattle.path_pairs.specs.Paths.{side_of, cuts_of, store_of as term_of, side_paths, has_long_walk, paths}
use Rattle.path_pairs.specs.Rests.{Rest, stretch, rests, rest_at}
use Rattle.path_pairs.specs.Walks.{Next, goes, stops, Walk, stands, stmt_step, rest_step, step, rest_stop, stop_of, walks, goes_on}
use Rattle.path_pairs.proofs.Comings.{comes_same, comes_through, steps_through, gets_on_more, gets_on_through, comes_ends, reaches_behind, reaches_before}
use Rattle.path_pairs.proofs.Passing.{Among, passes, among, among_any, among_made, only_one, not_one, none_led, one_led}
use Rattle.path_pairs.proofs.Standing.{Stands, Moves, Stopped, stops_there, moves, exit_is, exit_is_empty, start_stands, point_stands}
use Rattle.path_pairs.proofs.TrueSteps.{CoversRun, CoversNext, TellsStop, Onward, is_true, OneStep, rest_once, rest_never}
use Rattle.path_pairs.proofs.WalkSteps.{test_goes, assert_goes}

-- ---- a walk whose literals are not all true leads to no path that is taken
module _ (i : Instance) (T : List Entry) (l r : Store) (cuts : List ℕ) (exit : ℕ) where
  stopped_never : (ls : List Literal) (u : StoreTerm) → list_all (literal_truth i T l r) ls ≡ false → (o : Option Stop) (others : List Path) → filter (is_taken i T l r) others ≡ []
      → filter (is_taken i T l r) (elim o as (λ x. List Path) [ None ↦ others | Some stop ↦ record { literals = ls; store = u; stop = stop } ∷ [] ]) ≡ []
  stopped_never ls u h None others e = e
  stopped_never ls u h (Some stop) others e = not_one (is_taken i T l r) (record { literals = ls; store = u; stop = stop }) h

  step_never : (ls : List Literal) (u : StoreTerm) → list_all (literal_truth i T l r) ls ≡ false → (next : Next)
      → filter (is_true i T l r) (elim next as (λ x. List Walk) [ stops stop ↦ [] | goes rest ↦ rest_step rest ls u ]) ≡ []
  step_never ls u h (stops stop) = refl
  step_never ls u h (goes rest) = rest_never i T l r ls u h rest

  pub never_taken : (n : ℕ) (w : Walk) → is_true i T l r w ≡ false → filter (is_taken i T l r) (walks n cuts exit w) ≡ []
  unfolding walks
  never_taken zero w h = stopped_never w.literals w.store h (stop_of cuts exit w) [] refl
  never_taken (suc n) w h =
      stopped_never w.literals w.store h (stop_of cuts exit w) (flat_map (walks n cuts exit) (step w))
      (none_led (is_true i T l r) (is_taken i T l r) (walks n cuts exit) (never_taken n) (step w) (step_never w.literals w.store h w.next))

-- ---- covering
covers_cut : (i : Instance) (T : List Entry) (l r : Store) (xs ys : List Path) → CoversStores i T l r (xs ++ ys) → CoversStores i T l r xs × CoversStores i T l r ys
covers_cut i T l r [] ys c = (tt, c)
covers_cut i T l r (x ∷ xs) ys c = let h : CoversStores i T l r xs × CoversStores i T l r ys = covers_cut i T l r xs ys c.1 in ((c.0, h.0), h.1)

stopped_walk : (n : ℕ) (cuts : List ℕ) (exit : ℕ) (ls : List Literal) (u : StoreTerm) (stop : Stop) → walks n cuts exit (record { literals = ls; store = u; next = stops stop }) ≡ record { literals = ls; store = u; stop = stop } ∷ []
unfolding walks
stopped_walk zero cuts exit ls u stop = refl
stopped_walk (suc n) cuts exit ls u stop = refl

-- what covers the paths on from a statement parameter covers its run, since one of them is stuck there
module _ (i : Instance) (T : List Entry) (l r : Store) (n : ℕ) (cuts : List ℕ) (exit : ℕ) where
  covers_stuck : (first : List Path) (ls : List Literal) (u : StoreTerm) (k : ℕ) → CoversStores i T l r (first ++ (walks n cuts exit (record { literals = ls; store = u; next = stops (Stuck k) }) ++ [])) → CoversStore i T l r (run k u)
  covers_stuck first ls u k c =
      let w : Walk = record { literals = ls; store = u; next = stops (Stuck k) } in
      let last : CoversStores i T l r (walks n cuts exit w) = (covers_cut i T l r (walks n cuts exit w) [] (covers_cut i T l r first _ c).1).0 in
      let path : CoversStores i T l r (record { literals = ls; store = u; stop = Stuck k } ∷ []) = subst (λ ps. CoversStores i T l r ps) (stopped_walk n cuts exit ls u (Stuck k)) last in
      path.0

  covers_run : (m : ℕ) (a : Stmt) (here behind : Rest) (ls : List Literal) (u : StoreTerm) → CoversStores i T l r (flat_map (walks n cuts exit) (stmt_step m a here behind ls u)) → CoversRun i T l r a u
  unfolding stmt_step
  covers_run m skip here behind ls u c = tt
  covers_run m (put x is e) here behind ls u c = tt
  covers_run m (assert_that t) here behind ls u c = tt
  covers_run m (if_then t b d) here behind ls u c = tt
  covers_run m (while_do t b) here behind ls u c = tt
  covers_run m (for_to x lo hi b) here behind ls u c = tt
  covers_run m (let_in x e b) here behind ls u c = tt
  covers_run m (par_stmt k) here behind ls u c = covers_stuck (walks n cuts exit _) _ u k c

  covers_next : (rest : Rest) (ls : List Literal) (u : StoreTerm) → CoversStores i T l r (flat_map (walks n cuts exit) (rest_step rest ls u)) → CoversNext i T l r rest u
  covers_next [] ls u c = tt
  covers_next (stretch m empty ∷ rest) ls u c = covers_next rest ls u c
  covers_next (stretch m (stmt a b) ∷ rest) ls u c = covers_run m a _ _ ls u c

-- ---- where a statement stands next there is a step
some_step : (cuts : List ℕ) (exit m : ℕ) (a : Stmt) (here behind : Rest) (ls : List Literal) (u : StoreTerm) → stmt_has_scope a ≡ false → list_any (goes_on zero cuts exit) (stmt_step m a here behind ls u) ≡ true
unfolding goes_on stmt_step
some_step cuts exit m skip here behind ls u h = refl
some_step cuts exit m (put x is e) here behind ls u h = refl
some_step cuts exit m (assert_that t) here behind ls u h = assert_goes zero cuts exit t behind zero (λ ms v. refl) ls u
some_step cuts exit m (if_then t b d) here behind ls u h = test_goes zero cuts exit t _ _ true true (λ ms v. refl) (λ ms v. refl) ls u
some_step cuts exit m (while_do t b) here behind ls u h = test_goes zero cuts exit t _ _ true true (λ ms v. refl) (λ ms v. refl) ls u
some_step cuts exit m (for_to x lo hi b) here behind ls u h = absurd (true≢false h)
some_step cuts exit m (let_in x e b) here behind ls u h = absurd (true≢false h)
some_step cuts exit m (par_stmt k) here behind ls u h = refl

step_there : (all : List Rest) (cuts : List ℕ) (exit : ℕ) (rest : Rest) (ls : List Literal) (u : StoreTerm) → Stands all rest → Moves rest → list_any (goes_on zero cuts exit) (rest_step rest ls u) ≡ true
step_there all cuts exit [] ls u h m = absurd m
step_there all cuts exit (stretch n empty ∷ rest) ls u h m = step_there all cuts exit rest ls u h.1 m
step_there all cuts exit (stretch n (stmt a b) ∷ rest) ls u h m = some_step cuts exit n a _ _ ls u (or_parts _ _ h.0.plain).0

-- ---- what is told at a stop
left_inside : (side : Block) (p : ℕ) → 1 ≤ p → left_count side p ≡ rest_length (rest_at side p)
left_inside side zero h = absurd (omega (arith, h))
left_inside side (suc p) h = refl

module _ (A : Type 0) (i : Instance) (T : List Entry) (l r : Store) (side : Block) where
  -- steps in front, after which so much is left
  tells_from : (left between : ℕ) (u w : List Item) (s m : Store) (c : Comes u s w m) → GetsOn c.steps between left
      → (store : StoreTerm) (stop : Stop) → Tells A i T l r side (suc between) w m store stop → Tells A i T l r side left u s store stop
  tells_from left between u w s m c g store (At q) h = record {
    store = h.store;
    means = h.means;
    comes = comes_through u w (work_at i side q) s m h.store c h.comes;
    gets_on =
        gets_on_through c.steps h.comes.steps (comes_through u w (work_at i side q) s m h.store c h.comes).steps left between (left_count side q)
        (steps_through u w (work_at i side q) s m h.store c h.comes) g h.gets_on;
  }
  tells_from left between u w s m c g store Halted h = record { store = h.store; means = h.means; halts = reaches_before u w s m (halted h.store) c h.halts }
  tells_from left between u w s m c g store (Stuck k) h = record {
    store = h.store;
    means = h.means;
    never_ends = λ t e. h.never_ends t (reaches_behind u w s m (ended t) c e);
    halts_by_it = λ t e. h.halts_by_it t (reaches_behind u w s m (halted t) c e);
    halts = λ t e. reaches_before u w s m (halted t) c (h.halts t e);
  }

  tells_more : (left more : ℕ) → left ≤ more → (work : List Item) (s : Store) (store : StoreTerm) (stop : Stop) → Tells A i T l r side left work s store stop → Tells A i T l r side more work s store stop
  tells_more left more le work s store (At q) h = record { store = h.store; means = h.means; comes = h.comes; gets_on = gets_on_more h.comes.steps (left_count side q) left more h.gets_on le }
  tells_more left more le work s store Halted h = h
  tells_more left more le work s store (Stuck k) h = h

  tells_stop : (left : ℕ) (work : List Item) (s : Store) (u : StoreTerm) (stop : Stop) → TellsStop A i T l r work s u stop → Tells A i T l r side left work s u stop
  tells_stop left work s u (At q) h = absurd h
  tells_stop left work s u Halted h = h
  tells_stop left work s u (Stuck k) h = h

  one_more : (left more : ℕ) → left ≤ more → (work : List Item) (s : Store) (all : List Path) → OnePath A i T l r side left work s all → OnePath A i T l r side more work s all
  one_more left more le work s all one = record { path = one.path; only = one.only; tells = tells_more left more le work s one.path.store one.path.stop one.tells }

-- ---- exactly one path
module _ (A : Type 0) (i : Instance) (T : List Entry) (l r : Store) (faithful : Faithful A i T) (side : Block) (names : block_is_open side ≡ true) (plain : has_scope side ≡ false) (cuts : List ℕ) where
  abbrev Told : ℕ → List Item → Store → List Path → Type 0
  Told left work s all = OnePath A i T l r side left work s all

  -- walks from a rest of the side, within n steps; they may stop before the first
  abbrev Walked : ℕ → Type 0
  Walked n = (rest : Rest) (ls : List Literal) (u : StoreTerm) (s : Store) → Stands (rests side) rest → list_all (literal_truth i T l r) ls ≡ true → store_of i T l r u ≡ Some s
      → CoversStores i T l r (walks n cuts (exit_point side) (stands ls u rest)) → goes_on (suc n) cuts (exit_point side) (stands ls u rest) ≡ false
      → Told (suc (rest_length rest)) (work_of i rest) s (walks n cuts (exit_point side) (stands ls u rest))

  -- a walk that has stopped
  stopped : (rest : Rest) (ls : List Literal) (u : StoreTerm) (s : Store) → Stands (rests side) rest → list_all (literal_truth i T l r) ls ≡ true → store_of i T l r u ≡ Some s
      → (stop : Stop) → rest_stop cuts (exit_point side) rest ≡ Some stop → Told (suc (rest_length rest)) (work_of i rest) s (record { literals = ls; store = u; stop = stop } ∷ [])
  stopped rest ls u s h so_far is_s stop e =
      let there : Stopped (rests side) rest stop = stops_there (rests side) cuts rest (omega arith) h stop (ap (λ n. rest_stop cuts n rest) (exit_is side plain) ∙ e) in
      let same : work_of i rest ≡ work_at i side there.point = ap (λ b. before (fill i b) []) there.same in
      let as_many : left_count side there.point ≡ rest_length rest = left_inside side there.point there.inside ∙ ap block_length (sym there.same) in
      let told : StopsAt i T l r side (suc (rest_length rest)) (work_of i rest) s u there.point =
      record { store = s; means = is_s; comes = comes_same (work_of i rest) (work_at i side there.point) s same; gets_on = inr (omega (arith, as_many)) } in
      record {
        path = record { literals = ls; store = u; stop = stop };
        only = only_one (is_taken i T l r) (record { literals = ls; store = u; stop = stop }) so_far;
        tells = subst (λ x. Tells A i T l r side (suc (rest_length rest)) (work_of i rest) s u x) (sym there.is) told;
      }

  -- on from the one true walk of a step
  on_from : (n : ℕ) → Walked n → (left : ℕ) (work : List Item) (s : Store) (ls : List Literal) (u : StoreTerm) (next : Next) → list_all (literal_truth i T l r) ls ≡ true → Onward A i T l r (rests side) left work s u next
      → CoversStores i T l r (walks n cuts (exit_point side) (record { literals = ls; store = u; next = next }))
      → goes_on (suc n) cuts (exit_point side) (record { literals = ls; store = u; next = next }) ≡ false
      → Told left work s (walks n cuts (exit_point side) (record { literals = ls; store = u; next = next }))
  on_from n walked left work s ls u (stops stop) so_far onward c g = record {
    path = record { literals = ls; store = u; stop = stop };
    only = ap (filter (is_taken i T l r)) (stopped_walk n cuts (exit_point side) ls u stop) ∙ only_one (is_taken i T l r) (record { literals = ls; store = u; stop = stop }) so_far;
    tells = tells_stop A i T l r side left work s u stop onward;
  }
  on_from n walked left work s ls u (goes rest) so_far on c g =
      let one : Told (suc (rest_length rest)) (work_of i rest) on.store (walks n cuts (exit_point side) (stands ls u rest)) = walked rest ls u on.store on.placed so_far on.means c g in
      record {
        path = one.path;
        only = one.only;
        tells = tells_from A i T l r side left (rest_length rest) work (work_of i rest) s on.store on.comes on.gets_on one.path.store one.path.stop one.tells;
      }

  -- from a rest whose first statement is done first, whether or not a walk may stop there
  pub by_step : (n : ℕ) → Walked n → (rest : Rest) (ls : List Literal) (u : StoreTerm) (s : Store) → Stands (rests side) rest → Moves rest → list_all (literal_truth i T l r) ls ≡ true → store_of i T l r u ≡ Some s
      → CoversStores i T l r (flat_map (walks n cuts (exit_point side)) (rest_step rest ls u)) → list_any (goes_on (suc n) cuts (exit_point side)) (rest_step rest ls u) ≡ false
      → Told (rest_length rest) (work_of i rest) s (flat_map (walks n cuts (exit_point side)) (rest_step rest ls u))
  by_step n walked rest ls u s h m so_far is_s c g =
      let exit : ℕ = exit_point side in
      let once : OneStep A i T l r (rests side) (rest_length rest) (work_of i rest) s (rest_step rest ls u) = rest_once A i T l r faithful (rests side) ls u s so_far is_s rest h m (covers_next i T l r n cuts exit rest ls u c) in
      let w : Walk = record { literals = once.literals; store = once.store; next = once.next } in
      let there : Among w (rest_step rest ls u) = among (is_true i T l r) (rest_step rest ls u) w once.only in
      let covers : CoversStores i T l r (walks n cuts exit w) = among_made (walks n cuts exit) (λ ps. CoversStores i T l r ps) (covers_cut i T l r) (rest_step rest ls u) w there c in
      let short : goes_on (suc n) cuts exit w ≡ false = among_any (goes_on (suc n) cuts exit) (rest_step rest ls u) w there g in
      let one : Told (rest_length rest) (work_of i rest) s (walks n cuts exit w) =
      on_from n walked (rest_length rest) (work_of i rest) s once.literals once.store once.next (passes (is_true i T l r) (rest_step rest ls u) w once.only) once.onward covers short in
      record {
        path = one.path;
        only = one_led (is_true i T l r) (is_taken i T l r) (walks n cuts exit) (never_taken i T l r cuts exit n) (rest_step rest ls u) w once.only ∙ one.only;
        tells = one.tells;
      }

  -- by whether it stops here
  no_step : (rest : Rest) (ls : List Literal) (u : StoreTerm) (s : Store) → Stands (rests side) rest → list_all (literal_truth i T l r) ls ≡ true → store_of i T l r u ≡ Some s
      → (o : Option Stop) → rest_stop cuts (exit_point side) rest ≡ o
      → elim o as (λ x. Bool) [ None ↦ list_any (goes_on zero cuts (exit_point side)) (rest_step rest ls u) | Some stop ↦ false ] ≡ false
      → Told (suc (rest_length rest)) (work_of i rest) s (elim o as (λ x. List Path) [ None ↦ [] | Some stop ↦ record { literals = ls; store = u; stop = stop } ∷ [] ])
  no_step rest ls u s h so_far is_s None e g =
      absurd (true≢false (sym (step_there (rests side) cuts (exit_point side) rest ls u h (moves cuts (exit_point side) rest e)) ∙ g))
  no_step rest ls u s h so_far is_s (Some stop) e g = stopped rest ls u s h so_far is_s stop e

  next_step : (n : ℕ) → Walked n → (rest : Rest) (ls : List Literal) (u : StoreTerm) (s : Store) → Stands (rests side) rest → list_all (literal_truth i T l r) ls ≡ true → store_of i T l r u ≡ Some s
      → (o : Option Stop) → rest_stop cuts (exit_point side) rest ≡ o
      → CoversStores i T l r (elim o as (λ x. List Path) [ None ↦ flat_map (walks n cuts (exit_point side)) (rest_step rest ls u) | Some stop ↦ record { literals = ls; store = u; stop = stop } ∷ [] ])
      → elim o as (λ x. Bool) [ None ↦ list_any (goes_on (suc n) cuts (exit_point side)) (rest_step rest ls u) | Some stop ↦ false ] ≡ false
      → Told (suc (rest_length rest)) (work_of i rest) s (elim o as (λ x. List Path) [ None ↦ flat_map (walks n cuts (exit_point side)) (rest_step rest ls u) | Some stop ↦ record { literals = ls; store = u; stop = stop } ∷ [] ])
  next_step n walked rest ls u s h so_far is_s None e c g =
      one_more A i T l r side (rest_length rest) (suc (rest_length rest)) (omega arith) (work_of i rest) s _ (by_step n walked rest ls u s h (moves cuts (exit_point side) rest e) so_far is_s c g)
  next_step n walked rest ls u s h so_far is_s (Some stop) e c g = stopped rest ls u s h so_far is_s stop e

  within_none : Walked zero
  unfolding walks goes_on
  within_none rest ls u s h so_far is_s c g = no_step rest ls u s h so_far is_s (rest_stop cuts (exit_point side) rest) refl g

  within_more : (n : ℕ) → Walked n → Walked (suc n)
  unfolding walks goes_on
  within_more n walked rest ls u s h so_far is_s c g = next_step n walked rest ls u s h so_far is_s (rest_stop cuts (exit_point side) rest) refl c g

  pub walked : (n : ℕ) → Walked n
  walked zero = within_none
  walked (suc n) = within_more n (walked n)

  -- from a point
  pub one_path : (u : StoreTerm) (s : Store) → store_of i T l r u ≡ Some s → (p : ℕ) → p < exit_point side → has_long_walk side cuts u p ≡ false → CoversStores i T l r (side_paths side cuts u p)
      → Told (left_count side p) (work_at i side p) s (side_paths side cuts u p)
  unfolding side_paths has_long_walk
  one_path u s is_s zero lt g c = walked 64 (rest_at side 0) [] u s (start_stands side names plain) refl is_s c g
  one_path u s is_s (suc p) lt g c =
      let h : Stands (rests side) (rest_at side (suc p)) × Moves (rest_at side (suc p)) = point_stands side names plain p lt in
      by_step 63 (walked 63) (rest_at side (suc p)) [] u s h.0 h.1 refl is_s c g

-- of a side of a rule
its_term_means : (i : Instance) (T : List Entry) (l r : Store) (side : Side) → store_of i T l r (term_of side) ≡ Some (its_store side l r)
unfolding store_of
its_term_means i T l r Left = refl
its_term_means i T l r Right = refl

pub path_law : (A : Type 0) (i : Instance) (T : List Entry) (l r : Store) → Faithful A i T → (rule : Rule) (cuts : CutPoints) (side : Side) (p : ℕ)
    → block_is_open (side_of rule side) ≡ true → has_scope (side_of rule side) ≡ false → p < exit_point (side_of rule side)
    → has_long_walk (side_of rule side) (cuts_of cuts side) (term_of side) p ≡ false → CoversStores i T l r (paths rule cuts side p)
    → OnePath A i T l r (side_of rule side) (left_count (side_of rule side) p) (work_at i (side_of rule side) p) (its_store side l r) (paths rule cuts side p)
path_law A i T l r faithful rule cuts side p names plain lt g c =
    one_path A i T l r faithful (side_of rule side) names plain (cuts_of cuts side) (term_of side) (its_store side l r) (its_term_means i T l r side) p lt g c

-- at the ends of a side
pub all_is_left_at_start : (i : Instance) (side : Block) → work_at i side 0 ≡ before (fill i side) []
all_is_left_at_start i side = ap (λ b. before (fill i b) []) (append-empty side)

pub run_ends_at_exit : (i : Instance) (side : Block) → has_scope side ≡ false → (work : List Item) (s m : Store) → Comes work s (work_at i side (exit_point side)) m → Reaches work s (ended m)
unfolding fill
run_ends_at_exit i side plain work s m c = comes_ends work s m (subst (λ w. Comes work s w m) (ap (work_of i) (exit_is_empty side plain)) c)
