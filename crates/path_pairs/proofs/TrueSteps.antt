-- One step of the walks from a rest at a store term that means a store: where the literals are true so far, they stay true for
-- exactly one walk, and it tells what a run of the rest does. Where they are not true so far, they are so for none.
use Rattle.std.specs.Prelude.{◌≡◌, ℕ, suc, ◌+◌, Bool, true, false, cond, not, ◌&&◌, List, [], ◌∷◌, ◌++◌, map, filter, Option, Some, None, is_some, refl}
use Rattle.std.specs.List.{list_all}
use Rattle.std.proofs.Common.{sym, ◌∙◌, ap, subst, true≢false, inl, inr, arith}
use Rattle.std.proofs.lemmas.Bool.{and_parts}
use Rattle.std.proofs.lemmas.List.Folds.{list_all-append}
use Rattle.toy_imp.specs.declared.instance.Instance.{Instance}
use Rattle.toy_imp.specs.declared.name.Name.{Name}
use Rattle.toy_imp.specs.declared.name.Name.TheVariants.{Own, Par}
use Rattle.toy_imp.specs.Block.{Stmt, skip, put, assert_that, if_then, while_do, for_to, let_in, par_stmt, Block, empty, stmt, append}
use Rattle.toy_imp.specs.Cell.{spelled}
use Rattle.toy_imp.specs.Ends.{Reaches}
use Rattle.toy_imp.specs.Expr.{Expr, Exprs}
use Rattle.toy_imp.specs.Fill.{name_at, block_at, fill_name, fill_expr, fill_exprs, fill_test, fill_stmt, fill}
use Rattle.toy_imp.specs.Points.{stmt_count, point_count}
use Rattle.toy_imp.specs.Run.{Item, act, halt, before, step, ended, halted}
use Rattle.toy_imp.specs.Store.{Store, write}
use Rattle.toy_imp.specs.Test.{Test}
use Rattle.toy_imp.specs.Truth.{truth}
use Rattle.toy_imp.specs.Value.{value, values}
use Rattle.toy_imp.proofs.Runs.{before-append, before-split, Through, through, halts_through, reaches_halt, assert_halts}
use Rattle.param_meaning.proofs.Lists.{filled_work_by_parts}
use Rattle.rule_terms.specs.Term.{StoreTerm, run}
use Rattle.rule_terms.specs.Term as term
use Rattle.rule_terms.specs.ValueAt.{is_open, names_are_open, all_names_are_open, number_of, value_at, values_at}
use Rattle.rule_terms.specs.declared.obligation.Atom.TheVariants.{Ends}
use Rattle.rule_terms.specs.declared.obligation.Literal.{Literal}
use Rattle.rule_terms.specs.declared.path.Stop.{Stop}
use Rattle.rule_terms.specs.declared.path.Stop.TheVariants.{At, Halted, Stuck}
use Rattle.term_meaning.specs.MaybeStore.{put_in}
use Rattle.term_meaning.specs.Meaning.{signed, store_of, atom_truth, literal_truth, CoversStore}
use Rattle.term_meaning.specs.Table.{Entry, Agrees, AgreesAt, Faithful}
use Rattle.term_meaning.proofs.Agreeing.{run_agrees}
use Rattle.term_meaning.proofs.Valuing.{value_at_means, values_at_mean}
use Rattle.path_pairs.specs.Comes.{Comes}
use Rattle.path_pairs.specs.Open.{test_is_open}
use Rattle.path_pairs.specs.Outcomes.{outcomes}
use Rattle.path_pairs.specs.PathLaws.{work_of, rest_length, GetsOn, HaltsThere, StuckThere}
use Rattle.path_pairs.specs.Rests.{Rest, stretch, rest_statements}
use Rattle.path_pairs.specs.Walks.{Next, goes, stops, Walk, stands, each_so, by_each, stmt_step, rest_step}
use Rattle.path_pairs.proofs.Comings.{ComesByStep, one_step, done_comes}
use Rattle.path_pairs.proofs.OutcomeTruths.{true_outcome, no_true_outcome}
use Rattle.path_pairs.proofs.Passing.{filter-map, none_made, only_one, not_one, first_of_two, second_of_two, none_of_two, in_first, in_second, in_neither}
use Rattle.path_pairs.proofs.Standing.{PlacedStmt, Stands, Moves, first_placed, behind_placed, first_block_placed, second_block_placed, body_placed}

name_means : (i : Instance) (x : Name) → is_open x ≡ true → spelled (name_at i (number_of x)) ≡ spelled (fill_name i x)
unfolding fill_name
name_means i (Own bytes) h = absurd (true≢false (sym h))
name_means i (Par k) h = refl

still_false : (a b : Bool) → a ≡ false → (a && b) ≡ false
still_false true b e = absurd (true≢false e)
still_false false b e = refl

truth_goes_on : (a b : Bool) → a ≡ true → (a && b) ≡ b
truth_goes_on true b e = refl
truth_goes_on false b e = absurd (true≢false (sym e))

-- a statement parameter's run is covered by the table
abbrev pub CoversRun : Instance → List Entry → Store → Store → Stmt → StoreTerm → Type 0
CoversRun i T l r (par_stmt k) u = CoversStore i T l r (run k u)
CoversRun i T l r _ u = Unit {0}

abbrev pub CoversNext : Instance → List Entry → Store → Store → Rest → StoreTerm → Type 0
CoversNext i T l r [] u = Unit {0}
CoversNext i T l r (stretch n empty ∷ rest) u = CoversNext i T l r rest u
CoversNext i T l r (stretch n (stmt a b) ∷ rest) u = CoversRun i T l r a u

-- what the one walk tells that stands before a rest: the run has come there, by some step or with fewer statements left than `left`
pub record StandsBefore (i : Instance) (T : List Entry) (l r : Store) (all : List Rest) (left : ℕ) (work : List Item) (s : Store) (u : StoreTerm) (rest : Rest) : Type 0 where
  pub store : Store
  pub means : store_of i T l r u ≡ Some store
  pub placed : Stands all rest
  pub comes : Comes work s (work_of i rest) store
  pub gets_on : GetsOn comes.steps (rest_length rest) left

-- what the one walk tells that has stopped for good; a step leads to no other stop
abbrev pub TellsStop : Type 0 → Instance → List Entry → Store → Store → List Item → Store → StoreTerm → Stop → Type 0
TellsStop A i T l r work s u (At q) = ⊥
TellsStop A i T l r work s u Halted = HaltsThere i T l r work s u
TellsStop A i T l r work s u (Stuck k) = StuckThere A i T l r work s u k

-- what the one walk tells, by how it goes on
abbrev pub Onward : Type 0 → Instance → List Entry → Store → Store → List Rest → ℕ → List Item → Store → StoreTerm → Next → Type 0
Onward A i T l r all left work s u (stops stop) = TellsStop A i T l r work s u stop
Onward A i T l r all left work s u (goes rest) = StandsBefore i T l r all left work s u rest

abbrev pub is_true : Instance → List Entry → Store → Store → Walk → Bool
is_true i T l r w = list_all (literal_truth i T l r) w.literals

-- of the walks of one step from work in the store s, one is true
pub record OneStep (A : Type 0) (i : Instance) (T : List Entry) (l r : Store) (all : List Rest) (left : ℕ) (work : List Item) (s : Store) (found : List Walk) : Type 0 where
  pub literals : List Literal
  pub store : StoreTerm
  pub next : Next
  pub only : filter (is_true i T l r) found ≡ record { literals = literals; store = store; next = next } ∷ []
  pub onward : Onward A i T l r all left work s store next

either_stands : (all : List Rest) (b : Bool) (yes_rest no_rest : Rest) → Stands all yes_rest → Stands all no_rest → Stands all (cond b yes_rest no_rest)
either_stands all true yes_rest no_rest h g = h
either_stands all false yes_rest no_rest h g = g

-- ---- where the filled statement brings the run
module _ (i : Instance) (s : Store) where
  assert_comes : (t : Test) (behind : Rest) → truth (fill_test i t) s ≡ true → ComesByStep (act (assert_that (fill_test i t)) ∷ work_of i behind) s (work_of i behind) s
  unfolding step
  assert_comes t behind e =
      let first : List Item = act (assert_that (fill_test i t)) ∷ work_of i behind in
      subst (λ w. ComesByStep first s w s) (ap (λ b. cond b (work_of i behind) (halt ∷ work_of i behind)) e) (one_step (assert_that (fill_test i t)) (work_of i behind) s)

  if_comes : (t : Test) (c d : Block) (k m : ℕ) (behind : Rest) (b : Bool) → truth (fill_test i t) s ≡ b
      → ComesByStep (act (if_then (fill_test i t) (fill i c) (fill i d)) ∷ work_of i behind) s (work_of i (cond b (stretch k c ∷ behind) (stretch m d ∷ behind))) s
  unfolding step
  if_comes t c d k m behind b e =
      let first : List Item = act (if_then (fill_test i t) (fill i c) (fill i d)) ∷ work_of i behind in
      let chosen : List Item = cond (truth (fill_test i t) s) (before (fill i c) (work_of i behind)) (before (fill i d) (work_of i behind)) in
      let one : ComesByStep first s chosen s = one_step (if_then (fill_test i t) (fill i c) (fill i d)) (work_of i behind) s in
      subst (λ w. ComesByStep first s w s) (ap (λ x. cond x (before (fill i c) (work_of i behind)) (before (fill i d) (work_of i behind))) e ∙ chosen_work b) one
    where
      chosen_work : (x : Bool) → cond x (before (fill i c) (work_of i behind)) (before (fill i d) (work_of i behind)) ≡ work_of i (cond x (stretch k c ∷ behind) (stretch m d ∷ behind))
      chosen_work true = sym (filled_work_by_parts i c (rest_statements behind) [])
      chosen_work false = sym (filled_work_by_parts i d (rest_statements behind) [])

  while_comes : (t : Test) (c : Block) (k : ℕ) (here behind : Rest) (b : Bool) → truth (fill_test i t) s ≡ b → work_of i here ≡ act (while_do (fill_test i t) (fill i c)) ∷ work_of i behind
      → ComesByStep (work_of i here) s (work_of i (cond b (stretch k c ∷ here) behind)) s
  unfolding step
  while_comes t c k here behind b e same =
      let first : List Item = act (while_do (fill_test i t) (fill i c)) ∷ work_of i behind in
      let chosen : List Item = cond (truth (fill_test i t) s) (before (fill i c) first) (work_of i behind) in
      let one : ComesByStep first s chosen s = one_step (while_do (fill_test i t) (fill i c)) (work_of i behind) s in
      let chosen_is : chosen ≡ cond b (before (fill i c) (work_of i here)) (work_of i behind) =
      λ j. cond (e j) (before (fill i c) (sym same j)) (work_of i behind) in
      subst (λ w. ComesByStep w s (work_of i (cond b (stretch k c ∷ here) behind)) s) (sym same) (subst (λ w. ComesByStep first s w s) (chosen_is ∙ chosen_work b) one)
    where
      chosen_work : (x : Bool) → cond x (before (fill i c) (work_of i here)) (work_of i behind) ≡ work_of i (cond x (stretch k c ∷ here) behind)
      chosen_work true = sym (filled_work_by_parts i c (rest_statements here) [])
      chosen_work false = refl

-- ---- the literals so far are true
module _ (A : Type 0) (i : Instance) (T : List Entry) (l r : Store) (faithful : Faithful A i T) (all : List Rest) (ls : List Literal) (u : StoreTerm) (s : Store) (so_far : list_all (literal_truth i T l r) ls ≡ true) (is_s : store_of i T l r u ≡ Some s) where
  more_true : (more : List Literal) → list_all (literal_truth i T l r) (ls ++ more) ≡ list_all (literal_truth i T l r) more
  more_true more = list_all-append (literal_truth i T l r) ls more ∙ truth_goes_on (list_all (literal_truth i T l r) ls) (list_all (literal_truth i T l r) more) so_far

  -- a walk by these literals
  abbrev walk_by : Next → List Literal → Walk
  walk_by next more = record { literals = ls ++ more; store = u; next = next }

  each_next : (found : List (List Literal)) (next : Next) → filter (is_true i T l r) (each_so found ls u next) ≡ map (walk_by next) (filter (list_all (literal_truth i T l r)) found)
  each_next found next = filter-map (list_all (literal_truth i T l r)) (is_true i T l r) (walk_by next) more_true found

  each_true : (found : List (List Literal)) (rest : Rest) → filter (is_true i T l r) (by_each found ls u rest) ≡ map (λ more. stands (ls ++ more) u rest) (filter (list_all (literal_truth i T l r)) found)
  each_true found rest = each_next found (goes rest)

  -- of the outcomes of a test one is true
  test_once : (t : Test) → test_is_open t ≡ true → (yes_rest no_rest : Rest) (b : Bool) → truth (fill_test i t) s ≡ b
      → (z : List Literal) × (filter (is_true i T l r) (by_each (outcomes t true u) ls u yes_rest ++ by_each (outcomes t false u) ls u no_rest) ≡ stands (ls ++ z) u (cond b yes_rest no_rest) ∷ [])
  test_once t h yes_rest no_rest true e =
      let chosen : (z : List Literal) × (filter (list_all (literal_truth i T l r)) (outcomes t true u) ≡ z ∷ []) = true_outcome i T l r u s is_s t h true e in
      let others : filter (list_all (literal_truth i T l r)) (outcomes t false u) ≡ [] = no_true_outcome i T l r u s is_s t h false (ap not e) in (
        chosen.0,
        in_first (is_true i T l r) (by_each (outcomes t true u) ls u yes_rest) (by_each (outcomes t false u) ls u no_rest) _
            (each_true (outcomes t true u) yes_rest ∙ ap (map (λ more. stands (ls ++ more) u yes_rest)) chosen.1)
            (each_true (outcomes t false u) no_rest ∙ ap (map (λ more. stands (ls ++ more) u no_rest)) others),
      )
  test_once t h yes_rest no_rest false e =
      let chosen : (z : List Literal) × (filter (list_all (literal_truth i T l r)) (outcomes t false u) ≡ z ∷ []) = true_outcome i T l r u s is_s t h false (ap not e) in
      let others : filter (list_all (literal_truth i T l r)) (outcomes t true u) ≡ [] = no_true_outcome i T l r u s is_s t h true e in (
        chosen.0,
        in_second (is_true i T l r) (by_each (outcomes t true u) ls u yes_rest) (by_each (outcomes t false u) ls u no_rest) _
            (each_true (outcomes t true u) yes_rest ∙ ap (map (λ more. stands (ls ++ more) u yes_rest)) others)
            (each_true (outcomes t false u) no_rest ∙ ap (map (λ more. stands (ls ++ more) u no_rest)) chosen.1),
      )

  put_means : (x : Name) (is : Exprs) (e : Expr) → (is_open x && (all_names_are_open is && names_are_open e)) ≡ true
      → store_of i T l r (term.put u (number_of x) (values_at is u) (value_at e u)) ≡ Some (write s (spelled (fill_name i x), values (fill_exprs i is) s) (value (fill_expr i e) s))
  unfolding store_of
  put_means x is e h =
      λ j. put_in (is_s j) (name_means i x (and_parts _ _ h).0 j, values_at_mean i T l r u s is_s is (and_parts _ _ (and_parts _ _ h).1).0 j)
      (value_at_means i T l r u s is_s e (and_parts _ _ (and_parts _ _ h).1).1 j)

  ends_literal : (sign : Bool) (k : ℕ) (o : Option Store) → store_of i T l r (run k u) ≡ o → list_all (literal_truth i T l r) (ls ++ record { sign = sign; atom = Ends (run k u) } ∷ []) ≡ (signed sign (is_some o) && true)
  unfolding atom_truth
  ends_literal sign k o e = more_true (record { sign = sign; atom = Ends (run k u) } ∷ []) ∙ ap (λ p. signed sign (is_some p) && true) e

  by_some_step : (left : ℕ) (work : List Item) (v : StoreTerm) (m : Store) (rest : Rest) → store_of i T l r v ≡ Some m → Stands all rest → ComesByStep work s (work_of i rest) m → StandsBefore i T l r all left work s v rest
  by_some_step left work v m rest e h c = record { store = m; means = e; placed = h; comes = c.comes; gets_on = inl c.some }

  -- an `assert`, by its truth
  assert_once : (t : Test) → test_is_open t ≡ true → (behind : Rest) → Stands all behind → (b : Bool) → truth (fill_test i t) s ≡ b
      → OneStep A i T l r all (suc (rest_length behind)) (act (assert_that (fill_test i t)) ∷ work_of i behind) s (by_each (outcomes t true u) ls u behind ++ each_so (outcomes t false u) ls u (stops Halted))
  assert_once t h behind placed true e =
      let chosen : (z : List Literal) × (filter (list_all (literal_truth i T l r)) (outcomes t true u) ≡ z ∷ []) = true_outcome i T l r u s is_s t h true e in
      let others : filter (list_all (literal_truth i T l r)) (outcomes t false u) ≡ [] = no_true_outcome i T l r u s is_s t h false (ap not e) in
      record {
        literals = ls ++ chosen.0;
        store = u;
        next = goes behind;
        only =
            in_first (is_true i T l r) (by_each (outcomes t true u) ls u behind) (each_so (outcomes t false u) ls u (stops Halted)) _
            (each_next (outcomes t true u) (goes behind) ∙ ap (map (walk_by (goes behind))) chosen.1)
            (each_next (outcomes t false u) (stops Halted) ∙ ap (map (walk_by (stops Halted))) others);
        onward = by_some_step _ _ u s behind is_s placed (assert_comes i s t behind e);
      }
  assert_once t h behind placed false e =
      let chosen : (z : List Literal) × (filter (list_all (literal_truth i T l r)) (outcomes t false u) ≡ z ∷ []) = true_outcome i T l r u s is_s t h false (ap not e) in
      let others : filter (list_all (literal_truth i T l r)) (outcomes t true u) ≡ [] = no_true_outcome i T l r u s is_s t h true e in
      record {
        literals = ls ++ chosen.0;
        store = u;
        next = stops Halted;
        only =
            in_second (is_true i T l r) (by_each (outcomes t true u) ls u behind) (each_so (outcomes t false u) ls u (stops Halted)) _
            (each_next (outcomes t true u) (goes behind) ∙ ap (map (walk_by (goes behind))) others)
            (each_next (outcomes t false u) (stops Halted) ∙ ap (map (walk_by (stops Halted))) chosen.1);
        onward = record { store = s; means = is_s; halts = assert_halts (fill_test i t) s (work_of i behind) e };
      }

  -- a statement parameter, by what the table says of its run; it may stand for the empty block, but is no longer left
  par_once : (k : ℕ) (behind : Rest) → Stands all behind → (o : Option Store) → store_of i T l r (run k u) ≡ o → Agrees A i k s o
      → OneStep A i T l r all (suc (rest_length behind)) (before (append (block_at i k) (fill i (rest_statements behind))) []) s (
      stands (ls ++ record { sign = true; atom = Ends (run k u) } ∷ []) (run k u) behind
      ∷ record { literals = ls ++ record { sign = false; atom = Ends (run k u) } ∷ []; store = u; next = stops (Stuck k) } ∷ [])
  par_once k behind h None e said = record {
    literals = ls ++ record { sign = false; atom = Ends (run k u) } ∷ [];
    store = u;
    next = stops (Stuck k);
    only = second_of_two (is_true i T l r) _ _ (ends_literal true k None e) (ends_literal false k None e);
    onward =
        let parts : before (append (block_at i k) (fill i (rest_statements behind))) [] ≡ before (block_at i k) [] ++ work_of i behind =
        before-append (block_at i k) (fill i (rest_statements behind)) [] ∙ before-split (block_at i k) (work_of i behind) in
        record {
          store = s;
          means = is_s;
          never_ends = λ t reached.
              let way : Through (before (block_at i k) []) (work_of i behind) s (ended t) = through (before (block_at i k) []) (work_of i behind) s t (subst (λ w. Reaches w s (ended t)) parts reached) in
              said way.between way.front;
          halts_by_it = λ t reached.
              elim (halts_through (before (block_at i k) []) (work_of i behind) s t (subst (λ w. Reaches w s (halted t)) parts reached)) [
                | inl front ↦ inl front
                | inr way ↦ inr (said way.between way.front)
              ];
          halts = λ t front. subst (λ w. Reaches w s (halted t)) (sym parts) (reaches_halt (before (block_at i k) []) (work_of i behind) s t front);
        };
  }
  par_once k behind h (Some m) e said = record {
    literals = ls ++ record { sign = true; atom = Ends (run k u) } ∷ [];
    store = run k u;
    next = goes behind;
    only = first_of_two (is_true i T l r) _ _ (ends_literal true k (Some m) e) (ends_literal false k (Some m) e);
    onward =
        let parts : before (append (block_at i k) (fill i (rest_statements behind))) [] ≡ before (block_at i k) [] ++ work_of i behind =
        before-append (block_at i k) (fill i (rest_statements behind)) [] ∙ before-split (block_at i k) (work_of i behind) in
        record {
          store = m;
          means = e;
          placed = h;
          comes = subst (λ w. Comes w s (work_of i behind) m) (sym parts) (done_comes (before (block_at i k) []) (work_of i behind) s m said);
          gets_on = inr (omega arith);
        };
  }

  run_said : (k : ℕ) → CoversStore i T l r (run k u) → Agrees A i k s (store_of i T l r (run k u))
  run_said k c = subst (λ o. AgreesAt A i k o (store_of i T l r (run k u))) is_s (run_agrees A i T l r faithful k u c)

  stmt_once : (n : ℕ) (a : Stmt) (b : Block) (rest : Rest) → PlacedStmt all n a (stretch n (stmt a b) ∷ rest) (stretch (n + stmt_count a) b ∷ rest)
      → Stands all (stretch n (stmt a b) ∷ rest) → Stands all (stretch (n + stmt_count a) b ∷ rest) → CoversRun i T l r a u
      → OneStep A i T l r all (rest_length (stretch n (stmt a b) ∷ rest)) (work_of i (stretch n (stmt a b) ∷ rest)) s (stmt_step n a (stretch n (stmt a b) ∷ rest) (stretch (n + stmt_count a) b ∷ rest) ls u)
  unfolding stmt_step fill fill_stmt step
  stmt_once n skip b rest h here behind c = record {
    literals = ls;
    store = u;
    next = goes (stretch (n + 0) b ∷ rest);
    only = only_one (is_true i T l r) (stands ls u (stretch (n + 0) b ∷ rest)) so_far;
    onward = by_some_step _ _ u s (stretch (n + 0) b ∷ rest) is_s behind (one_step skip (work_of i (stretch (n + 0) b ∷ rest)) s);
  }
  stmt_once n (put x is e) b rest h here behind c = record {
    literals = ls;
    store = term.put u (number_of x) (values_at is u) (value_at e u);
    next = goes (stretch (n + 0) b ∷ rest);
    only = only_one (is_true i T l r) (stands ls (term.put u (number_of x) (values_at is u) (value_at e u)) (stretch (n + 0) b ∷ rest)) so_far;
    onward =
        by_some_step _ _ (term.put u (number_of x) (values_at is u) (value_at e u)) (write s (spelled (fill_name i x), values (fill_exprs i is) s) (value (fill_expr i e) s))
        (stretch (n + 0) b ∷ rest) (put_means x is e h.names) behind (one_step (put (fill_name i x) (fill_exprs i is) (fill_expr i e)) (work_of i (stretch (n + 0) b ∷ rest)) s);
  }
  stmt_once n (assert_that t) b rest h here behind k = assert_once t h.names (stretch (n + 0) b ∷ rest) behind (truth (fill_test i t) s) refl
  stmt_once n (if_then t c d) b rest h here behind k =
      let after : Rest = stretch (n + (point_count c + point_count d)) b ∷ rest in
      let way : Bool = truth (fill_test i t) s in
      let one : (z : List Literal) × (filter (is_true i T l r) (by_each (outcomes t true u) ls u (stretch n c ∷ after) ++ by_each (outcomes t false u) ls u (stretch (n + point_count c) d ∷ after)) ≡ stands (ls ++ z) u (cond way (stretch n c ∷ after) (stretch (n + point_count c) d ∷ after)) ∷ []) =
      test_once t (and_parts _ _ h.names).0 (stretch n c ∷ after) (stretch (n + point_count c) d ∷ after) way refl in
      record {
        literals = ls ++ one.0;
        store = u;
        next = goes (cond way (stretch n c ∷ after) (stretch (n + point_count c) d ∷ after));
        only = one.1;
        onward =
            by_some_step _ _ u s (cond way (stretch n c ∷ after) (stretch (n + point_count c) d ∷ after)) is_s
            (either_stands all way (stretch n c ∷ after) (stretch (n + point_count c) d ∷ after)
            (first_block_placed all n t c d (stretch n (stmt (if_then t c d) b) ∷ rest) after h, behind) (second_block_placed all n t c d (stretch n (stmt (if_then t c d) b) ∷ rest) after h, behind))
            (if_comes i s t c d n (n + point_count c) after way refl);
      }
  stmt_once n (while_do t c) b rest h here behind k =
      let before_it : Rest = stretch n (stmt (while_do t c) b) ∷ rest in
      let after : Rest = stretch (n + suc (point_count c)) b ∷ rest in
      let way : Bool = truth (fill_test i t) s in
      let one : (z : List Literal) × (filter (is_true i T l r) (by_each (outcomes t true u) ls u (stretch (suc n) c ∷ before_it) ++ by_each (outcomes t false u) ls u after) ≡ stands (ls ++ z) u (cond way (stretch (suc n) c ∷ before_it) after) ∷ []) =
      test_once t (and_parts _ _ h.names).0 (stretch (suc n) c ∷ before_it) after way refl in
      record {
        literals = ls ++ one.0;
        store = u;
        next = goes (cond way (stretch (suc n) c ∷ before_it) after);
        only = one.1;
        onward =
            by_some_step _ _ u s (cond way (stretch (suc n) c ∷ before_it) after) is_s
            (either_stands all way (stretch (suc n) c ∷ before_it) after (body_placed all n t c before_it after h, here) behind)
            (while_comes i s t c (suc n) before_it after way refl refl);
      }
  stmt_once n (for_to x lo hi c) b rest h here behind k = absurd (true≢false h.plain)
  stmt_once n (let_in x e c) b rest h here behind k = absurd (true≢false h.plain)
  stmt_once n (par_stmt j) b rest h here behind c = par_once j (stretch (n + 1) b ∷ rest) behind (store_of i T l r (run j u)) refl (run_said j c)

  pub rest_once : (rest : Rest) → Stands all rest → Moves rest → CoversNext i T l r rest u → OneStep A i T l r all (rest_length rest) (work_of i rest) s (rest_step rest ls u)
  rest_once [] h m c = absurd m
  rest_once (stretch n empty ∷ rest) h m c = rest_once rest h.1 m c
  rest_once (stretch n (stmt a b) ∷ rest) h m c = stmt_once n a b rest (first_placed all n a b rest h.0) h (behind_placed all n a b rest h.0, h.1) c

-- ---- the literals so far are not all true
module _ (i : Instance) (T : List Entry) (l r : Store) (ls : List Literal) (u : StoreTerm) (so_far : list_all (literal_truth i T l r) ls ≡ false) where
  more_false : (more : List Literal) → list_all (literal_truth i T l r) (ls ++ more) ≡ false
  more_false more = list_all-append (literal_truth i T l r) ls more ∙ still_false (list_all (literal_truth i T l r) ls) (list_all (literal_truth i T l r) more) so_far

  none_next : (found : List (List Literal)) (next : Next) → filter (is_true i T l r) (each_so found ls u next) ≡ []
  none_next found next = none_made (list_all (literal_truth i T l r)) (is_true i T l r) (λ more. record { literals = ls ++ more; store = u; next = next }) more_false found

  none_each : (found : List (List Literal)) (rest : Rest) → filter (is_true i T l r) (by_each found ls u rest) ≡ []
  none_each found rest = none_next found (goes rest)

  stmt_never : (n : ℕ) (a : Stmt) (here behind : Rest) → filter (is_true i T l r) (stmt_step n a here behind ls u) ≡ []
  unfolding stmt_step
  stmt_never n skip here behind = not_one (is_true i T l r) (stands ls u behind) so_far
  stmt_never n (put x is e) here behind = not_one (is_true i T l r) (stands ls (term.put u (number_of x) (values_at is u) (value_at e u)) behind) so_far
  stmt_never n (assert_that t) here behind = in_neither (is_true i T l r) _ _ (none_each (outcomes t true u) behind) (none_next (outcomes t false u) (stops Halted))
  stmt_never n (if_then t c d) here behind =
      in_neither (is_true i T l r) _ _ (none_each (outcomes t true u) (stretch n c ∷ behind)) (none_each (outcomes t false u) (stretch (n + point_count c) d ∷ behind))
  stmt_never n (while_do t c) here behind =
      in_neither (is_true i T l r) _ _ (none_each (outcomes t true u) (stretch (suc n) c ∷ here)) (none_each (outcomes t false u) behind)
  stmt_never n (for_to x lo hi c) here behind = refl
  stmt_never n (let_in x e c) here behind = refl
  stmt_never n (par_stmt k) here behind = none_of_two (is_true i T l r) _ _ (more_false _) (more_false _)

  pub rest_never : (rest : Rest) → filter (is_true i T l r) (rest_step rest ls u) ≡ []
  rest_never [] = refl
  rest_never (stretch n empty ∷ rest) = rest_never rest
  rest_never (stretch n (stmt a b) ∷ rest) = stmt_never n a (stretch n (stmt a b) ∷ rest) (stretch (n + stmt_count a) b ∷ rest)
