-- A relation of which each obligation holds proves its rule: the simulation goes from left to right, and from right to left.
use Rattle.std.specs.Prelude.{◌≡◌, ℕ, Bool, true, false, ◌&&◌, ◌==◌, List, [], ◌∷◌, map, Some, slice_get, refl}
use Rattle.std.specs.List.{list_all}
use Rattle.std.proofs.Common.{sym, ◌∙◌, ap, subst, eqb-true}
use Rattle.std.proofs.lemmas.Bool.{and_parts}
use Rattle.toy_imp.specs.declared.instance.Instance.{Instance}
use Rattle.toy_imp.specs.declared.rule.Rule.{Rule}
use Rattle.toy_imp.specs.Block.{Block}
use Rattle.toy_imp.specs.Ends.{Reaches, ComesOut}
use Rattle.toy_imp.specs.Faults.{well_formed, is_simulate, has_scope}
use Rattle.toy_imp.specs.Fill.{fill}
use Rattle.toy_imp.specs.Meets.{MeetsAll}
use Rattle.toy_imp.specs.Points.{exit_point}
use Rattle.toy_imp.specs.Run.{Item, before, Outcome, ended, run}
use Rattle.toy_imp.specs.Store.{Store}
use Rattle.toy_imp.specs.Valid.{Valid}
use Rattle.toy_imp.proofs.Runs.{one_outcome}
use Rattle.term_meaning.specs.MaybeStore.{same_option}
use Rattle.term_meaning.specs.Table as table
use Rattle.term_meaning.specs.Meaning.{store_of, atom_truth, conjunct_truth, CoversStore, CoversAtom, fits_kinds, Reached}
use Rattle.term_meaning.proofs.Agreeing.{some_equal}
use Rattle.term_meaning.proofs.InUse.{kinds_fit}
use Rattle.term_meaning.proofs.SameStores.{same_self, option_equal}
use Rattle.path_pairs.specs.declared.cut_points.CutPoints.{CutPoints}
use Rattle.path_pairs.specs.declared.cut_points.Side.TheVariants.{Left, Right}
use Rattle.path_pairs.specs.PathLaws.{left_count, work_at}
use Rattle.path_pairs.proofs.Comings.{comes_self, reaches_before, run_behind}
use Rattle.path_pairs.proofs.OnePaths.{all_is_left_at_start, run_ends_at_exit}
use Rattle.path_pairs.proofs.OpenSides.{sides_have_no_scope}
use Rattle.spot_obligations.specs.declared.entry.Entry.{Entry}
use Rattle.rule_terms.specs.Goals.{sides_equal}
use Rattle.spot_obligations.specs.PathsOfEntry.{is_exit}
use Rattle.rule_simulation.specs.Shown.{plain, Shown}
use Rattle.rule_simulation.proofs.Outcomes.{comes_out, coded, told}
use Rattle.rule_simulation.proofs.Meeting.{Related, meet}
use Rattle.rule_simulation.proofs.Simulation.{GoesOn, Stops, simulate}

-- ---- where a simulation starts, and where it ends
starts : (A : Type 0) (i : Instance) (entries : List Entry) (s : Store) → slice_get entries 0 ≡ Some (plain (0, 0)) → Related A i entries (plain (0, 0)) s s
unfolding store_of atom_truth CoversStore CoversAtom
starts A i entries s there = record {
  number = 0;
  there = there;
  runs = [];
  faithful = tt;
  covered = ((tt, (tt, tt)), tt);
  holds = λ j. same_self s j && true;
}

equal_sides : (i : Instance) (T : List table.Entry) (l r : Store) → list_all (conjunct_truth i T l r) (sides_equal ∷ []) ≡ true → l ≡ r
unfolding store_of atom_truth
equal_sides i T l r h =
    let p = and_parts (same_option (Some l) (Some r)) true h in
    some_equal l r (option_equal (Some l) (Some r) p.0)

ends_here : (i : Instance) (side : Block) → has_scope side ≡ false → (p : ℕ) → p ≡ exit_point side → (s : Store) → Reaches (work_at i side p) s (ended s)
ends_here i side unscoped p at_exit s =
    subst (λ q. Reaches (work_at i side q) s (ended s)) (sym at_exit) (run_ends_at_exit i side unscoped (work_at i side (exit_point side)) s s (comes_self (work_at i side (exit_point side)) s))

-- one side has ended in a store, and the other in the same: what comes out of the one comes out of the other
end_carries : (here there : List Item) (l r : Store) (o : Outcome) → l ≡ r → Reaches here l (ended l) → Reaches there r (ended r) → Reaches here l o → Reaches there r o
end_carries here there l r o same one_ends other_ends runs =
    subst (λ p. Reaches there r p) (ap ended (sym same) ∙ one_outcome here l (ended l) o one_ends runs) other_ends

module _ (rule : Rule) (points : CutPoints) (entries : List Entry) (well : well_formed rule ≡ true) (simulates : is_simulate rule.method ≡ true) (shown : Shown rule points entries)
    (i : Instance) (fits_here : fits_kinds (map (λ p. p.kind) rule.params) i.fillings ≡ true) (meets : MeetsAll i rule.conditions) where
  record AtExits (e : Entry) (l r : Store) : Type 0 where
    same : l ≡ r
    left_ends : Reaches (work_at i rule.left e.left) l (ended l)
    right_ends : Reaches (work_at i rule.right e.right) r (ended r)

  -- at the exits both sides have ended, in one store
  at_exits : (A : Type 0) (e : Entry) (l r : Store) → Related A i entries e l r → is_exit rule e ≡ true → AtExits e l r
  at_exits A e l r related is_last =
      let p = and_parts (e.left == exit_point rule.left) (e.right == exit_point rule.right) is_last in
      let only = shown.at_exits related.number e related.there is_last in
      record {
        same = equal_sides i related.runs l r ((λ j. list_all (conjunct_truth i related.runs l r) (sym only j)) ∙ related.holds);
        left_ends = ends_here i rule.left (sides_have_no_scope rule Left well simulates) e.left (eqb-true e.left (exit_point rule.left) p.0) l;
        right_ends = ends_here i rule.right (sides_have_no_scope rule Right well simulates) e.right (eqb-true e.right (exit_point rule.right) p.1) r;
      }

  module _ (f : ℕ → Bool) (o : Outcome) where
    -- the two sides at a place: how a run of each comes out
    abbrev LeftRuns : Entry → Store → ℕ → Type 0
    LeftRuns e s n = run n (work_at i rule.left e.left) s ≡ Some o

    abbrev RightRuns : Entry → Store → ℕ → Type 0
    RightRuns e s n = run n (work_at i rule.right e.right) s ≡ Some o

    abbrev LeftHas : Entry → Store → Type 0
    LeftHas e s = Reaches (work_at i rule.left e.left) s o

    abbrev RightHas : Entry → Store → Type 0
    RightHas e s = Reaches (work_at i rule.right e.right) s o

    abbrev left_place : Entry → ℕ
    left_place e = left_count rule.left e.left

    abbrev right_place : Entry → ℕ
    right_place e = left_count rule.right e.right

    abbrev Relates : Entry → Store → Store → Type 0
    Relates e l r = Related (Reached f) i entries e l r

    abbrev RelatesBack : Entry → Store → Store → Type 0
    RelatesBack e r l = Related (Reached f) i entries e l r

    -- ---- from left to right
    right_turn : (e : Entry) (l r : Store) → Relates e l r → GoesOn Entry Store (Reached f) LeftRuns RightHas left_place Relates e l r → Stops Entry Store (Reached f) LeftRuns RightHas left_place Relates e l r
        → (b : Bool) → is_exit rule e ≡ b → Reached f
    right_turn e l r related goes stops true is_last =
        let at = at_exits (Reached f) e l r related is_last in
        stops (λ n runs ret. ret (end_carries (work_at i rule.left e.left) (work_at i rule.right e.right) l r o at.same at.left_ends at.right_ends (record { steps = n; reached = runs })))
    right_turn e l r related goes stops false inside =
        meet f i rule points entries well simulates fits_here meets shown e l r related inside
        (λ g m n next on_left on_right.
        goes g m n next on_left.comes.steps on_left.gets_on
        (λ k runs. run_behind on_left.comes.steps k (work_at i rule.left e.left) l o (record { store = m; work = work_at i rule.left g.left }) on_left.comes.there runs)
        (λ h. reaches_before (work_at i rule.right e.right) (work_at i rule.right g.right) r n o on_right.comes h))
        (λ both. stops (λ n runs ret. both.carries o (record { steps = n; reached = runs }) ret))

    right_has : (e : Entry) (l r : Store) → Relates e l r → (k : ℕ) → LeftRuns e l k → (RightHas e r → Reached f) → Reached f
    right_has =
        simulate Entry Store (Reached f) LeftRuns RightHas left_place Relates
        (λ e l r related goes stops. right_turn e l r related goes stops (is_exit rule e) refl)

    -- ---- from right to left
    left_turn : (e : Entry) (r l : Store) → RelatesBack e r l → GoesOn Entry Store (Reached f) RightRuns LeftHas right_place RelatesBack e r l → Stops Entry Store (Reached f) RightRuns LeftHas right_place RelatesBack e r l
        → (b : Bool) → is_exit rule e ≡ b → Reached f
    left_turn e r l related goes stops true is_last =
        let at = at_exits (Reached f) e l r related is_last in
        stops (λ n runs ret. ret (end_carries (work_at i rule.right e.right) (work_at i rule.left e.left) r l o (sym at.same) at.right_ends at.left_ends (record { steps = n; reached = runs })))
    left_turn e r l related goes stops false inside =
        meet f i rule points entries well simulates fits_here meets shown e l r related inside
        (λ g m n next on_left on_right.
        goes g n m next on_right.comes.steps on_right.gets_on
        (λ k runs. run_behind on_right.comes.steps k (work_at i rule.right e.right) r o (record { store = n; work = work_at i rule.right g.right }) on_right.comes.there runs)
        (λ h. reaches_before (work_at i rule.left e.left) (work_at i rule.left g.left) l m o on_left.comes h))
        (λ both. stops (λ n runs ret. both.carries_back o (record { steps = n; reached = runs }) ret))

    left_has : (e : Entry) (r l : Store) → RelatesBack e r l → (k : ℕ) → RightRuns e r k → (LeftHas e l → Reached f) → Reached f
    left_has =
        simulate Entry Store (Reached f) RightRuns LeftHas right_place RelatesBack
        (λ e r l related goes stops. left_turn e r l related goes stops (is_exit rule e) refl)

  -- ---- from the starts
  to_right : (s : Store) (o : Outcome) → ComesOut (fill i rule.left) s o → ComesOut (fill i rule.right) s o
  to_right s o comes =
      let goal : List Item = before (fill i rule.right) [] in
      let f = comes_out goal s o in
      told goal s o
      (right_has f o (plain (0, 0)) s s (starts (Reached f) i entries s shown.start) comes.steps
      (ap (λ w. run comes.steps w s) (all_is_left_at_start i rule.left) ∙ comes.reached)
      (λ h. coded goal s o (subst (λ w. Reaches w s o) (all_is_left_at_start i rule.right) h)))

  to_left : (s : Store) (o : Outcome) → ComesOut (fill i rule.right) s o → ComesOut (fill i rule.left) s o
  to_left s o comes =
      let goal : List Item = before (fill i rule.left) [] in
      let f = comes_out goal s o in
      told goal s o
      (left_has f o (plain (0, 0)) s s (starts (Reached f) i entries s shown.start) comes.steps
      (ap (λ w. run comes.steps w s) (all_is_left_at_start i rule.right) ∙ comes.reached)
      (λ h. coded goal s o (subst (λ w. Reaches w s o) (all_is_left_at_start i rule.left) h)))

pub shown_is_valid : (rule : Rule) (points : CutPoints) (entries : List Entry) → well_formed rule ≡ true → is_simulate rule.method ≡ true → Shown rule points entries → Valid rule
shown_is_valid rule points entries well simulates shown = record {
  same = λ i fits_rule meets.
      let kinds : fits_kinds (map (λ p. p.kind) rule.params) i.fillings ≡ true = kinds_fit rule.params i.fillings ∙ fits_rule in
      record { to = to_right rule points entries well simulates shown i kinds meets; back = to_left rule points entries well simulates shown i kinds meets };
}
