-- One turn of the simulation. At an entry, with its conjuncts true under some table of runs, each side's run goes along one path;
-- the obligations of this pair of paths say what is true where they stop.
use Rattle.std.specs.Prelude.{◌≡◌, ℕ, zero, suc, Bool, true, false, cond, not, ◌&&◌, List, [], ◌∷◌, ◌++◌, map, take, Option, Some, None, slice_get, is_none, ◌==◌, refl}
use Rattle.std.specs.List.{list_all}
use Rattle.std.proofs.Common.{sym, ◌∙◌, ap, subst, eqb-true}
use Rattle.std.proofs.lemmas.Bool.{and_parts}
use Rattle.toy_imp.specs.declared.instance.Instance.{Instance}
use Rattle.toy_imp.specs.declared.rule.Rule.{Rule}
use Rattle.toy_imp.specs.Block.{Block}
use Rattle.toy_imp.specs.Ends.{Reaches}
use Rattle.toy_imp.specs.Faults.{well_formed, is_simulate}
use Rattle.toy_imp.specs.Meets.{MeetsAll}
use Rattle.toy_imp.specs.Run.{Outcome}
use Rattle.toy_imp.specs.Store.{Store}
use Rattle.rule_terms.specs.Term.{StoreTerm}
use Rattle.rule_terms.specs.Substitute.{store_at, atom_at, conjunct_at}
use Rattle.rule_terms.specs.declared.limit.LimitKind.{LimitKind}
use Rattle.rule_terms.specs.declared.obligation.Conjunct.{Conjunct}
use Rattle.rule_terms.specs.declared.obligation.Literal.{Literal}
use Rattle.rule_terms.specs.declared.path.Path.{Path}
use Rattle.rule_terms.specs.declared.path.Stop.{Stop}
use Rattle.rule_terms.specs.declared.path.Stop.TheVariants.{At, Halted, Stuck}
use Rattle.term_meaning.specs.Table as table
use Rattle.term_meaning.specs.Meaning.{store_of, atom_truth, literal_truth, conjunct_truth, CoversStore, CoversAtom, CoversLiterals, CoversConjunct, CoversConjuncts, fits_kinds, Reached}
use Rattle.term_meaning.proofs.Assuming.{extend_literals, extend_conjuncts}
use Rattle.term_meaning.proofs.Growth.{store_kept, covers_kept, literals_kept, covers_literals_kept, conjuncts_kept, covers_conjuncts_kept}
use Rattle.term_meaning.proofs.InUse.{gives_goal}
use Rattle.term_meaning.proofs.SameStores.{option_equal}
use Rattle.term_meaning.proofs.Substituting.{conjunct_put, covers_conjunct_put}
use Rattle.parallel_wp.specs.Precondition.{both_literals, goal_at}
use Rattle.path_pairs.specs.declared.cut_points.CutPoints.{CutPoints}
use Rattle.path_pairs.specs.declared.cut_points.Side.TheVariants.{Left, Right}
use Rattle.path_pairs.specs.Paths.{path_limit}
use Rattle.path_pairs.specs.Comes.{Comes}
use Rattle.path_pairs.specs.PathLaws.{GetsOn, StopsAt, HaltsThere, StuckThere, Tells, left_count, work_at}
use Rattle.path_pairs.specs.RulePaths.{TellsPaths, OnePlace, literals_of, CoversPath, CoversPaths}
use Rattle.path_pairs.proofs.RulePaths.{rule_path_law, one_place, covers_each_list, literals_cover_paths}
use Rattle.entry_pairs.proofs.AllPassing.{all_both}
use Rattle.spot_obligations.specs.declared.entry.Entry.{Entry}
use Rattle.rule_terms.specs.Goals.{sides_equal, falsehood}
use Rattle.spot_obligations.specs.Owed.{Owed, one, nothing, is_quiet, stands_at, entry_at, arrival, owed, owed_at}
use Rattle.spot_obligations.specs.PathsOfEntry.{lefts, rights, is_exit, is_walked}
use Rattle.spot_obligations.specs.Obligations.{AtSpot, with_goal, with_right, with_left, among_paths, with_entry, at_spot, obligation_of}
use Rattle.rule_simulation.specs.Shown.{IsOpen, IsShown, Shown}
use Rattle.rule_simulation.proofs.Lookups.{Picked, found, all_take}
use Rattle.rule_simulation.proofs.QuietSaid.{quiet_said}
use Rattle.rule_simulation.proofs.Stopping.{both_halted, both_stuck, quiet_stuck}

-- at an entry: its conjuncts are true under a table that covers them
pub record Related (A : Type 0) (i : Instance) (entries : List Entry) (e : Entry) (l r : Store) : Type 0 where
  pub number : ℕ
  pub there : slice_get entries number ≡ Some e
  pub runs : List table.Entry
  pub faithful : table.Faithful A i runs
  pub covered : CoversConjuncts i runs l r e.conjuncts
  pub holds : list_all (conjunct_truth i runs l r) e.conjuncts ≡ true

module _ (i : Instance) (T : List table.Entry) (l r : Store) where
  take_covered : (n : ℕ) (cs : List Conjunct) → CoversConjuncts i T l r cs → CoversConjuncts i T l r (take n cs)
  take_covered zero cs c = tt
  take_covered (suc n) [] c = tt
  take_covered (suc n) (x ∷ cs) c = (c.0, take_covered n cs c.1)

  covers_both : (xs ys : List Literal) → CoversLiterals i T l r xs → CoversLiterals i T l r ys → CoversLiterals i T l r (xs ++ ys)
  covers_both [] ys c d = d
  covers_both (x ∷ xs) ys c d = (c.0, covers_both xs ys c.1 d)

  -- L = R where two paths stop: covered where their stores are, and true where these are the same
  covers_equal : (a b : StoreTerm) → CoversStore i T l r a → CoversStore i T l r b → CoversConjunct i T l r (conjunct_at a b sides_equal)
  unfolding CoversAtom atom_at store_at
  covers_equal a b c d = (tt, (c, d))

  equal_there : (a b : StoreTerm) → conjunct_truth i T l r (conjunct_at a b sides_equal) ≡ true → store_of i T l r a ≡ store_of i T l r b
  unfolding atom_truth atom_at store_at
  equal_there a b h = option_equal (store_of i T l r a) (store_of i T l r b) h

-- ---- conjuncts where paths arrive
module _ (i : Instance) (T : List table.Entry) (l r : Store) (a b : StoreTerm) (m n : Store) (is_m : store_of i T l r a ≡ Some m) (is_n : store_of i T l r b ≡ Some n) where
  all_put : (cs : List Conjunct) → list_all (conjunct_truth i T l r) (map (conjunct_at a b) cs) ≡ list_all (conjunct_truth i T m n) cs
  all_put [] = refl
  all_put (c ∷ cs) = λ j. conjunct_put i T l r m n a b is_m is_n c j && all_put cs j

  all_covers_put : (cs : List Conjunct) → CoversConjuncts i T l r (map (conjunct_at a b) cs) → CoversConjuncts i T m n cs
  all_covers_put [] c = tt
  all_covers_put (x ∷ cs) c = (covers_conjunct_put i T l r m n a b is_m is_n x c.0, all_covers_put cs c.1)

-- ---- what stands at a spot
pub at_spot_is : (rule : Rule) (points : CutPoints) (entries : List Entry) (k a b : ℕ) (c : Option ℕ) (e : Entry) (l r : Path) (goal : Conjunct)
    → slice_get entries k ≡ Some e → is_walked rule points e ≡ true → slice_get (lefts rule points e) a ≡ Some l → slice_get (rights rule points e) b ≡ Some r
    → owed_at (owed rule.conditions entries l.stop r.stop) c ≡ Some goal
    → at_spot rule points entries (record { entry = k; left = a; right = b; conjunct = c }) ≡ Some (record { known = e.conjuncts; left = l; right = r; goal = goal })
unfolding at_spot among_paths
at_spot_is rule points entries k a b c e l r goal at_entry walked at_left at_right is_goal =
    ap (with_entry rule points entries (record { entry = k; left = a; right = b; conjunct = c })) at_entry
    ∙ ap (λ w. cond w (with_left rule entries e.conjuncts (rights rule points e) (record { entry = k; left = a; right = b; conjunct = c }) (slice_get (lefts rule points e) a)) None) walked
    ∙ ap (with_left rule entries e.conjuncts (rights rule points e) (record { entry = k; left = a; right = b; conjunct = c })) at_left
    ∙ ap (with_right rule entries e.conjuncts l c) at_right
    ∙ ap (with_goal e.conjuncts l r) is_goal

none_is : (o : Option LimitKind) → is_none o ≡ true → o ≡ None
none_is None h = refl
none_is (Some k) h = cc

-- the run of a side comes from one point to another, and gets on
pub record Goes (i : Instance) (side : Block) (p q : ℕ) (s m : Store) : Type 0 where
  pub comes : Comes (work_at i side p) s (work_at i side q) m
  pub gets_on : GetsOn comes.steps (left_count side q) (left_count side p)

goes_to : (i : Instance) (T : List table.Entry) (l r : Store) (side : Block) (p q g : ℕ) (s : Store) (u : StoreTerm) → g ≡ q
    → (at : StopsAt i T l r side (left_count side p) (work_at i side p) s u q) → Goes i side p g s at.store
goes_to i T l r side p q g s u same at =
    subst (λ x. Goes i side p x s at.store) (sym same) (record { comes = at.comes; gets_on = at.gets_on })

module _ (f : ℕ → Bool) (i : Instance) (rule : Rule) (points : CutPoints) (entries : List Entry)
    (well : well_formed rule ≡ true) (simulates : is_simulate rule.method ≡ true)
    (fits : fits_kinds (map (λ p. p.kind) rule.params) i.fillings ≡ true) (meets : MeetsAll i rule.conditions)
    (shown : Shown rule points entries) where
  -- both runs come to another entry
  abbrev pub BothGo : Entry → Store → Store → Type 0
  BothGo e l r = (g : Entry) (m n : Store) → Related (Reached f) i entries g m n → Goes i rule.left e.left g.left l m → Goes i rule.right e.right g.right r n → Reached f

  -- .. or each outcome of the one side the other side has, or there is the answer
  abbrev pub Carries : Entry → Store → Store → Outcome → Type 0
  Carries e l r o = Reaches (work_at i rule.left e.left) l o → (Reaches (work_at i rule.right e.right) r o → Reached f) → Reached f

  abbrev pub CarriesBack : Entry → Store → Store → Outcome → Type 0
  CarriesBack e l r o = Reaches (work_at i rule.right e.right) r o → (Reaches (work_at i rule.left e.left) l o → Reached f) → Reached f

  pub record BothStop (e : Entry) (l r : Store) : Type 0 where
    pub carries : (o : Outcome) → Carries e l r o
    pub carries_back : (o : Outcome) → CarriesBack e l r o

  module _ (k a b : ℕ) (e : Entry) (left right : Path) (at_entry : slice_get entries k ≡ Some e) (walked : is_walked rule points e ≡ true)
      (at_left : slice_get (lefts rule points e) a ≡ Some left) (at_right : slice_get (rights rule points e) b ≡ Some right)
      (l r : Store) where
    -- what is known under a table that covers both paths and the conjuncts of the entry
    record Stands (T : List table.Entry) : Type 0 where
      faithful : table.Faithful (Reached f) i T
      covered : CoversConjuncts i T l r e.conjuncts
      holds : list_all (conjunct_truth i T l r) e.conjuncts ≡ true
      paths_covered : CoversLiterals i T l r (both_literals left right)
      paths_hold : list_all (literal_truth i T l r) (both_literals left right) ≡ true
      left_covered : CoversStore i T l r left.store
      right_covered : CoversStore i T l r right.store

    -- what the two paths owe where they stop
    abbrev owed_here : Owed
    owed_here = owed rule.conditions entries left.stop right.stop

    -- a conjunct that is owed is true where they stop, or there is the answer
    goal_holds : (T : List table.Entry) → Stands T → (c : Option ℕ) (goal : Conjunct) → owed_at owed_here c ≡ Some goal
        → CoversConjunct i T l r (goal_at left right goal) → (conjunct_truth i T l r (goal_at left right goal) ≡ true → Reached f) → Reached f
    unfolding obligation_of
    goal_holds T s c goal is_goal covers ret =
        let there : AtSpot = record { known = e.conjuncts; left = left; right = right; goal = goal } in
        let is : IsShown rule there = shown.spots (record { entry = k; left = a; right = b; conjunct = c }) there (at_spot_is rule points entries k a b c e left right goal at_entry walked at_left at_right is_goal) in
        gives_goal (obligation_of rule (take is.used e.conjuncts) left right goal) is.holds f i fits meets T l r s.faithful
        (take_covered i T l r is.used e.conjuncts s.covered, (s.paths_covered, covers))
        (all_take (conjunct_truth i T l r) is.used e.conjuncts s.holds) s.paths_hold ret

    -- where both paths can't be taken there is the answer
    never_taken : (T : List table.Entry) → Stands T → owed_at owed_here None ≡ Some falsehood → Reached f
    never_taken T s is_goal = goal_holds T s None falsehood is_goal (tt, tt) (λ h. cc)

    -- where L = R is owed the stores of both paths are equal
    equal_here : (T : List table.Entry) → Stands T → owed_at owed_here None ≡ Some sides_equal → (store_of i T l r left.store ≡ store_of i T l r right.store → Reached f) → Reached f
    equal_here T s is_goal ret =
        goal_holds T s None sides_equal is_goal (covers_equal i T l r left.store right.store s.left_covered s.right_covered)
        (λ h. ret (equal_there i T l r left.store right.store h))

    -- ---- both arrive at an entry
    stands_on : (T U : List table.Entry) → Stands T → table.Faithful (Reached f) i U → table.Grows T U → CoversStore i U l r left.store → CoversStore i U l r right.store → Stands U
    stands_on T U s faithful g on_left on_right = record {
      faithful = faithful;
      covered = covers_conjuncts_kept i T U g l r e.conjuncts s.covered;
      holds = conjuncts_kept i T U g l r e.conjuncts s.covered ∙ s.holds;
      paths_covered = covers_literals_kept i T U g l r (both_literals left right) s.paths_covered;
      paths_hold = literals_kept i T U g l r (both_literals left right) s.paths_covered ∙ s.paths_hold;
      left_covered = on_left;
      right_covered = on_right;
    }

    all_hold : (T : List table.Entry) → Stands T → (cs : List Conjunct) → CoversConjuncts i T l r (map (goal_at left right) cs)
        → ((c : ℕ) (goal : Conjunct) → slice_get cs c ≡ Some goal → (n : ℕ) × (owed_at owed_here (Some n) ≡ Some goal))
        → (list_all (conjunct_truth i T l r) (map (goal_at left right) cs) ≡ true → Reached f) → Reached f
    all_hold T s [] covers get ret = ret refl
    all_hold T s (c ∷ cs) covers get ret =
        let here : (n : ℕ) × (owed_at owed_here (Some n) ≡ Some c) = get 0 c refl in
        goal_holds T s (Some here.0) c here.1 covers.0 (λ h.
        all_hold T s cs covers.1 (λ n goal at. get (suc n) goal at) (λ more. ret (λ j. h j && more j)))

    abbrev LeftStops : List table.Entry → ℕ → Type 0
    LeftStops T p = StopsAt i T l r rule.left (left_count rule.left e.left) (work_at i rule.left e.left) l left.store p

    abbrev RightStops : List table.Entry → ℕ → Type 0
    RightStops T q = StopsAt i T l r rule.right (left_count rule.right e.right) (work_at i rule.right e.right) r right.store q

    arrives : (T : List table.Entry) → Stands T → (p q : ℕ) (g : Entry) → entry_at entries p q ≡ Some g → owed_here ≡ arrival (Some g) → LeftStops T p → RightStops T q → BothGo e l r → Reached f
    arrives T s p q g is_entry owes on_left on_right goes =
        extend_conjuncts (Reached f) i l r (map (goal_at left right) g.conjuncts) T s.faithful (λ U faithful grows covers.
        let m_is : store_of i U l r left.store ≡ Some on_left.store = store_kept i T U grows l r left.store s.left_covered ∙ on_left.means in
        let n_is : store_of i U l r right.store ≡ Some on_right.store = store_kept i T U grows l r right.store s.right_covered ∙ on_right.means in
        let here : Stands U = stands_on T U s faithful grows (covers_kept i T U grows l r left.store s.left_covered) (covers_kept i T U grows l r right.store s.right_covered) in
        all_hold U here g.conjuncts covers (λ c goal at. (c, ap (λ what. owed_at what (Some c)) owes ∙ at)) (λ h.
        let at : Picked (stands_at p q) entries g = found (stands_at p q) entries g is_entry in
        let points_are = and_parts (g.left == p) (g.right == q) at.passes in
        goes g on_left.store on_right.store
        (record {
          number = at.number;
          there = at.there;
          runs = U;
          faithful = faithful;
          covered = all_covers_put i U l r left.store right.store on_left.store on_right.store m_is n_is g.conjuncts covers;
          holds = sym (all_put i U l r left.store right.store on_left.store on_right.store m_is n_is g.conjuncts) ∙ h;
        })
        (goes_to i T l r rule.left e.left p g.left l left.store (eqb-true g.left p points_are.0) on_left)
        (goes_to i T l r rule.right e.right q g.right r right.store (eqb-true g.right q points_are.1) on_right)))

    -- ---- both halt, or are stuck
    abbrev LeftHalts : List table.Entry → Type 0
    LeftHalts T = HaltsThere i T l r (work_at i rule.left e.left) l left.store

    abbrev RightHalts : List table.Entry → Type 0
    RightHalts T = HaltsThere i T l r (work_at i rule.right e.right) r right.store

    both_halt : (T : List table.Entry) → LeftHalts T → RightHalts T → store_of i T l r left.store ≡ store_of i T l r right.store → BothStop e l r
    both_halt T h g same = record {
      carries = both_halted (Reached f) i T l r (work_at i rule.left e.left) (work_at i rule.right e.right) l r left.store right.store h g same;
      carries_back = both_halted (Reached f) i T l r (work_at i rule.right e.right) (work_at i rule.left e.left) r l right.store left.store g h (sym same);
    }

    abbrev LeftStuck : List table.Entry → ℕ → Type 0
    LeftStuck T j = StuckThere (Reached f) i T l r (work_at i rule.left e.left) l left.store j

    abbrev RightStuck : List table.Entry → ℕ → Type 0
    RightStuck T j = StuckThere (Reached f) i T l r (work_at i rule.right e.right) r right.store j

    both_wait : (T : List table.Entry) (j : ℕ) → LeftStuck T j → RightStuck T j → store_of i T l r left.store ≡ store_of i T l r right.store → BothStop e l r
    both_wait T j h g same = record {
      carries = both_stuck (Reached f) i T l r (work_at i rule.left e.left) (work_at i rule.right e.right) l r left.store right.store j h g same;
      carries_back = both_stuck (Reached f) i T l r (work_at i rule.right e.right) (work_at i rule.left e.left) r l right.store left.store j g h (sym same);
    }

    both_quiet : (T : List table.Entry) (j c : ℕ) → LeftStuck T j → RightStuck T c → is_quiet rule.conditions j ≡ true → is_quiet rule.conditions c ≡ true → BothStop e l r
    both_quiet T j c h g first second = record {
      carries = λ o run ret. quiet_stuck (Reached f) i T l r (work_at i rule.left e.left) l left.store j h (quiet_said i j rule.conditions first meets) o run;
      carries_back = λ o run ret. quiet_stuck (Reached f) i T l r (work_at i rule.right e.right) r right.store c g (quiet_said i c rule.conditions second meets) o run;
    }

    stuck_by : (T : List table.Entry) → Stands T → (j c : ℕ) → LeftStuck T j → RightStuck T c → (x y : Bool) → (is_quiet rule.conditions j && is_quiet rule.conditions c) ≡ x → (j == c) ≡ y
        → owed_at owed_here None ≡ owed_at (cond x nothing (one (cond y sides_equal falsehood))) None → (BothStop e l r → Reached f) → Reached f
    stuck_by T s j c h g true y quiet same is ret =
        let p = and_parts (is_quiet rule.conditions j) (is_quiet rule.conditions c) quiet in
        ret (both_quiet T j c h g p.0 p.1)
    stuck_by T s j c h g false true quiet same is ret =
        equal_here T s is (λ e. ret (both_wait T j h (subst (λ n. RightStuck T n) (sym (eqb-true j c same)) g) e))
    stuck_by T s j c h g false false quiet same is ret = never_taken T s is

    -- ---- by where the paths stop
    abbrev LeftTells : List table.Entry → Stop → Type 0
    LeftTells T x = Tells (Reached f) i T l r rule.left (left_count rule.left e.left) (work_at i rule.left e.left) l left.store x

    abbrev RightTells : List table.Entry → Stop → Type 0
    RightTells T y = Tells (Reached f) i T l r rule.right (left_count rule.right e.right) (work_at i rule.right e.right) r right.store y

    by_stops : (T : List table.Entry) → Stands T → (x y : Stop) → owed_here ≡ owed rule.conditions entries x y → LeftTells T x → RightTells T y
        → BothGo e l r → (BothStop e l r → Reached f) → Reached f
    unfolding owed
    by_stops T s (At p) (At q) owes on_left on_right goes stops = by_entry (entry_at entries p q) refl
      where
        by_entry : (o : Option Entry) → entry_at entries p q ≡ o → Reached f
        by_entry None none = never_taken T s (ap (λ what. owed_at what None) owes ∙ ap (λ o. owed_at (arrival o) None) none)
        by_entry (Some g) is_entry = arrives T s p q g is_entry (owes ∙ ap arrival is_entry) on_left on_right goes
    by_stops T s (At p) Halted owes on_left on_right goes stops = never_taken T s (ap (λ what. owed_at what None) owes)
    by_stops T s (At p) (Stuck c) owes on_left on_right goes stops = never_taken T s (ap (λ what. owed_at what None) owes)
    by_stops T s Halted (At q) owes on_left on_right goes stops = never_taken T s (ap (λ what. owed_at what None) owes)
    by_stops T s Halted Halted owes on_left on_right goes stops =
        equal_here T s (ap (λ what. owed_at what None) owes) (λ same. stops (both_halt T on_left on_right same))
    by_stops T s Halted (Stuck c) owes on_left on_right goes stops = never_taken T s (ap (λ what. owed_at what None) owes)
    by_stops T s (Stuck j) (At q) owes on_left on_right goes stops = never_taken T s (ap (λ what. owed_at what None) owes)
    by_stops T s (Stuck j) Halted owes on_left on_right goes stops = never_taken T s (ap (λ what. owed_at what None) owes)
    by_stops T s (Stuck j) (Stuck c) owes on_left on_right goes stops =
        stuck_by T s j c on_left on_right (is_quiet rule.conditions j && is_quiet rule.conditions c) (j == c) refl refl (ap (λ what. owed_at what None) owes) stops

  -- from an entry that is not the exits
  pub meet : (e : Entry) (l r : Store) → Related (Reached f) i entries e l r → is_exit rule e ≡ false → BothGo e l r → (BothStop e l r → Reached f) → Reached f
  meet e l r related inside goes stops =
      let is_open : IsOpen rule points e = shown.others related.number e related.there inside in
      let walked : is_walked rule points e ≡ true = (λ j. not (inside j) && is_open.within j) in
      let few = and_parts (is_none (path_limit rule points Left e.left)) (is_none (path_limit rule points Right e.right)) is_open.within in
      let ls = lefts rule points e in
      let rs = rights rule points e in
      extend_literals (Reached f) i l r (literals_of ls ++ literals_of rs) related.runs related.faithful (λ U faithful grows covers.
      let each = covers_each_list i U l r (literals_of ls) (literals_of rs) covers in
      let of_lefts : CoversPaths i U l r ls = literals_cover_paths i U l r ls each.0 in
      let of_rights : CoversPaths i U l r rs = literals_cover_paths i U l r rs each.1 in
      let on_left : TellsPaths (Reached f) i U l r rule points Left e.left =
      rule_path_law (Reached f) i U l r faithful rule points Left e.left well simulates is_open.before.left (none_is (path_limit rule points Left e.left) few.0) of_lefts.stores in
      let on_right : TellsPaths (Reached f) i U l r rule points Right e.right =
      rule_path_law (Reached f) i U l r faithful rule points Right e.right well simulates is_open.before.right (none_is (path_limit rule points Right e.right) few.1) of_rights.stores in
      let left : OnePlace i U l r ls on_left.path = one_place i U l r ls on_left.path on_left.only in
      let right : OnePlace i U l r rs on_right.path = one_place i U l r rs on_right.path on_right.only in
      let left_covers : CoversPath i U l r on_left.path = of_lefts.each left.place on_left.path left.there in
      let right_covers : CoversPath i U l r on_right.path = of_rights.each right.place on_right.path right.there in
      by_stops related.number left.place right.place e on_left.path on_right.path related.there walked left.there right.there l r U
      (record {
        faithful = faithful;
        covered = covers_conjuncts_kept i related.runs U grows l r e.conjuncts related.covered;
        holds = conjuncts_kept i related.runs U grows l r e.conjuncts related.covered ∙ related.holds;
        paths_covered = covers_both i U l r on_left.path.literals on_right.path.literals left_covers.literals right_covers.literals;
        paths_hold = all_both (literal_truth i U l r) on_left.path.literals on_right.path.literals left.taken right.taken;
        left_covered = left_covers.store;
        right_covered = right_covers.store;
      })
      on_left.path.stop on_right.path.stop refl on_left.tells on_right.tells goes stops)
