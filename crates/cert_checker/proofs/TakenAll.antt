-- The walk over a certificate takes all proofs exactly where no limit is passed, the proofs are of the spots in order, and each is
-- right.
use Rattle.std.specs.Prelude.{◌≡◌, ◌↔◌, ◌+◌, ℕ, suc, Bool, true, false, cond, not, ◌&&◌, ◌||◌, List, [], ◌∷◌, map, take, length, nat_le, Option, Some, None, option_and_then, slice_get, refl}
use Rattle.std.specs.List.{list_all}
use Rattle.std.proofs.Common.{sym, ◌∙◌, ap, subst, arith}
use Rattle.toy_imp.specs.declared.rule.Rule.{Rule}
use Rattle.rule_terms.specs.declared.obligation.Conjunct.{Conjunct}
use Rattle.rule_terms.specs.declared.obligation.Obligation.{Obligation}
use Rattle.rule_terms.specs.declared.path.Path.{Path}
use Rattle.path_pairs.specs.declared.cut_points.CutPoints.{CutPoints}
use Rattle.refutations.specs.declared.refutation.Refutation.{Refutation}
use Rattle.spot_obligations.specs.declared.entry.Entry.{Entry}
use Rattle.spot_obligations.specs.declared.entry.Spot.{Spot}
use Rattle.spot_obligations.specs.Owed.{Owed, each, one, nothing, owed, numbered_from, owed_numbers, owed_at}
use Rattle.spot_obligations.specs.PathsOfEntry.{lefts, rights, is_exit, is_within, is_walked}
use Rattle.spot_obligations.specs.Obligations.{AtSpot, at_spot, obligation_of, with_known, obligation_at, weighed}
use Rattle.spot_obligations.specs.Spots.{spot_at, over_numbered, pair_spots, left_spots, entry_spots, spots}
use Rattle.rule_simulation.proofs.Meeting.{at_spot_is}
use Rattle.cert_checker.specs.declared.certificate.Proved.{Proved}
use Rattle.cert_checker.specs.Certificates.{may_be_walked}
use Rattle.cert_checker.specs.Taking.{Pair, along, same_spot, is_refuted, proves, is_proof, taken_if, taken_one, taken_numbered, taken_owed, taken_pair, taken_right, taken_left, taken_paths, taken_entry, is_last, takes_all}
use Rattle.cert_checker.proofs.ProofsTaken.{spot_is, is_right, is_proof_of, AreOf, one_if, one_at, taken, taken_both, taken_are_of, of_are_taken}

and_same : (f g : ℕ → Option ℕ) → ((m : ℕ) → f m ≡ g m) → (o : Option ℕ) → option_and_then f o ≡ option_and_then g o
and_same f g same None = refl
and_same f g same (Some m) = same m

none_then : (o : Option ℕ) → option_and_then {U = ℕ} (λ m. None) o ≡ None
none_then None = refl
none_then (Some m) = refl

some_then : (o : Option ℕ) → option_and_then (λ m. Some m) o ≡ o
some_then None = refl
some_then (Some m) = refl

module _ (rule : Rule) (points : CutPoints) (entries : List Entry) (proofs : List Proved) where
  abbrev by_spots : List Spot → ℕ → Option ℕ
  by_spots = taken rule points entries proofs

  -- ---- along a list with numbers
  along_spots : {X : Type 0} (step : ℕ → X → ℕ → Option ℕ) (spots_of : ℕ → X → List Spot) (xs : List X) (k : ℕ)
      → ((j : ℕ) (x : X) → slice_get xs j ≡ Some x → (n : ℕ) → step (k + j) x n ≡ by_spots (spots_of (k + j) x) n) → (n : ℕ) → along step k xs n ≡ by_spots (over_numbered spots_of k xs) n
  unfolding along over_numbered taken
  along_spots step spots_of [] k same n = refl
  along_spots step spots_of (x ∷ xs) k same n =
      let none : k + 0 ≡ k = omega arith in
      let here : step k x n ≡ by_spots (spots_of k x) n = subst (λ m. step m x n ≡ by_spots (spots_of m x) n) none (same 0 x refl n) in
      let onward : (m : ℕ) → along step (suc k) xs m ≡ by_spots (over_numbered spots_of (suc k) xs) m =
      along_spots step spots_of xs (suc k) (λ j y there m.
      let next : k + suc j ≡ suc k + j = omega arith in
      subst (λ i. step i y m ≡ by_spots (spots_of i y) m) next (same (suc j) y there m)) in
      (λ i. option_and_then (along step (suc k) xs) (here i))
      ∙ and_same (along step (suc k) xs) (by_spots (over_numbered spots_of (suc k) xs)) onward (by_spots (spots_of k x) n)
      ∙ sym (taken_both rule points entries proofs (spots_of k x) (over_numbered spots_of (suc k) xs) n)

  along_from_start : {X : Type 0} (step : ℕ → X → ℕ → Option ℕ) (spots_of : ℕ → X → List Spot) (xs : List X)
      → ((j : ℕ) (x : X) → slice_get xs j ≡ Some x → (n : ℕ) → step j x n ≡ by_spots (spots_of j x) n) → (n : ℕ) → along step 0 xs n ≡ by_spots (over_numbered spots_of 0 xs) n
  along_from_start step spots_of xs same n =
      along_spots step spots_of xs 0 (λ j x there m.
      let start : j ≡ 0 + j = omega arith in
      subst (λ i. step i x m ≡ by_spots (spots_of i x) m) start (same j x there m)) n

  -- ---- one pair of paths
  module _ (k : ℕ) (known : List Conjunct) (a : ℕ) (l : Path) (b : ℕ) (r : Path) where
    abbrev here : Pair
    here = record { around = record { rule = rule; entries = entries; proofs = proofs; known = known; entry = k }; left_number = a; left = l; right_number = b; right = r }

    -- this goal stands at a spot of the pair
    abbrev Stands : Option ℕ → Conjunct → Type 0
    Stands c goal = at_spot rule points entries (spot_at k a b c) ≡ Some (record { known = known; left = l; right = r; goal = goal })

    refuted_by : (t : Bool) (ob : Obligation) (proof : Refutation) → (t && is_refuted (weighed (Some ob)) proof) ≡ is_refuted (weighed (cond t (Some ob) None)) proof
    refuted_by true ob proof = refl
    refuted_by false ob proof = refl

    and_by : (t x y : Bool) → (t ≡ true → x ≡ y) → (t && x) ≡ (t && y)
    and_by true x y same = same refl
    and_by false x y same = refl

    proves_is : (c : Option ℕ) (goal : Conjunct) → Stands c goal → (p : Proved) → p.spot ≡ spot_at k a b c → proves here goal p.used p.proof ≡ is_right rule points entries p
    unfolding proves obligation_at
    proves_is c goal stands p same =
        refuted_by (nat_le p.used (length known)) (obligation_of rule (take p.used known) l r goal) p.proof
        ∙ ap (λ (o : Option AtSpot). is_refuted (weighed (with_known rule p.used o)) p.proof) (sym stands ∙ (λ j. at_spot rule points entries (sym same j)))

    is_proof_is : (c : Option ℕ) (goal : Conjunct) → Stands c goal → (p : Proved) → is_proof here c goal p ≡ is_proof_of rule points entries (spot_at k a b c) p
    unfolding is_proof is_proof_of
    is_proof_is c goal stands p =
        and_by (same_spot p.spot (spot_at k a b c)) (proves here goal p.used p.proof) (is_right rule points entries p)
        (λ e. proves_is c goal stands p (spot_is p.spot (spot_at k a b c) e))

    one_by : (c : Option ℕ) (goal : Conjunct) → Stands c goal → (n : ℕ) (o : Option Proved) → taken_if here c goal n o ≡ one_if rule points entries proofs (spot_at k a b c) n o
    one_by c goal stands n None = refl
    one_by c goal stands n (Some p) = ap (λ t. cond t (Some (suc n)) None) (is_proof_is c goal stands p)

    one_is : (c : Option ℕ) (goal : Conjunct) → Stands c goal → (n : ℕ) → taken_one here c goal n ≡ one_at rule points entries proofs (spot_at k a b c) n
    unfolding taken_one one_at
    one_is c goal stands n = one_by c goal stands n (slice_get proofs n)

    each_is : (goals : List Conjunct) (c : ℕ) → ((j : ℕ) (goal : Conjunct) → slice_get goals j ≡ Some goal → Stands (Some (c + j)) goal) → (n : ℕ)
        → along (taken_numbered here) c goals n ≡ by_spots (map (spot_at k a b) (numbered_from c goals)) n
    unfolding along taken
    each_is [] c stands n = refl
    each_is (goal ∷ goals) c stands n =
        let none : c + 0 ≡ c = omega arith in
        let first : Stands (Some c) goal = subst (λ m. Stands (Some m) goal) none (stands 0 goal refl) in
        let onward : (m : ℕ) → along (taken_numbered here) (suc c) goals m ≡ by_spots (map (spot_at k a b) (numbered_from (suc c) goals)) m =
        each_is goals (suc c) (λ j g there.
        let next : c + suc j ≡ suc c + j = omega arith in
        subst (λ m. Stands (Some m) g) next (stands (suc j) g there)) in
        (λ i. option_and_then (along (taken_numbered here) (suc c) goals) (one_is (Some c) goal first n i))
        ∙ and_same (along (taken_numbered here) (suc c) goals) (by_spots (map (spot_at k a b) (numbered_from (suc c) goals))) onward (one_at rule points entries proofs (spot_at k a b (Some c)) n)

    owed_is : (what : Owed) → ((c : Option ℕ) (goal : Conjunct) → owed_at what c ≡ Some goal → Stands c goal) → (n : ℕ) → taken_owed here what n ≡ by_spots (map (spot_at k a b) (owed_numbers what)) n
    unfolding taken
    owed_is (each goals) stands n =
        each_is goals 0 (λ j goal there.
        let start : j ≡ 0 + j = omega arith in
        subst (λ m. Stands (Some m) goal) start (stands (Some j) goal there)) n
    owed_is (one goal) stands n =
        one_is None goal (stands None goal refl) n ∙ sym (some_then (one_at rule points entries proofs (spot_at k a b None) n))
    owed_is nothing stands n = refl

  -- ---- an entry, and all entries
  entry_is : (k : ℕ) (e : Entry) → slice_get entries k ≡ Some e → (x y : Bool) → is_exit rule e ≡ x → is_within rule points e ≡ y → (n : ℕ)
      → cond x (Some n) (cond y (taken_paths (record { rule = rule; entries = entries; proofs = proofs; known = e.conjuncts; entry = k }) (lefts rule points e) (rights rule points e) n) None)
      ≡ cond (x || y) (by_spots (cond x [] (over_numbered (left_spots rule entries k (rights rule points e)) 0 (lefts rule points e))) n) None
  unfolding taken taken_pair
  entry_is k e there true y last within n = refl
  entry_is k e there false false inside passes n = refl
  entry_is k e there false true inside within n =
      let walked : is_walked rule points e ≡ true = (λ j. not (inside j) && within j) in
      along_from_start
      (taken_left (record { rule = rule; entries = entries; proofs = proofs; known = e.conjuncts; entry = k }) (rights rule points e))
      (left_spots rule entries k (rights rule points e)) (lefts rule points e) (λ a l at_left m.
      along_from_start
      (taken_right (record { rule = rule; entries = entries; proofs = proofs; known = e.conjuncts; entry = k }) a l)
      (pair_spots rule entries k a l) (rights rule points e) (λ b r at_right i.
      owed_is k e.conjuncts a l b r (owed rule.conditions entries l.stop r.stop)
      (λ c goal is_goal. at_spot_is rule points entries k a b c e l r goal there walked at_left at_right is_goal) i) m) n

  onward_by : (w all : Bool) (rest : ℕ → Option ℕ) (o : Option ℕ)
      → option_and_then (λ m. cond all (rest m) None) (cond w o None) ≡ cond (w && all) (option_and_then rest o) None
  onward_by false all rest o = refl
  onward_by true true rest o = refl
  onward_by true false rest o = none_then o

  entries_are : (es : List Entry) (k : ℕ) → ((j : ℕ) (e : Entry) → slice_get es j ≡ Some e → slice_get entries (k + j) ≡ Some e) → (n : ℕ)
      → along (taken_entry rule points entries proofs) k es n ≡ cond (list_all (may_be_walked rule points) es) (by_spots (over_numbered (entry_spots rule points entries) k es) n) None
  unfolding along over_numbered taken taken_entry
  entries_are [] k there n = refl
  entries_are (e ∷ es) k there n =
      let none : k + 0 ≡ k = omega arith in
      let first : slice_get entries k ≡ Some e = subst (λ m. slice_get entries m ≡ Some e) none (there 0 e refl) in
      let more : List Spot = over_numbered (entry_spots rule points entries) (suc k) es in
      let onward : (m : ℕ) → along (taken_entry rule points entries proofs) (suc k) es m ≡ cond (list_all (may_be_walked rule points) es) (by_spots more m) None =
      entries_are es (suc k) (λ j x at.
      let next : k + suc j ≡ suc k + j = omega arith in
      subst (λ m. slice_get entries m ≡ Some x) next (there (suc j) x at)) in
      (λ i. option_and_then (along (taken_entry rule points entries proofs) (suc k) es) (entry_is k e first (is_exit rule e) (is_within rule points e) refl refl n i))
      ∙ and_same (along (taken_entry rule points entries proofs) (suc k) es) (λ m. cond (list_all (may_be_walked rule points) es) (by_spots more m) None) onward
      (cond (may_be_walked rule points e) (by_spots (entry_spots rule points entries k e) n) None)
      ∙ onward_by (may_be_walked rule points e) (list_all (may_be_walked rule points) es) (by_spots more) (by_spots (entry_spots rule points entries k e) n)
      ∙ ap (λ o. cond (may_be_walked rule points e && list_all (may_be_walked rule points) es) o None) (sym (taken_both rule points entries proofs (entry_spots rule points entries k e) more n))

  takes_are : takes_all rule points entries proofs ≡ is_last proofs (cond (list_all (may_be_walked rule points) entries) (by_spots (spots rule points entries) 0) None)
  unfolding takes_all
  takes_are =
      ap (is_last proofs) (entries_are entries 0 (λ j e there.
      let start : j ≡ 0 + j = omega arith in
      subst (λ m. slice_get entries m ≡ Some e) start there) 0)

  pub record AllTaken : Type 0 where
    pub walked : list_all (may_be_walked rule points) entries ≡ true
    pub are : AreOf rule points entries (spots rule points entries) proofs

  all_by : (b : Bool) → list_all (may_be_walked rule points) entries ≡ b → is_last proofs (cond b (by_spots (spots rule points entries) 0) None) ≡ true → AllTaken
  all_by false walked h = cc
  all_by true walked h = record { walked = walked; are = taken_are_of rule points entries proofs (spots rule points entries) h }

  pub taken_all_is : (takes_all rule points entries proofs ≡ true) ↔ AllTaken
  taken_all_is = (
    λ h. all_by (list_all (may_be_walked rule points) entries) refl (sym takes_are ∙ h),
    λ all.
        takes_are
        ∙ ap (λ b. is_last proofs (cond b (by_spots (spots rule points entries) 0) None)) all.walked
        ∙ of_are_taken rule points entries proofs (spots rule points entries) all.are,
  )
