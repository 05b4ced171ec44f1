-- A spot at which something stands is one of the spots of its relation.
use Rattle.std.specs.Prelude.{◌≡◌, ◌+◌, ℕ, zero, suc, Bool, true, false, cond, not, List, [], ◌∷◌, Option, Some, None, slice_get, refl}
use Rattle.std.proofs.Common.{sym, subst, arith}
use Rattle.std.proofs.lemmas.Bool.{and_parts}
use Rattle.toy_imp.specs.declared.rule.Rule.{Rule}
use Rattle.rule_terms.specs.declared.obligation.Conjunct.{Conjunct}
use Rattle.rule_terms.specs.declared.path.Path.{Path}
use Rattle.path_pairs.specs.declared.cut_points.CutPoints.{CutPoints}
use Rattle.spot_obligations.specs.declared.entry.Entry.{Entry}
use Rattle.spot_obligations.specs.declared.entry.Spot.{Spot}
use Rattle.spot_obligations.specs.Owed.{Owed, each, one, nothing, owed, numbered_from, owed_numbers, owed_at}
use Rattle.spot_obligations.specs.PathsOfEntry.{lefts, rights, is_exit, is_within, is_walked}
use Rattle.spot_obligations.specs.Obligations.{AtSpot, with_goal, with_right, with_left, among_paths, with_entry, at_spot}
use Rattle.spot_obligations.specs.Spots.{spot_at, over_numbered, pair_spots, left_spots, entry_spots, spots}
use Rattle.cert_checker.proofs.ListPlaces.{Among, among_head, among_tail, among_left, among_right, among_map}

-- ---- the spots
among_numbers : (m : ℕ) (cs : List Conjunct) (c : ℕ) (goal : Conjunct) → slice_get cs c ≡ Some goal → Among (numbered_from m cs) (Some (m + c))
among_numbers m [] c goal e = cc
among_numbers m (x ∷ cs) zero goal e =
    let none : m ≡ m + 0 = omega arith in
    record { number = 0; there = λ j. Some (Some (none j)) }
among_numbers m (x ∷ cs) (suc c) goal e =
    let next : suc m + c ≡ m + suc c = omega arith in
    subst (λ n. Among (numbered_from m (x ∷ cs)) (Some n)) next (among_tail (Some m) (numbered_from (suc m) cs) (Some (suc m + c)) (among_numbers (suc m) cs c goal e))

among_goals : (what : Owed) (c : Option ℕ) (goal : Conjunct) → owed_at what c ≡ Some goal → Among (owed_numbers what) c
among_goals (each cs) (Some c) goal e =
    let none : 0 + c ≡ c = omega arith in
    subst (λ n. Among (numbered_from 0 cs) (Some n)) none (among_numbers 0 cs c goal e)
among_goals (each cs) None goal e = cc
among_goals (one x) (Some c) goal e = cc
among_goals (one x) None goal e = among_head None []
among_goals nothing (Some c) goal e = cc
among_goals nothing None goal e = cc

module _ {X : Type 0} (spots_of : ℕ → X → List Spot) where
  among_numbered : (n : ℕ) (xs : List X) (k : ℕ) (x : X) (spot : Spot) → slice_get xs k ≡ Some x → Among (spots_of (n + k) x) spot → Among (over_numbered spots_of n xs) spot
  unfolding over_numbered
  among_numbered n [] k x spot e here = cc
  among_numbered n (y ∷ xs) zero x spot e here =
      let same : x ≡ y = cc in
      let none : n + 0 ≡ n = omega arith in
      let first : Among (spots_of n y) spot = subst (λ z. Among (spots_of n z) spot) same (subst (λ m. Among (spots_of m x) spot) none here) in
      among_left (spots_of n y) (over_numbered spots_of (suc n) xs) spot first.number first.there
  among_numbered n (y ∷ xs) (suc k) x spot e here =
      let next : n + suc k ≡ suc n + k = omega arith in
      among_right (spots_of n y) (over_numbered spots_of (suc n) xs) spot
      (among_numbered (suc n) xs k x spot e (subst (λ m. Among (spots_of m x) spot) next here))

  -- from the number 0 on
  among_from_start : (xs : List X) (k : ℕ) (x : X) (spot : Spot) → slice_get xs k ≡ Some x → Among (spots_of k x) spot → Among (over_numbered spots_of 0 xs) spot
  among_from_start xs k x spot e here =
      let start : k ≡ 0 + k = omega arith in
      among_numbered 0 xs k x spot e (subst (λ m. Among (spots_of m x) spot) start here)

module _ (rule : Rule) (points : CutPoints) (entries : List Entry) where
  among_pair : (k a b : ℕ) (l r : Path) (c : Option ℕ) (goal : Conjunct) → owed_at (owed rule.conditions entries l.stop r.stop) c ≡ Some goal → Among (pair_spots rule entries k a l b r) (spot_at k a b c)
  among_pair k a b l r c goal is_goal =
      let here : Among (owed_numbers (owed rule.conditions entries l.stop r.stop)) c = among_goals (owed rule.conditions entries l.stop r.stop) c goal is_goal in
      among_map (spot_at k a b) (owed_numbers (owed rule.conditions entries l.stop r.stop)) c here.number here.there

  among_entry : (k : ℕ) (e : Entry) (a b : ℕ) (l r : Path) (c : Option ℕ) (goal : Conjunct) → is_exit rule e ≡ false
      → slice_get (lefts rule points e) a ≡ Some l → slice_get (rights rule points e) b ≡ Some r
      → owed_at (owed rule.conditions entries l.stop r.stop) c ≡ Some goal → Among (entry_spots rule points entries k e) (spot_at k a b c)
  among_entry k e a b l r c goal inside at_left at_right is_goal =
      subst (λ last. Among (cond last [] (over_numbered (left_spots rule entries k (rights rule points e)) 0 (lefts rule points e))) (spot_at k a b c)) (sym inside)
      (among_from_start (left_spots rule entries k (rights rule points e)) (lefts rule points e) a l (spot_at k a b c) at_left
      (among_from_start (pair_spots rule entries k a l) (rights rule points e) b r (spot_at k a b c) at_right (among_pair k a b l r c goal is_goal)))

  -- ---- what stands at a spot, in parts
  pub record SpotParts (spot : Spot) (s : AtSpot) : Type 0 where
    pub entry : Entry
    pub left : Path
    pub right : Path
    pub goal : Conjunct
    pub at_entry : slice_get entries spot.entry ≡ Some entry
    pub walked : is_walked rule points entry ≡ true
    pub at_left : slice_get (lefts rule points entry) spot.left ≡ Some left
    pub at_right : slice_get (rights rule points entry) spot.right ≡ Some right
    pub is_goal : owed_at (owed rule.conditions entries left.stop right.stop) spot.conjunct ≡ Some goal
    pub is : ◌≡◌ {A = AtSpot} (record { known = entry.conjuncts; left = left; right = right; goal = goal }) s

  parts_by_goal : (spot : Spot) (s : AtSpot) (e : Entry) (l r : Path) (o : Option Conjunct) → slice_get entries spot.entry ≡ Some e → is_walked rule points e ≡ true
      → slice_get (lefts rule points e) spot.left ≡ Some l → slice_get (rights rule points e) spot.right ≡ Some r
      → owed_at (owed rule.conditions entries l.stop r.stop) spot.conjunct ≡ o → with_goal e.conjuncts l r o ≡ Some s → SpotParts spot s
  parts_by_goal spot s e l r None at_entry walked at_left at_right is_goal h = cc
  parts_by_goal spot s e l r (Some goal) at_entry walked at_left at_right is_goal h =
      let same : ◌≡◌ {A = AtSpot} (record { known = e.conjuncts; left = l; right = r; goal = goal }) s = cc in
      record { entry = e; left = l; right = r; goal = goal; at_entry = at_entry; walked = walked; at_left = at_left; at_right = at_right; is_goal = is_goal; is = same }

  parts_by_right : (spot : Spot) (s : AtSpot) (e : Entry) (l : Path) (o : Option Path) → slice_get entries spot.entry ≡ Some e → is_walked rule points e ≡ true
      → slice_get (lefts rule points e) spot.left ≡ Some l → slice_get (rights rule points e) spot.right ≡ o
      → with_right rule entries e.conjuncts l spot.conjunct o ≡ Some s → SpotParts spot s
  parts_by_right spot s e l None at_entry walked at_left at_right h = cc
  parts_by_right spot s e l (Some r) at_entry walked at_left at_right h = parts_by_goal spot s e l r (owed_at (owed rule.conditions entries l.stop r.stop) spot.conjunct) at_entry walked at_left at_right refl h

  parts_by_left : (spot : Spot) (s : AtSpot) (e : Entry) (o : Option Path) → slice_get entries spot.entry ≡ Some e → is_walked rule points e ≡ true
      → slice_get (lefts rule points e) spot.left ≡ o
      → with_left rule entries e.conjuncts (rights rule points e) spot o ≡ Some s → SpotParts spot s
  parts_by_left spot s e None at_entry walked at_left h = cc
  parts_by_left spot s e (Some l) at_entry walked at_left h = parts_by_right spot s e l (slice_get (rights rule points e) spot.right) at_entry walked at_left refl h

  parts_by_walk : (spot : Spot) (s : AtSpot) (e : Entry) (b : Bool) → slice_get entries spot.entry ≡ Some e → is_walked rule points e ≡ b
      → cond b (with_left rule entries e.conjuncts (rights rule points e) spot (slice_get (lefts rule points e) spot.left)) None ≡ Some s → SpotParts spot s
  parts_by_walk spot s e true at_entry walked h = parts_by_left spot s e (slice_get (lefts rule points e) spot.left) at_entry walked refl h
  parts_by_walk spot s e false at_entry walked h = cc

  parts_by_entry : (spot : Spot) (s : AtSpot) (o : Option Entry) → slice_get entries spot.entry ≡ o → with_entry rule points entries spot o ≡ Some s → SpotParts spot s
  unfolding among_paths
  parts_by_entry spot s None at_entry h = cc
  parts_by_entry spot s (Some e) at_entry h = parts_by_walk spot s e (is_walked rule points e) at_entry refl h

  pub spot_parts : (spot : Spot) (s : AtSpot) → at_spot rule points entries spot ≡ Some s → SpotParts spot s
  unfolding at_spot
  spot_parts spot s h = parts_by_entry spot s (slice_get entries spot.entry) refl h

  not_true_false : (x : Bool) → not x ≡ true → x ≡ false
  not_true_false true h = cc
  not_true_false false h = refl

  -- a spot at which something stands is one of the spots
  pub among_spots : (spot : Spot) (s : AtSpot) → at_spot rule points entries spot ≡ Some s → Among (spots rule points entries) spot
  among_spots spot s h =
      let p : SpotParts spot s = spot_parts spot s h in
      let inside = not_true_false (is_exit rule p.entry) (and_parts (not (is_exit rule p.entry)) (is_within rule points p.entry) p.walked).0 in
      among_from_start (entry_spots rule points entries) entries spot.entry p.entry spot p.at_entry
      (among_entry spot.entry p.entry spot.left spot.right p.left p.right spot.conjunct p.goal inside p.at_left p.at_right p.is_goal)
