-- Proofs taken by spots alone: one for each spot in order, up to the last, exactly where their spots are these and each is right.
use Rattle.std.specs.Prelude.{◌≡◌, ◌≤◌, ℕ, zero, suc, Bool, true, false, cond, ◌&&◌, ◌==◌, List, [], ◌∷◌, ◌++◌, map, length, nat_lt, Option, Some, None, option_and_then, slice_get, All, refl}
use Rattle.std.proofs.Common.{sym, ◌∙◌, ap, drop, eqb-true, eq-eqb, arith}
use Rattle.std.proofs.lemmas.Bool.{and_parts}
use Rattle.std.proofs.lemmas.Bool.Decides.{nat_tests}
use Rattle.toy_imp.specs.declared.rule.Rule.{Rule}
use Rattle.rule_terms.specs.Counts.{obligation_nodes}
use Rattle.rule_terms.specs.declared.obligation.Obligation.{Obligation}
use Rattle.path_pairs.specs.declared.cut_points.CutPoints.{CutPoints}
use Rattle.proof_steps.specs.Refutes.{refutes}
use Rattle.refutations.specs.declared.refutation.Refutation.{Refutation}
use Rattle.spot_obligations.specs.declared.entry.Entry.{Entry}
use Rattle.spot_obligations.specs.declared.entry.Spot.{Spot}
use Rattle.spot_obligations.specs.declared.obligation_at.ObligationAt.TheVariants.{Found, Heavy}
use Rattle.spot_obligations.specs.Obligations.{obligation_at, weighed}
use Rattle.cert_checker.specs.declared.certificate.Proved.{Proved}
use Rattle.cert_checker.specs.Certificates.{IsProof}
use Rattle.cert_checker.specs.Taking.{same_number, same_spot, is_refuted, is_last}

-- ---- spots are compared exactly
number_is : (c d : Option ℕ) → same_number c d ≡ true → c ≡ d
number_is None None h = refl
number_is None (Some d) h = cc
number_is (Some c) None h = cc
number_is (Some c) (Some d) h = ap Some (eqb-true c d h)

number_self : (c : Option ℕ) → same_number c c ≡ true
number_self None = refl
number_self (Some c) = eq-eqb c c refl

pub spot_is : (x y : Spot) → same_spot x y ≡ true → x ≡ y
unfolding same_spot
spot_is x y h =
    let p = and_parts (x.entry == y.entry && x.left == y.left) (x.right == y.right && same_number x.conjunct y.conjunct) h in
    let q = and_parts (x.entry == y.entry) (x.left == y.left) p.0 in
    let r = and_parts (x.right == y.right) (same_number x.conjunct y.conjunct) p.1 in
    λ j. record { entry = eqb-true x.entry y.entry q.0 j; left = eqb-true x.left y.left q.1 j; right = eqb-true x.right y.right r.0 j; conjunct = number_is x.conjunct y.conjunct r.1 j }

spot_self : (x : Spot) → same_spot x x ≡ true
unfolding same_spot
spot_self x = λ j. (eq-eqb x.entry x.entry refl j && eq-eqb x.left x.left refl j) && (eq-eqb x.right x.right refl j && number_self x.conjunct j)

-- ---- a place in a list: there is an item, or the list has ended
data View {X : Type 0} (xs : List X) (n : ℕ) : Type 0 where
  at_item : (x : X) → slice_get xs n ≡ Some x → drop n xs ≡ x ∷ drop (suc n) xs → suc n ≤ length xs → View xs n
  at_end : slice_get xs n ≡ None → drop n xs ≡ [] → n ≡ length xs → View xs n

view_on : {X : Type 0} (y : X) (xs : List X) (n : ℕ) → View xs n → View (y ∷ xs) (suc n)
view_on y xs n (at_item x there behind few) = at_item x there behind (omega (arith, few))
view_on y xs n (at_end there behind last) = at_end there behind (ap suc last)

view : {X : Type 0} (xs : List X) (n : ℕ) → n ≤ length xs → View xs n
view [] zero h = at_end refl refl refl
view [] (suc n) h = absurd (omega (arith, h))
view (x ∷ xs) zero h = at_item x refl refl (omega arith)
view (x ∷ xs) (suc n) h = view_on x xs n (view xs n (omega (arith, h)))

-- ---- an obligation that is weighed
heavy_not : (n : ℕ) → n ≤ 4096 → nat_lt 4096 n ≡ false
heavy_not n h = grind (arith, nat_tests)

light_is : (n : ℕ) → nat_lt 4096 n ≡ false → n ≤ 4096
light_is n h = grind (arith, nat_tests)

record LightRefuted (ob : Obligation) (proof : Refutation) : Type 0 where
  light : obligation_nodes ob ≤ 4096
  refuted : refutes ob proof ≡ true

found_by : (ob : Obligation) (proof : Refutation) (b : Bool) → nat_lt 4096 (obligation_nodes ob) ≡ b → is_refuted (cond b Heavy (Found ob)) proof ≡ true → LightRefuted ob proof
found_by ob proof true is h = cc
found_by ob proof false is h = record { light = light_is (obligation_nodes ob) is; refuted = h }

module _ (rule : Rule) (points : CutPoints) (entries : List Entry) where
  -- right at the spot that it names
  abbrev pub is_right : Proved → Bool
  is_right p = is_refuted (weighed (obligation_at rule points entries p.spot p.used)) p.proof

  right_by : (p : Proved) (o : Option Obligation) → obligation_at rule points entries p.spot p.used ≡ o → is_refuted (weighed o) p.proof ≡ true → IsProof rule points entries p
  right_by p None e h = cc
  right_by p (Some ob) e h =
      let is : LightRefuted ob p.proof = found_by ob p.proof (nat_lt 4096 (obligation_nodes ob)) refl h in
      record { obligation = ob; there = e; light = is.light; refuted = is.refuted }

  is_right_by : (p : Proved) → IsProof rule points entries p → is_right p ≡ true
  is_right_by p is =
      ap (λ o. is_refuted (weighed o) p.proof) is.there
      ∙ ap (λ b. is_refuted (cond b Heavy (Found is.obligation)) p.proof) (heavy_not (obligation_nodes is.obligation) is.light)
      ∙ is.refuted

  -- at this spot
  unfoldable pub is_proof_of : Spot → Proved → Bool
  is_proof_of spot p = same_spot p.spot spot && is_right p

  -- ---- a list of proofs, each for the spot at its place
  unfoldable matches : List Spot → List Proved → Bool
  matches [] [] = true
  matches [] (p ∷ proofs) = false
  matches (spot ∷ spots) [] = false
  matches (spot ∷ spots) (p ∷ proofs) = is_proof_of spot p && matches spots proofs

  pub record AreOf (spots : List Spot) (proofs : List Proved) : Type 0 where
    pub in_order : map (λ (p : Proved). p.spot) proofs ≡ spots
    pub proved : All (IsProof rule points entries) proofs

  pub no_proof : All (IsProof rule points entries) []
  no_proof k d h = absurd (omega (arith, h))

  pub one_more : (p : Proved) (proofs : List Proved) → IsProof rule points entries p → All (IsProof rule points entries) proofs → All (IsProof rule points entries) (p ∷ proofs)
  one_more p proofs first others zero d h = first
  one_more p proofs first others (suc k) d h = others k d (omega (arith, h))

  matched : (spots : List Spot) (proofs : List Proved) → matches spots proofs ≡ true → AreOf spots proofs
  unfolding matches is_proof_of
  matched [] [] h = record { in_order = refl; proved = no_proof }
  matched [] (p ∷ proofs) h = cc
  matched (spot ∷ spots) [] h = cc
  matched (spot ∷ spots) (p ∷ proofs) h =
      let q = and_parts (same_spot p.spot spot && is_right p) (matches spots proofs) h in
      let r = and_parts (same_spot p.spot spot) (is_right p) q.0 in
      let others : AreOf spots proofs = matched spots proofs q.1 in
      record {
        in_order = λ j. spot_is p.spot spot r.0 j ∷ others.in_order j;
        proved = one_more p proofs (right_by p (obligation_at rule points entries p.spot p.used) refl r.1) others.proved;
      }

  all_match : (proofs : List Proved) → All (IsProof rule points entries) proofs → matches (map (λ (p : Proved). p.spot) proofs) proofs ≡ true
  unfolding matches is_proof_of
  all_match [] all = refl
  all_match (p ∷ proofs) all =
      let first : IsProof rule points entries p = all 0 p (omega arith) in
      let others : matches (map (λ (q : Proved). q.spot) proofs) proofs ≡ true = all_match proofs (λ k d h. all (suc k) d (omega (arith, h))) in
      λ j. (spot_self p.spot j && is_right_by p first j) && others j

  -- ---- by the place of the next proof
  module _ (proofs : List Proved) where
    abbrev pub one_if : Spot → ℕ → Option Proved → Option ℕ
    one_if spot n None = None
    one_if spot n (Some p) = cond (is_proof_of spot p) (Some (suc n)) None

    unfoldable pub one_at : Spot → ℕ → Option ℕ
    one_at spot n = one_if spot n (slice_get proofs n)

    unfoldable pub taken : List Spot → ℕ → Option ℕ
    taken [] n = Some n
    taken (spot ∷ spots) n = option_and_then (taken spots) (one_at spot n)

    and_both : (f g h : ℕ → Option ℕ) → ((m : ℕ) → f m ≡ option_and_then g (h m)) → (o : Option ℕ) → option_and_then f o ≡ option_and_then g (option_and_then h o)
    and_both f g h same None = refl
    and_both f g h same (Some m) = same m

    -- some spots, and then others
    pub taken_both : (first second : List Spot) (n : ℕ) → taken (first ++ second) n ≡ option_and_then (taken second) (taken first n)
    unfolding taken
    taken_both [] second n = refl
    taken_both (spot ∷ first) second n = and_both (taken (first ++ second)) (taken second) (taken first) (taken_both first second) (one_at spot n)

    not_last : (n m : ℕ) → suc n ≤ m → (n == m) ≡ false
    not_last n m h = grind (arith, nat_tests)

    goes_by : (spots : List Spot) (n : ℕ) (b : Bool) → is_last proofs (taken spots (suc n)) ≡ matches spots (drop (suc n) proofs)
        → is_last proofs (option_and_then (taken spots) (cond b (Some (suc n)) None)) ≡ (b && matches spots (drop (suc n) proofs))
    goes_by spots n true same = same
    goes_by spots n false same = refl

    none_left : (n : ℕ) → View proofs n → is_last proofs (Some n) ≡ matches [] (drop n proofs)
    unfolding matches
    none_left n (at_item p there behind few) = not_last n (length proofs) few ∙ sym (ap (matches []) behind)
    none_left n (at_end there behind last) = eq-eqb n (length proofs) last ∙ sym (ap (matches []) behind)

    one_left : (spot : Spot) (spots : List Spot) (n : ℕ) → View proofs n → (suc n ≤ length proofs → is_last proofs (taken spots (suc n)) ≡ matches spots (drop (suc n) proofs))
        → is_last proofs (option_and_then (taken spots) (one_at spot n)) ≡ matches (spot ∷ spots) (drop n proofs)
    unfolding matches one_at
    one_left spot spots n (at_item p there behind few) same =
        ap (λ o. is_last proofs (option_and_then (taken spots) (one_if spot n o))) there
        ∙ goes_by spots n (is_proof_of spot p) (same few)
        ∙ sym (ap (matches (spot ∷ spots)) behind)
    one_left spot spots n (at_end there behind last) same =
        ap (λ o. is_last proofs (option_and_then (taken spots) (one_if spot n o))) there
        ∙ sym (ap (matches (spot ∷ spots)) behind)

    last_matches : (spots : List Spot) (n : ℕ) → n ≤ length proofs → is_last proofs (taken spots n) ≡ matches spots (drop n proofs)
    unfolding taken
    last_matches [] n h = none_left n (view proofs n h)
    last_matches (spot ∷ spots) n h = one_left spot spots n (view proofs n h) (λ few. last_matches spots (suc n) few)

    -- all proofs are taken, and no spot is left
    pub taken_are_of : (spots : List Spot) → is_last proofs (taken spots 0) ≡ true → AreOf spots proofs
    taken_are_of spots h = matched spots proofs (sym (last_matches spots 0 (omega arith)) ∙ h)

    pub of_are_taken : (spots : List Spot) → AreOf spots proofs → is_last proofs (taken spots 0) ≡ true
    of_are_taken spots are =
        last_matches spots 0 (omega arith)
        ∙ (λ j. matches (sym are.in_order j) proofs)
        ∙ all_match proofs are.proved
