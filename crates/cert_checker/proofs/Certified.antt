-- What a certificate says of its relation: each obligation is refuted, so it holds; and so its rule is valid.
use Rattle.std.specs.Prelude.{◌≡◌, ◌<◌, ℕ, zero, suc, Bool, true, false, cond, ◌&&◌, ◌||◌, ◌==◌, List, [], ◌∷◌, take, length, nat_lt, nat_le, Some, None, slice_get, refl}
use Rattle.std.specs.List.{list_all}
use Rattle.std.proofs.Common.{sym, ◌∙◌, ap, subst, eqb-true, arith}
use Rattle.std.proofs.lemmas.Bool.{and_parts}
use Rattle.std.proofs.lemmas.Bool.Decides.{nat_tests}
use Rattle.toy_imp.specs.declared.rule.Rule.{Rule}
use Rattle.toy_imp.specs.Faults.{well_formed, is_simulate, same_pair}
use Rattle.toy_imp.specs.Points.{point_count, exit_point}
use Rattle.toy_imp.specs.Valid.{Valid}
use Rattle.rule_terms.specs.declared.obligation.Obligation.{Obligation}
use Rattle.term_meaning.specs.Meaning.{ObligationHolds}
use Rattle.path_pairs.specs.declared.cut_points.CutPoints.{CutPoints}
use Rattle.entry_pairs.specs.Cuts.{exits}
use Rattle.entry_pairs.specs.CutAnswers.{may_be_entry}
use Rattle.entry_pairs.proofs.AllPassing.{all_so}
use Rattle.proof_steps.proofs.Soundness.{refuted_holds}
use Rattle.spot_obligations.specs.declared.entry.Entry.{Entry}
use Rattle.spot_obligations.specs.declared.entry.Spot.{Spot}
use Rattle.rule_terms.specs.Goals.{sides_equal}
use Rattle.spot_obligations.specs.Owed.{pair_of}
use Rattle.spot_obligations.specs.PathsOfEntry.{is_exit, is_within, are_inside}
use Rattle.spot_obligations.specs.Obligations.{AtSpot, at_spot, obligation_of, with_known, obligation_at}
use Rattle.spot_obligations.specs.Spots.{spots}
use Rattle.rule_simulation.specs.Shown.{plain, IsOpen, IsShown, Shown}
use Rattle.rule_simulation.proofs.Validity.{shown_is_valid}
use Rattle.cert_checker.specs.declared.certificate.Certificate.{Certificate}
use Rattle.cert_checker.specs.declared.certificate.Proved.{Proved}
use Rattle.cert_checker.specs.Certificates.{is_inside, begins, may_be_walked, IsRelation, IsProof, Certifies, IsCertificate}
use Rattle.cert_checker.proofs.ListPlaces.{Among, Before, mapped, of_all, passes_at}
use Rattle.cert_checker.proofs.SpotsFound.{among_spots}

-- ---- a proof shows the obligation at its spot
module _ (rule : Rule) (points : CutPoints) (entries : List Entry) where
  obligation_is : (used : ℕ) (s : AtSpot) (ob : Obligation) (b : Bool) → cond b (Some (obligation_of rule (take used s.known) s.left s.right s.goal)) None ≡ Some ob → obligation_of rule (take used s.known) s.left s.right s.goal ≡ ob
  obligation_is used s ob true h = cc
  obligation_is used s ob false h = cc

  proof_shows : (p : Proved) (spot : Spot) (s : AtSpot) → p.spot ≡ spot → at_spot rule points entries spot ≡ Some s → IsProof rule points entries p → IsShown rule s
  unfolding obligation_at
  proof_shows p spot s same h right =
      let there : with_known rule p.used (Some s) ≡ Some right.obligation = ap (with_known rule p.used) (sym h ∙ (λ j. at_spot rule points entries (sym same j))) ∙ right.there in
      let is : obligation_of rule (take p.used s.known) s.left s.right s.goal ≡ right.obligation = obligation_is p.used s right.obligation (nat_le p.used (length s.known)) there in
      record { used = p.used; holds = subst ObligationHolds (sym is) (refuted_holds right.obligation p.proof right.refuted) }

-- ---- the entries
lt_is : (a b : ℕ) → nat_lt a b ≡ true → a < b
lt_is a b h = grind (arith, nat_tests)

exits_are : (a b : ℕ) → (a == a && b == b) ≡ true
exits_are a b = grind arith

starts_before : (a b : ℕ) → (nat_lt 0 (suc a) && nat_lt 0 (suc b)) ≡ true
starts_before a b = grind (arith, nat_tests)

or_true : (x : Bool) → (x || true) ≡ true
or_true true = refl
or_true false = refl

module _ (rule : Rule) where
  inside_points : (e : Entry) → is_inside rule e ≡ true → (e.left < exit_point rule.left) × (e.right < exit_point rule.right)
  inside_points e h =
      let p = and_parts (nat_lt e.left (exit_point rule.left)) (nat_lt e.right (exit_point rule.right)) (and_parts (nat_lt e.left (exit_point rule.left) && nat_lt e.right (exit_point rule.right)) (nat_le (length e.conjuncts) 32) h).0 in
      (lt_is e.left (exit_point rule.left) p.0, lt_is e.right (exit_point rule.right) p.1)

  not_inside : {A : Type 0} (e : Entry) → is_exit rule e ≡ true → is_inside rule e ≡ true → A
  not_inside e is_last inside =
      let p = and_parts (e.left == exit_point rule.left) (e.right == exit_point rule.right) is_last in
      let same : e.left ≡ exit_point rule.left = eqb-true e.left (exit_point rule.left) p.0 in
      let before : e.left < exit_point rule.left = (inside_points e inside).0 in
      absurd (omega (arith, same, before))

  exits_are_exit : is_exit rule (plain (exits rule)) ≡ true
  exits_are_exit = exits_are (exit_point rule.left) (exit_point rule.right)

  inside_may : (e : Entry) → is_inside rule e ≡ true → may_be_entry rule (pair_of e) ≡ true
  unfolding may_be_entry
  inside_may e h =
      let p = and_parts (nat_lt e.left (exit_point rule.left) && nat_lt e.right (exit_point rule.right)) (nat_le (length e.conjuncts) 32) h in
      ap (λ b. same_pair (pair_of e) (exits rule) || b) p.0 ∙ or_true (same_pair (pair_of e) (exits rule))

  starts_may : may_be_entry rule (0, 0) ≡ true
  unfolding may_be_entry
  starts_may = ap (λ b. same_pair (0, 0) (exits rule) || b) (starts_before (point_count rule.left) (point_count rule.right)) ∙ or_true (same_pair (0, 0) (exits rule))

  exits_may : may_be_entry rule (exits rule) ≡ true
  unfolding may_be_entry
  exits_may = ap (λ b. b || (nat_lt (exit_point rule.left) (exit_point rule.left) && nat_lt (exit_point rule.right) (exit_point rule.right))) exits_are_exit

  begun_are_inside : (others : List Entry) → list_all (is_inside rule) others ≡ true → are_inside rule (begins rule others) ≡ true
  begun_are_inside others h =
      λ i. starts_may i && (exits_may i && all_so (is_inside rule) (λ e. may_be_entry rule (pair_of e)) inside_may others h i)

module _ (rule : Rule) (points : CutPoints) (entries : List Entry) (is : IsRelation rule points entries) where
  pub relation_is_inside : are_inside rule entries ≡ true
  relation_is_inside = ap (are_inside rule) is.begin ∙ begun_are_inside rule is.others is.inside

  at_begin : (k : ℕ) (e : Entry) → slice_get entries k ≡ Some e → slice_get (begins rule is.others) k ≡ Some e
  at_begin k e h = (λ j. slice_get (sym is.begin j) k) ∙ h

  exit_conjuncts : (k : ℕ) (e : Entry) → slice_get (begins rule is.others) k ≡ Some e → is_exit rule e ≡ true → e.conjuncts ≡ sides_equal ∷ []
  exit_conjuncts zero e h is_last =
      let same : plain (0, 0) ≡ e = cc in
      λ j. (sym same j).conjuncts
  exit_conjuncts (suc zero) e h is_last =
      let same : plain (exits rule) ≡ e = cc in
      λ j. (sym same j).conjuncts
  exit_conjuncts (suc (suc k)) e h is_last = not_inside rule e is_last (passes_at (is_inside rule) is.others k e is.inside h)

  points_before : (k : ℕ) (e : Entry) → slice_get (begins rule is.others) k ≡ Some e → is_exit rule e ≡ false → (e.left < exit_point rule.left) × (e.right < exit_point rule.right)
  points_before zero e h inside =
      let same : plain (0, 0) ≡ e = cc in
      subst (λ x. (x.left < exit_point rule.left) × (x.right < exit_point rule.right)) same (omega arith, omega arith)
  points_before (suc zero) e h inside =
      let same : plain (exits rule) ≡ e = cc in
      let is_last : is_exit rule e ≡ true = (λ j. is_exit rule (sym same j)) ∙ exits_are_exit rule in
      true_is_false (sym is_last ∙ inside)
    where
      true_is_false : {A : Type 0} → true ≡ false → A
      true_is_false e = cc
  points_before (suc (suc k)) e h inside = inside_points rule e (passes_at (is_inside rule) is.others k e is.inside h)

  within_by : (x y : Bool) → (x || y) ≡ true → x ≡ false → y ≡ true
  within_by true y h fails_it = cc
  within_by false y h fails_it = h

  entry_open : list_all (may_be_walked rule points) entries ≡ true → (k : ℕ) (e : Entry) → slice_get entries k ≡ Some e → is_exit rule e ≡ false → IsOpen rule points e
  entry_open walked k e h inside =
      let p = points_before k e (at_begin k e h) inside in
      record {
        before = record { left = p.0; right = p.1 };
        within = within_by (is_exit rule e) (is_within rule points e) (passes_at (may_be_walked rule points) entries k e walked h) inside;
      }

  entry_exits : (k : ℕ) (e : Entry) → slice_get entries k ≡ Some e → is_exit rule e ≡ true → e.conjuncts ≡ sides_equal ∷ []
  entry_exits k e h is_last = exit_conjuncts k e (at_begin k e h) is_last

certified_is_shown : (rule : Rule) (points : CutPoints) (cert : Certificate) (c : Certifies rule points cert) → Shown rule points cert.entries
certified_is_shown rule points cert c = record {
  start = λ j. slice_get (c.relation.begin j) 0;
  at_exits = entry_exits rule points cert.entries c.relation;
  others = entry_open rule points cert.entries c.relation c.walked;
  spots = λ spot s h.
      let among : Among (spots rule points cert.entries) spot = among_spots rule points cert.entries spot s h in
      let p : Before (λ (q : Proved). q.spot) cert.proofs spot = mapped (λ (q : Proved). q.spot) cert.proofs spot among.number ((λ j. slice_get (c.in_order j) among.number) ∙ among.there) in
      proof_shows rule points cert.entries p.item spot s p.is h (of_all (IsProof rule points cert.entries) cert.proofs c.proved p.number p.item p.there);
}

pub certified_is_valid : (rule : Rule) (cert : Certificate) → well_formed rule ≡ true → is_simulate rule.method ≡ true → IsCertificate rule cert → Valid rule
certified_is_valid rule cert well simulates is = shown_is_valid rule is.points cert.entries well simulates (certified_is_shown rule is.points cert is.certifies)
