-- How a certificate is checked in one walk: the paths of each entry once, the obligations one after another, and the proofs in their
-- order. The walk keeps a number, the place of the next proof, and stops where that proof is not one of the spot that comes next.
-- What it comes to is said in Certificates; `taken_all_is` of proofs/TakenAll.antt is the theorem between them.
use Rattle.std.specs.Prelude.{ℕ, suc, Bool, true, false, cond, ◌&&◌, ◌==◌, List, [], ◌∷◌, take, length, nat_le, Option, Some, None, option_and_then, slice_get}
use Rattle.toy_imp.specs.declared.rule.Rule.{Rule}
use Rattle.rule_terms.specs.declared.obligation.Conjunct.{Conjunct}
use Rattle.rule_terms.specs.declared.path.Path.{Path}
use Rattle.path_pairs.specs.declared.cut_points.CutPoints.{CutPoints}
use Rattle.proof_steps.specs.Refutes.{refutes}
use Rattle.refutations.specs.declared.refutation.Refutation.{Refutation}
use Rattle.spot_obligations.specs.declared.entry.Entry.{Entry}
use Rattle.spot_obligations.specs.declared.entry.Spot.{Spot}
use Rattle.spot_obligations.specs.declared.obligation_at.ObligationAt.{ObligationAt}
use Rattle.spot_obligations.specs.declared.obligation_at.ObligationAt.TheVariants.{Found, Heavy, Absent}
use Rattle.spot_obligations.specs.Owed.{Owed, each, one, nothing, owed}
use Rattle.spot_obligations.specs.PathsOfEntry.{lefts, rights, is_exit, is_within}
use Rattle.spot_obligations.specs.Obligations.{obligation_of, weighed}
use Rattle.spot_obligations.specs.Spots.{spot_at}
use Rattle.cert_checker.specs.declared.certificate.Proved.{Proved}
use Rattle.cert_checker.specs.declared.taking.Around as code
use Rattle.cert_checker.specs.declared.taking.Pair as code_pair

-- an entry, by its number and its conjuncts, and what stands around it
pub record Around : Type 0 where
  pub rule : Rule
  pub entries : List Entry
  pub proofs : List Proved
  pub known : List Conjunct
  pub entry : ℕ

-- a pair of its paths
pub record Pair : Type 0 where
  pub around : Around
  pub left_number : ℕ
  pub left : Path
  pub right_number : ℕ
  pub right : Path

abbrev pub around_of : code.Around → Around
around_of x = record { rule = x.rule.now; entries = x.entries.now; proofs = x.proofs.now; known = x.known.now; entry = x.entry }

abbrev pub pair_of : code_pair.Pair → Pair
pair_of x = record { around = around_of x.around; left_number = x.left_number; left = x.left.now; right_number = x.right_number; right = x.right.now }

-- along a list whose items have numbers, from the number k on
unfoldable pub along : {X : Type 0} → (ℕ → X → ℕ → Option ℕ) → ℕ → List X → ℕ → Option ℕ
along take_item k [] n = Some n
along take_item k (x ∷ xs) n = option_and_then (along take_item (suc k) xs) (take_item k x n)

abbrev pub same_number : Option ℕ → Option ℕ → Bool
same_number None None = true
same_number None (Some d) = false
same_number (Some c) None = false
same_number (Some c) (Some d) = c == d

unfoldable pub same_spot : Spot → Spot → Bool
same_spot x y = (x.entry == y.entry && x.left == y.left) && (x.right == y.right && same_number x.conjunct y.conjunct)

abbrev pub spot_of : Pair → Option ℕ → Spot
spot_of x c = spot_at x.around.entry x.left_number x.right_number c

-- an obligation that is found is refuted
abbrev pub is_refuted : ObligationAt → Refutation → Bool
is_refuted (Found ob) proof = refutes ob proof
is_refuted Heavy proof = false
is_refuted Absent proof = false

unfoldable pub proves : Pair → Conjunct → ℕ → Refutation → Bool
proves x goal used proof = nat_le used (length x.around.known) && is_refuted (weighed (Some (obligation_of x.around.rule (take used x.around.known) x.left x.right goal))) proof

unfoldable pub is_proof : Pair → Option ℕ → Conjunct → Proved → Bool
is_proof x c goal p = same_spot p.spot (spot_of x c) && proves x goal p.used p.proof

abbrev pub taken_if : Pair → Option ℕ → Conjunct → ℕ → Option Proved → Option ℕ
taken_if x c goal n None = None
taken_if x c goal n (Some p) = cond (is_proof x c goal p) (Some (suc n)) None

unfoldable pub taken_one : Pair → Option ℕ → Conjunct → ℕ → Option ℕ
taken_one x c goal n = taken_if x c goal n (slice_get x.around.proofs n)

-- for each conjunct of a list, by its number
abbrev pub taken_numbered : Pair → ℕ → Conjunct → ℕ → Option ℕ
taken_numbered x c goal n = taken_one x (Some c) goal n

abbrev pub taken_owed : Pair → Owed → ℕ → Option ℕ
taken_owed x (each goals) n = along (taken_numbered x) 0 goals n
taken_owed x (one goal) n = taken_one x None goal n
taken_owed x nothing n = Some n

unfoldable pub taken_pair : Pair → ℕ → Option ℕ
taken_pair x n = taken_owed x (owed x.around.rule.conditions x.around.entries x.left.stop x.right.stop) n

-- for one left path and each right path
abbrev pub taken_right : Around → ℕ → Path → ℕ → Path → ℕ → Option ℕ
taken_right x a l b r n = taken_pair (record { around = x; left_number = a; left = l; right_number = b; right = r }) n

-- for each left path
abbrev pub taken_left : Around → List Path → ℕ → Path → ℕ → Option ℕ
taken_left x others a l n = along (taken_right x a l) 0 others n

abbrev pub taken_paths : Around → List Path → List Path → ℕ → Option ℕ
taken_paths x all others n = along (taken_left x others) 0 all n

-- no proof is left
abbrev pub is_last : List Proved → Option ℕ → Bool
is_last proofs None = false
is_last proofs (Some n) = n == length proofs

module _ (rule : Rule) (points : CutPoints) (entries : List Entry) (proofs : List Proved) where
  -- for each entry but the exits, if its paths pass no limit
  unfoldable pub taken_entry : ℕ → Entry → ℕ → Option ℕ
  taken_entry k e n =
      cond (is_exit rule e) (Some n)
      (cond (is_within rule points e)
      (taken_paths (record { rule = rule; entries = entries; proofs = proofs; known = e.conjuncts; entry = k }) (lefts rule points e) (rights rule points e) n)
      None)

  abbrev pub taken_entries : Option ℕ
  taken_entries = along taken_entry 0 entries 0

  -- all proofs are taken
  unfoldable pub takes_all : Bool
  takes_all = is_last proofs taken_entries
