-- When a certificate proves a rule: its entries are a relation over pairs of cut points, from the starts to the exits, and its proofs
-- are of the spots of that relation, one each and in their order.
use Rattle.std.specs.Prelude.{◌≡◌, ◌≤◌, Bool, true, false, ◌&&◌, ◌||◌, List, ◌∷◌, map, length, nat_lt, nat_le, Some, Ok, All}
use Rattle.std.specs.List.{list_all}
use Rattle.toy_imp.specs.declared.rule.Rule.{Rule}
use Rattle.toy_imp.specs.Faults.{repeats_pair}
use Rattle.toy_imp.specs.Points.{exit_point}
use Rattle.rule_terms.specs.Counts.{obligation_nodes}
use Rattle.rule_terms.specs.declared.obligation.Obligation.{Obligation}
use Rattle.path_pairs.specs.declared.cut_points.CutPoints.{CutPoints}
use Rattle.entry_pairs.specs.Cuts.{exits, cuts}
use Rattle.entry_pairs.specs.EntryLists.{is_cut_pair}
use Rattle.proof_steps.specs.Refutes.{refutes}
use Rattle.spot_obligations.specs.declared.entry.Entry.{Entry}
use Rattle.spot_obligations.specs.Owed.{pair_of}
use Rattle.spot_obligations.specs.PathsOfEntry.{is_exit, is_within}
use Rattle.spot_obligations.specs.Obligations.{obligation_at}
use Rattle.spot_obligations.specs.Spots.{spots}
use Rattle.rule_simulation.specs.Shown.{plain}
use Rattle.cert_checker.specs.declared.certificate.Certificate.{Certificate}
use Rattle.cert_checker.specs.declared.certificate.Proved.{Proved}

-- both points are before their exits, and there are at most 32 conjuncts
abbrev pub is_inside : Rule → Entry → Bool
is_inside rule e = (nat_lt e.left (exit_point rule.left) && nat_lt e.right (exit_point rule.right)) && nat_le (length e.conjuncts) 32

-- both points are cut points
abbrev pub is_cut_entry : CutPoints → Entry → Bool
is_cut_entry points e = is_cut_pair points (pair_of e)

-- the first entry is the starts with the one conjunct `L = R`, the second the exits with the same
abbrev pub begins : Rule → List Entry → List Entry
begins rule others = plain (0, 0) ∷ plain (exits rule) ∷ others

-- the entries are different pairs of cut points, all but the exits before them
pub record IsRelation (rule : Rule) (points : CutPoints) (entries : List Entry) : Type 0 where
  pub others : List Entry
  pub begin : entries ≡ begins rule others
  pub inside : list_all (is_inside rule) others ≡ true
  pub cut : list_all (is_cut_entry points) entries ≡ true
  pub differ : repeats_pair (map pair_of entries) ≡ false

-- the paths of an entry, if it is not the exits, pass no limit
abbrev pub may_be_walked : Rule → CutPoints → Entry → Bool
may_be_walked rule points e = is_exit rule e || is_within rule points e

-- the obligation at the spot of a proof, with as many conjuncts known as it uses, has at most 4,096 nodes and is refuted
pub record IsProof (rule : Rule) (points : CutPoints) (entries : List Entry) (p : Proved) : Type 0 where
  pub obligation : Obligation
  pub there : obligation_at rule points entries p.spot p.used ≡ Some obligation
  pub light : obligation_nodes obligation ≤ 4096
  pub refuted : refutes obligation p.proof ≡ true

-- under given cut points
pub record Certifies (rule : Rule) (points : CutPoints) (cert : Certificate) : Type 0 where
  pub relation : IsRelation rule points cert.entries
  pub walked : list_all (may_be_walked rule points) cert.entries ≡ true
  pub in_order : map (λ p. p.spot) cert.proofs ≡ spots rule points cert.entries
  pub proved : All (IsProof rule points cert.entries) cert.proofs

-- under the cut points of the rule, which are within the limits
pub record IsCertificate (rule : Rule) (cert : Certificate) : Type 0 where
  pub points : CutPoints
  pub has_cuts : cuts rule ≡ Ok points
  pub certifies : Certifies rule points cert
