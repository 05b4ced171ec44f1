-- Worked examples: a certificate of the rule with two empty sides, whatever refutes its one obligation, and forged ones, each wrong in
-- one line of the definition.
use Rattle.std.specs.Prelude.{◌≡◌, ◌≤◌, ℕ, Bool, true, false, List, [], ◌∷◌, Option, Some, None, Ok, refl}
use Rattle.std.proofs.Common.{sym, ◌∙◌, ap, arith}
use Rattle.toy_imp.specs.Block.{empty}
use Rattle.toy_imp.specs.declared.rule.Rule.{Rule}
use Rattle.toy_imp.specs.declared.rule.Method.TheVariants.{Simulate}
use Rattle.toy_imp.specs.declared.rule.CutList.TheVariants.{Default}
use Rattle.rule_terms.specs.Term.{StoreTerm, left_store, right_store}
use Rattle.rule_terms.specs.Counts.{store_nodes, atom_nodes, obligation_nodes}
use Rattle.rule_terms.specs.Substitute.{store_at, atom_at}
use Rattle.rule_terms.specs.declared.obligation.Atom.{Atom}
use Rattle.rule_terms.specs.declared.obligation.Atom.TheVariants.{SameStore}
use Rattle.rule_terms.specs.declared.obligation.Literal.{Literal}
use Rattle.rule_terms.specs.declared.obligation.Conjunct.{Conjunct}
use Rattle.rule_terms.specs.declared.obligation.Obligation.{Obligation}
use Rattle.path_pairs.specs.declared.cut_points.CutPoints.{CutPoints}
use Rattle.path_pairs.specs.Outcomes.{outcomes}
use Rattle.path_pairs.specs.Paths.{side_paths, has_long_walk}
use Rattle.path_pairs.specs.Walks.{stmt_step, walks, goes_on}
use Rattle.entry_pairs.specs.Cuts.{walked, cuts}
use Rattle.proof_steps.specs.Refutes.{refutes}
use Rattle.refutations.specs.declared.refutation.Refutation.{Refutation}
use Rattle.spot_obligations.specs.declared.entry.Entry.{Entry}
use Rattle.spot_obligations.specs.declared.entry.Spot.{Spot}
use Rattle.rule_terms.specs.Goals.{sides_equal}
use Rattle.spot_obligations.specs.Owed.{owed}
use Rattle.spot_obligations.specs.Obligations.{among_paths, at_spot, obligation_of, obligation_at}
use Rattle.spot_obligations.specs.Spots.{spot_at, over_numbered, spots}
use Rattle.rule_simulation.specs.Shown.{plain}
use Rattle.cert_checker.specs.declared.certificate.Certificate.{Certificate}
use Rattle.cert_checker.specs.declared.certificate.Proved.{Proved}
use Rattle.cert_checker.specs.Certificates.{IsRelation, IsProof, Certifies, IsCertificate}
use Rattle.cert_checker.proofs.ProofsTaken.{no_proof, one_more}

abbrev nothing_done : Rule
nothing_done = record { title = []; params = []; conditions = []; method = Simulate; cuts = Default; left = empty; right = empty }

abbrev points : CutPoints
points = record { left = 0 ∷ 1 ∷ []; right = 0 ∷ 1 ∷ []; pairs = (0, 0) ∷ (1, 1) ∷ [] }

abbrev entries : List Entry
entries = plain (0, 0) ∷ plain (1, 1) ∷ []

-- its one spot, and the obligation there: `L = R` is known, and to be shown
abbrev only_spot : Spot
only_spot = spot_at 0 0 0 (Some 0)

abbrev kept : Obligation
kept = record { params = []; conditions = []; known = sides_equal ∷ []; path = []; goal = sides_equal }

there : obligation_at nothing_done points entries only_spot 1 ≡ Some kept
unfolding outcomes stmt_step walks goes_on side_paths has_long_walk store_nodes atom_nodes store_at atom_at owed among_paths at_spot obligation_of obligation_at
there = refl

light : obligation_nodes kept ≤ 4096
unfolding store_nodes atom_nodes
light = omega arith

one_spot : spots nothing_done points entries ≡ only_spot ∷ []
unfolding outcomes stmt_step walks side_paths over_numbered owed
one_spot = refl

has_points : cuts nothing_done ≡ Ok points
unfolding outcomes stmt_step walks goes_on side_paths has_long_walk walked store_nodes atom_nodes
has_points = refl

is_relation : IsRelation nothing_done points entries
is_relation = record { others = []; begin = refl; inside = refl; cut = refl; differ = refl }

module _ (proof : Refutation) where
  abbrev proved_with : ℕ → Proved
  proved_with used = record { spot = only_spot; used = used; proof = proof }

  abbrev certificate : List Entry → List Proved → Certificate
  certificate of proofs = record { entries = of; proofs = proofs }

  is_proof : refutes kept proof ≡ true → IsProof nothing_done points entries (proved_with 1)
  is_proof right = record { obligation = kept; there = there; light = light; refuted = right }

  -- with whatever refutes the obligation, this is a certificate
  pub whole : refutes kept proof ≡ true → IsCertificate nothing_done (certificate entries (proved_with 1 ∷ []))
  unfolding outcomes stmt_step walks goes_on side_paths has_long_walk store_nodes atom_nodes
  whole right = record {
    points = points;
    has_cuts = has_points;
    certifies = record {
      relation = is_relation;
      walked = refl;
      in_order = sym one_spot;
      proved = one_more nothing_done points entries (proved_with 1) [] (is_proof right) (no_proof nothing_done points entries);
    };
  }

  -- ---- forged ones
  proof_missing : Certifies nothing_done points (certificate entries []) → ⊥
  proof_missing c =
      let same : ◌≡◌ {A = List Spot} [] (only_spot ∷ []) = c.in_order ∙ one_spot in
      cc

  proof_twice : Certifies nothing_done points (certificate entries (proved_with 1 ∷ proved_with 1 ∷ [])) → ⊥
  proof_twice c =
      let same : ◌≡◌ {A = List Spot} (only_spot ∷ only_spot ∷ []) (only_spot ∷ []) = c.in_order ∙ one_spot in
      cc

  -- the entry has one conjunct, and two are used
  two_used : IsProof nothing_done points entries (proved_with 2) → ⊥
  unfolding outcomes stmt_step walks goes_on side_paths has_long_walk store_nodes atom_nodes owed among_paths at_spot obligation_of obligation_at
  two_used is =
      let same : ◌≡◌ {A = Option Obligation} None (Some is.obligation) = is.there in
      cc

-- the exits are left out
exits_missing : IsRelation nothing_done points (plain (0, 0) ∷ []) → ⊥
exits_missing is =
    let same : ◌≡◌ {A = List Entry} (plain (0, 0) ∷ []) (plain (0, 0) ∷ plain (1, 1) ∷ is.others) = is.begin in
    cc

-- what is said at the first entry
abbrev said_first : List Entry → List Conjunct
said_first [] = []
said_first (e ∷ more) = e.conjuncts

-- a conjunct more at the start
start_with_two : IsRelation nothing_done points (record { left = 0; right = 0; conjuncts = sides_equal ∷ sides_equal ∷ [] } ∷ plain (1, 1) ∷ []) → ⊥
start_with_two is =
    let same : sides_equal ∷ sides_equal ∷ [] ≡ sides_equal ∷ [] = ap said_first is.begin in
    cc

-- `R = L` in place of `L = R`
abbrev turned : Conjunct
turned = record { when = []; gives = Some (record { sign = true; atom = SameStore right_store left_store }) }

-- L stands on the left of an equality
abbrev is_left : StoreTerm → Bool
is_left left_store = true
is_left _ = false

abbrev atom_left : Atom → Bool
atom_left (SameStore a b) = is_left a
atom_left _ = false

abbrev gives_left : Option Literal → Bool
gives_left None = false
gives_left (Some x) = atom_left x.atom

abbrev says_left : List Conjunct → Bool
says_left [] = false
says_left (c ∷ more) = gives_left c.gives

start_turned : IsRelation nothing_done points (record { left = 0; right = 0; conjuncts = turned ∷ [] } ∷ plain (1, 1) ∷ []) → ⊥
start_turned is =
    let same : false ≡ true = ap (λ of. says_left (said_first of)) is.begin in
    cc

-- an entry twice
entry_twice : IsRelation nothing_done points (plain (0, 0) ∷ plain (1, 1) ∷ plain (0, 0) ∷ []) → ⊥
entry_twice is =
    let same : true ≡ false = is.differ in
    cc

-- an entry at no cut points
entry_at_no_cut : IsRelation nothing_done points (plain (0, 0) ∷ plain (1, 1) ∷ plain (7, 7) ∷ []) → ⊥
entry_at_no_cut is =
    let same : false ≡ true = is.cut in
    cc
