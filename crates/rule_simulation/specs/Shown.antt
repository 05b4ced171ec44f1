-- What makes a relation between the two sides of a rule a simulation: where it starts and ends, and that at each of its spots the
-- obligation, with some of the conjuncts known, holds. Nothing is asked here of cut points: that walks stop is enough.
use Rattle.std.specs.Prelude.{◌≡◌, ℕ, true, false, List, [], ◌∷◌, take, Some, slice_get}
use Rattle.toy_imp.specs.declared.rule.Rule.{Rule}
use Rattle.term_meaning.specs.Meaning.{ObligationHolds}
use Rattle.path_pairs.specs.declared.cut_points.CutPoints.{CutPoints}
use Rattle.entry_pairs.specs.EntryLists.{IsBefore}
use Rattle.spot_obligations.specs.declared.entry.Entry.{Entry}
use Rattle.spot_obligations.specs.declared.entry.Spot.{Spot}
use Rattle.rule_terms.specs.Goals.{sides_equal}
use Rattle.spot_obligations.specs.Owed.{pair_of}
use Rattle.spot_obligations.specs.PathsOfEntry.{is_exit, is_within}
use Rattle.spot_obligations.specs.Obligations.{AtSpot, at_spot, obligation_of}

-- an entry with the one conjunct `L = R`
abbrev pub plain : ℕ × ℕ → Entry
plain pair = record { left = pair.0; right = pair.1; conjuncts = sides_equal ∷ [] }

-- an entry from which both sides are walked: its points are before the exits, and its paths pass no limit
pub record IsOpen (rule : Rule) (points : CutPoints) (e : Entry) : Type 0 where
  pub before : IsBefore rule (pair_of e)
  pub within : is_within rule points e ≡ true

-- the obligation of what stands at a spot holds, with some number of conjuncts known
pub record IsShown (rule : Rule) (s : AtSpot) : Type 0 where
  pub used : ℕ
  pub holds : ObligationHolds (obligation_of rule (take used s.known) s.left s.right s.goal)

pub record Shown (rule : Rule) (points : CutPoints) (entries : List Entry) : Type 0 where
  pub start : slice_get entries 0 ≡ Some (plain (0, 0))
  pub at_exits : (k : ℕ) (e : Entry) → slice_get entries k ≡ Some e → is_exit rule e ≡ true → e.conjuncts ≡ sides_equal ∷ []
  pub others : (k : ℕ) (e : Entry) → slice_get entries k ≡ Some e → is_exit rule e ≡ false → IsOpen rule points e
  pub spots : (spot : Spot) (s : AtSpot) → at_spot rule points entries spot ≡ Some s → IsShown rule s
