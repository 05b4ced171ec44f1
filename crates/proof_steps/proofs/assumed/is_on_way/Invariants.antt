-- What is assumed on the way to the part that has been come to has the literal exactly where what is assumed at the first has.
use Rattle.std.proofs.Common.{◌≡◌, ◌<◌, [], length, get_or}
use Rattle.std.specs.List.{list_any}
use Rattle.law_clauses.specs.Signed.{signed_of, signed_same}
use Rattle.refutations.specs.Refutation.{parts}
use Rattle.proof_steps.specs.Ways.{all_listed, ways}
use Rattle.proof_steps.proofs.assumed.is_on_way.Given as goal

abbrev pub invariant-loop-at : goal.invariant-loop-at
invariant-loop-at l =
    record {
      within : l.at < length (parts l.proof);
      right : list_any (signed_same (signed_of l.x)) (get_or (ways (all_listed l.first) l.proof) l.at []) ≡ list_any (signed_same (signed_of l.x)) (get_or (ways (all_listed l.first) l.proof) l.n []);
    }

abbrev pub decreases-loop-at : goal.decreases-loop-at
decreases-loop-at l = l.at
