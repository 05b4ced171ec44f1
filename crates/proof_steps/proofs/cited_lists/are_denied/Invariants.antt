-- As many steps as literals, and what is left of them is denied exactly where all are.
use Rattle.std.proofs.Common.{◌≡◌, length, drop}
use Rattle.law_clauses.specs.Signed.{all_signed}
use Rattle.proof_steps.specs.Cited.{cited}
use Rattle.proof_steps.specs.Steps.{all_negated}
use Rattle.proof_steps.proofs.cited_lists.are_denied.Given as goal

abbrev pub invariant-loop-i : goal.invariant-loop-i
invariant-loop-i l =
    record {
      as_many : length l.ks ≡ length l.xs;
      left : cited l.earlier (drop l.i l.ks) (all_negated (all_signed (drop l.i l.xs))) ≡ cited l.earlier l.ks (all_negated (all_signed l.xs));
    }
