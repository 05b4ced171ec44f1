-- As many literals as indices, and what is left of them denies exactly where all do.
use Rattle.std.proofs.Common.{◌≡◌, length, drop}
use Rattle.rule_terms.specs.TermView.{terms_of}
use Rattle.law_clauses.specs.Signed.{all_signed, all_same}
use Rattle.law_clauses.specs.WriteLaws.{unequal}
use Rattle.law_clauses.proofs.read_back.deny_indices.Given as goal

abbrev pub invariant-loop-i : goal.invariant-loop-i
invariant-loop-i l =
    record {
      as_many : length l.xs ≡ length l.js;
      left : all_same (all_signed (drop l.i l.xs)) (unequal (terms_of (drop l.i l.js)) (terms_of (drop l.i l.is))) ≡ all_same (all_signed l.xs) (unequal (terms_of l.js) (terms_of l.is));
    }
