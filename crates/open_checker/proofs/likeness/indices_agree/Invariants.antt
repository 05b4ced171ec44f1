-- As many indices, and what is left of them agrees exactly where all do.
use Rattle.std.proofs.Common.{◌≡◌, length, drop}
use Rattle.rule_terms.specs.TermView.{terms_of}
use Rattle.open_checker.specs.Likeness.{indices_agree}
use Rattle.open_checker.proofs.likeness.indices_agree.Given as goal

abbrev pub invariant-loop-i : goal.invariant-loop-i
invariant-loop-i l =
    record {
      as_many : length l.is ≡ length l.js;
      left : indices_agree l.params l.e (terms_of (drop l.i l.is)) (terms_of (drop l.i l.js)) ≡ indices_agree l.params l.e (terms_of l.is) (terms_of l.js);
    }
