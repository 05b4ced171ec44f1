-- As many indices, and what is left of them passes exactly where all do.
use Rattle.std.proofs.Common.{◌≡◌, length, drop}
use Rattle.rule_terms.specs.TermView.{terms_of}
use Rattle.escape_laws.specs.IndexLaw.{each_pair, equal_or}
use Rattle.escape_laws.proofs.index_law.pairs_equal.Given as goal

abbrev pub invariant-loop-i : goal.invariant-loop-i
invariant-loop-i l =
    record {
      as_many : length l.js ≡ length l.is;
      left : each_pair (equal_or l.params l.e l.rest) (terms_of (drop l.i l.js)) (terms_of (drop l.i l.is)) ≡ each_pair (equal_or l.params l.e l.rest) (terms_of l.js) (terms_of l.is);
    }
