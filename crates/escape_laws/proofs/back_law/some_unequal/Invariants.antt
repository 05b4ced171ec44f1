-- As many indices, and of what is left of them some differ exactly where some of all do.
use Rattle.std.proofs.Common.{◌≡◌, length, drop}
use Rattle.std.specs.List.{list_any}
use Rattle.rule_terms.specs.TermView.{terms_of}
use Rattle.law_clauses.specs.WriteLaws.{unequal}
use Rattle.escape_marks.specs.LawsHold.{is_kept}
use Rattle.escape_laws.proofs.back_law.some_unequal.Given as goal

abbrev pub invariant-loop-i : goal.invariant-loop-i
invariant-loop-i l =
    record {
      as_many : length l.js ≡ length l.is;
      left : list_any (is_kept l.params l.e) (unequal (terms_of (drop l.i l.js)) (terms_of (drop l.i l.is))) ≡ list_any (is_kept l.params l.e) (unequal (terms_of l.js) (terms_of l.is));
    }
