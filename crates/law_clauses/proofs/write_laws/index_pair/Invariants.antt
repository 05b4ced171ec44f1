-- What is left of the lists has the pair exactly where the whole lists have.
use Rattle.std.proofs.Common.{◌≡◌, drop}
use Rattle.rule_terms.specs.TermView.{terms_of}
use Rattle.law_clauses.specs.WriteLaws.{index_pair}
use Rattle.law_clauses.proofs.write_laws.index_pair.Given as goal

abbrev pub invariant-loop-i : goal.invariant-loop-i
invariant-loop-i l = index_pair l.a l.b (terms_of (drop l.i l.js)) (terms_of (drop l.i l.is)) ≡ index_pair l.a l.b (terms_of l.js) (terms_of l.is)
