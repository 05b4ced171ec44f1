use Rattle.std.proofs.Common.{◌≡◌, ◌+◌, ◌*◌, drop}
use Rattle.rule_terms.specs.Term.{store_depth, value_depth, terms_depth}
use Rattle.rule_terms.specs.TermView.{terms_of}
use Rattle.rule_terms.specs.Order.{terms_cmp}
use Rattle.rule_terms.proofs.+compare.Given as goal

abbrev pub decreases-term::StoreTerm::compare : goal.decreases-term::StoreTerm::compare
decreases-term::StoreTerm::compare l = 2 * store_depth l.self.now

abbrev pub decreases-term::ValueTerm::compare : goal.decreases-term::ValueTerm::compare
decreases-term::ValueTerm::compare l = 2 * value_depth l.self.now

abbrev pub decreases-order::compare_values : goal.decreases-order::compare_values
decreases-order::compare_values l = 2 * terms_depth (terms_of l.a.now) + 1

abbrev pub invariant-order::compare_values-loop-i : goal.invariant-order::compare_values-loop-i
invariant-order::compare_values-loop-i l = terms_cmp (terms_of (drop l.i l.a)) (terms_of (drop l.i l.b)) ≡ terms_cmp (terms_of l.a) (terms_of l.b)
