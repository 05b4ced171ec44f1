-- Three kinds of exchanges, added one after another.
use Rattle.std.specs.Prelude.{◌≡◌, List, ◌++◌}
use Rattle.std.proofs.Common.{sym, ◌∙◌}
use Rattle.toy_imp.specs.declared.condition.Condition.{Condition}
use Rattle.rule_terms.specs.Term.{StoreTerm}
use Rattle.rule_terms.specs.Order.{store_same}
use Rattle.rule_terms.specs.Added.{added_all}
use Rattle.term_universe.specs.Universe.{commuted, run_first, write_first, exchanged}
use Rattle.term_universe.proofs.Listings.{added_append}

pub three_added : (conditions : List Condition) (s : StoreTerm) (xs : List StoreTerm)
    → added_all store_same (added_all store_same (added_all store_same xs (commuted conditions s)) (run_first conditions s)) (write_first conditions s) ≡ added_all store_same xs (exchanged conditions s)
three_added conditions s xs =
    sym (added_append store_same xs (commuted conditions s) (run_first conditions s ++ write_first conditions s)
    ∙ added_append store_same (added_all store_same xs (commuted conditions s)) (run_first conditions s) (write_first conditions s))
