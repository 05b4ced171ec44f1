use Rattle.std.proofs.Common.{◌≡◌, ◌+◌, ◌*◌, max, take}
use Rattle.rule_terms.specs.Term.{store_depth, value_depth, terms_depth}
use Rattle.rule_terms.specs.TermView.{terms_of}
use Rattle.term_run.specs.Meant.{values_of_terms, AreNarrow}
use Rattle.term_run.proofs.means.+means.Given as goal

abbrev pub decreases-store_means : goal.decreases-store_means
decreases-store_means l = 2 * store_depth l.term.now

abbrev pub decreases-value_means : goal.decreases-value_means
decreases-value_means l = 2 * value_depth l.term.now

abbrev pub decreases-both_mean : goal.decreases-both_mean
decreases-both_mean l = 2 * max (value_depth l.a.now) (value_depth l.b.now) + 1

abbrev pub decreases-values_mean : goal.decreases-values_mean
decreases-values_mean l = 2 * terms_depth (terms_of l.terms.now) + 1

abbrev pub invariant-values_mean-loop-v : goal.invariant-values_mean-loop-v
invariant-values_mean-loop-v l = (l.all ≡ values_of_terms l.w (terms_of (take l.v-index l.terms))) × AreNarrow l.w (terms_of (take l.v-index l.terms))
