use Rattle.std.proofs.Common.{◌+◌, ◌*◌, take}
use Rattle.rule_terms.specs.Term.{store_depth, value_depth, terms_depth}
use Rattle.rule_terms.specs.TermView.{terms_of}
use Rattle.term_pool.specs.Numbered.{AreNumbers}
use Rattle.term_pool.specs.Growth.{Adds, indices_terms}
use Rattle.term_pool.proofs.pool.Pool.+put_term.Given as goal

abbrev pub decreases-put_store : goal.decreases-put_store
decreases-put_store l = 2 * store_depth l.s.now

abbrev pub decreases-put_value : goal.decreases-put_value
decreases-put_value l = 2 * value_depth l.v.now

abbrev pub decreases-put_values : goal.decreases-put_values
decreases-put_values l = 2 * terms_depth (terms_of l.items.now) + 1

abbrev pub invariant-put_values-loop-v : goal.invariant-put_values-loop-v
invariant-put_values-loop-v l = record {
  numbers : AreNumbers l.self l.all (terms_of (take l.v-index l.items));
  added : Adds l.fn.self l.self (indices_terms (terms_of (take l.v-index l.items)));
}
