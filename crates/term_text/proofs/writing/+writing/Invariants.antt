use Rattle.std.proofs.Common.{◌≡◌, ◌++◌, ◌+◌, ◌*◌, max, take}
use Rattle.rule_terms.specs.Term.{store_depth, value_depth, terms_depth}
use Rattle.rule_terms.specs.TermView.{terms_of}
use Rattle.term_text.specs.TermText.{terms_words}
use Rattle.term_text.proofs.writing.+writing.Given as goal

abbrev pub invariant-put_values-loop-v : goal.invariant-put_values-loop-v
invariant-put_values-loop-v l = l.out ≡ l.initial.out ++ terms_words (terms_of (take l.v-index l.items))

abbrev pub decreases-put_store : goal.decreases-put_store
decreases-put_store l = 4 * store_depth l.s.now

abbrev pub decreases-put_value : goal.decreases-put_value
decreases-put_value l = 4 * value_depth l.v.now

abbrev pub decreases-put_pair : goal.decreases-put_pair
decreases-put_pair l = 4 * max (value_depth l.a.now) (value_depth l.b.now) + 1

abbrev pub decreases-put_place : goal.decreases-put_place
decreases-put_place l = 4 * terms_depth l.p.now.indices + 2

abbrev pub decreases-put_values : goal.decreases-put_values
decreases-put_values l = 4 * terms_depth (terms_of l.items.now) + 1
