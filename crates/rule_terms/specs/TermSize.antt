-- Sizes that fall from a term to its parts: twice the depth, and one more for a place round its indices.
use Rattle.std.specs.Prelude.{ℕ, ◌+◌, ◌*◌}
use Rattle.rule_terms.specs.Term.{StoreTerm, ValueTerm, Place, store_depth, value_depth, terms_depth}

abbrev pub store_size : StoreTerm → ℕ
store_size s = 2 * store_depth s

abbrev pub value_size : ValueTerm → ℕ
value_size v = 2 * value_depth v

abbrev pub place_size : Place → ℕ
place_size p = 2 * terms_depth p.indices + 1
