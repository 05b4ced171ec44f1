-- The indices of a place: how many there are, and the one of each number.
use Rattle.std.specs.Prelude.{ℕ, zero, suc, Option, Some, None}
use Rattle.rule_terms.specs.Term.{ValueTerm, ValueTerms, no_terms, term}

abbrev pub count : ValueTerms → ℕ
count no_terms = 0
count (term v vs) = suc (count vs)

abbrev pub index_at : ValueTerms → ℕ → Option ValueTerm
index_at no_terms k = None
index_at (term v vs) zero = Some v
index_at (term v vs) (suc k) = index_at vs k
