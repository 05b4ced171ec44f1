-- How many outcomes a test has in which it is true, or false. It is the same at every store.
-- `as_many_outcomes` of proofs/OutcomeLengths.antt says that it is the length of the list.
use Rattle.std.specs.Prelude.{ℕ, ◌+◌, ◌*◌, Bool, true, false, not}
use Rattle.toy_imp.specs.Test.{Test, less, less_eq, equal, not_of, and_of, or_of, par_test}

unfoldable pub outcome_count : Test → Bool → ℕ
outcome_count (less a b) way = 1
outcome_count (less_eq a b) way = 1
outcome_count (equal a b) way = 1
outcome_count (not_of t) way = outcome_count t (not way)
outcome_count (and_of t u) true = outcome_count t true * outcome_count u true
outcome_count (and_of t u) false = outcome_count t false + outcome_count t true * outcome_count u false
outcome_count (or_of t u) true = outcome_count t true + outcome_count t false * outcome_count u true
outcome_count (or_of t u) false = outcome_count t false * outcome_count u false
outcome_count (par_test k) way = 1
