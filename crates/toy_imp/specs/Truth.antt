-- Whether a test is true in a store, by the structure of the test.
-- A parameter that stands for no test is false.
use Rattle.std.specs.Prelude.{Bool, false, not, ◌&&◌, ◌||◌, int_lt, int_le}
use Rattle.std.specs.Ordering.{int_eq}
use Rattle.toy_imp.specs.Store.{Store}
use Rattle.toy_imp.specs.Value.{value}
use Rattle.toy_imp.specs.Test.{Test, less, less_eq, equal, not_of, and_of, or_of, par_test}

unfoldable pub truth : Test → Store → Bool
truth (less a b) s = int_lt (value a s) (value b s)
truth (less_eq a b) s = int_le (value a s) (value b s)
truth (equal a b) s = int_eq (value a s) (value b s)
truth (not_of t) s = not (truth t s)
truth (and_of t u) s = truth t s && truth u s
truth (or_of t u) s = truth t s || truth u s
truth (par_test k) s = false
