-- A store or nothing: what is written, read and tested there, and when two are the same.
-- Writing at nothing gives nothing, a value at nothing is 0, and a test at nothing is false.
use Rattle.std.specs.Prelude.{Bool, true, false, ℤ, pos, Option, Some, None}
use Rattle.toy_imp.specs.Cell.{Cell}
use Rattle.toy_imp.specs.Store.{Store, read, write}
use Rattle.toy_imp.specs.Value.{value}
use Rattle.toy_imp.specs.Truth.{truth}
use Rattle.toy_imp.specs.Expr.{Expr}
use Rattle.toy_imp.specs.Test.{Test}
use Rattle.term_meaning.specs.SameStore.{same_store}

abbrev pub put_in : Option Store → Cell → ℤ → Option Store
put_in None c v = None
put_in (Some s) c v = Some (write s c v)

abbrev pub read_in : Option Store → Cell → ℤ
read_in None c = pos 0
read_in (Some s) c = read s c

abbrev pub value_in : Option Store → Expr → ℤ
value_in None e = pos 0
value_in (Some s) e = value e s

abbrev pub truth_in : Option Store → Test → Bool
truth_in None t = false
truth_in (Some s) t = truth t s

-- both nothing, or both the same store
abbrev pub same_option : Option Store → Option Store → Bool
same_option None None = true
same_option None (Some t) = false
same_option (Some s) None = false
same_option (Some s) (Some t) = same_store s t
