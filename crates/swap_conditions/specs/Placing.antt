-- How far the indices of places are from a counter. The distance at a position is c where the index there is `k + c` for the
-- counter k, written in one of the four ways. A place with another number of indices has none.
use Rattle.std.specs.Prelude.{ℕ, zero, suc, ℤ, Bool, false, cond, ◌==◌, List, Option, Some, None, option_and_then, int_le}
use Rattle.std.specs.Ordering.{int_eq}
use Rattle.toy_imp.specs.Expr.{Expr, Exprs, no_exprs, expr}
use Rattle.side_conditions.specs.Offsets.{offset_of}

abbrev pub count : Exprs → ℕ
count no_exprs = 0
count (expr e es) = suc (count es)

abbrev pub index_at : ℕ → Exprs → Option Expr
index_at p no_exprs = None
index_at zero (expr e es) = Some e
index_at (suc p) (expr e es) = index_at p es

-- from the counter k, of a place that is to have n indices, at position p
abbrev pub distance : List ℕ → ℕ → ℕ → Exprs → Option ℤ
distance k n p es = cond (count es == n) (option_and_then (offset_of k) (index_at p es)) None

-- a distance that is c
abbrev pub is_just : ℤ → Option ℤ → Bool
is_just c (Some d) = int_eq c d
is_just c None = false

-- two distances, of which the first is at most the second
abbrev pub not_above : Option ℤ → Option ℤ → Bool
not_above (Some d) (Some c) = int_le d c
not_above (Some d) None = false
not_above None c = false
