-- The constant c of an index `k + c`: the index is `k`, `k + c`, `c + k` or `k - d` with c the negative of d, d and c constants.
use Rattle.std.specs.Prelude.{◌≡◌, ℕ, ℤ, pos, neg_ℤ, ◌+ℤ◌, Bool, false, cond, ◌&&◌, List, [], Option, Some, None}
use Rattle.std.specs.Option.{option_map}
use Rattle.toy_imp.specs.Store.{Store, read}
use Rattle.toy_imp.specs.Value.{value}
use Rattle.toy_imp.specs.Expr.{Expr, num, at, add, sub, mul, par_expr}
use Rattle.side_conditions.specs.declared.places.Form.TheVariants as form
use Rattle.side_conditions.specs.Seeking.{named, has_form}

-- whether an expression is the variable of the name of these bytes
abbrev pub is_variable : List ℕ → Expr → Bool
is_variable k (at x es) = named k x es && has_form form.Variable es
is_variable k (num z) = false
is_variable k (add a b) = false
is_variable k (sub a b) = false
is_variable k (mul a b) = false
is_variable k (par_expr j) = false

abbrev pub constant_of : Expr → Option ℤ
constant_of (num z) = Some z
constant_of (at x es) = None
constant_of (add a b) = None
constant_of (sub a b) = None
constant_of (mul a b) = None
constant_of (par_expr j) = None

abbrev pub offset_of : List ℕ → Expr → Option ℤ
offset_of k (num z) = None
offset_of k (at x es) = cond (is_variable k (at x es)) (Some (pos 0)) None
offset_of k (add a b) = cond (is_variable k a) (constant_of b) (cond (is_variable k b) (constant_of a) None)
offset_of k (sub a b) = cond (is_variable k a) (option_map neg_ℤ (constant_of b)) None
offset_of k (mul a b) = None
offset_of k (par_expr j) = None

-- in every store the index is that far from the variable
abbrev pub OffsetTells : Type 0
OffsetTells = (k : List ℕ) (e : Expr) (c : ℤ) → offset_of k e ≡ Some c → (s : Store) → value e s ≡ read s (k, []) +ℤ c
