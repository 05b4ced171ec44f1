-- The summed form of an expression: the affine form that comes of it in the counters of loops and in symbols, worked out from
-- its parts. The symbols are the expression parameters of a rule, in order of declaration.
use Rattle.std.specs.Prelude.{ℕ, Bool, false, true, ◌==◌, nat_lt, nat_le, ◌&&◌, ℤ, pos, List, take, count_by, position, Option, Some, None, option_map, if◌then◌else◌}
use Rattle.std.specs.Int.RustNames.{unsigned_abs}
use Rattle.std.specs.List.{list_all}
use Rattle.std.specs.Ordering.{int_eq}
use Rattle.toy_imp.specs.declared.name.Name.{Name}
use Rattle.toy_imp.specs.declared.name.Name.TheVariants.{Own, Par}
use Rattle.toy_imp.specs.declared.param.Kind.TheVariants as kind
use Rattle.toy_imp.specs.declared.param.Param.{Param}
use Rattle.toy_imp.specs.Faults.{kind_is, has_kind}
use Rattle.toy_imp.specs.Expr.{Expr, num, at, add, sub, mul, par_expr, Exprs, no_exprs, expr}
use Rattle.affine_forms.specs.declared.form.Form.{Form}
use Rattle.affine_forms.specs.Form.{constant_form, counter_form, symbol_form, plus, minus, scaled}

-- ---- tests of forms
abbrev pub are_at_most : ℕ → List ℤ → Bool
are_at_most most zs = list_all (λ z. nat_le (unsigned_abs z) most) zs

-- all magnitudes are below 2^31
abbrev pub is_small : Form → Bool
is_small f = are_at_most 2147483647 f.counters && (are_at_most 2147483647 f.symbols && nat_le (unsigned_abs f.constant) 2147483647)

-- the coefficients of the counters are -1, 0 or 1
abbrev pub has_units : Form → Bool
has_units f = are_at_most 1 f.counters

abbrev pub are_zero : List ℤ → Bool
are_zero zs = list_all (λ z. int_eq z (pos 0)) zs

-- no counter and no symbol counts
abbrev pub is_constant : Form → Bool
is_constant f = are_zero f.counters && are_zero f.symbols

-- ---- which place a parameter has in a form
-- the place of a name among the counters, outermost first; one that an enclosing `let` renames has none
abbrev pub is_renamed : Option ℕ → ℕ → Bool
is_renamed None k = false
is_renamed (Some x) k = x == k

unfoldable pub counter_place : List ℕ → Option ℕ → ℕ → Option ℕ
counter_place counters renamed k = if is_renamed renamed k then None else position (λ x. x == k) counters

-- the place of an expression parameter among the symbols, of which a form has eight
abbrev pub symbols_before : List Param → ℕ → ℕ
symbols_before ps k = count_by (λ p. kind_is kind.Expr p.kind) (take k ps)

unfoldable pub symbol_place : List Param → ℕ → Option ℕ
symbol_place ps k = if has_kind ps kind.Expr k && nat_lt (symbols_before ps k) 8 then Some (symbols_before ps k) else None

-- ---- the form of an expression by those of its parts
-- a form is kept where it is small
unfoldable pub if_small : Form → Option Form
if_small f = if is_small f then Some f else None

unfoldable pub sum_form : Option Form → Option Form → Option Form
sum_form (Some f) (Some g) = if_small (plus f g)
sum_form _ _ = None

unfoldable pub difference_form : Option Form → Option Form → Option Form
difference_form (Some f) (Some g) = if_small (minus f g)
difference_form _ _ = None

-- one of the factors is a constant
unfoldable pub product_of : Form → Form → Option Form
product_of f g =
    if is_constant f then if_small (scaled f.constant g)
    else if is_constant g then if_small (scaled g.constant f)
    else None

unfoldable pub product_form : Option Form → Option Form → Option Form
product_form (Some f) (Some g) = product_of f g
product_form _ _ = None

abbrev pub has_indices : Exprs → Bool
has_indices no_exprs = false
has_indices (expr e es) = true

-- a variable that is a counter
unfoldable pub cell_form : List ℕ → Option ℕ → Name → Exprs → Option Form
cell_form counters renamed (Own x) es = None
cell_form counters renamed (Par k) es = if has_indices es then None else option_map counter_form (counter_place counters renamed k)

-- none where a product has no constant factor, where another cell is read, or where a number of the form of some part is too large
unfoldable pub summed : List Param → List ℕ → Option ℕ → Expr → Option Form
summed ps counters renamed (num z) = if_small (constant_form z)
summed ps counters renamed (at x es) = cell_form counters renamed x es
summed ps counters renamed (add a b) = sum_form (summed ps counters renamed a) (summed ps counters renamed b)
summed ps counters renamed (sub a b) = difference_form (summed ps counters renamed a) (summed ps counters renamed b)
summed ps counters renamed (mul a b) = product_form (summed ps counters renamed a) (summed ps counters renamed b)
summed ps counters renamed (par_expr k) = option_map symbol_form (symbol_place ps k)

-- the summed form where the coefficients of its counters are -1, 0 or 1, as bounds and values of rules have it
unfoldable pub with_units : Option Form → Option Form
with_units None = None
with_units (Some f) = if has_units f then Some f else None

abbrev pub affine : List Param → List ℕ → Option ℕ → Expr → Option Form
affine ps counters renamed e = with_units (summed ps counters renamed e)
