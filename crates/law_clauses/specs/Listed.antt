-- When a side condition is listed, and when its parameters are of the kinds that a law names.
-- `commute` and `ignores`, by which stores are exchanged, stand with the terms.
use Rattle.std.specs.Prelude.{ℕ, Bool, false, ◌==◌, ◌&&◌, ◌||◌, List, slice_get}
use Rattle.std.specs.List.{list_any}
use Rattle.std.specs.Option.{option_map_or}
use Rattle.toy_imp.specs.declared.condition.Condition.{Condition}
use Rattle.toy_imp.specs.declared.condition.Condition.TheVariants.{Keeps, Positive, Constant, Distinct}
use Rattle.toy_imp.specs.declared.param.Kind.{Kind}
use Rattle.toy_imp.specs.declared.param.Kind.TheVariants as kind
use Rattle.toy_imp.specs.Faults.{kind_is}
use Rattle.rule_terms.specs.Listed.{commute, ignores}
use Rattle.rule_terms.specs.declared.obligation.Obligation.{Obligation}

abbrev pub is_keeps : ℕ → ℕ → Condition → Bool
is_keeps k o (Keeps a b) = a == k && b == o
is_keeps k o _ = false

abbrev pub is_positive : ℕ → Condition → Bool
is_positive e (Positive a) = a == e
is_positive e _ = false

abbrev pub is_constant : ℕ → Condition → Bool
is_constant e (Constant a) = a == e
is_constant e _ = false

abbrev pub is_distinct : ℕ → ℕ → Condition → Bool
is_distinct x y (Distinct a b) = (a == x && b == y) || (a == y && b == x)
is_distinct x y _ = false

-- `keeps` of the statement parameter and the other parameter is listed
unfoldable pub keeps : List Condition → ℕ → ℕ → Bool
keeps conditions k o = list_any (is_keeps k o) conditions

unfoldable pub positive : List Condition → ℕ → Bool
positive conditions e = list_any (is_positive e) conditions

unfoldable pub constant : List Condition → ℕ → Bool
constant conditions e = list_any (is_constant e) conditions

-- `distinct` of the two names is listed, in either order
unfoldable pub distinct : List Condition → ℕ → ℕ → Bool
distinct conditions x y = list_any (is_distinct x y) conditions

-- the number is that of a parameter of this kind
abbrev pub has_kind : List Kind → Kind → ℕ → Bool
has_kind params wanted k = option_map_or (kind_is wanted) (slice_get params k) false

-- ---- the conditions of an obligation, of parameters of these kinds
-- `keeps` of a statement, and of a parameter of the kind
unfoldable pub lists_keeps : Obligation → Kind → ℕ → ℕ → Bool
lists_keeps ob wanted k o = has_kind ob.params kind.Stmt k && (has_kind ob.params wanted o && keeps ob.conditions k o)

-- `ignores` of a parameter of the kind, and of a name
unfoldable pub lists_ignores : Obligation → Kind → ℕ → ℕ → Bool
lists_ignores ob wanted k x = has_kind ob.params wanted k && (has_kind ob.params kind.Name x && ignores ob.conditions k x)

-- `commutes` of two statements, in either order
unfoldable pub lists_commutes : Obligation → ℕ → ℕ → Bool
lists_commutes ob j k = has_kind ob.params kind.Stmt j && (has_kind ob.params kind.Stmt k && commute ob.conditions j k)

-- `positive` and `constant` of an expression
unfoldable pub lists_positive : Obligation → ℕ → Bool
lists_positive ob e = has_kind ob.params kind.Expr e && positive ob.conditions e

unfoldable pub lists_constant : Obligation → ℕ → Bool
lists_constant ob e = has_kind ob.params kind.Expr e && constant ob.conditions e

-- `distinct` of two names, in either order
unfoldable pub lists_distinct : Obligation → ℕ → ℕ → Bool
lists_distinct ob x y = has_kind ob.params kind.Name x && (has_kind ob.params kind.Name y && distinct ob.conditions x y)
