-- The conditions that a rule of loops has to have, so that a statement may be moved past the loops round it.
use Rattle.std.specs.Prelude.{ℕ, Bool, true, false, not, ◌||◌, ◌&&◌, ◌==◌, nat_lt, length}
use Rattle.std.specs.List.{list_any}
use Rattle.toy_imp.specs.declared.condition.Condition.{Condition}
use Rattle.toy_imp.specs.declared.condition.Condition.TheVariants as condition
use Rattle.toy_imp.specs.declared.param.Kind.TheVariants as kind
use Rattle.toy_imp.specs.declared.rule.Rule.{Rule}
use Rattle.toy_imp.specs.Faults.{has_kind}
use Rattle.loop_sides.specs.declared.required.Wanted.{Wanted}
use Rattle.loop_sides.specs.declared.required.Wanted.TheVariants as wanted
use Rattle.loop_sides.specs.Below.{any_below}
use Rattle.loop_sides.specs.Setting.{block_holds, block_sets, sets_round}

-- whether a condition is the one that is wanted; `distinct` is so in either order
abbrev pub is_wanted : Wanted → Condition → Bool
is_wanted (wanted.Keeps s o) (condition.Keeps t p) = s == t && o == p
is_wanted (wanted.Ignores o x) (condition.Ignores p y) = o == p && x == y
is_wanted (wanted.Distinct x y) (condition.Distinct a b) = (x == a && y == b) || (x == b && y == a)
is_wanted (wanted.Quiet s) (condition.Quiet t) = s == t
is_wanted _ _ = false

abbrev pub lacks : Rule → Wanted → Bool
lacks rule w = not (list_any (is_wanted w) rule.conditions)

-- a `swaps` condition says of its statements that they halt from no store
abbrev pub swaps_statement : ℕ → Condition → Bool
swaps_statement k (condition.Swaps s t names region) = k == s || k == t
swaps_statement k _ = false

-- ---- what is asked of a pair of parameters
abbrev pub is_set : Rule → ℕ → Bool
is_set rule x = block_sets x rule.left || block_sets x rule.right

-- two names that are set differ
abbrev pub lacks_distinct : Rule → ℕ → ℕ → Bool
lacks_distinct rule a b = nat_lt a b && (is_set rule a && (is_set rule b && lacks rule (wanted.Distinct a b)))

-- an expression ignores each name that is set
abbrev pub lacks_ignored : Rule → ℕ → ℕ → Bool
lacks_ignored rule a b = has_kind rule.params kind.Expr a && (is_set rule b && lacks rule (wanted.Ignores a b))

-- a statement keeps each expression
abbrev pub lacks_kept : Rule → ℕ → ℕ → Bool
lacks_kept rule a b = block_holds a rule.left && (has_kind rule.params kind.Expr b && lacks rule (wanted.Keeps a b))

-- a statement keeps each name that is set round it on both sides, and ignores one that is set there on one side alone
abbrev pub lacks_by : Bool → Bool → Rule → ℕ → ℕ → Bool
lacks_by true true rule a b = lacks rule (wanted.Keeps a b)
lacks_by true false rule a b = lacks rule (wanted.Ignores a b)
lacks_by false true rule a b = lacks rule (wanted.Ignores a b)
lacks_by false false rule a b = false

abbrev pub lacks_for_name : Rule → ℕ → ℕ → Bool
lacks_for_name rule a b = lacks_by (sets_round b a rule.left) (sets_round b a rule.right) rule a b

abbrev pub lacks_for_pair : Rule → ℕ → ℕ → Bool
lacks_for_pair rule a b = lacks_distinct rule a b || (lacks_ignored rule a b || (lacks_kept rule a b || lacks_for_name rule a b))

-- a statement that no `swaps` condition names is quiet
abbrev pub lacks_quiet : Rule → ℕ → Bool
lacks_quiet rule k = block_holds k rule.left && (not (list_any (swaps_statement k) rule.conditions) && lacks rule (wanted.Quiet k))

abbrev pub lacks_of : Rule → ℕ → Bool
lacks_of rule k = lacks_quiet rule k || any_below (lacks_for_pair rule k) (length rule.params)

-- whether a condition that is required is missing
unfoldable pub lacks_condition : Rule → Bool
lacks_condition rule = any_below (lacks_of rule) (length rule.params)
