-- What is wrong with a rule that is not well formed: one definition for each item, in the order of the items.
-- A rule is well formed where none holds.
use Rattle.std.specs.Prelude.{ℕ, zero, suc, Bool, true, false, not, ◌&&◌, ◌||◌, ◌==◌, nat_lt, nat_le, List, [], ◌∷◌, length, bytes_eq, Option, None, Some, slice_get, if◌then◌else◌}
use Rattle.std.specs.List.{list_all, list_any}
use Rattle.std.specs.Option.{option_map_or}
use Rattle.toy_imp.specs.declared.condition.Condition.{Condition}
use Rattle.toy_imp.specs.declared.condition.Condition.TheVariants as condition
use Rattle.toy_imp.specs.declared.param.Kind.{Kind}
use Rattle.toy_imp.specs.declared.param.Kind.TheVariants as kind
use Rattle.toy_imp.specs.declared.param.Param.{Param}
use Rattle.toy_imp.specs.declared.rule.CutList.{CutList}
use Rattle.toy_imp.specs.declared.rule.CutList.TheVariants as cuts
use Rattle.toy_imp.specs.declared.rule.Method.{Method}
use Rattle.toy_imp.specs.declared.rule.Method.TheVariants as method
use Rattle.toy_imp.specs.declared.rule.Rule.{Rule}
use Rattle.toy_imp.specs.Block.{Stmt, skip, put, assert_that, if_then, while_do, for_to, let_in, par_stmt, Block, empty, stmt}
use Rattle.toy_imp.specs.Points.{point_count}
use Rattle.toy_imp.specs.Uses.{Use, own_name, parameter, block_any}

-- F1: two parameters have one name
abbrev pub repeats_name : List Param → Bool
repeats_name [] = false
repeats_name (p ∷ ps) = list_any (λ q. bytes_eq q.name p.name) ps || repeats_name ps

-- F2: a side holds a name that is no parameter, or a side or a condition has the number of no parameter
abbrev pub is_undeclared : ℕ → Use → Bool
is_undeclared count own_name = true
is_undeclared count (parameter wanted k) = nat_le count k

-- the numbers in a condition
abbrev pub condition_numbers : Condition → List ℕ
condition_numbers (condition.Keeps s o) = s ∷ o ∷ []
condition_numbers (condition.Ignores o x) = o ∷ x ∷ []
condition_numbers (condition.Commutes s t) = s ∷ t ∷ []
condition_numbers (condition.Positive e) = e ∷ []
condition_numbers (condition.Constant e) = e ∷ []
condition_numbers (condition.Distinct x y) = x ∷ y ∷ []
condition_numbers (condition.Quiet s) = s ∷ []
condition_numbers (condition.Swaps s t names region) = s ∷ t ∷ names

abbrev pub uses_undeclared : Rule → Bool
uses_undeclared rule =
    block_any (is_undeclared (length rule.params)) rule.left
    || block_any (is_undeclared (length rule.params)) rule.right
    || list_any (λ c. list_any (nat_le (length rule.params)) (condition_numbers c)) rule.conditions

-- F3: a parameter stands where its kind is not allowed, or the kinds of a condition are not those of its form. An expression
-- parameter with indices stands as a name.
abbrev pub kind_is : Kind → Kind → Bool
kind_is kind.Name kind.Name = true
kind_is kind.Expr kind.Expr = true
kind_is kind.Test kind.Test = true
kind_is kind.Stmt kind.Stmt = true
kind_is _ _ = false

-- whether the number is that of a parameter of this kind
abbrev pub has_kind : List Param → Kind → ℕ → Bool
has_kind ps wanted k = option_map_or (λ p. kind_is wanted p.kind) (slice_get ps k) false

abbrev pub is_misplaced : List Param → Use → Bool
is_misplaced ps own_name = false
is_misplaced ps (parameter wanted k) = not (has_kind ps wanted k)

-- whether the parameters of a condition are of the kinds of its form
abbrev pub has_condition_kinds : List Param → Condition → Bool
has_condition_kinds ps (condition.Keeps s o) = has_kind ps kind.Stmt s && (has_kind ps kind.Expr o || has_kind ps kind.Test o || has_kind ps kind.Name o)
has_condition_kinds ps (condition.Ignores o x) = (has_kind ps kind.Expr o || has_kind ps kind.Test o || has_kind ps kind.Stmt o) && has_kind ps kind.Name x
has_condition_kinds ps (condition.Commutes s t) = has_kind ps kind.Stmt s && has_kind ps kind.Stmt t
has_condition_kinds ps (condition.Positive e) = has_kind ps kind.Expr e
has_condition_kinds ps (condition.Constant e) = has_kind ps kind.Expr e
has_condition_kinds ps (condition.Distinct x y) = has_kind ps kind.Name x && has_kind ps kind.Name y
has_condition_kinds ps (condition.Quiet s) = has_kind ps kind.Stmt s
has_condition_kinds ps (condition.Swaps s t names region) = has_kind ps kind.Stmt s && (has_kind ps kind.Stmt t && list_all (has_kind ps kind.Name) names)

abbrev pub misplaces_parameter : Rule → Bool
misplaces_parameter rule =
    block_any (is_misplaced rule.params) rule.left
    || block_any (is_misplaced rule.params) rule.right
    || not (list_all (has_condition_kinds rule.params) rule.conditions)

-- F4: a parameter does not occur in the left side
abbrev pub is_number : ℕ → Use → Bool
is_number k own_name = false
is_number k (parameter wanted j) = j == k

abbrev pub occurs : ℕ → Block → Bool
occurs k side = block_any (is_number k) side

-- whether one of the first n parameters does not occur
abbrev pub omits_below : ℕ → Block → Bool
omits_below zero side = false
omits_below (suc n) side = omits_below n side || not (occurs n side)

abbrev pub omits_parameter : Rule → Bool
omits_parameter rule = omits_below (length rule.params) rule.left

-- F5: the method is simulation, and a side has `for` or `let`, or there is a `swaps` condition
abbrev mutual
  pub stmt_has_scope : Stmt → Bool
  stmt_has_scope skip = false
  stmt_has_scope (put x is e) = false
  stmt_has_scope (assert_that t) = false
  stmt_has_scope (if_then t b c) = has_scope b || has_scope c
  stmt_has_scope (while_do t b) = has_scope b
  stmt_has_scope (for_to x lo hi b) = true
  stmt_has_scope (let_in x e b) = true
  stmt_has_scope (par_stmt k) = false

  pub has_scope : Block → Bool
  has_scope empty = false
  has_scope (stmt s b) = stmt_has_scope s || has_scope b

abbrev pub is_swaps : Condition → Bool
is_swaps (condition.Swaps s t names region) = true
is_swaps _ = false

abbrev pub is_simulate : Method → Bool
is_simulate method.Simulate = true
is_simulate method.Permute = false
is_simulate method.Chain = false
is_simulate method.Tile = false

abbrev pub simulates_scopes : Rule → Bool
simulates_scopes rule = is_simulate rule.method && (has_scope rule.left || has_scope rule.right || list_any is_swaps rule.conditions)

-- F6: a rule of method permute or chain lists cuts; in a rule of method simulate or tile a listed cut is no pair of points
-- inside the left and the right side, or a pair is listed twice
abbrev pub same_pair : ℕ × ℕ → ℕ × ℕ → Bool
same_pair a b = a.0 == b.0 && a.1 == b.1

abbrev pub repeats_pair : List (ℕ × ℕ) → Bool
repeats_pair [] = false
repeats_pair (a ∷ pairs) = list_any (same_pair a) pairs || repeats_pair pairs

-- whether a pair of cuts is listed twice
abbrev pub repeats_cut : CutList → Bool
repeats_cut cuts.Default = false
repeats_cut (cuts.Listed pairs) = repeats_pair pairs

-- whether a number is that of one of so many points inside, which are numbered from 1
abbrev pub is_within : ℕ → ℕ → Bool
is_within count p = nat_le 1 p && nat_le p count

abbrev pub is_inside : Block → Block → ℕ × ℕ → Bool
is_inside left right a = is_within (point_count left) a.0 && is_within (point_count right) a.1

abbrev pub cuts_nothing : CutList → Block → Block → Bool
cuts_nothing cuts.Default left right = false
cuts_nothing (cuts.Listed pairs) left right = not (list_all (is_inside left right) pairs) || repeats_pair pairs

abbrev pub lists_cuts : CutList → Bool
lists_cuts cuts.Default = false
lists_cuts (cuts.Listed pairs) = true

abbrev pub may_list_cuts : Method → Bool
may_list_cuts method.Simulate = true
may_list_cuts method.Permute = false
may_list_cuts method.Chain = false
may_list_cuts method.Tile = true

abbrev pub has_wrong_cuts : Rule → Bool
has_wrong_cuts rule = if may_list_cuts rule.method then cuts_nothing rule.cuts rule.left rule.right else lists_cuts rule.cuts

-- F11: more than 64 parameters or more than 64 conditions
abbrev pub is_too_large : Rule → Bool
is_too_large rule = nat_lt 64 (length rule.params) || nat_lt 64 (length rule.conditions)

-- the least number of an item that holds
unfoldable pub first_fault : Rule → Option ℕ
first_fault rule =
    if repeats_name rule.params then Some 1
    else if uses_undeclared rule then Some 2
    else if misplaces_parameter rule then Some 3
    else if omits_parameter rule then Some 4
    else if simulates_scopes rule then Some 5
    else if has_wrong_cuts rule then Some 6
    else if is_too_large rule then Some 11
    else None

-- a rule is well formed where no item holds
unfoldable pub well_formed : Rule → Bool
well_formed rule =
    not (repeats_name rule.params || uses_undeclared rule || misplaces_parameter rule || omits_parameter rule
    || simulates_scopes rule || has_wrong_cuts rule || is_too_large rule)
