-- When a value has a text under declared parameters: when its canonical tree has that value again.
-- Constants lie strictly between -2^63 and 2^63, a cell has at most three indices, and a name is read as what it stands for.
-- Whether the bytes of a name are letters and digits is a matter of tokens, and not asked here.
use Rattle.std.specs.Prelude.{ℕ, ◌^◌, Bool, true, false, not, ◌&&◌, nat_lt, nat_le, ◌==◌, List, length, pos, negsuc, int_lt, ◌-◌, Option, Some}
use Rattle.toy_imp.specs.declared.name.Name.{Name}
use Rattle.toy_imp.specs.declared.name.Name.TheVariants.{Own, Par}
use Rattle.toy_imp.specs.declared.param.Kind.{Kind}
use Rattle.toy_imp.specs.declared.param.Kind.TheVariants as kind
use Rattle.toy_imp.specs.declared.param.Param.{Param}
use Rattle.toy_imp.specs.Expr.{Expr, num, at, add, sub, mul, par_expr, Exprs, no_exprs, expr}
use Rattle.toy_imp.specs.Test.{Test, less, less_eq, equal, not_of, and_of, or_of, par_test}
use Rattle.toy_imp.specs.Block.{Stmt, skip, put, assert_that, if_then, while_do, for_to, let_in, par_stmt, Block, empty, stmt}
use Rattle.toy_imp.specs.Parameters.{number_of, kind_of}
use Rattle.toy_imp.specs.Uses.{Use, own_name, parameter}
use Rattle.toy_imp.specs.ExprCanonical.{declared_name, written_name}

-- a parameter that is declared, and the first of its name
abbrev pub is_first : List Param → ℕ → Bool
is_first ps k = nat_lt k (length ps) && (number_of ps (declared_name ps k) == k)

-- an own name that no parameter has, or a parameter that its name stands for
abbrev pub is_spellable_name : List Param → Name → Bool
is_spellable_name ps (Own x) = not (nat_lt (number_of ps x) (length ps))
is_spellable_name ps (Par k) = is_first ps k

abbrev pub is_expr_kind : Option Kind → Bool
is_expr_kind (Some kind.Expr) = true
is_expr_kind _ = false

-- whether this written name, without indices, is an expression parameter
abbrev pub names_expr : List Param → List ℕ → Bool
names_expr ps x = is_expr_kind (kind_of ps x)

abbrev mutual
  pub is_spellable : List Param → Expr → Bool
  is_spellable ps (num z) = int_lt (negsuc (2 ^ 63 - 1)) z && int_lt z (pos (2 ^ 63))
  is_spellable ps (at x no_exprs) = is_spellable_name ps x && not (names_expr ps (written_name ps x))
  is_spellable ps (at x (expr e es)) = is_spellable_name ps x && are_spellable_indices ps (expr e es)
  is_spellable ps (add a b) = is_spellable ps a && is_spellable ps b
  is_spellable ps (sub a b) = is_spellable ps a && is_spellable ps b
  is_spellable ps (mul a b) = is_spellable ps a && is_spellable ps b
  is_spellable ps (par_expr k) = is_first ps k && names_expr ps (declared_name ps k)

  pub are_spellable_indices : List Param → Exprs → Bool
  are_spellable_indices ps no_exprs = true
  are_spellable_indices ps (expr a no_exprs) = is_spellable ps a
  are_spellable_indices ps (expr a (expr b no_exprs)) = is_spellable ps a && is_spellable ps b
  are_spellable_indices ps (expr a (expr b (expr c no_exprs))) = is_spellable ps a && (is_spellable ps b && is_spellable ps c)
  are_spellable_indices ps (expr a (expr b (expr c (expr d more)))) = false

abbrev pub is_spellable_test : List Param → Test → Bool
is_spellable_test ps (less a b) = is_spellable ps a && is_spellable ps b
is_spellable_test ps (less_eq a b) = is_spellable ps a && is_spellable ps b
is_spellable_test ps (equal a b) = is_spellable ps a && is_spellable ps b
is_spellable_test ps (not_of t) = is_spellable_test ps t
is_spellable_test ps (and_of t u) = is_spellable_test ps t && is_spellable_test ps u
is_spellable_test ps (or_of t u) = is_spellable_test ps t && is_spellable_test ps u
is_spellable_test ps (par_test k) = is_first ps k

abbrev mutual
  pub is_spellable_stmt : List Param → Stmt → Bool
  is_spellable_stmt ps skip = true
  is_spellable_stmt ps (put x es e) = is_spellable_name ps x && (are_spellable_indices ps es && is_spellable ps e)
  is_spellable_stmt ps (assert_that t) = is_spellable_test ps t
  is_spellable_stmt ps (if_then t b c) = is_spellable_test ps t && (is_spellable_block ps b && is_spellable_block ps c)
  is_spellable_stmt ps (while_do t b) = is_spellable_test ps t && is_spellable_block ps b
  is_spellable_stmt ps (for_to x lo hi b) = is_spellable_name ps x && (is_spellable ps lo && (is_spellable ps hi && is_spellable_block ps b))
  is_spellable_stmt ps (let_in x e b) = is_spellable_name ps x && (is_spellable ps e && is_spellable_block ps b)
  is_spellable_stmt ps (par_stmt k) = is_first ps k

  pub is_spellable_block : List Param → Block → Bool
  is_spellable_block ps empty = true
  is_spellable_block ps (stmt s b) = is_spellable_stmt ps s && is_spellable_block ps b

-- a number of no parameter, which a test or a statement that is a name alone has where the name is not declared
abbrev pub is_missing : ℕ → Use → Bool
is_missing count own_name = false
is_missing count (parameter wanted k) = nat_le count k
