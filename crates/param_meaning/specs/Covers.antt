-- An instance covers a tree where each parameter in it has a filling of its kind.
-- Parameters are declared for a tree where each parameter in it is declared, by its number, with its kind.
use Rattle.std.specs.Prelude.{ℕ, Bool, true, false, List, Option, None, Some, slice_get}
use Rattle.std.specs.List.{list_all}
use Rattle.toy_imp.specs.declared.param.Kind.{Kind}
use Rattle.toy_imp.specs.declared.param.Kind.TheVariants as kind
use Rattle.toy_imp.specs.declared.param.Param.{Param}
use Rattle.toy_imp.specs.declared.instance.Filling.{Filling}
use Rattle.toy_imp.specs.declared.instance.Filling.TheVariants as filling
use Rattle.toy_imp.specs.declared.instance.Instance.{Instance}
use Rattle.toy_imp.specs.Expr.{Expr}
use Rattle.toy_imp.specs.Test.{Test}
use Rattle.toy_imp.specs.Block.{Block}
use Rattle.toy_imp.specs.Program.{is_own, is_closed, is_closed_test, is_program}
use Rattle.param_meaning.specs.Each.{each_in_expr, each_in_test, each_in}

-- there is a filling, and it is of this kind
abbrev pub is_filling_of : Kind → Option Filling → Bool
is_filling_of kind.Name (Some (filling.Name x)) = true
is_filling_of kind.Expr (Some (filling.Expr e)) = true
is_filling_of kind.Test (Some (filling.Test t)) = true
is_filling_of kind.Stmt (Some (filling.Stmt b)) = true
is_filling_of _ _ = false

abbrev pub is_filled : Instance → Kind → ℕ → Bool
is_filled i c k = is_filling_of c (slice_get i.fillings k)

abbrev pub covers_expr : Instance → Expr → Bool
covers_expr i e = each_in_expr (is_filled i) e

abbrev pub covers_test : Instance → Test → Bool
covers_test i t = each_in_test (is_filled i) t

abbrev pub covers : Instance → Block → Bool
covers i b = each_in (is_filled i) b

abbrev pub is_kind : Kind → Kind → Bool
is_kind kind.Name kind.Name = true
is_kind kind.Expr kind.Expr = true
is_kind kind.Test kind.Test = true
is_kind kind.Stmt kind.Stmt = true
is_kind _ _ = false

-- there is a parameter, and it is declared with this kind
abbrev pub is_param_of : Kind → Option Param → Bool
is_param_of c None = false
is_param_of c (Some p) = is_kind c p.kind

abbrev pub is_declared : List Param → Kind → ℕ → Bool
is_declared params c k = is_param_of c (slice_get params k)

abbrev pub declares : List Param → Block → Bool
declares params b = each_in (is_declared params) b

-- a filling that holds no parameter
abbrev pub is_closed_filling : Filling → Bool
is_closed_filling (filling.Name x) = is_own x
is_closed_filling (filling.Expr e) = is_closed e
is_closed_filling (filling.Test t) = is_closed_test t
is_closed_filling (filling.Stmt b) = is_program b

abbrev pub is_closed_instance : Instance → Bool
is_closed_instance i = list_all is_closed_filling i.fillings
