-- Whether a place has indices, by the length of their list.
use Rattle.std.specs.Prelude.{◌≡◌, List, [], ◌∷◌, length, not, refl}
use Rattle.std.specs.Bool.{◌==◌}
use Rattle.std.proofs.Common.{ap}
use Rattle.std.proofs.Math.Dec.{eqb-suc-zero}
use Rattle.toy_imp.specs.Expr.{Expr}
use Rattle.toy_imp.specs.ExprView.{exprs_of}
use Rattle.side_conditions.specs.declared.places.Form.TheVariants as form
use Rattle.side_conditions.specs.Seeking.{has_form}

pub none_wanted : (es : List Expr) → (length es == 0) ≡ has_form form.Variable (exprs_of es)
none_wanted [] = refl
none_wanted (e ∷ es) = eqb-suc-zero (length es)

pub some_wanted : (es : List Expr) → not (length es == 0) ≡ has_form form.Indexed (exprs_of es)
some_wanted [] = refl
some_wanted (e ∷ es) = ap not (eqb-suc-zero (length es))
