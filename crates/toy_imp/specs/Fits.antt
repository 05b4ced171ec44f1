-- An instance fits a rule where it has one filling per parameter, of its kind, without parameters inside.
-- An empty block is a lawful filling.
use Rattle.std.specs.Prelude.{Bool, true, false, ◌&&◌, List, [], ◌∷◌}
use Rattle.toy_imp.specs.declared.param.Kind.{Kind}
use Rattle.toy_imp.specs.declared.param.Kind.TheVariants as kind
use Rattle.toy_imp.specs.declared.param.Param.{Param}
use Rattle.toy_imp.specs.declared.rule.Rule.{Rule}
use Rattle.toy_imp.specs.declared.instance.Filling.{Filling}
use Rattle.toy_imp.specs.declared.instance.Filling.TheVariants as filling
use Rattle.toy_imp.specs.declared.instance.Instance.{Instance}
use Rattle.toy_imp.specs.Program.{is_own, is_closed, is_closed_test, is_program}

-- of this kind, and without parameters inside
abbrev pub fits_kind : Kind → Filling → Bool
fits_kind kind.Name (filling.Name x) = is_own x
fits_kind kind.Expr (filling.Expr e) = is_closed e
fits_kind kind.Test (filling.Test t) = is_closed_test t
fits_kind kind.Stmt (filling.Stmt b) = is_program b
fits_kind _ _ = false

abbrev pub fits_params : List Param → List Filling → Bool
fits_params [] [] = true
fits_params [] (f ∷ fs) = false
fits_params (p ∷ ps) [] = false
fits_params (p ∷ ps) (f ∷ fs) = fits_kind p.kind f && fits_params ps fs

abbrev pub fits : Instance → Rule → Bool
fits i rule = fits_params rule.params i.fillings
