-- What a written name with indices stands for, where it is no expression parameter.
use Rattle.std.proofs.Common.{◌≡◌, List, [], ◌∷◌, Option, None, Some, refl}
use Rattle.toy_imp.specs.declared.param.Kind.{Kind}
use Rattle.toy_imp.specs.declared.param.Kind.TheVariants as kind
use Rattle.toy_imp.specs.declared.param.Param.{Param}
use Rattle.toy_imp.specs.Expr.{Expr, at}
use Rattle.toy_imp.specs.ExprView.{exprs_of}
use Rattle.toy_imp.specs.Parameters.{cell_by, name_value}
use Rattle.std.specs.Prelude.{ℕ}

pub cell_is_at : (k : Option Kind) (ps : List Param) (x : List ℕ) (indices : List Expr) → (k ≡ Some kind.Expr → indices ≡ [] → ⊥)
    → cell_by k ps x (exprs_of indices) ≡ at (name_value ps x) (exprs_of indices)
cell_is_at None ps x indices other = refl
cell_is_at (Some kind.Name) ps x indices other = refl
cell_is_at (Some kind.Test) ps x indices other = refl
cell_is_at (Some kind.Stmt) ps x indices other = refl
cell_is_at (Some kind.Expr) ps x [] other = absurd (other refl refl)
cell_is_at (Some kind.Expr) ps x (a ∷ more) other = refl
