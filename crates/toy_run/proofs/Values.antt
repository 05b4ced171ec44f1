-- The values of a list of expressions, one expression after another, and where all of them are narrow.
use Rattle.std.specs.Prelude.{◌≡◌, ℕ, zero, suc, ◌+◌, ◌<◌, ℤ, List, [], ◌∷◌, ◌++◌, take, length, refl}
use Rattle.std.proofs.Common.{sym, ◌∙◌, ap, ap₂, subst, arith, get_or, add-one}
use Rattle.toy_imp.specs.Store.{Store}
use Rattle.toy_imp.specs.Expr.{Expr}
use Rattle.toy_imp.specs.ExprView.{exprs_of}
use Rattle.toy_imp.specs.Value.{value, values}
use Rattle.toy_run.specs.Narrow.{NarrowExpr, NarrowExprs}

values_suc : (es : List Expr) (i : ℕ) (s : Store) (d : Expr) → i < length es → values (exprs_of (take (suc i) es)) s ≡ values (exprs_of (take i es)) s ++ value (get_or es i d) s ∷ []
unfolding values
values_suc [] i s d h = absurd (omega arith)
values_suc (e ∷ es) zero s d h = refl
values_suc (e ∷ es) (suc i) s d h = ap (λ l. value e s ∷ l) (values_suc es i s d (omega arith))

pub values_more : (es : List Expr) (i : ℕ) (s : Store) (d : Expr) → i < length es → values (exprs_of (take (i + 1) es)) s ≡ values (exprs_of (take i es)) s ++ value (get_or es i d) s ∷ []
values_more es i s d h = rw add-one (values_suc es i s d h)

narrow_suc : (es : List Expr) (i : ℕ) (s : Store) (d : Expr) → i < length es → NarrowExprs (exprs_of (take i es)) s → NarrowExpr (get_or es i d) s → NarrowExprs (exprs_of (take (suc i) es)) s
unfolding NarrowExprs
narrow_suc [] i s d h all here = absurd (omega arith)
narrow_suc (e ∷ es) zero s d h all here = (here, tt)
narrow_suc (e ∷ es) (suc i) s d h all here = (all.0, narrow_suc es i s d (omega arith) all.1 here)

pub narrow_more : (es : List Expr) (i : ℕ) (s : Store) (d : Expr) → i < length es → NarrowExprs (exprs_of (take i es)) s → NarrowExpr (get_or es i d) s → NarrowExprs (exprs_of (take (i + 1) es)) s
narrow_more es i s d h all here = rw add-one (narrow_suc es i s d h all here)

pub narrow_at : (es : List Expr) (i : ℕ) (s : Store) (d : Expr) → i < length es → NarrowExprs (exprs_of es) s → NarrowExpr (get_or es i d) s
unfolding NarrowExprs
narrow_at [] i s d h all = absurd (omega arith)
narrow_at (e ∷ es) zero s d h all = all.0
narrow_at (e ∷ es) (suc i) s d h all = narrow_at es i s d (omega arith) all.1

pub values_none : (s : Store) → values (exprs_of []) s ≡ []
unfolding values
values_none s = refl

pub narrow_none : (s : Store) → NarrowExprs (exprs_of []) s
unfolding NarrowExprs
narrow_none s = tt

-- one expression more, with its value
pub evaluated_more : (es : List Expr) (i : ℕ) (s : Store) (e : Expr) (v : ℤ) (all new : List ℤ) → i < length es → e ≡ get_or es i e
    → (all ≡ values (exprs_of (take i es)) s) × NarrowExprs (exprs_of (take i es)) s → NarrowExpr e s × (v ≡ value e s) → new ≡ all ++ v ∷ []
    → (new ≡ values (exprs_of (take (i + 1) es)) s) × NarrowExprs (exprs_of (take (i + 1) es)) s
evaluated_more es i s e v all new h is before here pushed = (
  pushed ∙ ap₂ (λ l z. l ++ z ∷ []) before.0 (here.1 ∙ ap (λ x. value x s) is) ∙ sym (values_more es i s e h),
  narrow_more es i s e h before.1 (subst (λ x. NarrowExpr x s) is here.0),
)
