-- Lists of different lengths do not fit.
-- So a test of the lengths may come first.
use Rattle.std.specs.Prelude.{◌≡◌, ◌≢◌, ◌&&◌, Bool, true, false, List, [], ◌∷◌, length, suc, refl}
use Rattle.std.proofs.Common.{◌∙◌, ap}
use Rattle.toy_imp.specs.declared.param.Param.{Param}
use Rattle.toy_imp.specs.declared.instance.Filling.{Filling}
use Rattle.toy_imp.specs.Fits.{fits_kind, fits_params}

and-false : (b : Bool) → false ≡ (b && false)
and-false true = refl
and-false false = refl

pub lengths_differ : (ps : List Param) (fs : List Filling) → length ps ≢ length fs → false ≡ fits_params ps fs
lengths_differ [] [] h = absurd (h refl)
lengths_differ [] (f ∷ fs) h = refl
lengths_differ (p ∷ ps) [] h = refl
lengths_differ (p ∷ ps) (f ∷ fs) h =
    and-false (fits_kind p.kind f) ∙ ap (λ b. fits_kind p.kind f && b) (lengths_differ ps fs (λ e. h (ap suc e)))
