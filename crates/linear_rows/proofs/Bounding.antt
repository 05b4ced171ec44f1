-- The best bound of a stage's lines, looked at one after another.
use Rattle.std.proofs.Common.{◌≡◌, ℕ, ◌+◌, ◌<◌, ◌≤◌, ℤ, List, [], ◌∷◌, length, Bool, true, false, cond, Option, Some, None, refl, ap, ◌∙◌, get_or, drop}
use Rattle.std.specs.Option.{option_and_then}
use Rattle.std.specs.List.{filter}
use Rattle.std.specs.declared.vec.Vec.{Vec}
use Rattle.std.specs.declared.alloc.Global.{Global}
use Rattle.std.proofs.lemmas.List.{drop_more, drop_all}
use Rattle.linear_rows.specs.declared.fraction.Fraction.{Fraction}
use Rattle.linear_rows.specs.Elimination.{bound_on, better, best_bound}
use Rattle.linear_rows.specs.Lines.{items_of}

module _ (is_better : Fraction → Fraction → Bool) (xs : List Fraction) (test : List ℤ → Bool) where
  abbrev pub best_of : Option Fraction → List (Vec ℤ Global) → Option (Option Fraction)
  best_of best lines = best_bound is_better xs best (filter test (items_of lines))

  -- one line and then the others
  best_twice : (best : Option Fraction) (o : Option Fraction) (lines : List (List ℤ)) →
      option_and_then (λ y. best_bound is_better xs (Some (better is_better best y)) lines) o
      ≡ option_and_then (λ b. best_bound is_better xs b lines) (option_and_then (λ y. Some (Some (better is_better best y))) o)
  best_twice best None lines = refl
  best_twice best (Some y) lines = refl

  best_by : (best : Option Fraction) (line : List ℤ) (lines : List (List ℤ)) (b : Bool) →
      best_bound is_better xs best (cond b (line ∷ lines) lines) ≡ option_and_then (λ more. best_bound is_better xs more lines) (best_bound is_better xs best (cond b (line ∷ []) []))
  best_by best line lines true = best_twice best (bound_on xs line) lines
  best_by best line lines false = refl

  best_parts : (best : Option Fraction) (lines : List (Vec ℤ Global)) (i : ℕ) (d : Vec ℤ Global) → i < length lines →
      best_of best (drop i lines) ≡ option_and_then (λ more. best_of more (drop (i + 1) lines)) (best_of best (get_or lines i d ∷ []))
  best_parts best lines i d lt =
      ap (best_of best) (drop_more lines i d lt)
      ∙ best_by best (get_or lines i d).items (filter test (items_of (drop (i + 1) lines))) (test (get_or lines i d).items)

  pub best_goes_on : (whole : Option (Option Fraction)) (best next : Option Fraction) (lines : List (Vec ℤ Global)) (i : ℕ) (d : Vec ℤ Global) → i < length lines →
      whole ≡ best_of best (drop i lines) → best_of best (get_or lines i d ∷ []) ≡ Some next → whole ≡ best_of next (drop (i + 1) lines)
  best_goes_on whole best next lines i d lt e is = e ∙ best_parts best lines i d lt ∙ ap (option_and_then (λ more. best_of more (drop (i + 1) lines))) is

  pub best_stops : (whole : Option (Option Fraction)) (best : Option Fraction) (lines : List (Vec ℤ Global)) (i : ℕ) (d : Vec ℤ Global) → i < length lines →
      whole ≡ best_of best (drop i lines) → best_of best (get_or lines i d ∷ []) ≡ None → whole ≡ None
  best_stops whole best lines i d lt e is = e ∙ best_parts best lines i d lt ∙ ap (option_and_then (λ more. best_of more (drop (i + 1) lines))) is

  pub best_ends : (whole : Option (Option Fraction)) (best : Option Fraction) (lines : List (Vec ℤ Global)) (i : ℕ) → length lines ≤ i →
      whole ≡ best_of best (drop i lines) → whole ≡ Some best
  best_ends whole best lines i le e = e ∙ ap (best_of best) (drop_all i lines le)
