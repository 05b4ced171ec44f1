-- Two lists of indices of different numbers do not agree.
use Rattle.std.proofs.Common.{◌≡◌, ◌≢◌, suc, ap, Bool, true, false, ◌&&◌, length, List, [], ◌∷◌, refl}
use Rattle.toy_imp.specs.declared.param.Kind.{Kind}
use Rattle.rule_terms.specs.Term.{ValueTerm}
use Rattle.rule_terms.specs.TermView.{terms_of}
use Rattle.escape_marks.specs.declared.escape.Escape.{Escape}
use Rattle.open_checker.specs.Likeness.{values_agree, indices_agree}

pub other_number : (params : List Kind) (e : Escape) (vs ws : List ValueTerm) → length vs ≢ length ws → indices_agree params e (terms_of vs) (terms_of ws) ≡ false
unfolding indices_agree
other_number params e [] [] h = absurd (h refl)
other_number params e [] (w ∷ ws) h = refl
other_number params e (v ∷ vs) [] h = refl
other_number params e (v ∷ vs) (w ∷ ws) h = and_false (values_agree params e v w) (other_number params e vs ws (λ s. h (ap suc s)))
  where
    and_false : (a : Bool) {b : Bool} → b ≡ false → a && b ≡ false
    and_false true s = s
    and_false false s = refl
