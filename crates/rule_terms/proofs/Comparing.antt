-- How a comparison of two lists of value terms ends, where one of them is used up.
use Rattle.std.specs.Prelude.{◌≡◌, ℕ, ◌<◌, ◌≤◌, List, [], ◌∷◌, length, refl}
use Rattle.std.proofs.Common.{arith, drop, length-drop}
use Rattle.std.proofs.lemmas.List.{drop_all}
use Rattle.std.specs.declared.cmp.Ordering.TheVariants.{Less, Equal}
use Rattle.rule_terms.specs.Term.{ValueTerm, no_terms}
use Rattle.rule_terms.specs.TermView.{terms_of}
use Rattle.rule_terms.specs.Order.{terms_cmp}

shorter : (ws : List ValueTerm) → 0 < length ws → terms_cmp no_terms (terms_of ws) ≡ Less
unfolding terms_cmp
shorter [] h = absurd (omega arith)
shorter (w ∷ ws) h = refl

pub ends_before : (vs ws : List ValueTerm) (i : ℕ) → length vs ≤ i → i < length ws → terms_cmp (terms_of (drop i vs)) (terms_of (drop i ws)) ≡ Less
ends_before vs ws i h k =
    let left : 0 < length (drop i ws) = (rw (length-drop i ws) (omega arith)) in
    rw (drop_all i vs h) (shorter (drop i ws) left)

pub ends_with : (vs ws : List ValueTerm) (i : ℕ) → length vs ≤ i → length ws ≤ i → terms_cmp (terms_of (drop i vs)) (terms_of (drop i ws)) ≡ Equal
unfolding terms_cmp
ends_with vs ws i h k = rw (drop_all i vs h) (rw (drop_all i ws k) refl)
