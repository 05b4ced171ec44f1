-- The two words for a term that is a read of this place in this store.
use Rattle.std.proofs.Common.{◌≡◌, ℕ, true, sym, subst}
use Rattle.rule_terms.specs.Term.{StoreTerm, ValueTerm, ValueTerms, get}
use Rattle.rule_terms.specs.Order.{value_same}
use Rattle.law_clauses.specs.Shapes.{is_get}
use Rattle.law_clauses.proofs.Same.{same_truth, value_is, get_is}
use Rattle.law_clauses.proofs.Itself.{value_itself, get_itself}

pub read_same : (w : ValueTerm) (x : ℕ) (is : ValueTerms) (s : StoreTerm) → value_same (get x is s) w ≡ is_get w x is s
read_same w x is s =
    same_truth (value_same (get x is s) w) (is_get w x is s)
    (λ h. subst (λ (u : ValueTerm). is_get u x is s ≡ true) (value_is (get x is s) w h) (get_itself x is s))
    (λ h. subst (λ (u : ValueTerm). value_same (get x is s) u ≡ true) (sym (get_is w x is s h)) (value_itself (get x is s)))
