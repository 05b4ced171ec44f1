-- What is wrong with a rule, tied together: no first fault where nothing is wrong, and single lemmas of the items.
use Rattle.std.proofs.Common.{◌≡◌, ◌<◌, ◌-◌, ◌^◌, ℕ, zero, suc, Bool, true, false, not, cond, ◌||◌, min, None, Some, refl, arith}
use Rattle.std.proofs.lemmas.Bool.Decides.{nat_tests}
use Rattle.std.specs.Option.{is_none}
use Rattle.toy_imp.specs.declared.rule.Rule.{Rule}
use Rattle.toy_imp.specs.Block.{Block}
use Rattle.toy_imp.specs.Faults.{repeats_name, uses_undeclared, misplaces_parameter, occurs, omits_below, omits_parameter, simulates_scopes, has_wrong_cuts, is_within, is_too_large, first_fault, well_formed}

-- a parameter that does not occur is omitted
pub omitted : (n k : ℕ) (side : Block) → k < n → occurs k side ≡ false → omits_below n side ≡ true
omitted zero k side below h = absurd (omega (arith, below))
omitted (suc n) k side below h = grind (arith, omitted n k side, below, h)

-- a number of 32 bits is within a count exactly where it is within the count as 64 bits hold it
pub within_saturated : (n p : ℕ) → p < 2 ^ 32 → is_within (min n (2 ^ 64 - 1)) p ≡ is_within n p
within_saturated n p h = grind (arith, nat_tests)

-- nothing is the first of seven where none of them is
none_of : (a b c d e f g : Bool) → {A : Type 0} (p q r s t u v : A)
    → is_none (cond a (Some p) (cond b (Some q) (cond c (Some r) (cond d (Some s) (cond e (Some t) (cond f (Some u) (cond g (Some v) None)))))))
    ≡ not (a || b || c || d || e || f || g)
none_of true b c d e f g p q r s t u v = refl
none_of false true c d e f g p q r s t u v = refl
none_of false false true d e f g p q r s t u v = refl
none_of false false false true e f g p q r s t u v = refl
none_of false false false false true f g p q r s t u v = refl
none_of false false false false false true g p q r s t u v = refl
none_of false false false false false false true p q r s t u v = refl
none_of false false false false false false false p q r s t u v = refl

pub well_formed_is : (rule : Rule) → is_none (first_fault rule) ≡ well_formed rule
unfolding first_fault well_formed
well_formed_is rule = none_of (repeats_name rule.params) (uses_undeclared rule) (misplaces_parameter rule) (omits_parameter rule) (simulates_scopes rule) (has_wrong_cuts rule) (is_too_large rule) _ _ _ _ _ _ _
