-- Euclid's divisions end at the greatest common divisor, and it divides each of a list's numbers.
use Rattle.std.proofs.Common.{◌≡◌, ℕ, zero, suc, ◌<◌, ◌≤◌, ◌%◌, eqb, arith, refl, ap, ◌∙◌, ⊎_elim}
use Rattle.std.specs.Int.{IsGcd}
use Rattle.std.proofs.lemmas.Bool.{cases_eq, eq-eqb, ne_eqb, cond-true, cond-false}
use Rattle.std.proofs.lemmas.Nat.{mod_below}
use Rattle.std.proofs.lemmas.Nat.Gcd.{IsGcd-from_zero, IsGcd-from_mod, same_from_IsGcd, dvd_antisymm, dvd-zero, le_of_dvd}
use Rattle.linear_rows.specs.Divisor.{divisor_within, divisor}

divisor_reached : (n a b : ℕ) → b ≤ n → IsGcd a b (divisor_within n a b)
divisor_reached zero a b le = IsGcd-from_zero a b (omega arith)
divisor_reached (suc n) a b le =
    ⊎_elim
    (λ none. rw (cond-true (eqb b 0) a (divisor_within n b (a % b)) (eq-eqb b 0 none)) (IsGcd-from_zero a b none))
    (λ some.
    let positive : 0 < b = omega arith in
    let below : a % b < b = mod_below a b positive in
    let fewer : a % b ≤ n = omega arith in
    rw (cond-false (eqb b 0) a (divisor_within n b (a % b)) (ne_eqb b 0 some))
    (IsGcd-from_mod a b (divisor_within n b (a % b)) (divisor_reached n b (a % b) fewer)))
    (cases_eq b 0)

-- it is the greatest common divisor
pub divisor_is : (a b : ℕ) → IsGcd a b (divisor a b)
unfolding divisor
divisor_is a b = divisor_reached b a b (omega arith)

pub divisor_found : (a b g : ℕ) → IsGcd a b g → g ≡ divisor a b
divisor_found a b g is = same_from_IsGcd a b g (divisor a b) is (divisor_is a b)

-- where Euclid's loop ends
pub divisor_at_end : (a b x y : ℕ) → y ≡ 0 → ((d : ℕ) → IsGcd x y d → IsGcd a b d) → x ≡ divisor a b
divisor_at_end a b x y e keeps = divisor_found a b x (keeps x (IsGcd-from_zero x y e))

-- a divisor of something is at least 1 and no greater
pub divisor_positive : (a b : ℕ) → 0 < b → 0 < divisor a b
divisor_positive a b lt =
    ⊎_elim
    (λ none. let e : b ≡ 0 = dvd_antisymm (dvd-zero b) (rw none at (divisor_is a b).1) in absurd (omega arith))
    (λ some. omega arith)
    (cases_eq (divisor a b) 0)

pub divisor_most : (a b : ℕ) → 0 < b → divisor a b ≤ b
divisor_most a b lt = le_of_dvd lt (divisor_is a b).1

divisor_of_none : (a : ℕ) → divisor a 0 ≡ a
unfolding divisor
divisor_of_none a = refl

pub divisor_within_most : (a b m : ℕ) → a ≤ m → b ≤ m → divisor a b ≤ m
divisor_within_most a b m p q =
    ⊎_elim
    (λ none. let e : divisor a b ≡ a = ap (divisor a) none ∙ divisor_of_none a in omega arith)
    (λ some. let le = divisor_most a b (omega arith) in omega arith)
    (cases_eq b 0)
