-- A test that holds of some number below another.
use Rattle.std.specs.Prelude.{◌≡◌, ◌<◌, ◌+◌, ◌||◌, ℕ, zero, suc, Bool, true, false, List, length, refl}
use Rattle.std.proofs.Common.{sym, ◌∙◌, ap, ap₂, arith, true≢false}
use Rattle.toy_imp.specs.Expr.{Expr}
use Rattle.toy_imp.specs.ExprView.{exprs_of}
use Rattle.swap_conditions.specs.Placing.{count}
use Rattle.swap_conditions.specs.SwapText.{some_below}
use Rattle.swap_conditions.proofs.Distances.{count-exprs_of}

or_true : (a : Bool) → (a || true) ≡ true
or_true true = refl
or_true false = refl

at_or_below : (p n : ℕ) (test : ℕ → Bool) (rest : p < n → some_below n test ≡ true) → p < suc n → test p ≡ true → (b : Bool) → test n ≡ b → (b || some_below n test) ≡ true
at_or_below p n test rest h e true is = refl
at_or_below p n test rest h e false is = rest (below p n test h e is)
  where
    below : (p n : ℕ) (test : ℕ → Bool) → p < suc n → test p ≡ true → test n ≡ false → p < n
    below p n test h e is = grind arith

pub found_below : (n p : ℕ) (test : ℕ → Bool) → p < n → test p ≡ true → some_below n test ≡ true
found_below zero p test h e = absurd (omega arith)
found_below (suc n) p test h e = at_or_below p n test (λ less. found_below n p test less e) h e (test n) refl

pub none_more : (i : ℕ) (test : ℕ → Bool) → test i ≡ false → some_below i test ≡ false → some_below (i + 1) test ≡ false
none_more i test e h = ap (λ m. some_below m test) (add-suc i) ∙ ap₂ (λ a b. a || b) e h
  where
    add-suc : (i : ℕ) → i + 1 ≡ suc i
    add-suc i = omega arith

-- .. is found
first_or : (n : ℕ) (test : ℕ → Bool) (b : Bool) → (some_below n test ≡ true → (p : ℕ) × (p < n) × (test p ≡ true)) → test n ≡ b → (b || some_below n test) ≡ true → (p : ℕ) × (p < suc n) × (test p ≡ true)
first_or n test true rest is e = (n, omega arith, is)
first_or n test false rest is e = let found = rest e in (found.0, omega arith, found.2)

pub below_found : (n : ℕ) (test : ℕ → Bool) → some_below n test ≡ true → (p : ℕ) × (p < n) × (test p ≡ true)
below_found zero test e = absurd (true≢false (sym e))
below_found (suc n) test e = first_or n test (test n) (below_found n test) refl e

-- ---- a loop over the positions of a list
pub at_position : (xs : List Expr) (p : ℕ) (test : ℕ → Bool) → p < length xs → test p ≡ true → true ≡ some_below (count (exprs_of xs)) test
at_position xs p test h e = sym (ap (λ n. some_below n test) (count-exprs_of xs) ∙ found_below (length xs) p test h e)

pub at_none : (xs : List Expr) (p : ℕ) (test : ℕ → Bool) → p ≡ length xs → some_below p test ≡ false → false ≡ some_below (count (exprs_of xs)) test
at_none xs p test h e = sym (ap (λ n. some_below n test) (count-exprs_of xs ∙ sym h) ∙ e)
