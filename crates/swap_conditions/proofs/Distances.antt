-- The distance of a place by the list of its indices.
use Rattle.std.specs.Prelude.{◌≡◌, ◌≢◌, ◌<◌, ◌≤◌, ℕ, zero, suc, ◌==◌, true, false, cond, List, [], ◌∷◌, length, Some, None, option_and_then, refl}
use Rattle.std.proofs.Common.{sym, ◌∙◌, ap, ap₂, get_or, arith}
use Rattle.std.proofs.lemmas.Bool.Decides.{nat_tests}
use Rattle.toy_imp.specs.Expr.{Expr}
use Rattle.toy_imp.specs.ExprView.{exprs_of}
use Rattle.side_conditions.specs.Offsets.{offset_of}
use Rattle.swap_conditions.specs.Placing.{count, index_at, distance}

pub count-exprs_of : (xs : List Expr) → count (exprs_of xs) ≡ length xs
count-exprs_of [] = refl
count-exprs_of (x ∷ xs) = ap suc (count-exprs_of xs)

pub as_many : (xs : List Expr) → length xs ≡ count (exprs_of xs)
as_many xs = sym (count-exprs_of xs)

index-exprs_of : (xs : List Expr) (p : ℕ) (e : Expr) → p < length xs → e ≡ get_or xs p e → index_at p (exprs_of xs) ≡ Some e
index-exprs_of [] p e h is = absurd (omega arith)
index-exprs_of (x ∷ xs) zero e h is = cc
index-exprs_of (x ∷ xs) (suc p) e h is = index-exprs_of xs p e (omega arith) is

index_past : (xs : List Expr) (p : ℕ) → length xs ≤ p → index_at p (exprs_of xs) ≡ None
index_past [] p h = refl
index_past (x ∷ xs) zero h = absurd (omega arith)
index_past (x ∷ xs) (suc p) h = index_past xs p (omega arith)

same_count : (a b : ℕ) → a ≡ b → (a == b) ≡ true
same_count a b e = grind (arith, nat_tests)

other_count : (a b : ℕ) → a ≢ b → (a == b) ≡ false
other_count a b h = grind (arith, nat_tests)

pub wrong_count : (k : List ℕ) (n p : ℕ) (xs : List Expr) → length xs ≢ n → distance k n p (exprs_of xs) ≡ None
wrong_count k n p xs h =
    ap (λ b. cond b (option_and_then (offset_of k) (index_at p (exprs_of xs))) None) (ap (λ a. a == n) (count-exprs_of xs) ∙ other_count (length xs) n h)

pub no_index : (k : List ℕ) (n p : ℕ) (xs : List Expr) → (length xs ≡ n) × (length xs ≤ p) → distance k n p (exprs_of xs) ≡ None
no_index k n p xs h =
    ap₂ (λ b i. cond b (option_and_then (offset_of k) i) None) (ap (λ a. a == n) (count-exprs_of xs) ∙ same_count (length xs) n h.0) (index_past xs p h.1)

pub at_index : (k : List ℕ) (n p : ℕ) (xs : List Expr) (e : Expr) → length xs ≡ n → p < length xs → e ≡ get_or xs p e → distance k n p (exprs_of xs) ≡ offset_of k e
at_index k n p xs e many h is =
    ap₂ (λ b i. cond b (option_and_then (offset_of k) i) None) (ap (λ a. a == n) (count-exprs_of xs) ∙ same_count (length xs) n many) (index-exprs_of xs p e h is)
