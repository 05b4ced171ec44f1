-- How often a slot stands on a list after a push, and after it is taken off.
use Rattle.std.proofs.Common.{◌≡◌, ◌≢◌, ◌⊎◌, ℕ, ◌+◌, ◌<◌, ◌≤◌, Bool, true, false, cond, ◌==◌, List, [], ◌∷◌, ◌++◌, refl, ap, sym, ◌∙◌, inl, inr, arith, eqb-true, eq-eqb, ne_eqb}
use mathlib.Core.Logic.{dite}
use native.Mathlib.Decide.{ℕ_discrete}
use Rattle.claim_table.specs.Occurrences.{hit, times, without}

pub times-append : (slot : ℕ) (xs ys : List ℕ) → times slot (xs ++ ys) ≡ times slot xs + times slot ys
times-append slot [] ys = omega arith
times-append slot (x ∷ xs) ys = let r = times-append slot xs ys in omega arith

pub hit_same : (slot : ℕ) → hit (slot == slot) ≡ 1
hit_same slot = ap hit (eq-eqb slot slot refl)

pub hit_other : (x slot : ℕ) → x ≢ slot → hit (x == slot) ≡ 0
hit_other x slot ne = ap hit (ne_eqb x slot ne)

pub times-push_same : (slot : ℕ) (xs : List ℕ) → times slot (xs ++ slot ∷ []) ≡ times slot xs + 1
times-push_same slot xs = let a = times-append slot xs (slot ∷ []) in let b = hit_same slot in omega arith

pub times-push_other : (x slot : ℕ) (xs : List ℕ) → slot ≢ x → times slot (xs ++ x ∷ []) ≡ times slot xs
times-push_other x slot xs ne = let a = times-append slot xs (x ∷ []) in let b = hit_other x slot (λ e. ne (sym e)) in omega arith

-- what stands on the list after a push is what was pushed, or stood there before
pub pushed : (x slot : ℕ) (xs : List ℕ) → 0 < times slot (xs ++ x ∷ []) → (slot ≡ x) ⊎ (0 < times slot xs)
pushed x slot xs h = dite (ℕ_discrete slot x) (λ e. inl e) (λ ne. let same = times-push_other x slot xs ne in inr (omega arith))

pub times-push_le : (x slot : ℕ) (xs : List ℕ) → times slot xs ≤ times slot (xs ++ x ∷ [])
times-push_le x slot xs = let a = times-append slot xs (x ∷ []) in omega arith

-- a push of a slot that does not stand on the list leaves each slot there once at most
pub once_pushed : (x slot : ℕ) (xs : List ℕ) → times x xs ≡ 0 → times slot xs ≤ 1 → times slot (xs ++ x ∷ []) ≤ 1
once_pushed x slot xs fresh once = dite (ℕ_discrete slot x)
    (λ e. let same : times slot xs ≡ 0 = ap (λ (s : ℕ). times s xs) e ∙ fresh in
    let a = times-append slot xs (x ∷ []) in
    let b : hit (x == slot) ≡ 1 = ap (λ (s : ℕ). hit (x == s)) e ∙ hit_same x in omega arith)
    (λ ne. let same = times-push_other x slot xs ne in omega arith)

without_same_case : (slot x : ℕ) (xs : List ℕ) (b : Bool) → (x == slot) ≡ b → times slot (cond b (without slot xs) (x ∷ without slot xs)) ≡ times slot (without slot xs)
without_same_case slot x xs true e = refl
without_same_case slot x xs false e = let h : hit (x == slot) ≡ 0 = ap hit e in omega arith

pub times-without_same : (slot : ℕ) (xs : List ℕ) → times slot (without slot xs) ≡ 0
times-without_same slot [] = refl
times-without_same slot (x ∷ xs) = without_same_case slot x xs (x == slot) refl ∙ times-without_same slot xs

without_case : (x slot y : ℕ) (xs : List ℕ) (b : Bool) → (y == x) ≡ b → times slot (without x xs) ≤ times slot xs → times slot (cond b (without x xs) (y ∷ without x xs)) ≤ hit (y == slot) + times slot xs
without_case x slot y xs true e le = omega arith
without_case x slot y xs false e le = omega arith

-- what is taken off leaves no slot more often on the list
pub times-without_le : (x slot : ℕ) (xs : List ℕ) → times slot (without x xs) ≤ times slot xs
times-without_le x slot [] = omega arith
times-without_le x slot (y ∷ xs) = without_case x slot y xs (y == x) refl (times-without_le x slot xs)

without_push_case : (slot x : ℕ) (xs ys : List ℕ) (b : Bool) → (x == slot) ≡ b → hit b + times slot xs ≡ 0 → without slot ys ≡ xs → cond b (without slot ys) (x ∷ without slot ys) ≡ x ∷ xs
without_push_case slot x xs ys true e none same = absurd (omega arith)
without_push_case slot x xs ys false e none same = ap (λ (zs : List ℕ). x ∷ zs) same

-- the list is as it was once what was fresh is taken off again
pub without-push : (slot : ℕ) (xs : List ℕ) → times slot xs ≡ 0 → without slot (xs ++ slot ∷ []) ≡ xs
without-push slot [] none = ap (λ (b : Bool). cond b [] (slot ∷ [])) (eq-eqb slot slot refl)
without-push slot (x ∷ xs) none = without_push_case slot x xs (xs ++ slot ∷ []) (x == slot) refl none (without-push slot xs (omega arith))

without_else_case : (x slot y : ℕ) (xs : List ℕ) (b : Bool) → (y == x) ≡ b → slot ≢ x → times slot (without x xs) ≡ times slot xs → times slot (cond b (without x xs) (y ∷ without x xs)) ≡ hit (y == slot) + times slot xs
without_else_case x slot y xs true e ne same = let other : hit (y == slot) ≡ 0 = hit_other y slot (λ here. ne (sym here ∙ eqb-true y x e)) in omega arith
without_else_case x slot y xs false e ne same = omega arith

-- what is taken off leaves another slot as often on the list
pub times-without_else : (x slot : ℕ) (xs : List ℕ) → slot ≢ x → times slot (without x xs) ≡ times slot xs
times-without_else x slot [] ne = refl
times-without_else x slot (y ∷ xs) ne = without_else_case x slot y xs (y == x) refl ne (times-without_else x slot xs ne)
