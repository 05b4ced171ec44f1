-- The steps of a leaf one by one, and its last one.
use Rattle.std.specs.Prelude.{◌≡◌, ℕ, zero, suc, ◌+◌, ◌-◌, ◌<◌, Bool, true, false, ◌&&◌, List, [], ◌∷◌, ◌++◌, length, get_or, take, refl}
use Rattle.std.proofs.Common.{sym, ap, ◌∙◌, drop, drop-cons, add-one, append-nil, append_assoc, arith}
use Rattle.std.proofs.lemmas.List.{take_more}
use Rattle.rule_terms.specs.declared.obligation.Obligation.{Obligation}
use Rattle.law_clauses.specs.Signed.{Signed, signed_of}
use Rattle.refutations.specs.declared.refutation.Step.{Step}
use Rattle.proof_steps.specs.Steps.{step_holds}
use Rattle.proof_steps.specs.Refutes.{closes, leaf_closes}
use Rattle.proof_steps.specs.Leaves.{steps_hold, last_closes}

and_true : (b : Bool) → (b && true) ≡ b
and_true true = refl
and_true false = refl

and_more : (a b c : Bool) → (a && (b && c)) ≡ ((a && b) && c)
and_more true b c = refl
and_more false b c = refl

pub leaf_parts : (ob : Obligation) (given : List Signed) (earlier steps : List Step) → leaf_closes ob given earlier steps ≡ (steps_hold ob given earlier steps && last_closes earlier steps)
unfolding leaf_closes steps_hold last_closes
leaf_parts ob given earlier [] = refl
leaf_parts ob given earlier (s ∷ []) = λ j. sym (and_true (step_holds ob given earlier s)) j && closes earlier (signed_of s.gives)
leaf_parts ob given earlier (s ∷ t ∷ more) =
    ap (λ b. step_holds ob given earlier s && b) (leaf_parts ob given (earlier ++ s ∷ []) (t ∷ more))
    ∙ and_more (step_holds ob given earlier s) (steps_hold ob given (earlier ++ s ∷ []) (t ∷ more)) (last_closes (earlier ++ s ∷ []) (t ∷ more))

-- one step more
pub one_more : (ob : Obligation) (given : List Signed) (steps : List Step) (i : ℕ) (d : Step) → i < length steps →
    steps_hold ob given (take i steps) (drop i steps) ≡ (step_holds ob given (take i steps) (get_or steps i d) && steps_hold ob given (take (i + 1) steps) (drop (i + 1) steps))
unfolding steps_hold
one_more ob given steps i d h =
    ap (steps_hold ob given (take i steps)) (drop-cons steps i d h)
    ∙ (λ j. step_holds ob given (take i steps) (get_or steps i d) && steps_hold ob given (sym (take_more steps i d h) j) (drop (sym (add-one i) j) steps))

last_at : (earlier steps : List Step) (d : Step) (k : ℕ) → suc k ≡ length steps → last_closes earlier steps ≡ closes (earlier ++ take k steps) (signed_of (get_or steps k d).gives)
unfolding last_closes
last_at earlier [] d k e = absurd (omega arith)
last_at earlier (s ∷ []) d zero e = ap (λ ts. closes ts (signed_of s.gives)) (sym (append-nil earlier))
last_at earlier (s ∷ []) d (suc k) e = absurd (omega arith)
last_at earlier (s ∷ t ∷ more) d zero e = absurd (omega arith)
last_at earlier (s ∷ t ∷ more) d (suc k) e =
    let h : suc k ≡ length (t ∷ more) = omega arith in
    last_at (earlier ++ s ∷ []) (t ∷ more) d k h ∙ ap (λ ts. closes ts (signed_of (get_or (t ∷ more) k d).gives)) (append_assoc earlier (s ∷ []) (take k (t ∷ more)))

pub last_is : (steps : List Step) (d : Step) → 0 < length steps → last_closes [] steps ≡ closes (take (length steps - 1) steps) (signed_of (get_or steps (length steps - 1) d).gives)
last_is steps d h = let e : suc (length steps - 1) ≡ length steps = omega arith in last_at [] steps d (length steps - 1) e

pub none_closes : (steps : List Step) → length steps ≡ 0 → last_closes [] steps ≡ false
unfolding last_closes
none_closes [] e = refl
none_closes (s ∷ steps) e = absurd (omega arith)
