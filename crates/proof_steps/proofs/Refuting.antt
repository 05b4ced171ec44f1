-- The parts of a refutation and what goes with them, part by part: as many distances and ways as parts, and a refutation that is
-- right exactly where its parts are.
use Rattle.std.specs.Prelude.{◌≡◌, ◌<◌, ℕ, suc, ◌+◌, Bool, true, false, ◌&&◌, List, [], ◌∷◌, ◌++◌, length, get_or, refl}
use Rattle.std.proofs.Common.{sym, ◌∙◌, ap, drop, drop-cons, add-one, arith, length-append}
use Rattle.rule_terms.specs.declared.obligation.Obligation.{Obligation}
use Rattle.law_clauses.specs.Signed.{Signed, signed_of, negated}
use Rattle.refutations.specs.declared.refutation.Part.{Part}
use Rattle.refutations.specs.Refutation.{Refutation, split, leaf, parts, distances}
use Rattle.proof_steps.specs.Steps.{is_shallow}
use Rattle.proof_steps.specs.Refutes.{given_at, leaf_closes, refutes_under}
use Rattle.proof_steps.specs.Ways.{ways, part_right, parts_right}

pub as_many_distances : (n : ℕ) (r : Refutation) → length (distances n r) ≡ length (parts r)
as_many_distances n (leaf steps) = refl
as_many_distances n (split x a b) =
    ap suc (length-append (distances 1 a) (distances (suc (length (parts a))) b)
    ∙ (λ j. as_many_distances 1 a j + as_many_distances (suc (length (parts a))) b j)
    ∙ sym (length-append (parts a) (parts b)))

pub as_many_ways : (before : List Signed) (r : Refutation) → length (ways before r) ≡ length (parts r)
as_many_ways before (leaf steps) = refl
as_many_ways before (split x a b) =
    ap suc (length-append (ways (signed_of x ∷ before) a) (ways (negated (signed_of x) ∷ before) b)
    ∙ (λ j. as_many_ways (signed_of x ∷ before) a j + as_many_ways (negated (signed_of x) ∷ before) b j)
    ∙ sym (length-append (parts a) (parts b)))

and_true : (b : Bool) → (b && true) ≡ b
and_true true = refl
and_true false = refl

and_more : (a b c : Bool) → (a && (b && c)) ≡ ((a && b) && c)
and_more true b c = refl
and_more false b c = refl

right_behind : (ob : Obligation) (ps qs : List Part) (us vs : List (List Signed)) → length us ≡ length ps →
    parts_right ob (ps ++ qs) (us ++ vs) ≡ (parts_right ob ps us && parts_right ob qs vs)
right_behind ob [] qs [] vs e = refl
right_behind ob [] qs (u ∷ us) vs e = absurd (omega arith)
right_behind ob (p ∷ ps) qs [] vs e = absurd (omega arith)
right_behind ob (p ∷ ps) qs (u ∷ us) vs e =
    let h : length us ≡ length ps = omega arith in
    ap (λ b. part_right ob p u && b) (right_behind ob ps qs us vs h) ∙ and_more (part_right ob p u) (parts_right ob ps us) (parts_right ob qs vs)

pub all_right : (ob : Obligation) (r : Refutation) (before : List Signed) → parts_right ob (parts r) (ways before r) ≡ refutes_under ob r before
all_right ob (leaf steps) before = and_true (leaf_closes ob (given_at ob before) [] steps)
all_right ob (split x a b) before =
    ap (λ c. is_shallow x && c)
    (right_behind ob (parts a) (parts b) (ways (signed_of x ∷ before) a) (ways (negated (signed_of x) ∷ before) b) (as_many_ways (signed_of x ∷ before) a)
    ∙ (λ j. all_right ob a (signed_of x ∷ before) j && all_right ob b (negated (signed_of x) ∷ before) j))

-- one part more
pub next_right : (ob : Obligation) (ps : List Part) (ws : List (List Signed)) (i : ℕ) (d : Part) → i < length ps → length ws ≡ length ps →
    parts_right ob (drop i ps) (drop i ws) ≡ (part_right ob (get_or ps i d) (get_or ws i []) && parts_right ob (drop (i + 1) ps) (drop (i + 1) ws))
next_right ob ps ws i d h e =
    let g : i < length ws = omega arith in
    (λ j. parts_right ob (drop-cons ps i d h j) (drop-cons ws i [] g j))
    ∙ (λ j. part_right ob (get_or ps i d) (get_or ws i []) && parts_right ob (drop (sym (add-one i) j) ps) (drop (sym (add-one i) j) ws))

pub walk_step : (ob : Obligation) (r : Refutation) (before : List Signed) (ps : List Part) (i : ℕ) (p : Part) → ps ≡ parts r → i < length ps → p ≡ get_or ps i p →
    parts_right ob (drop i (parts r)) (drop i (ways before r)) ≡ (part_right ob p (get_or (ways before r) i []) && parts_right ob (drop (i + 1) (parts r)) (drop (i + 1) (ways before r)))
walk_step ob r before ps i p e h is =
    let many : length ps ≡ length (parts r) = ap length e in
    let g : i < length (parts r) = omega arith in
    let rest : Bool = parts_right ob (drop (i + 1) (parts r)) (drop (i + 1) (ways before r)) in
    next_right ob (parts r) (ways before r) i p g (as_many_ways before r)
    ∙ (λ j. part_right ob (get_or (sym e j) i p) (get_or (ways before r) i []) && rest)
    ∙ (λ j. part_right ob (sym is j) (get_or (ways before r) i []) && rest)
