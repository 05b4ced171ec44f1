-- What is assumed on the way to each part of a refutation: a split's literal in its first branch, the negation in its second.
use Rattle.std.specs.Prelude.{ℕ, Bool, true, false, cond, ◌==◌, ◌&&◌, List, [], ◌∷◌, ◌++◌, map, get_or}
use Rattle.rule_terms.specs.declared.obligation.Literal.{Literal}
use Rattle.rule_terms.specs.declared.obligation.Obligation.{Obligation}
use Rattle.law_clauses.specs.Signed.{Signed, signed_of, negated, signed_same}
use Rattle.refutations.specs.declared.refutation.Part.{Part}
use Rattle.refutations.specs.declared.refutation.Part.TheVariants.{Split, Leaf}
use Rattle.proof_steps.specs.declared.assumed.Assumed.{Assumed}
use Rattle.refutations.specs.Refutation.{Refutation, split, leaf}
use Rattle.proof_steps.specs.Steps.{is_shallow}
use Rattle.proof_steps.specs.Refutes.{given_at, leaf_closes}
use denote.Bor.{Bor}

-- in the order of the parts, each list with the latest first, in front of what is assumed at the beginning
abbrev pub ways : List Signed → Refutation → List (List Signed)
ways before (split x a b) = before ∷ (ways (signed_of x ∷ before) a ++ ways (negated (signed_of x) ∷ before) b)
ways before (leaf steps) = before ∷ []

abbrev pub all_listed : List (Bor Literal) → List Signed
all_listed xs = map (λ x. signed_of x.now) xs

-- .. at the part of this number
abbrev pub assumed_list : Assumed → List Signed
assumed_list here = get_or (ways (all_listed here.first.now) here.proof.now) here.at []

-- the literal is what a branch assumes of this split, the first branch being just behind it and the second further
abbrev pub is_turned : Part → ℕ → Signed → Bool
is_turned (Split y) back x = signed_same x (cond (back == 1) (signed_of y) (negated (signed_of y)))
is_turned (Leaf steps) back x = false

-- a part is right under what is assumed on the way to it
abbrev pub part_right : Obligation → Part → List Signed → Bool
part_right ob (Split x) before = is_shallow x
part_right ob (Leaf steps) before = leaf_closes ob (given_at ob before) [] steps

-- .. each part
abbrev pub parts_right : Obligation → List Part → List (List Signed) → Bool
parts_right ob [] ws = true
parts_right ob (p ∷ ps) [] = true
parts_right ob (p ∷ ps) (w ∷ ws) = part_right ob p w && parts_right ob ps ws
