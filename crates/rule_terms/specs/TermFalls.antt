-- A child of a term, and an index of a place, is of less depth than it.
-- This is why a recursion over terms ends.
use Rattle.std.specs.Prelude.{ℕ, ◌+◌, ◌*◌, ◌<◌, ◌≤◌, max, zero, suc, List, [], ◌∷◌, length}
use Rattle.std.proofs.Common.{arith, get_or}
use denote.Param.Weighed.{most}
use Rattle.rule_terms.specs.Term.{ValueTerm, value_depth, terms_depth}
use Rattle.rule_terms.specs.TermView.{terms_of, store_of, value_of}
use Rattle.rule_terms.specs.TermSize.{store_size, value_size}
use Rattle.rule_terms.specs.declared.term.StoreNode.{StoreNode}
use Rattle.rule_terms.specs.declared.term.StoreNode.TheVariants.{L, R, Put, Run}
use Rattle.rule_terms.specs.declared.term.ValueNode.{ValueNode}
use Rattle.rule_terms.specs.declared.term.ValueNode.TheVariants.{Num, Get, Ev, Add, Sub, Mul}
use Rattle.rule_terms.specs.declared.term.Place.TheDeep.{deep-StoreNode, deep-ValueNode}

pub most_le : (vs : List ValueTerm) → most (λ v. value_size v + 1) vs ≤ 2 * terms_depth (terms_of vs) + 1
most_le [] = omega arith
most_le (v ∷ vs) = omega (arith, most_le vs)

pub store_falls : (a : StoreNode) → max (deep-StoreNode a) 0 ≤ store_size (store_of a)
store_falls L = omega arith
store_falls R = omega arith
store_falls (Put s p v) = omega arith
store_falls (Run k s) = omega arith

pub value_falls : (a : ValueNode) → max (deep-ValueNode a) 0 ≤ value_size (value_of a)
value_falls (Num z) = omega arith
value_falls (Get p s) = omega arith
value_falls (Ev k s) = omega arith
value_falls (Add a b) = omega arith
value_falls (Sub a b) = omega arith
value_falls (Mul a b) = omega arith

pub indices_fall : (vs : List ValueTerm) → max (most (λ v. value_size v + 1) vs) 0 ≤ 2 * terms_depth (terms_of vs) + 1
indices_fall vs = omega (arith, most_le vs)

pub value_item : (vs : List ValueTerm) (k : ℕ) (d : ValueTerm) → k < length vs → value_depth (get_or vs k d) ≤ terms_depth (terms_of vs)
value_item [] k d h = absurd (omega arith)
value_item (v ∷ vs) zero d h = omega arith
value_item (v ∷ vs) (suc k) d h = let below : value_depth (get_or vs k d) ≤ terms_depth (terms_of vs) = value_item vs k d (omega arith) in omega arith
