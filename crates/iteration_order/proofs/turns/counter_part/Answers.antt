use Rattle.std.proofs.Common.{◌≡◌, ◌∙◌, sym, ap, ◌^◌, pos, length, arith, lit<, refl, slice_index_or, to_z, of_z, ◌*ℤ◌, ◌*◌}
use Rattle.std.specs.Int.{w128}
use Rattle.std.proofs.lemmas.Bool.Decides.{nat_tests}
use Rattle.iteration_order.proofs.Weights.{kept, CodeProduct, code_product, weighted-none, weighted-one}
use Rattle.iteration_order.proofs.turns.counter_part.Goals as goal
use Rattle.iteration_order.proofs.turns.counter_part.Goals.{Else-is_empty}

-- there is a counter, and one alone
one_counter : (c : Else-is_empty) → length c.args.around.now ≡ 1
one_counter c =
    let one = c.requires.one in
    let some = c.if-is_empty.ensures in
    grind (arith, nat_tests)

the_product : (c : Else-is_empty) → CodeProduct (1024 * 2 ^ 98) (slice_index_or c.args.coefficients.now 0 (pos 0)) (slice_index_or c.args.around.now 0 (pos 0)) (slice_index_or c.args.around.now 0 (pos 0))
the_product c =
    let one = one_counter c in
    let as_many = c.requires.as_many in
    code_product 1024 (2 ^ 98) _ _ _ (c.requires.small 0 (pos 0) (omega arith)) (lit< tt) (c.requires.around 0 (pos 0) (omega arith)) (lit< tt) (lit< tt) refl

pub product-requires : goal.product-requires
product-requires c = (the_product (goal.at.product-requires c).Else-is_empty).fits

pub returns-then-is_empty-clause-value : goal.returns-then-is_empty-clause-value
returns-then-is_empty-clause-value c =
    let none : length c.args.around.now ≡ 0 = grind (arith, nat_tests) in
    sym (weighted-none _ _ c.requires.as_many none)

pub returns-else-is_empty-clause-value : goal.returns-else-is_empty-clause-value
returns-else-is_empty-clause-value c =
    let p = the_product (goal.at.returns-else-is_empty-clause-value c).Else-is_empty in
    let one = one_counter (goal.at.returns-else-is_empty-clause-value c).Else-is_empty in
    ap (λ z. to_z w128 (of_z w128 z)) (c.product.ensures ∙ p.is) ∙ kept (1024 * 2 ^ 98) _ p.small (lit< tt) ∙ sym (weighted-one _ _ c.requires.as_many one)

pub returns-else-is_empty-clause-magnitude : goal.returns-else-is_empty-clause-magnitude
returns-else-is_empty-clause-magnitude c =
    let p = the_product (goal.at.returns-else-is_empty-clause-magnitude c).Else-is_empty in
    let one = one_counter (goal.at.returns-else-is_empty-clause-magnitude c).Else-is_empty in
    let is : to_z w128 (of_z w128 c.product.result) ≡ slice_index_or c.args.coefficients.now 0 (pos 0) *ℤ slice_index_or c.args.around.now 0 (pos 0) =
    ap (λ z. to_z w128 (of_z w128 z)) (c.product.ensures ∙ p.is) ∙ kept (1024 * 2 ^ 98) _ p.small (lit< tt) in
    let small = p.small in
    rw (is, one) (omega arith)
