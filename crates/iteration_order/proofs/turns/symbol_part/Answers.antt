use Rattle.std.proofs.Common.{rules, ◌∙◌, ◌^◌, ◌*◌, ◌*ℤ◌, pos, arith, lit<, slice_index_or, FitsSigned, w64, to_z, refl}
use Rattle.std.specs.Int.{w128}
use Rattle.std.proofs.lemmas.Int.{ints}
use Rattle.iteration_order.proofs.Weights.{CodeProduct, code_product, word_at_most, NextSum, next_sum, weighted-next, weighted-done}
use Rattle.iteration_order.proofs.turns.symbol_part.Goals as goal
use Rattle.iteration_order.proofs.turns.symbol_part.Goals.{After-from, After-product-sum}

the_product : (c : After-from) → CodeProduct (2 ^ 31 * 2 ^ 63) (slice_index_or c.args.coefficients.now c.loop-k.k (pos 0)) c.from.result (slice_index_or c.args.symbols.now c.loop-k.k (pos 0))
the_product c =
    let word : FitsSigned w64 (slice_index_or c.args.symbols.now c.loop-k.k (pos 0)) = search rules in
    let lt = c.loop-k-test.true in
    let small = c.requires.small c.loop-k.k (pos 0) lt in
    code_product (2 ^ 31) (2 ^ 63) _ _ _ (omega arith) (lit< tt) (word_at_most _ word) (lit< tt) (lit< tt) (search rules)

the_sum : (c : After-product-sum) → CodeProduct (2 ^ 31 * 2 ^ 63) (slice_index_or c.args.coefficients.now c.loop-k.k (pos 0)) c.from.result (slice_index_or c.args.symbols.now c.loop-k.k (pos 0)) →
    NextSum c.loop-k.k (to_z w128 c.loop-k.sum-bits) (slice_index_or c.args.coefficients.now c.loop-k.k (pos 0) *ℤ slice_index_or c.args.symbols.now c.loop-k.k (pos 0)) (to_z w128 c.loop-k.sum-bits) c.product-sum.result
the_sum c p =
    let lt = c.loop-k-test.true in
    let few = c.requires.few in
    let as_many = c.requires.as_many in
    next_sum _ _ _ _ _ (omega arith) c.loop-k.invariant.small p.small refl (c.product-sum.ensures ∙ p.is)

pub product-sum-requires : goal.product-sum-requires
product-sum-requires c = (the_product c).fits

pub overflow_add-sum : goal.overflow_add-sum
overflow_add-sum c = (the_sum c (the_product (goal.at.overflow_add-sum c).After-from)).fits

pub loop-k-preserved : goal.loop-k-preserved
loop-k-preserved c =
    let s = the_sum c (the_product (goal.at.loop-k-preserved c).After-from) in
    let before = c.loop-k.invariant.left in
    let next = weighted-next c.args.coefficients.now c.args.symbols.now c.loop-k.k c.requires.as_many c.loop-k-test.true in
    record { left = rw s.is (omega (arith, ints)); small = rw s.is s.small }

pub returns-clause-value : goal.returns-clause-value
returns-clause-value c =
    let before = c.loop-k.invariant.left in
    let done = weighted-done c.args.coefficients.now c.args.symbols.now c.loop-k.k c.loop-k-test.false in
    omega (arith, ints)
