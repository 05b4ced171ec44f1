use Rattle.std.proofs.Common.{◌≡◌, ◌∙◌, ap, ap₂, ◌^◌, ◌+◌, ◌*◌, ◌+ℤ◌, length, arith, w64}
use Rattle.std.proofs.lemmas.Int.{to_z-of_z, fits_signed_from_abs}
use Rattle.iteration_order.specs.Affine.{weighted_sum, IsAtMost}
use Rattle.iteration_order.proofs.Weights.{CodeSum, code_sum_of_three}
use Rattle.iteration_order.proofs.turns.value_at.Goals as goal
use Rattle.iteration_order.proofs.turns.value_at.Goals.{After-from}

constant_is : (c : After-from) → c.from.result ≡ c.args.form.now.constant
constant_is c =
    let small = c.requires.form.constant_small in
    c.from.ensures ∙ to_z-of_z w64 _ (fits_signed_from_abs w64 _ (omega arith))

the_sum : (c : After-from) → CodeSum ((length c.args.around.now * 2 ^ 108 + 2 ^ 97) + 2 ^ 31) c.counter_part-around.result c.symbol_part-symbols.result c.from.result
the_sum c =
    let one = c.requires.one in
    let small = c.requires.form.constant_small in
    let constant_small : IsAtMost (2 ^ 31) c.from.result =
    let at_most : IsAtMost (2 ^ 31) c.args.form.now.constant = omega arith in
    rw (constant_is c) at_most in
    code_sum_of_three _ _ _ _ _ _ c.counter_part-around.ensures.magnitude c.symbol_part-symbols.ensures.magnitude constant_small (omega arith)

pub returns-clause-value : goal.returns-clause-value
returns-clause-value c =
    (the_sum c).is ∙
    ap₂ (λ x y. x +ℤ y)
    (ap₂ (λ x y. x +ℤ y)
    (c.counter_part-around.ensures.value ∙ ap (λ l. weighted_sum l c.args.around.now) c.as_slice.ensures)
    (c.symbol_part-symbols.ensures.value ∙ ap (λ l. weighted_sum l c.args.symbols.now) c.as_slice-2.ensures))
    (constant_is c)

pub returns-clause-magnitude : goal.returns-clause-magnitude
returns-clause-magnitude c =
    let s = the_sum c in
    let small = s.small in
    rw s.is (omega arith)
