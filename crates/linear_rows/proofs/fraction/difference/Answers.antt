use Rattle.std.proofs.Common.{arith}
use Rattle.std.proofs.lemmas.Int.{ints}
use Rattle.linear_rows.proofs.fraction.difference.Goals as goal

pub reduced-requires-clause-positive : goal.reduced-requires-clause-positive
reduced-requires-clause-positive c =
    let first = c.requires.first.positive in
    let second = c.requires.second.positive in
    let positive = c.times-3.ensures.positive (omega (arith, ints)) (omega (arith, ints)) in
    omega (arith, ints)
