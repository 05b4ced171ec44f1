use Rattle.std.proofs.Common.{rules, refl}
use Rattle.std.specs.Prelude.{◌*ℤ◌, FitsSigned}
use mir.Syntax.{w128}
use Rattle.std.proofs.lemmas.Int.{to_z-of_z}
use Rattle.linear_rows.proofs.Sizes.{small_product, product_fits, positive_product}
use Rattle.linear_rows.proofs.number.times.Goals as goal

pub overflow_mul-result : goal.overflow_mul-result
overflow_mul-result c =
    let a : FitsSigned w128 c.args.a = search rules in
    let b : FitsSigned w128 c.args.b = search rules in
    rw (to_z-of_z w128 c.args.a a, to_z-of_z w128 c.args.b b) (product_fits c.args.a c.args.b c.requires.first c.requires.second)

pub returns : goal.returns
returns c =
    let a : FitsSigned w128 c.args.a = search rules in
    let b : FitsSigned w128 c.args.b = search rules in
    rw (to_z-of_z w128 c.args.a a, to_z-of_z w128 c.args.b b)
    (rw (to_z-of_z w128 (c.args.a *ℤ c.args.b) (product_fits c.args.a c.args.b c.requires.first c.requires.second)) (record {
      value = refl;
      size = small_product c.args.a c.args.b c.requires.first c.requires.second;
      positive = positive_product c.args.a c.args.b;
    }))
