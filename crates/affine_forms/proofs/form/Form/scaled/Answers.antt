use Rattle.std.proofs.Common.{◌^◌, arith}
use Rattle.affine_forms.proofs.Magnitudes.{kept, products_within}
use Rattle.affine_forms.proofs.form.Form.scaled.Goals as goal

-- src/sums.rt:34:9
pub plus_multiple-requires-clause-products : goal.plus_multiple-requires-clause-products
plus_multiple-requires-clause-products c =
    rw (kept 2147483647 c.args.times c.requires.times (omega arith))
    (products_within 2147483647 2147483647 (2 ^ 62) c.args.times c.args.self c.requires.times c.requires.form (omega arith))
