use Rattle.std.proofs.Common.{◌^◌, ◌+◌, arith, negsuc}
use Rattle.affine_forms.specs.Form.{without_counters}
use Rattle.affine_forms.proofs.Magnitudes.{products_within, sum_within, without_within, wider}
use Rattle.affine_forms.proofs.maps.counter_part.Goals as goal

-- src/maps.rt:55:1
pub returns-clause-within : goal.returns-clause-within
returns-clause-within c =
    let rest = without_within 2147483647 c.args.form c.requires.form in
    let products = products_within 1 2147483647 2147483647 (negsuc 0) (without_counters c.args.form) (omega arith) rest (omega arith) in
    let all = sum_within 2147483647 2147483647 c.args.value (without_counters c.args.form) (negsuc 0) c.requires.value products in
    rw (c.minus.ensures) (rw c.without_counters.ensures (wider (2147483647 + 2147483647) (2 ^ 32) _ (omega arith) all))
