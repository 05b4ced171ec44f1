use Rattle.std.proofs.Common.{rules, ◌≡◌, true, length}
use Rattle.std.specs.List.{list_all}
use Rattle.linear_rows.specs.Fractions.{is_small}
use Rattle.pec_bench.proofs.Small.{small, all_small}
use Rattle.pec_bench.proofs.rows.checked.Goals as goal

pub returns : goal.returns
returns c =
    let count : length c.args.row.coefficients ≡ c.args.n = search rules in
    let tested : list_all is_small c.args.row.coefficients ≡ true = search rules in
    let bounded : is_small c.args.row.bound ≡ true = search rules in
    record { count = count; coefficients = all_small c.args.row.coefficients tested; bound = small c.args.row.bound bounded }
