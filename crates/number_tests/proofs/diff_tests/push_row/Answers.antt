use Rattle.std.proofs.Common.{◌^◌}
use Rattle.std.proofs.lemmas.List.Elements.{All-push}
use Rattle.diff_prover.specs.Row.{IsWithin, IsRowOver}
use Rattle.number_tests.proofs.diff_tests.push_row.Goals as goal

pub returns-clause-rows : goal.returns-clause-rows
returns-clause-rows g c =
    rw c.in_ok-push.ensures.items (All-push (IsRowOver c.args.n) _ _ c.requires.rows c.row.ensures)

pub returns-clause-magnitudes : goal.returns-clause-magnitudes
returns-clause-magnitudes g c =
    rw c.in_ok-push.ensures.items (All-push (λ row. IsWithin (2 ^ 65) row.by) _ _ c.requires.magnitudes c.row.ensures.magnitude)
