use Rattle.std.proofs.Common.{rules, ◌≡◌, ◌^◌, ◌≤◌, pos, ap}
use Rattle.std.proofs.lemmas.Result.{on_ok_weaker}
use Rattle.linear_rows.specs.Stage.{first}
use Rattle.linear_rows.proofs.Recorders.{next_by_step}
use Rattle.std.specs.Prelude.{unsigned_abs}
use Rattle.linear_rows.proofs.Walking.{small_wide, without_first_all}
use Rattle.linear_rows.proofs.gathering.take_kept_line.Goals as goal

pub take-requires-clause-wide : goal.take-requires-clause-wide
take-requires-clause-wide c =
    rw c.in_ok-rest.ensures (without_first_all (λ z. unsigned_abs z ≤ 2 ^ 126) c.args.line.now (small_wide c.args.line.now c.requires.line))

pub returns-clause-recorded : goal.returns-clause-recorded
returns-clause-recorded c =
    let none : first c.args.line.now ≡ pos 0 = search rules in
    on_ok_weaker c.take.result
    (λ records. next_by_step c.args.number c.same_row.result c.args.line.now c.in_ok-rest.rest.items c.args.history.now c.take.new.history c.args.next.now c.take.new.self
    c.requires.line none c.same_row.ensures c.in_ok-rest.ensures (records (ap (λ s. s.cut) c.same_row.ensures)))
    c.take.ensures.recorded
