use Rattle.std.proofs.Common.{◌≡◌, true, refl, sym, ◌∙◌}
use Rattle.std.proofs.lemmas.Result.{on_ok_weaker}
use Rattle.linear_rows.specs.Stage.{is_upper}
use Rattle.linear_rows.proofs.Recorders.{sum_by_step}
use Rattle.linear_rows.proofs.gathering.take_sum.Goals as goal

pub returns-clause-recorded : goal.returns-clause-recorded
returns-clause-recorded c =
    let upper : is_upper c.args.q.now ≡ true = sym c.is_upper.ensures ∙ c.if-not-is_upper.false in
    on_ok_weaker c.take.result
    (λ records. sum_by_step c.args.number c.multiplier-by.result c.args.other c.multiplier-times.result
    (record { first = c.args.number; by = c.multiplier-by.result; second = c.args.other; times = c.multiplier-times.result; cut = 1 })
    c.args.p.now c.args.q.now c.in_ok-sum.sum.items c.args.history.now c.take.new.history c.args.next.now c.take.new.self
    c.multiplier-by.ensures.small c.multiplier-times.ensures.small c.requires.first c.requires.second c.requires.lower upper
    c.multiplier-by.ensures.value c.multiplier-times.ensures.value c.in_ok-sum.ensures.value refl (records refl))
    c.take.ensures.recorded
