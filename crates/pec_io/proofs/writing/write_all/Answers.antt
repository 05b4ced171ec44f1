use Rattle.std.proofs.Common.{◌≡◌, arith, length, take, drop, ◌+◌, ◌-◌, ◌∙◌}
use Rattle.std.proofs.lemmas.Grind.{common_steps}
use Rattle.pec_io.proofs.Pieces.{appends_more, room_more}
use Rattle.pec_io.proofs.writing.write_all.Goals as goal

pub loop-sent-preserved : goal.loop-sent-preserved
loop-sent-preserved g c =
    let size : length (take (length c.args.bytes.now - c.loop-sent.sent) (drop c.loop-sent.sent c.args.bytes.now))
    ≡ length c.args.bytes.now - c.loop-sent.sent = grind (arith, common_steps) in
    let left : length c.args.bytes.now - (c.loop-sent.sent + c.in_ok-sent.field-0)
    ≡ length c.args.bytes.now - c.loop-sent.sent - c.in_ok-sent.field-0 = omega arith in
    record {
      within = grind (arith, common_steps);
      appended = appends_more _ _ _ _ _ _ c.loop-sent.invariant.appended c.in_ok-sent.ensures.bytes;
      kept = c.in_ok-sent.ensures.cause.kept ∙ c.loop-sent.invariant.kept;
      room = λ h. room_more _ _ _ _ _ _ _ (c.loop-sent.invariant.room h) c.in_ok-sent.ensures.whole size left;
    }
