use Rattle.std.proofs.lemmas.List.Elements.{All-push}
use Rattle.linear_rows.specs.Row.{IsRowOver}
use Rattle.pec_bench.proofs.rows.answer_all.Goals as goal

pub loop-line-preserved : goal.loop-line-preserved
loop-line-preserved c = record {
  can_next = tt;
  is_finite = tt;
  few = c.loop-line.invariant.few;
  rows = rw c.in_ok-push.ensures.items (All-push (IsRowOver c.loop-line.n) c.loop-line.rows.items _ c.loop-line.invariant.rows c.in_ok-row.ensures);
}
