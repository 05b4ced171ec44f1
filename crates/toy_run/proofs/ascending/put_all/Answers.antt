use Rattle.std.proofs.Common.{◌∙◌, arith}
use Rattle.std.proofs.lemmas.Int.{ints}
use Rattle.toy_run.proofs.InOrder.{put_last, none_left}
use Rattle.toy_run.proofs.ascending.put_all.Goals as goal

pub loop-cell-preserved : goal.loop-cell-preserved
loop-cell-preserved c = (
  put_last c.loop-cell.left.now c.in-Some.before.now c.in-Some.cell.now _ _ _ _ _ _ c.loop-cell.invariant.0 c.in-Some.ensures.cases.0 c.in_ok-put.ensures.stored c.as_slice.ensures (c.in_ok-from_slice.ensures ∙ c.as_slice-in-Some.ensures) (omega (arith, ints)),
  c.in_ok-put.ensures.no_zero,
)

pub returns-clause-stored : goal.returns-clause-stored
returns-clause-stored c = none_left c.loop-cell.left.now _ _ c.in_default.ensures.cases c.loop-cell.invariant.0
