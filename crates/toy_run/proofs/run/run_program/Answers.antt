use Rattle.std.proofs.Common.{◌≡◌, ◌∙◌, ap, ap₂, arith}
use Rattle.toy_imp.specs.Run.{before}
use Rattle.toy_imp.specs.BlockView.{block_of}
use Rattle.toy_run.specs.Memory.{store_in}
use Rattle.toy_run.specs.Work.{onto, work_of}
use Rattle.toy_run.proofs.Counting.{to_do, starts, goes_on, stops_wide, stops_spent, stops_ended, stops_halted}
use Rattle.toy_run.proofs.run.run_program.Goals as goal

pub loop-item-init : goal.loop-item-init
unfolding onto
loop-item-init c =
    let block_is : block_of c.as_slice.result.now ≡ c.args.block.now = ap block_of c.as_slice.ensures ∙ c.block.view_is in
    (omega arith, starts _ _ _ _ c.new-memory.ensures (c.in_ok-push_block.ensures ∙ ap₂ before block_is (ap work_of c.new-work.ensures.items)))

pub returns-in-Halt : goal.returns-in-Halt
returns-in-Halt c = (
  c.loop-item.invariant.0,
  record {
    store = store_in c.loop-item.memory;
    comes_out = stops_halted c.loop-item.done _ _ _ _ _ _ c.in-Halt.is c.in-Some.ensures c.loop-item.invariant.1;
    narrow = c.loop-item.invariant.1.narrow;
    listed = c.in_ok-cells.ensures;
  },
)

pub returns-then-done-steps : goal.returns-then-done-steps
returns-then-done-steps c = stops_spent c.loop-item.done c.args.steps _ _ _ _ _ _ (to_do _ c.in_default-item.not-Halt) c.if-done-steps.true c.in-Some.ensures c.loop-item.invariant.1

pub returns-in-Wide : goal.returns-in-Wide
returns-in-Wide c = (omega arith, stops_wide c.loop-item.done _ _ _ _ _ _ _ _ _ (to_do _ c.in_default-item.not-Halt) c.in-Some.ensures c.loop-item.invariant.1 c.in_ok-do_item.ensures c.in-Wide.is)

pub loop-item-preserved : goal.loop-item-preserved
loop-item-preserved c = (omega arith, goes_on c.loop-item.done _ _ _ _ _ _ _ _ _ (to_do _ c.in_default-item.not-Halt) c.in-Some.ensures c.loop-item.invariant.1 c.in_ok-do_item.ensures c.in_default-2.not-Wide)

pub returns : goal.returns
returns c = (
  c.loop-item.invariant.0,
  record {
    store = store_in c.loop-item.memory;
    comes_out = stops_ended c.loop-item.done _ _ _ _ c.in_default.ensures c.loop-item.invariant.1;
    narrow = c.loop-item.invariant.1.narrow;
    listed = c.in_ok-cells-2.ensures;
  },
)
