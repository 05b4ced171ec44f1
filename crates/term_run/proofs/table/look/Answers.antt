use Rattle.std.proofs.Common.{sym, ◌∙◌, arith}
use Rattle.term_run.specs.Cells.{store_by}
use Rattle.term_run.proofs.Looking.{look_end, look_before, look_hit}
use Rattle.term_run.proofs.table.look.Goals as goal

pub loop-i-init : goal.loop-i-init
loop-i-init c = record { within = omega arith; none = look_end c.args.table.now c.args.k (store_by c.args.cells.now) }

pub loop-i-preserved : goal.loop-i-preserved
loop-i-preserved c = record {
  within = omega (arith, c.loop-i.invariant.within);
  none = look_before c.args.table.now c.loop-i.i c.index-table-i.result c.args.k (store_by c.args.cells.now) (omega arith) c.loop-i.invariant.within c.index-table-i.is (sym c.is_of.ensures ∙ c.if-is_of.false) c.loop-i.invariant.none;
}

pub returns-then-is_of : goal.returns-then-is_of
returns-then-is_of c =
    rw (look_hit c.args.table.now c.loop-i.i c.index-table-i.result c.args.k (store_by c.args.cells.now) (omega arith) c.loop-i.invariant.within c.index-table-i.is (sym c.is_of.ensures ∙ c.if-is_of.true) c.loop-i.invariant.none) c.ended.ensures
