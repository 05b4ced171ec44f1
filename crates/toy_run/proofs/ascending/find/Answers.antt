use Rattle.std.proofs.Common.{◌∙◌, sym, arith}
use Rattle.toy_run.proofs.InOrder.{between_above, between_below, between_equal, between_none}
use Rattle.toy_run.proofs.ascending.find.Goals as goal

pub loop-low-preserved-in-Less : goal.loop-low-preserved-in-Less
loop-low-preserved-in-Less c =
    between_above c.args.cells.now _ c.loop-low.low c.loop-low.high _ c.index-cells-middle.result c.requires c.loop-low.invariant (omega arith) c.index-cells-middle.is (sym c.compare.ensures ∙ c.in-Less.is)

pub returns-in-Equal : goal.returns-in-Equal
returns-in-Equal c =
    between_equal c.args.cells.now _ c.loop-low.low c.loop-low.high _ c.index-cells-middle.result c.loop-low.invariant (omega arith) c.index-cells-middle.is (sym c.compare.ensures ∙ c.in-Equal.is)

pub loop-low-preserved : goal.loop-low-preserved
loop-low-preserved c =
    between_below c.args.cells.now _ c.loop-low.low c.loop-low.high _ c.index-cells-middle.result c.requires c.loop-low.invariant (omega arith) c.index-cells-middle.is (sym c.compare.ensures ∙ c.in-Greater.is)

pub returns : goal.returns
returns c = between_none c.args.cells.now _ c.loop-low.low c.loop-low.high c.loop-low.invariant (omega arith)
