use Rattle.std.proofs.Common.{◌∙◌, sym, arith}
use Rattle.toy_run.proofs.InOrder.{behind_last, less_than}
use Rattle.toy_run.proofs.ascending.is_behind.Goals as goal

pub returns : goal.returns
returns c = λ yes. behind_last c.args.cells.now _ c.index-cells-n.result c.requires (omega arith) c.index-cells-n.is (sym c.compare.ensures ∙ less_than _ (sym c.is_lt.ensures ∙ yes))
