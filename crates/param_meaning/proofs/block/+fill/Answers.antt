use Rattle.std.proofs.Common.{◌∙◌, ap, sym}
use Rattle.toy_imp.specs.BlockView.{stmt_of}
use Rattle.toy_imp.proofs.Cases.{fill-empty}
use Rattle.param_meaning.proofs.Lists.{alone}
use Rattle.param_meaning.proofs.block.+fill.Goals as goal

pub fill-loop-s-init : goal.fill-loop-s-init
fill-loop-s-init t c = c.new-filled.ensures ∙ sym (fill-empty c.args.by.now)

pub fill_stmt-returns-in-Par : goal.fill_stmt-returns-in-Par
fill_stmt-returns-in-Par t c = alone c.args.by.now c.args.s.now c.in-Par.k c.block_at.result (sym c.s.view_is ∙ ap stmt_of c.in-Par.is) c.block_at.ensures
