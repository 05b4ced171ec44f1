use Rattle.std.proofs.Common.{sym, subst}
use Rattle.std.specs.Bool.{IsTrue}
use Rattle.std.proofs.lemmas.Bool.{false≢true}
use Rattle.rule_printer.proofs.Blocks.{some_lines}
use Rattle.rule_printer.proofs.block_printing.+block.Goals as goal

pub put_block-returns : goal.put_block-returns
put_block-returns t c =
    rw (some_lines c.args.d c.args.params.now c.b.inside.stmts c.args.b.now (sym c.b.view_is) (λ e. false≢true (subst IsTrue c.if-is_empty.false (c.is_empty.ensures.1 e)))) c.put_filled.ensures
