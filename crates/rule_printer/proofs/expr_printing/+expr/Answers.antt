use Rattle.std.proofs.Common.{arith}
use Rattle.toy_imp.proofs.Items.{one_item, two_items, three_items}
use Rattle.rule_printer.proofs.expr_printing.+expr.Goals as goal

pub put_indices-returns-in-len1 : goal.put_indices-returns-in-len1
put_indices-returns-in-len1 t c = rw (one_item c.args.indices.now c.a-item.result (omega arith) (omega arith) c.a-item.is) c.put_one.ensures

pub put_indices-returns-in-len2 : goal.put_indices-returns-in-len2
put_indices-returns-in-len2 t c =
    rw (two_items c.args.indices.now c.a-item-then-indices-lt3.result c.b-item.result (omega arith) (omega arith) c.a-item-then-indices-lt3.is c.b-item.is) c.put_two.ensures

pub put_indices-returns-in-len3-up : goal.put_indices-returns-in-len3-up
put_indices-returns-in-len3-up t c =
    rw (three_items c.args.indices.now c.a-item-2.result c.b-item-2.result c.c-item.result (omega arith) c.a-item-2.is c.b-item-2.is c.c-item.is) c.put_three.ensures
