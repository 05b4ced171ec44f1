use Rattle.std.proofs.Common.{◌≡◌, ◌++◌, drop}
use Rattle.pec_top.specs.PrintedItems.{items_text}
use Rattle.pec_top.proofs.printed_items.items_text.Given as goal

abbrev pub invariant-loop-item : goal.invariant-loop-item
invariant-loop-item l = l.out.items ++ items_text (drop l.item-index l.items) ≡ items_text l.items
