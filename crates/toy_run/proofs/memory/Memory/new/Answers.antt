use Rattle.std.proofs.Common.{◌∙◌}
use Rattle.toy_run.proofs.InOrder.{none_in_order, none_indexed, none_written}
use Rattle.toy_run.proofs.memory.Memory.new.Goals as goal

pub invariant_of-result : goal.invariant_of-result
invariant_of-result c = record { in_order = none_in_order c.new.result c.new.ensures; indexed = none_indexed c.new.result c.new.ensures }

pub returns : goal.returns
returns c = none_written c.new.result _ c.new.ensures ∙ c.new-2.ensures
