use Rattle.std.proofs.Common.{◌≡◌, ◌++◌, drop}
use Rattle.rule_printer.specs.RulePieces.{declared_after}
use Rattle.rule_printer.proofs.rule_lines.put_after.Given as goal

abbrev pub invariant-loop-p : goal.invariant-loop-p
invariant-loop-p l = l.out.items ++ declared_after l.last (drop l.p-index l.params) ≡ l.fn.out.items ++ declared_after l.fn.kind l.params
