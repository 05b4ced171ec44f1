use Rattle.std.proofs.Common.{◌≡◌, ◌-◌, ◌++◌}
use Rattle.rule_printer.specs.CanonicalText.{indent}
use Rattle.rule_printer.proofs.phrase.put_indent.Given as goal

abbrev pub invariant-loop-level : goal.invariant-loop-level
invariant-loop-level l = l.out.items ++ indent (l.d - l._level) ≡ l.fn.out.items ++ indent l.d
