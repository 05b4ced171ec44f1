use Rattle.std.proofs.Common.{◌≡◌, ◌++◌, drop, map, flat_map}
use Rattle.program_reader.specs.RuleCanonical.{canonical_condition}
use Rattle.rule_printer.specs.RuleCanonicalText.{given_bytes}
use Rattle.rule_printer.proofs.rule_lines.put_conditions.Given as goal

abbrev pub invariant-loop-c : goal.invariant-loop-c
invariant-loop-c l =
    l.out.items ++ flat_map given_bytes (map (canonical_condition l.params) (drop l.c-index l.conditions)) ≡ l.fn.out.items ++ flat_map given_bytes (map (canonical_condition l.params) l.conditions)
