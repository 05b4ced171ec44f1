use Rattle.std.proofs.Common.{◌≡◌, ◌++◌, drop, flat_map, codes}
use Rattle.rule_printer.specs.RuleCanonicalText.{pair_bytes}
use Rattle.rule_printer.proofs.rule_lines.put_more.Given as goal

abbrev pub invariant-loop-pair : goal.invariant-loop-pair
invariant-loop-pair l =
    l.out.items ++ flat_map (λ b. codes ", " ++ pair_bytes b) (drop l.pair-index l.pairs) ≡ l.fn.out.items ++ flat_map (λ b. codes ", " ++ pair_bytes b) l.pairs
