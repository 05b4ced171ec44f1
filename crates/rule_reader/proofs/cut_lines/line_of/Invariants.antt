use Rattle.std.proofs.Common.{◌≡◌, map, take}
use Rattle.toy_imp.specs.RuleGrammar.{cut_value}
use Rattle.rule_reader.proofs.cut_lines.line_of.Given as goal

abbrev pub invariant-loop-pair : goal.invariant-loop-pair
invariant-loop-pair l = l.cuts ≡ map cut_value (take l.pair-index l.pairs)
