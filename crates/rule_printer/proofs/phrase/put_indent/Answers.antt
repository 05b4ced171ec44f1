use Rattle.std.proofs.Common.{rules, ◌≡◌, ◌++◌, ◌<◌, codes}
use Rattle.rule_printer.specs.CanonicalText.{indent}
use Rattle.rule_printer.proofs.Phrases.{indent_step}
use Rattle.rule_printer.proofs.phrase.put_indent.Goals as goal

pub loop-level-preserved : goal.loop-level-preserved
loop-level-preserved c =
    let low : c.loop-level._level < c.args.d = search rules in
    let more : c.put.new.out.items ≡ c.loop-level.out.items ++ codes "  " = search rules in
    indent_step c.args.d c.loop-level._level (c.args.out.now.items ++ indent c.args.d) c.loop-level.out.items c.put.new.out.items low c.loop-level.invariant more
