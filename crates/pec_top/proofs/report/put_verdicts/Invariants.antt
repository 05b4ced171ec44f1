use Rattle.std.proofs.Common.{◌≡◌, ◌++◌, drop, flat_map}
use Rattle.pec_top.specs.Report.{verdict_line}
use Rattle.pec_top.proofs.report.put_verdicts.Given as goal

abbrev pub invariant-loop-verdict : goal.invariant-loop-verdict
invariant-loop-verdict l = l.out.items ++ flat_map verdict_line (drop l.verdict-index l.all) ≡ l.fn.out.items ++ flat_map verdict_line l.all
