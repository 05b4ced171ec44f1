use Rattle.std.proofs.Common.{◌≡◌, ◌++◌, drop, flat_map}
use Rattle.pec_top.specs.CheckReport.{check_line}
use Rattle.pec_top.proofs.check_report.put_checks.Given as goal

abbrev pub invariant-loop-check : goal.invariant-loop-check
invariant-loop-check l = l.out.items ++ flat_map check_line (drop l.check-index l.all) ≡ l.fn.out.items ++ flat_map check_line l.all
