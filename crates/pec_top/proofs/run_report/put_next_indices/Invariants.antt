use Rattle.std.proofs.Common.{◌≡◌, ◌++◌, drop, flat_map}
use Rattle.pec_top.specs.RunReport.{next_index_text}
use Rattle.pec_top.proofs.run_report.put_next_indices.Given as goal

abbrev pub invariant-loop-index : goal.invariant-loop-index
invariant-loop-index l = l.out.items ++ flat_map next_index_text (drop l.index-index l.indices) ≡ l.fn.out.items ++ flat_map next_index_text l.indices
