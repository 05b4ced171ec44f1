use Rattle.std.proofs.Common.{rules, arith}
use Rattle.claim_table.proofs.CountSteps.{load_count}
use Rattle.claim_table.proofs.table.ClaimTable.load_count.Goals as goal

pub load-count-requires : goal.load-count-requires
load-count-requires c = (search rules, omega (arith, c.self.invariant.0), load_count _ _ _ _)
