use Rattle.std.proofs.Common.{ap}
use Rattle.rule_terms.specs.Added.{added_all}
use Rattle.pool_universe.specs.PooledParts.{top_there, numbers_there, marked_all, part_same}
use Rattle.pool_universe.proofs.sweep.gather.Goals as goal

pub returns-in-None-clause-marks : goal.returns-in-None-clause-marks
unfolding marked_all
returns-in-None-clause-marks c = ap (λ o. marked_all c.args.marks.now (numbers_there o)) c.in-None.ensures.node

pub returns-in-None-clause-parts : goal.returns-in-None-clause-parts
unfolding added_all
returns-in-None-clause-parts c = ap (λ o. added_all part_same c.args.parts.now.keys (top_there c.args.at o)) c.in-None.ensures.node
