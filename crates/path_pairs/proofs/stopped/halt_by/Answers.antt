use Rattle.std.proofs.Common.{◌++◌}
use Rattle.path_pairs.proofs.Adding.{one_refused}
use Rattle.path_pairs.proofs.Halting.{halted_path}
use Rattle.path_pairs.proofs.stopped.halt_by.Goals as goal

pub returns-in-Err : goal.returns-in-Err
returns-in-Err c = one_refused (Unit {0}) (halted_path (c.args.met.now.literals ++ c.args.outcome.now) c.args.met.now.store) c.args.all.now c.args.all.now c.in-Err.e c.in-Err.ensures.err
