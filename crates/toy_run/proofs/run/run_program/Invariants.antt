use Rattle.std.proofs.Common.{◌≤◌, ◌-◌, []}
use Rattle.toy_imp.specs.Run.{before}
use Rattle.toy_run.specs.Memory.{store_in}
use Rattle.toy_run.specs.Stored.{empty_store}
use Rattle.toy_run.specs.Work.{work_of}
use Rattle.toy_run.proofs.Counting.{Stands}
use Rattle.toy_run.proofs.run.run_program.Given as goal

abbrev pub invariant-loop-item : goal.invariant-loop-item
invariant-loop-item l = (l.done ≤ l.steps) × Stands l.done (before l.block []) empty_store (store_in l.memory) (work_of l.work.items)

abbrev pub decreases-loop-item : goal.decreases-loop-item
decreases-loop-item l = l.steps - l.done
