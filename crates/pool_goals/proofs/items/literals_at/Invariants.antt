use Rattle.std.proofs.Common.{take}
use Rattle.term_pool.specs.Growth.{Extends}
use Rattle.pool_goals.specs.Replaced.{LiteralsAt, Sound}
use Rattle.pool_goals.proofs.items.literals_at.Given as goal

abbrev pub invariant-loop-x : goal.invariant-loop-x
invariant-loop-x l = record {
  replaced : LiteralsAt l.fn.pool l.pool l.left l.right (take l.x-index l.items) l.all;
  sound : Sound l.pool l.left l.right l.memo;
  kept : Extends l.fn.pool l.pool;
}
