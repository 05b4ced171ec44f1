use Rattle.std.proofs.Common.{take}
use Rattle.term_pool.specs.Growth.{Extends}
use Rattle.pool_goals.specs.Replaced.{ConjunctsAt, Sound}
use Rattle.pool_goals.proofs.precondition.conjuncts_at.Given as goal

abbrev pub invariant-loop-c : goal.invariant-loop-c
invariant-loop-c l = record {
  replaced : ConjunctsAt l.fn.pool l.pool l.left l.right (take l.c-index l.items) l.all;
  sound : Sound l.pool l.left l.right l.memo;
  kept : Extends l.fn.pool l.pool;
}
