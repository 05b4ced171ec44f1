use Rattle.std.proofs.Common.{take}
use Rattle.term_pool.specs.Growth.{Adds}
use Rattle.term_pool.specs.ObligationTerms.{conjuncts_terms}
use Rattle.term_pool.specs.Pooled.{ConjunctsOf}
use Rattle.term_pool.proofs.pool.Pool.put_conjuncts.Given as goal

abbrev pub invariant-loop-c : goal.invariant-loop-c
invariant-loop-c l = record {
  stands : ConjunctsOf l.self l.all (take l.c-index l.items);
  added : Adds l.fn.self l.self (conjuncts_terms (take l.c-index l.items));
}
