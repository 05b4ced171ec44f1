use Rattle.std.proofs.Common.{take}
use Rattle.term_pool.specs.Growth.{Adds}
use Rattle.term_pool.specs.ObligationTerms.{literals_terms}
use Rattle.term_pool.specs.Pooled.{LiteralsOf}
use Rattle.term_pool.proofs.pool.Pool.put_literals.Given as goal

abbrev pub invariant-loop-l : goal.invariant-loop-l
invariant-loop-l l = record {
  stands : LiteralsOf l.self l.all (take l.l-index l.items);
  added : Adds l.fn.self l.self (literals_terms (take l.l-index l.items));
}
