use Rattle.std.proofs.Common.{subst}
use Rattle.term_pool.specs.Pooled.{LiteralsOf}
use Rattle.term_pool.proofs.PutItems.{conjunct_of}
use Rattle.term_pool.proofs.pool.Pool.put_conjunct.Goals as goal

pub returns-clause-stands : goal.returns-clause-stands
returns-clause-stands c =
    conjunct_of c.in_ok-when.when c.in_ok-gives.gives c.args.c.now (subst (LiteralsOf c.put_literals.new.self c.in_ok-when.when) c.as_slice.ensures c.in_ok-when.ensures.stands)
    c.in_ok-gives.ensures.added c.in_ok-gives.ensures.stands
