use Rattle.std.proofs.Common.{sym, subst}
use Rattle.term_pool.specs.Growth.{Adds}
use Rattle.term_pool.specs.ObligationTerms.{gives_terms}
use Rattle.term_pool.proofs.Growing.{adds_nothing}
use Rattle.term_pool.proofs.pool.Pool.put_given.Goals as goal

pub returns-in-None-clause-added : goal.returns-in-None-clause-added
returns-in-None-clause-added c = subst (λ l. Adds c.args.self.now c.args.self.now (gives_terms l)) (sym c.in-None.is) (adds_nothing c.args.self.now)
