use Rattle.term_pool.proofs.Keeping.{kept_taken}
use Rattle.term_pool.proofs.pool.Pool.truncate.Goals as goal

pub invariant_of-self : goal.invariant_of-self
invariant_of-self c = kept_taken c.self.inside.sizes.entries c.truncate.new.self.entries c.args.len c.self.invariant c.truncate.ensures.entries
