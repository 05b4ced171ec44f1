use Rattle.std.proofs.Common.{rules}
use Rattle.term_pool.proofs.PutTerms.{num_number, num_added}
use Rattle.term_pool.proofs.pool.Pool.add_num.Goals as goal

pub returns-clause-number : goal.returns-clause-number
returns-clause-number c = num_number c.add.result c.args.self.now c.add.new.self _ c.args.z (search rules) c.add.ensures.number

pub returns-clause-added : goal.returns-clause-added
returns-clause-added c = num_added c.add.result c.args.self.now c.add.new.self _ c.args.z (search rules) c.add.ensures.added
