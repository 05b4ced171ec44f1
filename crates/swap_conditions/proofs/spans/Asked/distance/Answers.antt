use Rattle.std.proofs.Common.{◌∙◌, sym, arith}
use Rattle.swap_conditions.proofs.Distances.{wrong_count, no_index, at_index}
use Rattle.swap_conditions.proofs.spans.Asked.distance.Goals as goal

pub returns-then-indices-self : goal.returns-then-indices-self
returns-then-indices-self c = sym (wrong_count c.args.self.counter.now c.args.self.count c.args.self.position c.args.indices.now c.if-indices-self.true)

pub returns-then-self-indices : goal.returns-then-self-indices
returns-then-self-indices c = sym (no_index c.args.self.counter.now c.args.self.count c.args.self.position c.args.indices.now (omega arith, omega arith))

pub returns : goal.returns
returns c = c.offset_of.ensures ∙ sym (at_index c.args.self.counter.now c.args.self.count c.args.self.position c.args.indices.now c.index-indices-self.result (omega arith) (omega arith) c.index-indices-self.is)
