use Rattle.std.proofs.Common.{refl, sym, ◌∙◌}
use Rattle.path_pairs.proofs.Halting.{large_halting}
use Rattle.path_pairs.proofs.stopped.add_halted.Goals as goal

pub returns-then-is_too_large : goal.returns-then-is_too_large
returns-then-is_too_large c = (refl, large_halting c.args.t.now c.args.met.now.literals c.args.met.now.store (sym c.is_too_large.ensures ∙ c.if-is_too_large.true))
