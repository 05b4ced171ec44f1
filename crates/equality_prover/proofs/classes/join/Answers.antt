use Rattle.std.proofs.Common.{arith}
use Rattle.equality_prover.proofs.Relabelling.{first_higher, second_higher}
use Rattle.equality_prover.proofs.classes.join.Goals as goal

pub returns-then-first-second : goal.returns-then-first-second
returns-then-first-second c =
    second_higher c.args.i c.args.j c.args.classes.now c.relabel.new.classes c.requires.first c.requires.second (omega arith) (omega arith) c.relabel.ensures

pub returns-else-first-second : goal.returns-else-first-second
returns-else-first-second c =
    first_higher c.args.i c.args.j c.args.classes.now c.relabel-else-first-second.new.classes c.requires.first c.requires.second (omega arith) (omega (arith, c.requires.apart)) c.relabel-else-first-second.ensures
