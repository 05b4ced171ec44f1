-- Lists of different lengths do not agree.
use Rattle.std.proofs.Common.{sym, arith}
use Rattle.open_checker.proofs.Indices.{other_number}
use Rattle.open_checker.proofs.likeness.indices_agree.Goals as goal

pub returns-then-is-js : goal.returns-then-is-js
returns-then-is-js c = sym (other_number c.args.params.now c.args.e.now c.args.is.now c.args.js.now (omega (arith, c.if-is-js.true)))
