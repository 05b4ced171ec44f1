use Rattle.std.proofs.Common.{arith}
use Rattle.word_text.proofs.WordTable.{none_par}
use Rattle.word_text.proofs.word.par_of.Goals as goal

pub returns-in-Err : goal.returns-in-Err
returns-in-Err c =
    none_par c.args.digits.now c.in_ok-n.n c.in_ok-n.ensures.found (omega (arith, c.number_of.type_inv, c.branch-n.type_inv)) (omega (arith, c.in-Err.ensures))
