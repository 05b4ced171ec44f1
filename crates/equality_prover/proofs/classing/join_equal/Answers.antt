use Rattle.std.proofs.Common.{map}
use Rattle.law_clauses.specs.Signed.{all_signed}
use Rattle.law_clauses.specs.ArgumentView.{argument_of}
use Rattle.equality_prover.proofs.Exact.{classes_are}
use Rattle.equality_prover.proofs.classing.join_equal.Goals as goal

pub returns : goal.returns
returns c =
    classes_are (map argument_of c.args.terms.now) (all_signed c.args.literals.now) c.args.classes.now c.join_literals.new.classes c.settle.new.classes
    c.requires.single c.join_literals.ensures c.settle.ensures
