use Rattle.law_clauses.specs.ArgumentView.{argument_of}
use Rattle.equality_prover.proofs.Taking.{pair_joined_at}
use Rattle.equality_prover.proofs.joining.join_terms.Goals as goal

pub returns-then-classes-i : goal.returns-then-classes-i
returns-then-classes-i c =
    pair_joined_at c.args.terms.now (argument_of c.args.a) (argument_of c.args.b) c.args.classes.now c.join.new.classes c.place_of-i.result c.place_of-j.result
    c.requires.count c.requires.stand c.place_of-i.ensures c.place_of-j.ensures c.join.ensures
