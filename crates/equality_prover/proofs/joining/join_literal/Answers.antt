use Rattle.std.proofs.Common.{map}
use Rattle.law_clauses.specs.Signed.{signed_of}
use Rattle.law_clauses.specs.ArgumentView.{argument_of}
use Rattle.equality_prover.proofs.Taking.{states_one}
use Rattle.equality_prover.proofs.joining.join_literal.Goals as goal

pub returns-in-Some : goal.returns-in-Some
returns-in-Some c =
    states_one (map argument_of c.args.terms.now) (signed_of c.args.literal.now) (c.in-Some.a, c.in-Some.b) c.args.classes.now c.join_terms.new.classes
    c.in-Some.ensures c.join_terms.ensures
