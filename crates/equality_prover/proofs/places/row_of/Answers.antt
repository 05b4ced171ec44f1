use Rattle.std.proofs.Common.{map}
use Rattle.law_clauses.specs.ArgumentView.{argument_of}
use Rattle.equality_prover.specs.Terms.{arguments}
use Rattle.equality_prover.specs.Places.{places_of}
use Rattle.equality_prover.proofs.Placing.{row_more, row_done}
use Rattle.equality_prover.proofs.places.row_of.Goals as goal

pub loop-b-preserved : goal.loop-b-preserved
loop-b-preserved c =
    row_more (map argument_of c.args.terms.now) (arguments (argument_of c.args.a)) c.loop-b.row (places_of (map argument_of c.args.terms.now) (arguments (argument_of c.args.a)))
    c.push.new.self c.len.result c.place_of.result c.in-Some.b c.len.ensures c.in-Some.ensures c.place_of.ensures c.in_ok-push.ensures.ok c.loop-b.invariant

pub returns : goal.returns
returns c =
    row_done (map argument_of c.args.terms.now) (arguments (argument_of c.args.a)) c.loop-b.row (places_of (map argument_of c.args.terms.now) (arguments (argument_of c.args.a)))
    c.len.result c.argument.result c.len.ensures c.argument.ensures c.in_default.not-Some c.loop-b.invariant
