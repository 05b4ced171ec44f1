use Rattle.std.proofs.Common.{false, [], ◌∷◌, ◌++◌}
use Rattle.rule_terms.specs.Term.{run}
use Rattle.rule_terms.specs.declared.obligation.Atom.TheVariants.{Ends}
use Rattle.rule_terms.specs.declared.path.Path.{Path}
use Rattle.rule_terms.specs.declared.path.Stop.TheVariants.{Stuck}
use Rattle.path_pairs.proofs.Adding.{one_refused}
use Rattle.path_pairs.proofs.stopped.add_stuck.Goals as goal

pub returns-in-Err : goal.returns-in-Err
returns-in-Err c =
    let path : Path = record { literals = c.args.met.now.literals ++ record { sign = false; atom = Ends (run c.args.k c.args.met.now.store) } ∷ []; store = c.args.met.now.store; stop = Stuck c.args.k } in
    one_refused (Unit {0}) path c.args.all.now c.args.all.now c.in-Err.e c.in-Err.ensures.err
