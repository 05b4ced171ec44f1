use Rattle.linear_rows.specs.Elimination.{IsEliminated, Refutes}
use Rattle.linear_rows.specs.Solution.{MeetsRows}
use Rattle.linear_rows.proofs.Gathered.{if_ok_then}
use Rattle.linear_rows.proofs.Outcomes.{eliminated_refutes}
use Rattle.linear_rows.proofs.Solved.{eliminated_meets}
use Rattle.linear_rows.proofs.elimination.feasible.Goals as goal

pub returns-clause-refutes : goal.returns-clause-refutes
returns-clause-refutes c =
    if_ok_then c.eliminate.result (IsEliminated c.args.n c.args.rows.now) (Refutes c.args.rows.now) c.eliminate.ensures (eliminated_refutes c.args.n c.args.rows.now c.requires.rows)

pub returns-clause-meets : goal.returns-clause-meets
returns-clause-meets c =
    if_ok_then c.eliminate.result (IsEliminated c.args.n c.args.rows.now) (MeetsRows c.args.n c.args.rows.now) c.eliminate.ensures (eliminated_meets c.args.n c.args.rows.now c.requires.rows)
