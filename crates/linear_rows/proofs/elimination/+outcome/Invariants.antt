use Rattle.linear_rows.proofs.elimination.+outcome.Given as goal

abbrev pub decreases-outcome : goal.decreases-outcome
decreases-outcome l = l.n
