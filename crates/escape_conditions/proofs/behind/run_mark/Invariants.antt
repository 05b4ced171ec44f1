-- What is left of the marks has the same first mark of the term as all of them.
use Rattle.std.proofs.Common.{◌≡◌, drop}
use Rattle.rule_terms.specs.Term.{run}
use Rattle.escape_marks.specs.Marks.{store_mark}
use Rattle.escape_conditions.proofs.behind.run_mark.Given as goal

abbrev pub invariant-loop-m : goal.invariant-loop-m
invariant-loop-m l = store_mark (drop l.m-index l.marks) (run l.j (run l.k l.s)) ≡ store_mark l.marks (run l.j (run l.k l.s))
