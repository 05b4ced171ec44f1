-- What is left of the marks has the same first mark of the term as all of them.
use Rattle.std.proofs.Common.{◌≡◌, drop}
use Rattle.rule_terms.specs.Term.{run}
use Rattle.law_clauses.specs.Shapes.{put_at}
use Rattle.escape_marks.specs.Marks.{store_mark}
use Rattle.escape_conditions.proofs.behind.write_mark.Given as goal

abbrev pub invariant-loop-m : goal.invariant-loop-m
invariant-loop-m l = store_mark (drop l.m-index l.marks) (put_at (run l.k l.s) l.p l.v) ≡ store_mark l.marks (put_at (run l.k l.s) l.p l.v)
