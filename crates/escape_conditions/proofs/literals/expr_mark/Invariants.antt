-- What is left of the marks has the same first mark of the term as all of them.
use Rattle.std.proofs.Common.{◌≡◌, drop}
use Rattle.rule_terms.specs.Term.{ev}
use Rattle.escape_marks.specs.Marks.{value_mark}
use Rattle.escape_conditions.proofs.literals.expr_mark.Given as goal

abbrev pub invariant-loop-m : goal.invariant-loop-m
invariant-loop-m l = value_mark (drop l.m-index l.marks) (ev l.i l.s) ≡ value_mark l.marks (ev l.i l.s)
