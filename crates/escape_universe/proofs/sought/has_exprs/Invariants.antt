-- At what is left of the stores all have marks exactly where they have at each.
use Rattle.std.proofs.Common.{◌≡◌, drop}
use Rattle.std.specs.List.{list_all}
use Rattle.rule_terms.specs.Term.{ev}
use Rattle.escape_marks.specs.declared.escape.StoreMark.{StoreMark}
use Rattle.escape_universe.specs.Covered.{has_value}
use Rattle.escape_universe.proofs.sought.has_exprs.Given as goal

abbrev pub invariant-loop-m : goal.invariant-loop-m
invariant-loop-m l = list_all (λ (m : StoreMark). has_value l.e (ev l.k m.store)) (drop l.m-index l.stores) ≡ list_all (λ (m : StoreMark). has_value l.e (ev l.k m.store)) l.stores
