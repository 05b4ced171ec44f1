-- At what is left of the stores all have marks exactly where they have at each.
use Rattle.std.proofs.Common.{◌≡◌, drop}
use Rattle.std.specs.List.{list_all}
use Rattle.rule_terms.specs.Term.{get}
use Rattle.escape_marks.specs.declared.escape.StoreMark.{StoreMark}
use Rattle.escape_universe.specs.Covered.{has_value}
use Rattle.escape_universe.proofs.sought.has_reads.Given as goal

abbrev pub invariant-loop-m : goal.invariant-loop-m
invariant-loop-m l = list_all (λ (m : StoreMark). has_value l.e (get l.p.name l.p.indices m.store)) (drop l.m-index l.stores) ≡ list_all (λ (m : StoreMark). has_value l.e (get l.p.name l.p.indices m.store)) l.stores
