-- What is left of the conjuncts passes exactly where all do.
use Rattle.std.proofs.Common.{◌≡◌, drop}
use Rattle.std.specs.List.{list_all}
use Rattle.escape_universe.specs.Named.{conjunct_named}
use Rattle.escape_universe.proofs.names.conjuncts_named.Given as goal

abbrev pub invariant-loop-c : goal.invariant-loop-c
invariant-loop-c l = list_all (conjunct_named l.params l.classes) (drop l.c-index l.items) ≡ list_all (conjunct_named l.params l.classes) l.items
