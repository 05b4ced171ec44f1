-- What is left of the literals passes exactly where all do.
use Rattle.std.proofs.Common.{◌≡◌, drop}
use Rattle.std.specs.List.{list_all}
use Rattle.escape_universe.specs.Named.{literal_named}
use Rattle.escape_universe.proofs.names.literals_named.Given as goal

abbrev pub invariant-loop-l : goal.invariant-loop-l
invariant-loop-l l = list_all (literal_named l.params l.classes) (drop l.l-index l.items) ≡ list_all (literal_named l.params l.classes) l.items
