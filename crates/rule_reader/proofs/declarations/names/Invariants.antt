use Rattle.std.proofs.Common.{◌≡◌, map, length}
use Rattle.rule_reader.specs.DeclarationReading.{names_read, param_of}
use Rattle.rule_reader.specs.Front.{valued, with_found}
use Rattle.rule_reader.proofs.declarations.names.Given as goal

abbrev pub invariant-names : goal.invariant-names
invariant-names l =
    with_found l.found (valued (map (param_of l.kind)) (names_read l.rest)) ≡ with_found l.initial.found (valued (map (param_of l.kind)) (names_read l.tokens))

abbrev pub decreases-names : goal.decreases-names
decreases-names l = length l.rest
