use Rattle.std.proofs.Common.{◌≡◌, ◌-◌}
use Rattle.toy_imp.specs.RuleGrammar.{declared_by}
use Rattle.rule_reader.specs.DeclarationReading.{is_declared, declaration_read, params_read}
use Rattle.rule_reader.specs.Front.{valued, with_found, items_read}
use Rattle.rule_reader.proofs.declarations.params.Given as goal

abbrev pub invariant-loop-turn : goal.invariant-loop-turn
invariant-loop-turn l = with_found l.found (items_read is_declared (λ rest. valued declared_by (declaration_read rest)) (l._turn-end - l._turn) l.rest) ≡ params_read l.tokens
