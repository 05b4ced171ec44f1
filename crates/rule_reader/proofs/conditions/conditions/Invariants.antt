use Rattle.std.proofs.Common.{◌≡◌, ◌-◌, [], ◌∷◌}
use Rattle.toy_imp.specs.RuleGrammar.{condition_value}
use Rattle.rule_reader.specs.ConditionReading.{is_given, given_read, conditions_read}
use Rattle.rule_reader.specs.Front.{valued, with_found, items_read}
use Rattle.rule_reader.proofs.conditions.conditions.Given as goal

abbrev pub invariant-loop-turn : goal.invariant-loop-turn
invariant-loop-turn l =
    with_found l.found (items_read is_given (λ rest. valued (λ c. condition_value l.names c ∷ []) (given_read rest)) (l._turn-end - l._turn) l.rest) ≡ conditions_read l.names l.tokens
