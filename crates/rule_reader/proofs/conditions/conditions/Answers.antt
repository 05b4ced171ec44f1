use Rattle.std.proofs.Common.{rules, arith, ◌≡◌, ◌-◌, ◌≤◌, [], ◌∷◌, length, None}
use Rattle.toy_imp.specs.RuleGrammar.{condition_value}
use Rattle.program_reader.specs.declared.refusal.Unread.TheVariants.{NotGrammar}
use Rattle.rule_reader.specs.ConditionReading.{is_given, given_read, conditions_read}
use Rattle.rule_reader.specs.Front.{valued}
use Rattle.rule_reader.proofs.ConditionTurns.{not_given, conditions_more, conditions_unread}
use Rattle.rule_reader.proofs.ItemTurns.{items_end, items_out}
use Rattle.rule_reader.proofs.conditions.conditions.Goals as goal

pub returns-in_default : goal.returns-in_default
returns-in_default c =
    items_end is_given (λ rest. valued (λ z. condition_value c.args.names.now z ∷ []) (given_read rest)) c.loop-turn.found (length c.args.tokens.now - c.loop-turn._turn) c.loop-turn.rest.now _
    (not_given c.loop-turn.rest.now c.in_default.ensures) c.loop-turn.invariant

pub returns-in_err-next : goal.returns-in_err-next
returns-in_err-next c =
    let none : c.in_err-next.field-0.0 ≡ NotGrammar → conditions_read c.args.names.now c.args.tokens.now ≡ None =
    λ e. conditions_unread c.args.names.now c.loop-turn.found (length c.args.tokens.now) c.loop-turn._turn c.loop-turn.rest.now c.in-Some.after.now _
    c.loop-turn-test.true c.in-Some.ensures c.loop-turn.invariant (c.in_err-next.ensures e) in
    search rules

pub loop-turn-preserved : goal.loop-turn-preserved
loop-turn-preserved c =
    conditions_more c.args.names.now c.loop-turn.found (length c.args.tokens.now) c.loop-turn._turn c.loop-turn.rest.now c.in-Some.after.now _
    c.loop-turn-test.true c.in-Some.ensures c.loop-turn.invariant c.push.new.self c.in_ok-next.next c.in_ok-next.after.now c.in_ok-next.ensures c.in_ok-push.ensures.ok

pub returns : goal.returns
returns c =
    let past : length c.args.tokens.now ≤ c.loop-turn._turn = omega arith in
    items_out is_given (λ rest. valued (λ z. condition_value c.args.names.now z ∷ []) (given_read rest)) c.loop-turn.found (length c.args.tokens.now) c.loop-turn._turn c.loop-turn.rest.now _
    past c.loop-turn.invariant
