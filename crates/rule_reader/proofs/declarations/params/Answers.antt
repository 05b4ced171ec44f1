use Rattle.std.proofs.Common.{rules, arith, ◌≡◌, ◌-◌, ◌≤◌, length, ap, None}
use Rattle.toy_imp.specs.RuleGrammar.{declared_by}
use Rattle.program_reader.specs.declared.refusal.Unread.TheVariants.{NotGrammar}
use Rattle.rule_reader.specs.DeclarationReading.{is_some, is_declared, declaration_read, params_read}
use Rattle.rule_reader.specs.Front.{valued}
use Rattle.rule_reader.proofs.DeclarationTurns.{params_more, params_unread}
use Rattle.rule_reader.proofs.ItemTurns.{items_end, items_out}
use Rattle.rule_reader.proofs.declarations.params.Goals as goal

pub returns-in_default : goal.returns-in_default
returns-in_default c =
    items_end is_declared (λ rest. valued declared_by (declaration_read rest)) c.loop-turn.found (length c.args.tokens.now - c.loop-turn._turn) c.loop-turn.rest.now _
    (ap is_some c.in_default.ensures) c.loop-turn.invariant

pub returns-in_err-more : goal.returns-in_err-more
returns-in_err-more c =
    let none : c.in_err-more.field-0.0 ≡ NotGrammar → params_read c.args.tokens.now ≡ None =
    λ e. params_unread c.loop-turn.found (length c.args.tokens.now) c.loop-turn._turn c.loop-turn.rest.now c.in-Some.after.now c.in-Some.kind _
    c.loop-turn-test.true c.in-Some.ensures c.loop-turn.invariant (c.in_err-more.ensures e) in
    search rules

pub loop-turn-preserved : goal.loop-turn-preserved
loop-turn-preserved c =
    params_more c.loop-turn.found (length c.args.tokens.now) c.loop-turn._turn c.loop-turn.rest.now c.in-Some.after.now c.in-Some.kind _
    c.loop-turn-test.true c.in-Some.ensures c.loop-turn.invariant c.in_ok-more.more c.in_ok-more.after.now c.in_ok-more.ensures

pub returns : goal.returns
returns c =
    let past : length c.args.tokens.now ≤ c.loop-turn._turn = omega arith in
    items_out is_declared (λ rest. valued declared_by (declaration_read rest)) c.loop-turn.found (length c.args.tokens.now) c.loop-turn._turn c.loop-turn.rest.now _ past c.loop-turn.invariant
