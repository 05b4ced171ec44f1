use Rattle.std.proofs.Common.{rules, ◌≡◌, None}
use Rattle.toy_imp.specs.RuleGrammar.{condition_value}
use Rattle.program_reader.specs.declared.refusal.Unread.TheVariants.{NotGrammar}
use Rattle.rule_reader.specs.ConditionReading.{behind_given}
use Rattle.rule_reader.specs.Front.{valued}
use Rattle.rule_reader.proofs.ConditionTurns.{given_some, given_none, given_unread}
use Rattle.rule_reader.proofs.conditions.given.Goals as goal

pub returns-in_err-found : goal.returns-in_err-found
returns-in_err-found c =
    let none : c.in_err-found.field-0.0 ≡ NotGrammar → valued (condition_value c.args.names.now) (behind_given c.args.tokens.now) ≡ None =
    λ e. given_unread c.args.names.now c.args.tokens.now (c.in_err-found.ensures e) in
    search rules

pub returns-in_err-behind : goal.returns-in_err-behind
returns-in_err-behind c =
    let none : c.in_err-behind.field-0.0 ≡ NotGrammar → valued (condition_value c.args.names.now) (behind_given c.args.tokens.now) ≡ None =
    λ e. given_none c.args.names.now c.args.tokens.now c.in_ok-found.rest.now c.in_ok-found.found c.in_ok-found.ensures (c.in_err-behind.ensures e) in
    search rules

pub returns : goal.returns
returns c = given_some c.args.names.now c.args.tokens.now c.in_ok-found.rest.now c.in_ok-behind.behind.now c.in_ok-found.found c.in_ok-found.ensures c.in_ok-behind.ensures
