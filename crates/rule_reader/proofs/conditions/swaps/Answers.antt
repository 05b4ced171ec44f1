use Rattle.std.proofs.Common.{ℕ, List, sym, ap, subst}
use Rattle.toy_imp.specs.RuleGrammar.{condition_value}
use Rattle.program_reader.specs.Unread.{Gives}
use Rattle.rule_reader.specs.Front.{valued}
use Rattle.rule_reader.proofs.ConditionTurns.{swaps_of_one, swaps_of_two}
use Rattle.rule_reader.proofs.conditions.swaps.Goals as goal

pub returns-in-Some : goal.returns-in-Some
returns-in-Some c =
    let both : List ℕ × List ℕ = (c.in_ok-both.both.0.now, c.in_ok-both.both.1.now) in
    subst (Gives (λ p. (p.0, p.1.now)) c.swaps_of_two.result)
    (sym (ap (valued (condition_value c.args.names.now))
    (swaps_of_two c.args.tokens.now c.in_ok-both.rest.now c.in_ok-outer.behind.now c.in-Some.after.now both c.in_ok-outer.outer.now c.in_ok-both.ensures c.in_ok-outer.ensures c.in-Some.ensures)))
    c.swaps_of_two.ensures

pub returns-in-None : goal.returns-in-None
returns-in-None c =
    let both : List ℕ × List ℕ = (c.in_ok-both.both.0.now, c.in_ok-both.both.1.now) in
    subst (Gives (λ p. (p.0, p.1.now)) c.swaps_of_one.result)
    (sym (ap (valued (condition_value c.args.names.now))
    (swaps_of_one c.args.tokens.now c.in_ok-both.rest.now c.in_ok-outer.behind.now both c.in_ok-outer.outer.now c.in_ok-both.ensures c.in_ok-outer.ensures c.in-None.ensures)))
    c.swaps_of_one.ensures
