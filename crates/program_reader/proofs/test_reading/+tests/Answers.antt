use Rattle.std.proofs.Common.{rules, arith, ◌≡◌, suc, ℕ, ◌-◌, length, List, None, subst}
use Rattle.toy_imp.specs.Test.{Test, and_of, or_of}
use Rattle.pec_text.specs.declared.token.Token.{Token}
use Rattle.pec_text.specs.declared.token.Token.TheVariants as t
use Rattle.pec_text.specs.declared.token.Word.TheVariants as w
use Rattle.program_reader.specs.Read.{Read}
use Rattle.program_reader.specs.TestReading.{ands_read, both_read, ors_read, one_read, test_read}
use Rattle.program_reader.specs.Unread.{Gives}
use Rattle.program_reader.specs.declared.refusal.Unread.TheVariants.{NotGrammar}
use Rattle.program_reader.proofs.GrammarTurns.{turned, unturned, ands_next, ors_next}
use Rattle.program_reader.proofs.test_reading.+tests.Goals as goal

pub both-returns-in_err-next : goal.both-returns-in_err-next
both-returns-in_err-next below c =
    let one : ℕ → List Token → Read Test = one_read c.args.names.now (suc c.args.levels) in
    let after = c.in-Some.after.now in
    let none : c.in_err-next.field-0.0 ≡ NotGrammar → both_read one c.args.left c.args.tokens.now ≡ None =
    λ e. unturned (ands_read one) one and_of (t.Word w.And) c.loop-turn.found c.loop-turn.rest.now after (length c.args.tokens.now) c.loop-turn._turn c.loop-turn.remaining _
    (ands_next one c.loop-turn.found after) c.loop-turn-test.true c.if-remaining-eq0.false c.in-Some.ensures c.loop-turn.invariant (c.in_err-next.ensures e) in
    search rules

pub both-loop-turn-preserved : goal.both-loop-turn-preserved
both-loop-turn-preserved below c =
    let one : ℕ → List Token → Read Test = one_read c.args.names.now (suc c.args.levels) in
    let after = c.in-Some.after.now in
    turned (ands_read one) one and_of (t.Word w.And) c.loop-turn.found c.in_ok-next.next c.in_ok-found-2.found c.loop-turn.rest.now after c.in_ok-next.after.now
    (length c.args.tokens.now) c.loop-turn._turn c.loop-turn.remaining c.in_ok-next.fewer _
    (ands_next one c.loop-turn.found after) c.loop-turn-test.true c.if-remaining-eq0.false c.in-Some.ensures c.loop-turn.invariant c.in_ok-next.ensures c.in_ok-found-2.ensures

pub test-returns-in_err-next : goal.test-returns-in_err-next
test-returns-in_err-next below c =
    let one : ℕ → List Token → Read Test = one_read c.args.names.now (suc c.args.levels) in
    let after = c.in-Some.after.now in
    let none : c.in_err-next.field-0.0 ≡ NotGrammar → test_read c.args.names.now (suc c.args.levels) c.args.left c.args.tokens.now ≡ None =
    λ e. unturned (ors_read one) (both_read one) or_of (t.Word w.Or) c.loop-turn.found c.loop-turn.rest.now after (length c.args.tokens.now) c.loop-turn._turn c.loop-turn.remaining _
    (ors_next one c.loop-turn.found after) c.loop-turn-test.true c.if-remaining-eq0.false c.in-Some.ensures c.loop-turn.invariant (c.in_err-next.ensures e) in
    search rules

pub test-loop-turn-preserved : goal.test-loop-turn-preserved
test-loop-turn-preserved below c =
    let one : ℕ → List Token → Read Test = one_read c.args.names.now (suc c.args.levels) in
    let after = c.in-Some.after.now in
    turned (ors_read one) (both_read one) or_of (t.Word w.Or) c.loop-turn.found c.in_ok-next.next c.in_ok-found-2.found c.loop-turn.rest.now after c.in_ok-next.after.now
    (length c.args.tokens.now) c.loop-turn._turn c.loop-turn.remaining c.in_ok-next.fewer _
    (ors_next one c.loop-turn.found after) c.loop-turn-test.true c.if-remaining-eq0.false c.in-Some.ensures c.loop-turn.invariant c.in_ok-next.ensures c.in_ok-found-2.ensures

pub in_brackets-returns : goal.in_brackets-returns
in_brackets-returns below c =
    let e : suc (c.args.levels - 1) ≡ c.args.levels = omega (arith, c.if-levels-eq0.false) in
    subst (λ d. Gives (λ p. (p.0, p.1, p.2.now)) c.test.result (test_read c.args.names.now d c.args.left c.args.tokens.now)) e c.test.ensures
