use Rattle.std.proofs.Common.{rules, ◌≡◌, suc, ℕ, length, sym, ◌∙◌, List, None}
use Rattle.toy_imp.specs.Expr.{Expr, mul}
use Rattle.pec_text.specs.declared.token.Token.{Token}
use Rattle.pec_text.specs.declared.token.Token.TheVariants as t
use Rattle.pec_text.specs.declared.token.Sign.TheVariants as s
use Rattle.program_reader.specs.Read.{Read}
use Rattle.program_reader.specs.ExprReading.{factor_read, products_read, term_read, sums_read, expr_read}
use Rattle.program_reader.specs.ExprParts.{joined, index_read}
use Rattle.program_reader.specs.declared.refusal.Unread.TheVariants.{NotGrammar}
use Rattle.program_reader.proofs.GrammarTurns.{indices_end, indices_more, indices_other, turned, unturned, products_next, sum_sign_is, sums_next, sums_stop}
use Rattle.program_reader.proofs.expr_reading.+expr.Goals as goal

pub term-returns-in_err-next : goal.term-returns-in_err-next
term-returns-in_err-next below c =
    let ps = c.args.names.now in
    let inner : ℕ → List Token → Read Expr = λ k rest. expr_read ps c.args.levels k rest in
    let after = c.in-Some.after.now in
    let none : c.in_err-next.field-0.0 ≡ NotGrammar → term_read ps inner c.args.left c.args.tokens.now ≡ None =
    λ e. unturned (products_read ps inner) (factor_read ps inner) mul (t.Sign s.Star) c.loop-turn.found c.loop-turn.rest.now after (length c.args.tokens.now) c.loop-turn._turn c.loop-turn.remaining _
    (products_next ps inner c.loop-turn.found after) c.loop-turn-test.true c.if-remaining-eq0.false c.in-Some.ensures c.loop-turn.invariant (c.in_err-next.ensures e) in
    search rules

pub term-loop-turn-preserved : goal.term-loop-turn-preserved
term-loop-turn-preserved below c =
    let ps = c.args.names.now in
    let inner : ℕ → List Token → Read Expr = λ k rest. expr_read ps c.args.levels k rest in
    let after = c.in-Some.after.now in
    turned (products_read ps inner) (factor_read ps inner) mul (t.Sign s.Star) c.loop-turn.found c.in_ok-next.next c.in_ok-found-2.found c.loop-turn.rest.now after c.in_ok-next.after.now
    (length c.args.tokens.now) c.loop-turn._turn c.loop-turn.remaining c.in_ok-next.fewer _
    (products_next ps inner c.loop-turn.found after) c.loop-turn-test.true c.if-remaining-eq0.false c.in-Some.ensures c.loop-turn.invariant c.in_ok-next.ensures c.in_ok-found-2.ensures

pub expr-returns-in_err-next : goal.expr-returns-in_err-next
expr-returns-in_err-next below c =
    let ps = c.args.names.now in
    let inner : ℕ → List Token → Read Expr = λ k rest. expr_read ps c.args.levels k rest in
    let after = c.in-Some.after.now in
    let sign = c.in-Some.sign in
    let none : c.in_err-next.field-0.0 ≡ NotGrammar → expr_read ps (suc c.args.levels) c.args.left c.args.tokens.now ≡ None =
    λ e. unturned (sums_read ps inner) (term_read ps inner) (joined sign) (t.Sign sign) c.loop-turn.found c.loop-turn.rest.now after (length c.args.tokens.now) c.loop-turn._turn c.loop-turn.remaining _
    (sums_next ps inner c.loop-turn.found sign _ after c.in-Some.ensures) c.loop-turn-test.true c.if-remaining-eq0.false (sum_sign_is _ sign after c.in-Some.ensures) c.loop-turn.invariant (c.in_err-next.ensures e) in
    search rules

pub expr-loop-turn-preserved : goal.expr-loop-turn-preserved
expr-loop-turn-preserved below c =
    let ps = c.args.names.now in
    let inner : ℕ → List Token → Read Expr = λ k rest. expr_read ps c.args.levels k rest in
    let after = c.in-Some.after.now in
    let sign = c.in-Some.sign in
    turned (sums_read ps inner) (term_read ps inner) (joined sign) (t.Sign sign) c.loop-turn.found c.in_ok-next.next c.in_ok-found-2.found c.loop-turn.rest.now after c.in_ok-next.after.now
    (length c.args.tokens.now) c.loop-turn._turn c.loop-turn.remaining c.in_ok-next.fewer _
    (sums_next ps inner c.loop-turn.found sign _ after c.in-Some.ensures) c.loop-turn-test.true c.if-remaining-eq0.false (sum_sign_is _ sign after c.in-Some.ensures) c.loop-turn.invariant c.in_ok-next.ensures c.in_ok-found-2.ensures

pub indices-returns-in-Some : goal.indices-returns-in-Some
indices-returns-in-Some below c =
    indices_end (index_read c.args.operators c.args.names.now c.args.levels) 3 c.loop-turn._turn c.loop-turn.found c.push.new.self c.in_ok-next.next c.loop-turn.remaining c.in_ok-next.fewer c.loop-turn.rest.now c.in_ok-next.after.now _ _
    c.loop-turn-test.true c.loop-turn.invariant c.in_ok-next.ensures c.in_ok-push.ensures.ok c.in-Some.ensures

pub indices-loop-turn-preserved : goal.indices-loop-turn-preserved
indices-loop-turn-preserved below c =
    indices_more (index_read c.args.operators c.args.names.now c.args.levels) 3 c.loop-turn._turn c.loop-turn.found c.push.new.self c.in_ok-next.next c.loop-turn.remaining c.in_ok-next.fewer c.loop-turn.rest.now c.in_ok-next.after.now c.in-Some-behind_sign.after.now _
    c.loop-turn-test.true c.loop-turn.invariant c.in_ok-next.ensures c.in_ok-push.ensures.ok c.in-Some-behind_sign.ensures

pub expr-returns-in_default : goal.expr-returns-in_default
expr-returns-in_default below c =
    let ps = c.args.names.now in
    let inner : ℕ → List Token → Read Expr = λ k rest. expr_read ps c.args.levels k rest in
    sym c.loop-turn.invariant ∙ sums_stop ps inner _ c.loop-turn.found c.loop-turn.remaining c.loop-turn.rest.now c.in_default.ensures

pub indices-returns-in_default-behind_sign : goal.indices-returns-in_default-behind_sign
indices-returns-in_default-behind_sign below c =
    λ e. indices_other (index_read c.args.operators c.args.names.now c.args.levels) 3 c.loop-turn._turn c.loop-turn.found c.in_ok-next.next c.loop-turn.remaining c.in_ok-next.fewer c.loop-turn.rest.now c.in_ok-next.after.now _
    c.loop-turn-test.true c.loop-turn.invariant c.in_ok-next.ensures c.in_default.ensures c.in_default-behind_sign.ensures
