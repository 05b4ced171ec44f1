use Rattle.std.proofs.Common.{rules, arith, ◌≡◌, suc, ◌-◌, ◌≤◌, length, ap, sym, ◌∙◌, subst, true, false, List, ◌∷◌, Some, None}
use Rattle.toy_imp.specs.Block.{Block}
use Rattle.pec_text.specs.declared.token.Token.{Token}
use Rattle.pec_text.specs.declared.token.Token.TheVariants as t
use Rattle.pec_text.specs.declared.token.Sign.TheVariants as s
use Rattle.pec_text.specs.declared.token.Word.TheVariants as w
use Rattle.program_reader.specs.Read.{ReadStmt}
use Rattle.program_reader.specs.BlockReading.{is_end, stmt_read, stmts_read}
use Rattle.program_reader.specs.Unread.{Gives}
use Rattle.program_reader.specs.declared.refusal.Unread.TheVariants.{NotGrammar}
use Rattle.program_reader.proofs.BlockTurns.{for_is, let_is, block_some, else_some, if_some, if_none, while_some, while_none, for_some, let_some, many_more, many_end, many_out}
use Rattle.program_reader.proofs.block_reading.+stmts.Goals as goal

pub block-returns-in_ok-found-in-Some-Sign-OpenBrace-default : goal.block-returns-in_ok-found-in-Some-Sign-OpenBrace-default
block-returns-in_ok-found-in-Some-Sign-OpenBrace-default below c =
    let ps = c.args.names.now in
    let arm = c.in-Some-Sign-OpenBrace-default in
    let found = c.in_ok-found-in-Some-Sign-OpenBrace-default in
    let inner : List Token → ReadStmt Block = λ rest. stmts_read ps c.args.levels rest in
    let is : c.args.tokens.now ≡ t.Sign s.OpenBrace ∷ arm.rest.now = arm.ensures.cases.0 ∙ ap (λ z. z ∷ arm.rest.now) (search rules) in
    let e : suc (c.args.levels - 1) ≡ c.args.levels = omega (arith, c.if-levels-eq0.false) in
    let read : inner arm.rest.now ≡ Some (found.found, found.rest.now) = ap (λ d. stmts_read ps d arm.rest.now) (sym e) ∙ found.ensures in
    subst (Gives (λ p. (p.0, p.1.now)) c.brace_closed.result) (sym (block_some ps c.args.levels inner _ arm.rest.now found.rest.now found.found is read)) c.brace_closed.ensures

pub bound-returns : goal.bound-returns
bound-returns below c =
    let_some c.args.names.now c.args.levels (λ rest. stmts_read c.args.names.now c.args.levels rest) c.in-Some.name.now c.in_ok-value.value c.in_ok-body.body c.in_ok-made.made c.args.tokens.now c.in-Some.rest.now c.in_ok-value.rest.now c.in_ok-body.rest.now
    c.in-Some.ensures c.in_ok-value.ensures c.in_ok-body.ensures c.in_ok-made.ensures

pub counted-returns : goal.counted-returns
counted-returns below c =
    for_some c.args.names.now c.args.levels (λ rest. stmts_read c.args.names.now c.args.levels rest) c.in-Some.name.now c.in_ok-bounds.bounds c.in_ok-body.body c.in_ok-made.made c.args.tokens.now c.in-Some.rest.now c.in_ok-bounds.rest.now c.in_ok-body.rest.now
    c.in-Some.ensures c.in_ok-bounds.ensures c.in_ok-body.ensures c.in_ok-made.ensures

pub conditional-returns-in_err-then : goal.conditional-returns-in_err-then
conditional-returns-in_err-then below c =
    let ps = c.args.names.now in
    let inner : List Token → ReadStmt Block = λ rest. stmts_read ps c.args.levels rest in
    let none : c.in_err-then.field-0.0 ≡ NotGrammar → stmt_read ps c.args.levels inner (t.Word w.If ∷ c.args.tokens.now) ≡ None =
    λ e. if_none ps c.args.levels inner c.in_ok-condition.condition c.args.tokens.now c.in_ok-condition.rest.now c.in_ok-condition.ensures (c.in_err-then.ensures e) in
    search rules

pub conditional-returns : goal.conditional-returns
conditional-returns below c =
    let ps = c.args.names.now in
    let inner : List Token → ReadStmt Block = λ rest. stmts_read ps c.args.levels rest in
    subst (Gives (λ p. (p.0, p.1.now)) c.else_after.result)
    (sym (if_some ps c.args.levels inner c.in_ok-condition.condition c.in_ok-then.then c.args.tokens.now c.in_ok-condition.rest.now c.in_ok-then.rest.now c.in_ok-condition.ensures c.in_ok-then.ensures))
    c.else_after.ensures

pub else_after-returns-in_ok-otherwise-in-Some-Word-Else-default : goal.else_after-returns-in_ok-otherwise-in-Some-Word-Else-default
else_after-returns-in_ok-otherwise-in-Some-Word-Else-default below c =
    let ps = c.args.names.now in
    let arm = c.in-Some-Word-Else-default in
    let other = c.in_ok-otherwise-in-Some-Word-Else-default in
    let inner : List Token → ReadStmt Block = λ rest. stmts_read ps c.args.levels rest in
    let is : c.args.tokens.now ≡ t.Word w.Else ∷ arm.rest.now = arm.ensures.cases.0 ∙ ap (λ z. z ∷ arm.rest.now) (search rules) in
    let read = else_some ps c.args.levels inner c.args.chosen.condition c.args.chosen.then other.otherwise c.args.tokens.now arm.rest.now other.rest.now is other.ensures in
    search rules

pub repeated-returns-in_err-body : goal.repeated-returns-in_err-body
repeated-returns-in_err-body below c =
    let ps = c.args.names.now in
    let inner : List Token → ReadStmt Block = λ rest. stmts_read ps c.args.levels rest in
    let none : c.in_err-body.field-0.0 ≡ NotGrammar → stmt_read ps c.args.levels inner (t.Word w.While ∷ c.args.tokens.now) ≡ None =
    λ e. while_none ps c.args.levels inner c.in_ok-condition.condition c.args.tokens.now c.in_ok-condition.rest.now c.in_ok-condition.ensures (c.in_err-body.ensures e) in
    search rules

pub repeated-returns : goal.repeated-returns
repeated-returns below c =
    let ps = c.args.names.now in
    let inner : List Token → ReadStmt Block = λ rest. stmts_read ps c.args.levels rest in
    let read = while_some ps c.args.levels inner c.in_ok-condition.condition c.in_ok-body.body c.args.tokens.now c.in_ok-condition.rest.now c.in_ok-body.rest.now c.in_ok-condition.ensures c.in_ok-body.ensures in
    search rules

pub statement-returns-in-Some-Word-For-default : goal.statement-returns-in-Some-Word-For-default
statement-returns-in-Some-Word-For-default below c =
    let ps = c.args.names.now in
    let arm = c.in-Some-Word-For-default in
    let inner : List Token → ReadStmt Block = λ rest. stmts_read ps c.args.levels rest in
    let is : c.args.tokens.now ≡ t.Word w.For ∷ arm.rest.now = arm.ensures.cases.0 ∙ ap (λ z. z ∷ arm.rest.now) (search rules) in
    subst (Gives (λ p. (p.0, p.1.now)) c.counted.result) (sym (ap (stmt_read ps c.args.levels inner) is ∙ for_is ps c.args.levels inner arm.rest.now)) c.counted.ensures

pub statement-returns-in-Some-Word-Let-default : goal.statement-returns-in-Some-Word-Let-default
statement-returns-in-Some-Word-Let-default below c =
    let ps = c.args.names.now in
    let arm = c.in-Some-Word-Let-default in
    let inner : List Token → ReadStmt Block = λ rest. stmts_read ps c.args.levels rest in
    let is : c.args.tokens.now ≡ t.Word w.Let ∷ arm.rest.now = arm.ensures.cases.0 ∙ ap (λ z. z ∷ arm.rest.now) (search rules) in
    subst (Gives (λ p. (p.0, p.1.now)) c.bound.result) (sym (ap (stmt_read ps c.args.levels inner) is ∙ let_is ps c.args.levels inner arm.rest.now)) c.bound.ensures

pub statements-returns-then-is_end : goal.statements-returns-then-is_end
statements-returns-then-is_end below c =
    let ends : is_end c.loop-turn.rest.now ≡ true = search rules in
    many_end c.args.names.now c.args.levels (λ rest. stmts_read c.args.names.now c.args.levels rest) c.loop-turn.found (length c.args.tokens.now - c.loop-turn._turn) c.loop-turn.rest.now _ ends c.loop-turn.invariant

pub statements-loop-turn-preserved : goal.statements-loop-turn-preserved
statements-loop-turn-preserved below c =
    let goes : is_end c.loop-turn.rest.now ≡ false = search rules in
    many_more c.args.names.now c.args.levels (λ rest. stmts_read c.args.names.now c.args.levels rest) c.loop-turn.found c.push.new.self c.in_ok-next.next (length c.args.tokens.now) c.loop-turn._turn c.loop-turn.rest.now c.in_ok-next.after.now _
    c.loop-turn-test.true goes c.loop-turn.invariant c.in_ok-next.ensures c.in_ok-push.ensures.ok

pub statements-returns : goal.statements-returns
statements-returns below c =
    let past : length c.args.tokens.now ≤ c.loop-turn._turn = omega arith in
    many_out c.args.names.now c.args.levels (λ rest. stmts_read c.args.names.now c.args.levels rest) c.loop-turn.found (length c.args.tokens.now) c.loop-turn._turn c.loop-turn.rest.now _ past c.loop-turn.invariant
