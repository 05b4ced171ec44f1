use Rattle.std.proofs.Common.{rules, ◌≡◌, ◌+◌, ◌-◌, sym, subst, arith, None}
use Rattle.term_text.specs.TermReading.{terms_read, value_read}
use Rattle.term_text.specs.declared.refusal.Unread.TheVariants.{NotGrammar}
use Rattle.term_text.proofs.TermTurns.{with_found, turn_found, turn_none, turn_last}
use Rattle.term_text.proofs.reading.+reading.Goals as goal

pub terms-returns-in_err-v : goal.terms-returns-in_err-v
terms-returns-in_err-v t c =
    let none : c.in_err-v.field-0.0 ≡ NotGrammar → terms_read (value_read c.args.levels) c.args.n c.args.tokens.now ≡ None =
    λ e. turn_none (value_read c.args.levels) c.loop-turn.found c.args.n c.loop-turn._turn c.loop-turn.rest.now _ c.loop-turn-test.true c.loop-turn.invariant (c.in_err-v.ensures e) in
    search rules

pub terms-loop-turn-preserved : goal.terms-loop-turn-preserved
terms-loop-turn-preserved t c =
    subst (λ found. with_found found (terms_read (value_read c.args.levels) (c.args.n - (c.loop-turn._turn + 1)) c.in_ok-v.after.now) ≡ terms_read (value_read c.args.levels) c.args.n c.args.tokens.now) (sym c.in_ok-push.ensures.ok)
    (turn_found (value_read c.args.levels) c.loop-turn.found c.in_ok-v.v c.args.n c.loop-turn._turn c.loop-turn.rest.now c.in_ok-v.after.now _ c.loop-turn-test.true c.loop-turn.invariant c.in_ok-v.ensures)

pub terms-returns : goal.terms-returns
terms-returns t c =
    turn_last (value_read c.args.levels) c.loop-turn.found c.args.n c.loop-turn._turn c.loop-turn.rest.now _ (omega (arith, c.loop-turn-test.false)) c.loop-turn.invariant
