use Rattle.std.proofs.Common.{rules, ◌≡◌, ◌+◌, ◌-◌, sym, subst, arith, None}
use Rattle.refutation_text.specs.NumberText.{many_read}
use Rattle.term_text.specs.TermReading.{store_read, value_read}
use Rattle.cert_format.specs.CertificateReading.{conjunct_read}
use Rattle.term_text.specs.declared.refusal.Unread.TheVariants.{NotGrammar}
use Rattle.refutation_text.proofs.Turns.{with_found, turn_found, turn_none, turn_last}
use Rattle.cert_format.proofs.entry_reading.conjuncts.Goals as goal

pub returns-in_err-item : goal.returns-in_err-item
returns-in_err-item c =
    let none : c.in_err-item.field-0.0 ≡ NotGrammar → many_read (conjunct_read (store_read 4100) (value_read 4100)) c.args.n c.args.tokens.now ≡ None =
    λ e. turn_none (conjunct_read (store_read 4100) (value_read 4100)) c.loop-turn.found c.args.n c.loop-turn._turn c.loop-turn.rest.now _ c.loop-turn-test.true c.loop-turn.invariant (c.in_err-item.ensures e) in
    search rules

pub loop-turn-preserved : goal.loop-turn-preserved
loop-turn-preserved c =
    subst (λ found. with_found found (many_read (conjunct_read (store_read 4100) (value_read 4100)) (c.args.n - (c.loop-turn._turn + 1)) c.in_ok-item.after.now) ≡ many_read (conjunct_read (store_read 4100) (value_read 4100)) c.args.n c.args.tokens.now) (sym c.in_ok-push.ensures.ok)
    (turn_found (conjunct_read (store_read 4100) (value_read 4100)) c.loop-turn.found c.in_ok-item.item c.args.n c.loop-turn._turn c.loop-turn.rest.now c.in_ok-item.after.now _ c.loop-turn-test.true c.loop-turn.invariant c.in_ok-item.ensures)

pub returns : goal.returns
returns c = turn_last (conjunct_read (store_read 4100) (value_read 4100)) c.loop-turn.found c.args.n c.loop-turn._turn c.loop-turn.rest.now _ (omega (arith, c.loop-turn-test.false)) c.loop-turn.invariant
