use Rattle.std.proofs.Common.{rules, ◌≡◌, ◌+◌, ◌-◌, ◌++◌, [], ◌∷◌, sym, subst, arith, length, None}
use Rattle.term_text.specs.TermReading.{store_read, value_read}
use Rattle.term_text.specs.declared.refusal.Unread.TheVariants.{NotGrammar}
use Rattle.refutation_text.specs.StepReading.{parts_read}
use Rattle.refutation_text.proofs.Turns.{with_found}
use Rattle.refutation_text.proofs.PartTurns.{part_found, part_none, parts_done, parts_cut, wanted_bound}
use Rattle.refutation_text.proofs.part_reading.read_parts.Goals as goal

pub returns-then-wanted-eq0 : goal.returns-then-wanted-eq0
returns-then-wanted-eq0 c =
    parts_done (store_read 4100) (value_read 4100) c.loop-turn.found (length c.args.tokens.now - c.loop-turn._turn) c.loop-turn.wanted c.loop-turn.rest.now _
    (omega (arith, c.if-wanted-eq0.true)) c.loop-turn.invariant.1

pub returns-in_err-part : goal.returns-in_err-part
returns-in_err-part c =
    let none : c.in_err-part.field-0.0 ≡ NotGrammar → parts_read (store_read 4100) (value_read 4100) (length c.args.tokens.now) 1 c.args.tokens.now ≡ None =
    λ e. part_none (store_read 4100) (value_read 4100) c.loop-turn.found (length c.args.tokens.now) c.loop-turn._turn c.loop-turn.wanted c.loop-turn.rest.now _
    c.loop-turn-test.true (omega (arith, c.if-wanted-eq0.false)) c.loop-turn.invariant.1 (c.in_err-part.ensures e) in
    search rules

pub loop-turn-preserved : goal.loop-turn-preserved
loop-turn-preserved c =
    let sr = store_read 4100 in
    let vr = value_read 4100 in
    let end = length c.args.tokens.now in
    let all = parts_read sr vr end 1 c.args.tokens.now in
    let more = end - (c.loop-turn._turn + 1) in (
      omega (arith, wanted_bound c.loop-turn.wanted c.in_ok-part.part, c.wanted_behind-wanted.ensures, c.loop-turn.invariant.0),
      subst (λ found. with_found found (parts_read sr vr more c.wanted_behind-wanted.result c.in_ok-part.after.now) ≡ all) (sym c.in_ok-push.ensures.ok)
          (subst (λ w. with_found (c.loop-turn.found ++ c.in_ok-part.part ∷ []) (parts_read sr vr more w c.in_ok-part.after.now) ≡ all) (sym c.wanted_behind-wanted.ensures)
          (part_found sr vr c.loop-turn.found c.in_ok-part.part end c.loop-turn._turn c.loop-turn.wanted c.loop-turn.rest.now c.in_ok-part.after.now all
          c.loop-turn-test.true (omega (arith, c.if-wanted-eq0.false)) c.loop-turn.invariant.1 c.in_ok-part.ensures)),
    )

pub returns-then-wanted-eq0-2 : goal.returns-then-wanted-eq0-2
returns-then-wanted-eq0-2 c =
    parts_done (store_read 4100) (value_read 4100) c.loop-turn.found (length c.args.tokens.now - c.loop-turn._turn) c.loop-turn.wanted c.loop-turn.rest.now _
    (omega (arith, c.if-wanted-eq0-2.true)) c.loop-turn.invariant.1

pub returns : goal.returns
returns c e =
    parts_cut (store_read 4100) (value_read 4100) c.loop-turn.found (length c.args.tokens.now) c.loop-turn._turn c.loop-turn.wanted c.loop-turn.rest.now _
    (omega (arith, c.loop-turn-test.false)) (omega (arith, c.if-wanted-eq0-2.false)) c.loop-turn.invariant.1
