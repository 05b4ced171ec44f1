use Rattle.std.proofs.Common.{subst}
use Rattle.word_text.specs.Lines.{LineRead}
use Rattle.word_text.proofs.LineReads.{text_goes, text_stops}
use Rattle.word_text.proofs.text.tokens.Goals as goal

pub returns-then-not-branch : goal.returns-then-not-branch
returns-then-not-branch c =
    text_stops c.args.text.now c.loop-line.rest.now c.in-Some.more.now c.in-Some.line.now c.loop-line.found c.loop-line.invariant c.in-Some.ensures.found
    (subst (λ b. LineRead c.in-Some.line.now c.loop-line.found c.put_line.new.found b) c.if-not-branch.true c.in_ok-put_line.ensures)

pub loop-line-preserved : goal.loop-line-preserved
loop-line-preserved c =
    text_goes c.args.text.now c.loop-line.rest.now c.in-Some.more.now c.in-Some.line.now c.loop-line.found c.put_line.new.found c.loop-line.invariant c.in-Some.ensures.found
    (subst (λ b. LineRead c.in-Some.line.now c.loop-line.found c.put_line.new.found b) c.if-not-branch.false c.in_ok-put_line.ensures)
