use Rattle.std.proofs.Common.{sym, subst}
use Rattle.word_text.specs.Lines.{LineSoFar}
use Rattle.word_text.proofs.LineReads.{line_goes}
use Rattle.word_text.proofs.text.put_line.Goals as goal

pub loop-word-preserved : goal.loop-word-preserved
loop-word-preserved c =
    subst (λ ts. LineSoFar c.args.line.now c.in-Some.more.now c.args.found.now ts) (sym c.in_ok-push.ensures.ok)
    (line_goes c.args.line.now c.loop-word.rest.now c.in-Some.more.now c.in-Some.word.now c.args.found.now c.loop-word.found c.in-Some-token_of.token
    c.loop-word.invariant c.in-Some.ensures.found c.in-Some-token_of.ensures.0 c.in-Some-token_of.ensures.1)
