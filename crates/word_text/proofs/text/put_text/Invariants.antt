use Rattle.std.proofs.Common.{◌≡◌, ◌++◌, false, length}
use Rattle.word_text.specs.Words.{text_behind}
use Rattle.word_text.proofs.text.put_text.Given as goal

abbrev pub invariant-loop-tokens : goal.invariant-loop-tokens
invariant-loop-tokens l = l.out.items ++ text_behind l.before l.tokens ≡ l.fn.out.items ++ text_behind false l.fn.tokens

abbrev pub decreases-loop-tokens : goal.decreases-loop-tokens
decreases-loop-tokens l = length l.tokens
