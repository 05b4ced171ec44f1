use Rattle.std.proofs.Common.{◌≡◌, ◌++◌, take}
use Rattle.std.specs.List.{flat_map}
use Rattle.term_text.specs.TermText.{store_words, value_words}
use Rattle.refutation_text.specs.LiteralText.{literal_words}
use Rattle.refutation_text.proofs.literal_writing.put_each.Given as goal

abbrev pub invariant-loop-x : goal.invariant-loop-x
invariant-loop-x l = l.out ≡ l.initial.out ++ flat_map (literal_words store_words value_words) (take l.x-index l.items)
