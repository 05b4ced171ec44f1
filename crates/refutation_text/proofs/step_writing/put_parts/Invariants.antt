use Rattle.std.proofs.Common.{◌≡◌, ◌++◌, take}
use Rattle.std.specs.List.{flat_map}
use Rattle.term_text.specs.TermText.{store_words, value_words}
use Rattle.refutation_text.specs.StepText.{part_words}
use Rattle.refutation_text.proofs.step_writing.put_parts.Given as goal

abbrev pub invariant-loop-part : goal.invariant-loop-part
invariant-loop-part l = l.out ≡ l.initial.out ++ flat_map (part_words store_words value_words) (take l.part-index l.items)
