use Rattle.std.proofs.Common.{◌≡◌, ◌++◌, take}
use Rattle.std.specs.List.{flat_map}
use Rattle.term_text.specs.TermText.{value_words}
use Rattle.refutation_text.specs.StepText.{row_words}
use Rattle.refutation_text.proofs.step_writing.put_rows.Given as goal

abbrev pub invariant-loop-row : goal.invariant-loop-row
invariant-loop-row l = l.out ≡ l.initial.out ++ flat_map (row_words value_words) (take l.row-index l.items)
