use Rattle.std.proofs.Common.{◌≡◌, ◌++◌, take}
use Rattle.std.specs.List.{flat_map}
use Rattle.refutation_text.specs.StepText.{written_step}
use Rattle.refutation_text.proofs.step_writing.put_steps.Given as goal

abbrev pub invariant-loop-s : goal.invariant-loop-s
invariant-loop-s l = l.out ≡ l.initial.out ++ flat_map written_step (take l.s-index l.items)
