-- All that was looked at passes.
use Rattle.std.proofs.Common.{◌≡◌, take, true}
use Rattle.std.specs.List.{list_all}
use Rattle.escape_marks.specs.declared.escape.StoreMark.{StoreMark}
use Rattle.escape_conditions.specs.MarkedConditions.{run_kept}
use Rattle.escape_conditions.proofs.run_laws.first_broken.Given as goal

abbrev pub invariant-loop-k : goal.invariant-loop-k
invariant-loop-k l = list_all (λ (m : StoreMark). run_kept l.ob l.e m.store) (take l.k l.marks) ≡ true
