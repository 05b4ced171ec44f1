-- All that was looked at passes.
use Rattle.std.proofs.Common.{◌≡◌, take, true}
use Rattle.std.specs.List.{list_all}
use Rattle.escape_marks.specs.declared.escape.ValueMark.{ValueMark}
use Rattle.escape_laws.specs.IndexLaw.{index_kept}
use Rattle.escape_laws.proofs.index_law.first_broken.Given as goal

abbrev pub invariant-loop-k : goal.invariant-loop-k
invariant-loop-k l = list_all (λ (m : ValueMark). index_kept l.params l.e m.value) (take l.k l.marks) ≡ true
