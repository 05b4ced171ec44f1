use Rattle.std.proofs.Common.{◌≡◌, ◌++◌, drop}
use Rattle.toy_imp.specs.BlockView.{block_of}
use Rattle.pec_top.specs.SkipForm.{kept}
use Rattle.pec_top.proofs.skip_form.kept.Given as goal

-- the numbers so far, and those of the statements that are left, are all
abbrev pub invariant-loop-statement : goal.invariant-loop-statement
invariant-loop-statement l = l.numbers ++ kept (block_of (drop l.statement-index l.statement-items)) ≡ kept l.fn.side
