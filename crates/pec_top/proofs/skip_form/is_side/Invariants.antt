use Rattle.std.proofs.Common.{◌≡◌, drop}
use Rattle.toy_imp.specs.BlockView.{block_of}
use Rattle.pec_top.specs.SkipForm.{is_side}
use Rattle.pec_top.proofs.skip_form.is_side.Given as goal

-- the statements that were read are of the form, so all are where those that are left are
abbrev pub invariant-loop-statement : goal.invariant-loop-statement
invariant-loop-statement l = is_side (block_of (drop l.statement-index l.statement-items)) ≡ is_side l.fn.side
