use Rattle.std.proofs.Common.{◌∙◌, ap, subst, IfOk}
use Rattle.toy_run.specs.Cells.{AreCells}
use Rattle.toy_run.specs.Stored.{with_cells}
use Rattle.toy_run.proofs.Stores.{made_of_none}
use Rattle.toy_run.proofs.ascending.merged.Goals as goal

pub returns : goal.returns
returns c =
    subst (λ t. IfOk c.listed.result (λ all. AreCells t all))
    (c.in_ok-put_all-2.ensures.stored ∙ ap (with_cells c.args.cells.now) (c.in_ok-put_all.ensures.stored ∙ ap (with_cells c.args.others.now) (made_of_none _ c.new-all.ensures.empty)))
    c.listed.ensures
