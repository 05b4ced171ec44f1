use Rattle.std.proofs.Common.{◌≡◌, ◌+◌, take, sym, arith, to_z}
use mir.Syntax.{w128}
use Rattle.std.proofs.lemmas.Int.{to_z-of_z}
use Rattle.toy_imp.specs.Store.{read}
use Rattle.term_run.specs.Cells.{store_by}
use Rattle.term_run.proofs.Writing.{read_none, read_next}
use Rattle.term_run.proofs.cells.read.Goals as goal

pub loop-cell-init : goal.loop-cell-init
loop-cell-init c = sym (read_none (c.args.name.now, c.args.indices.now))

pub loop-cell-preserved : goal.loop-cell-preserved
loop-cell-preserved c =
    let next : c.newer-value.result ≡ read (store_by (take (c.loop-cell.cell-index + 1) c.args.cells.now)) (c.args.name.now, c.args.indices.now) =
    read_next c.args.cells.now c.loop-cell.cell-index c.cell-item.result (c.args.name.now, c.args.indices.now) (to_z w128 c.loop-cell.value-bits) c.newer-value.result (omega arith) c.cell-item.is c.loop-cell.invariant c.newer-value.ensures in
    first_of (assumption next, grind (arith, to_z-of_z, next))
