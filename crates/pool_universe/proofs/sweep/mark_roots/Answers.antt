use Rattle.term_universe.proofs.Gathering.{add_flat_step}
use Rattle.pool_universe.specs.PooledParts.{part_same}
use Rattle.pool_universe.specs.Roots.{root_numbers, root_tests}
use Rattle.pool_universe.proofs.Marks.{mark_step}
use Rattle.pool_universe.proofs.sweep.mark_roots.Goals as goal

pub loop-root-preserved : goal.loop-root-preserved
loop-root-preserved c = record {
  marks = mark_step root_numbers c.args.roots.now c.loop-root.root-index c.root-item.result c.loop-root.marks c.mark_root.new.marks _
      c.loop-root-test.true c.root-item.is c.in_ok-mark_root.ensures.marks c.loop-root.invariant.marks;
  parts = add_flat_step part_same root_tests c.args.roots.now c.loop-root.root-index c.root-item.result c.loop-root.parts.keys c.mark_root.new.parts.keys _
      c.loop-root-test.true c.root-item.is c.in_ok-mark_root.ensures.parts c.loop-root.invariant.parts;
}
