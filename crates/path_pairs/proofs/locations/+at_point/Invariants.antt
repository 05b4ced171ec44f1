use Rattle.toy_imp.specs.Block.{block_depth}
use Rattle.toy_imp.specs.BlockView.{block_of}
use Rattle.path_pairs.proofs.locations.+at_point.Given as goal

abbrev pub decreases-at_point : goal.decreases-at_point
decreases-at_point l = block_depth (block_of l.stmts.now)
