use Rattle.std.proofs.Common.{◌≡◌, ◌++◌, ◌+◌, ◌*◌, drop}
use Rattle.toy_imp.specs.Block.{stmt_depth, block_depth}
use Rattle.toy_imp.specs.BlockView.{block_of}
use Rattle.toy_imp.specs.BlockCanonical.{canonical_block}
use Rattle.rule_printer.specs.CanonicalText.{stmts_bytes}
use Rattle.rule_printer.proofs.block_printing.+block.Given as goal

abbrev pub decreases-put_lines : goal.decreases-put_lines
decreases-put_lines l = 3 * block_depth l.b.now

abbrev pub decreases-put_block : goal.decreases-put_block
decreases-put_block l = 3 * block_depth l.b.now + 2

abbrev pub decreases-put_filled : goal.decreases-put_filled
decreases-put_filled l = 3 * block_depth l.b.now + 1

abbrev pub decreases-put_line : goal.decreases-put_line
decreases-put_line l = 3 * stmt_depth l.s.now + 1

abbrev pub decreases-put_stmt : goal.decreases-put_stmt
decreases-put_stmt l = 3 * stmt_depth l.s.now

abbrev pub invariant-put_lines-loop-s : goal.invariant-put_lines-loop-s
invariant-put_lines-loop-s l =
    l.out.items ++ stmts_bytes l.d (canonical_block l.params (block_of (drop l.s-index l.s-items)))
    ≡ l.fn.out.items ++ stmts_bytes l.d (canonical_block l.params (block_of l.s-items))
