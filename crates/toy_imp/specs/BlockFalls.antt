-- A child of a statement or of a block is of less depth than it.
-- This is why a recursion over statements and blocks ends.
use Rattle.std.specs.Prelude.{ℕ, ◌+◌, ◌<◌, ◌≤◌, max, zero, suc, List, [], ◌∷◌, length}
use Rattle.std.proofs.Common.{arith, get_or}
use denote.Param.Weighed.{most}
use Rattle.toy_imp.specs.Block.{Stmt, stmt_depth, block_depth}
use Rattle.toy_imp.specs.BlockView.{stmt_of, block_of}
use Rattle.toy_imp.specs.declared.block.StmtNode.{StmtNode}
use Rattle.toy_imp.specs.declared.block.StmtNode.TheVariants.{Skip, Put, Assert, If, While, For, Let, Par}
use Rattle.toy_imp.specs.declared.block.Block.TheDeep.{deep-StmtNode}

pub stmts_le : (ss : List Stmt) → most (λ s. stmt_depth s + 1) ss ≤ block_depth (block_of ss)
stmts_le [] = omega arith
stmts_le (s ∷ ss) = omega (arith, stmts_le ss)

pub block_falls : (ss : List Stmt) → max (most (λ s. stmt_depth s + 1) ss) 0 ≤ block_depth (block_of ss)
block_falls ss = omega (arith, stmts_le ss)

pub stmt_falls : (a : StmtNode) → max (deep-StmtNode a) 0 ≤ stmt_depth (stmt_of a)
stmt_falls Skip = omega arith
stmt_falls (Put x is e) = omega arith
stmt_falls (Assert t) = omega arith
stmt_falls (If t b c) = omega arith
stmt_falls (While t b) = omega arith
stmt_falls (For x lo hi b) = omega arith
stmt_falls (Let x e b) = omega arith
stmt_falls (Par k) = omega arith

pub stmt_item : (ss : List Stmt) (k : ℕ) (d : Stmt) → k < length ss → stmt_depth (get_or ss k d) < block_depth (block_of ss)
stmt_item [] k d h = absurd (omega arith)
stmt_item (s ∷ ss) zero d h = omega arith
stmt_item (s ∷ ss) (suc k) d h = let below : stmt_depth (get_or ss k d) < block_depth (block_of ss) = stmt_item ss k d (omega arith) in omega arith
