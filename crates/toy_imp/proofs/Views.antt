-- The plain trees of lists of statements: a statement at the end of the list is one at the end of the tree.
-- So for a list after a list.
use Rattle.std.specs.Prelude.{◌≡◌, List, [], ◌∷◌, ◌++◌, refl}
use Rattle.std.proofs.Common.{ap}
use Rattle.toy_imp.specs.Block.{Stmt, stmt, append}
use Rattle.toy_imp.specs.BlockView.{block_of}

pub block_of-append : (ss us : List Stmt) → block_of (ss ++ us) ≡ append (block_of ss) (block_of us)
block_of-append [] us = refl
block_of-append (s ∷ ss) us = ap (stmt s) (block_of-append ss us)
