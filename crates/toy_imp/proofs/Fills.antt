-- A filled block is put together of filled parts.
-- So is a filled statement and the rest of its list.
use Rattle.std.specs.Prelude.{◌≡◌, refl}
use Rattle.std.proofs.Common.{sym, ◌∙◌, ap}
use Rattle.toy_imp.specs.declared.instance.Instance.{Instance}
use Rattle.toy_imp.specs.Block.{Stmt, skip, put, assert_that, if_then, while_do, for_to, let_in, par_stmt, Block, empty, stmt, append}
use Rattle.toy_imp.specs.Fill.{block_at, fill_stmt, fill}
use Rattle.toy_imp.proofs.Alikes.{append-assoc}

-- a filled statement keeps the rest of its list behind it
pub fill_stmt-append : (i : Instance) (s : Stmt) (b c : Block) → fill_stmt i s (append b c) ≡ append (fill_stmt i s b) c
unfolding fill_stmt
fill_stmt-append i skip b c = refl
fill_stmt-append i (put x is e) b c = refl
fill_stmt-append i (assert_that t) b c = refl
fill_stmt-append i (if_then t d e) b c = refl
fill_stmt-append i (while_do t d) b c = refl
fill_stmt-append i (for_to x lo hi d) b c = refl
fill_stmt-append i (let_in x e d) b c = refl
fill_stmt-append i (par_stmt k) b c = sym (append-assoc (block_at i k) b c)

pub fill-append : (i : Instance) (b c : Block) → fill i (append b c) ≡ append (fill i b) (fill i c)
unfolding fill
fill-append i empty c = refl
fill-append i (stmt s b) c = ap (fill_stmt i s) (fill-append i b c) ∙ fill_stmt-append i s (fill i b) (fill i c)
