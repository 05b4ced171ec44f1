-- The lines of a block that has statements, and of one that has none; and the statements of a list one by one.
use Rattle.std.proofs.Common.{◌≡◌, ℕ, suc, ◌<◌, List, [], ◌∷◌, ◌++◌, length, get_or, codes, refl, sym, ap, ◌∙◌, subst, arith}
use Rattle.std.proofs.lemmas.List.{append_assoc}
use Rattle.toy_imp.specs.declared.param.Param.{Param}
use Rattle.toy_imp.specs.Block.{Stmt, stmt, stmt_depth, Block, block_depth}
use Rattle.toy_imp.specs.BlockView.{block_of}
use Rattle.toy_imp.specs.BlockFalls.{stmt_item as item_falls}
use Rattle.toy_imp.specs.BlockCanonical.{canonical_stmt, canonical_block}
use Rattle.rule_printer.specs.CanonicalText.{indent, in_block, stmt_bytes, stmts_bytes}

pub stmt_item : (ss : List Stmt) (k : ℕ) (d : Stmt) → k < length ss → stmt_depth (get_or ss k d) < block_depth (block_of ss)
stmt_item = item_falls

pub no_lines : (d : ℕ) (ps : List Param) (ss : List Stmt) → length ss ≡ 0 → in_block d (stmts_bytes (suc d) (canonical_block ps (block_of ss))) ≡ codes "{ }"
no_lines d ps [] none = refl
no_lines d ps (s ∷ ss) none = absurd (omega arith)

pub some_lines : (d : ℕ) (ps : List Param) (ss : List Stmt) (b : Block) → b ≡ block_of ss → ¬ (ss ≡ [])
    → in_block d (stmts_bytes (suc d) (canonical_block ps b)) ≡ codes "{\n" ++ (stmts_bytes (suc d) (canonical_block ps b) ++ (indent d ++ codes "}"))
some_lines d ps [] b is some = absurd (some refl)
some_lines d ps (s ∷ ss) b is some =
    subst (λ b. in_block d (stmts_bytes (suc d) (canonical_block ps b)) ≡ codes "{\n" ++ (stmts_bytes (suc d) (canonical_block ps b) ++ (indent d ++ codes "}"))) (sym is) refl

-- the first of these lines
pub one_line : (d : ℕ) (ps : List Param) (s : Stmt) (b : Block) (front : List ℕ)
    → (front ++ (indent d ++ (stmt_bytes d (canonical_stmt ps s) ++ codes "\n"))) ++ stmts_bytes d (canonical_block ps b) ≡ front ++ stmts_bytes d (canonical_block ps (stmt s b))
one_line d ps s b front =
    append_assoc front (indent d ++ (stmt_bytes d (canonical_stmt ps s) ++ codes "\n")) (stmts_bytes d (canonical_block ps b))
    ∙ ap (λ z. front ++ z)
    (append_assoc (indent d) (stmt_bytes d (canonical_stmt ps s) ++ codes "\n") (stmts_bytes d (canonical_block ps b))
    ∙ ap (λ z. indent d ++ z) (append_assoc (stmt_bytes d (canonical_stmt ps s)) (codes "\n") (stmts_bytes d (canonical_block ps b))))
