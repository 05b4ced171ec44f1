-- A name that a block writes is among those that a question about its writes is asked of.
use Rattle.std.specs.Prelude.{◌≡◌, ℕ, Bool, true, false, ◌||◌, List, bytes_eq, refl}
use Rattle.std.proofs.Common.{sym, subst, true≢false}
use Rattle.std.proofs.lemmas.Slice.Eq.{bytes_eq-Decides}
use Rattle.toy_imp.specs.declared.name.Name.{Name}
use Rattle.toy_imp.specs.Cell.{spelled}
use Rattle.toy_imp.specs.Expr.{Exprs}
use Rattle.toy_imp.specs.Block.{Stmt, skip, put, assert_that, if_then, while_do, for_to, let_in, par_stmt, Block, empty, stmt}
use Rattle.side_conditions.specs.Places.{stmt_writes, block_writes}
use Rattle.side_conditions.specs.Seeking.{named}
use Rattle.side_conditions.proofs.Within.{first_no, second_no}

or_case : {A : Type 0} (a b : Bool) → (a || b) ≡ true → (a ≡ true → A) → (b ≡ true → A) → A
or_case true b e f g = f refl
or_case false b e f g = g e

module _ (z : List ℕ) (asked : List ℕ → Bool) where
  asks : Name → Exprs → Bool
  asks x is = asked (spelled x)

  at_name : (x : Name) → bytes_eq (spelled x) z ≡ true → asked (spelled x) ≡ false → asked z ≡ false
  at_name x e never = subst (λ y. asked y ≡ false) ((bytes_eq-Decides (spelled x) z).0 e) never

  mutual
    unfolding asks

    stmt_found : (s : Stmt) → stmt_writes (named z) s ≡ true → stmt_writes asks s ≡ false → asked z ≡ false
    stmt_found skip e never = absurd (true≢false (sym e))
    stmt_found (put x is a) e never = at_name x e never
    stmt_found (assert_that t) e never = absurd (true≢false (sym e))
    stmt_found (if_then t b c) e never = or_case _ _ e (λ h. found b h (first_no _ _ never)) (λ h. found c h (second_no _ _ never))
    stmt_found (while_do t b) e never = found b e never
    stmt_found (for_to x lo hi b) e never = or_case _ _ e (λ h. at_name x h (first_no _ _ never)) (λ h. found b h (second_no _ _ never))
    stmt_found (let_in x a b) e never = or_case _ _ e (λ h. at_name x h (first_no _ _ never)) (λ h. found b h (second_no _ _ never))
    stmt_found (par_stmt k) e never = absurd (true≢false (sym e))

    found : (b : Block) → block_writes (named z) b ≡ true → block_writes asks b ≡ false → asked z ≡ false
    found empty e never = absurd (true≢false (sym e))
    found (stmt s b) e never = or_case _ _ e (λ h. stmt_found s h (first_no _ _ never)) (λ h. found b h (second_no _ _ never))

  pub written_is_asked : (b : Block) → block_writes (named z) b ≡ true → block_writes (λ x is. asked (spelled x)) b ≡ false → asked z ≡ false
  unfolding asks
  written_is_asked b e never = found b e never
