-- The default cut points of a list of statements from its end: what is found behind a place, with the number there.
use Rattle.std.specs.Prelude.{◌≡◌, ℕ, zero, suc, ◌+◌, ◌-◌, ◌≤◌, ◌<◌, Bool, List, [], ◌∷◌, ◌++◌, reverse, length}
use Rattle.std.proofs.Common.{sym, ◌∙◌, ap, get_or, drop, arith}
use Rattle.std.proofs.lemmas.List.{drop_more}
use Rattle.toy_imp.specs.Block.{Stmt, stmt}
use Rattle.toy_imp.specs.BlockView.{block_of}
use Rattle.toy_imp.specs.Points.{stmt_count, point_count}
use Rattle.entry_pairs.specs.Cuts.{has_par, default_cuts}

pub record Downward (before all : List ℕ) (after : ℕ) (stmts : List Stmt) (i n : ℕ) (pars : Bool) : Type 0 where
  pub within : i ≤ length stmts
  pub numbered : n + point_count (block_of (drop i stmts)) ≡ after
  pub has_pars : pars ≡ has_par (block_of (drop i stmts))
  pub found : all ≡ before ++ reverse (default_cuts n (block_of (drop i stmts)))

at_place : (stmts : List Stmt) (i : ℕ) (s : Stmt) → i < length stmts → s ≡ get_or stmts i s → block_of (drop i stmts) ≡ stmt s (block_of (drop (i + 1) stmts))
at_place stmts i s h e = ap block_of (drop_more stmts i s h) ∙ ap (λ x. stmt x (block_of (drop (i + 1) stmts))) (sym e)

fewer : (stmts : List Stmt) (i : ℕ) → point_count (block_of (drop i stmts)) ≤ point_count (block_of stmts)
fewer stmts zero = omega arith
fewer [] (suc i) = omega arith
fewer (s ∷ stmts) (suc i) = omega (arith, fewer stmts i)

-- the statement before a place has room for its numbers
pub downward_room : (before all : List ℕ) (after : ℕ) (stmts : List Stmt) (at n : ℕ) (pars : Bool) (s : Stmt) → 0 < at → s ≡ get_or stmts (at - 1) s
    → point_count (block_of stmts) ≤ after → Downward before all after stmts at n pars → stmt_count s ≤ n
downward_room before all after stmts at n pars s h e room k =
    let next : at - 1 + 1 ≡ at = omega (arith, h) in
    let here : point_count (block_of (drop (at - 1) stmts)) ≡ stmt_count s + point_count (block_of (drop at stmts)) =
    ap point_count (at_place stmts (at - 1) s (omega (arith, h, k.within)) e) ∙ ap (λ i. stmt_count s + point_count (block_of (drop i stmts))) next in
    omega (arith, here, fewer stmts (at - 1), k.numbered, room)
