-- The kinds of the points of a side are those of what stands there, and pairs of paths meet where their kinds say so.
use Rattle.std.specs.Prelude.{◌≡◌, ℕ, zero, suc, ◌+◌, ◌≤◌, false, cond, List, [], ◌∷◌, ◌++◌, map, flat_map, length, slice_index_or, refl}
use Rattle.std.proofs.Common.{sym, ◌∙◌, ap, arith}
use Rattle.std.proofs.lemmas.List.{map-append, length-append}
use Rattle.toy_imp.specs.Block.{Stmt, skip, put, assert_that, if_then, while_do, for_to, let_in, par_stmt, Block, empty, stmt}
use Rattle.toy_imp.specs.Points.{stmt_count, point_count, exit_point}
use Rattle.toy_imp.specs.declared.rule.Rule.{Rule}
use Rattle.rule_terms.specs.declared.path.Path.{Path}
use Rattle.rule_terms.specs.declared.path.Stop.{Stop}
use Rattle.rule_terms.specs.declared.path.Stop.TheVariants.{At, Halted, Stuck}
use Rattle.entry_pairs.specs.declared.point_kinds.PointKind.{PointKind}
use Rattle.entry_pairs.specs.declared.point_kinds.PointKind.TheVariants.{Loop, Par, Other}
use Rattle.path_pairs.specs.Rests.{Rest, stretch, stmt_rests, block_rests, rests, rest_at}
use Rattle.entry_pairs.specs.Cuts.{alike_stmts, alike, stops_alike, arrivals}
use Rattle.entry_pairs.specs.PointKinds.{stmt_kind, rest_kind, stmt_kinds, block_kinds, start_kind, point_kinds, kind_at, alike_kinds, stops_meet, right_meetings, meetings}
use Rattle.entry_pairs.specs.CutAnswers.{rule_table}

mutual
  stmt_kinds_are : (n : ℕ) (s : Stmt) (here behind : Rest) → rest_kind here ≡ stmt_kind s → map rest_kind (stmt_rests n s here behind) ≡ stmt_kinds s
  stmt_kinds_are n skip here behind e = refl
  stmt_kinds_are n (put x is v) here behind e = refl
  stmt_kinds_are n (assert_that t) here behind e = refl
  stmt_kinds_are n (if_then t b c) here behind e =
      map-append rest_kind (block_rests n b behind) (block_rests (n + point_count b) c behind)
      ∙ (λ i. block_kinds_are n b behind i ++ block_kinds_are (n + point_count b) c behind i)
  stmt_kinds_are n (while_do t b) here behind e = λ i. e i ∷ block_kinds_are (suc n) b here i
  stmt_kinds_are n (for_to x lo hi b) here behind e = refl
  stmt_kinds_are n (let_in x v b) here behind e = refl
  stmt_kinds_are n (par_stmt k) here behind e = λ i. e i ∷ []

  block_kinds_are : (n : ℕ) (b : Block) (after : Rest) → map rest_kind (block_rests n b after) ≡ block_kinds b
  block_kinds_are n empty after = refl
  block_kinds_are n (stmt s b) after =
      map-append rest_kind (stmt_rests n s (stretch n (stmt s b) ∷ after) (stretch (n + stmt_count s) b ∷ after)) (block_rests (n + stmt_count s) b after)
      ∙ (λ i. stmt_kinds_are n s (stretch n (stmt s b) ∷ after) (stretch (n + stmt_count s) b ∷ after) refl i ++ block_kinds_are (n + stmt_count s) b after i)

start_kind_is : (side : Block) → rest_kind (stretch 1 side ∷ []) ≡ start_kind side
start_kind_is empty = refl
start_kind_is (stmt s b) = refl

pub point_kinds_are : (side : Block) → map rest_kind (rests side) ≡ point_kinds side
point_kinds_are side = λ i. start_kind_is side i ∷ block_kinds_are 1 side [] i

mapped_at : (all : List Rest) (p : ℕ) → kind_at (map rest_kind all) p ≡ rest_kind (slice_index_or all p [])
mapped_at [] p = refl
mapped_at (r ∷ all) zero = refl
mapped_at (r ∷ all) (suc p) = mapped_at all p

pub kind_at_is : (side : Block) (p : ℕ) → kind_at (point_kinds side) p ≡ rest_kind (rest_at side p)
kind_at_is side p = ap (λ kinds. kind_at kinds p) (sym (point_kinds_are side)) ∙ mapped_at (rests side) p

alike_by_kinds : (a c : Stmt) → alike_kinds (stmt_kind a) (stmt_kind c) ≡ alike_stmts a c
alike_by_kinds skip skip = refl
alike_by_kinds (put x is e) skip = refl
alike_by_kinds (assert_that t) skip = refl
alike_by_kinds (if_then t b d) skip = refl
alike_by_kinds (while_do t b) (while_do u d) = refl
alike_by_kinds (while_do t b) (par_stmt k) = refl
alike_by_kinds (for_to x lo hi b) skip = refl
alike_by_kinds (let_in x e b) skip = refl
alike_by_kinds (par_stmt j) (while_do u d) = refl
alike_by_kinds (par_stmt j) (par_stmt k) = refl
alike_by_kinds a c = refl

other_left : (k : PointKind) → alike_kinds Other k ≡ false
other_left Loop = refl
other_left (Par k) = refl
other_left Other = refl

other_right : (k : PointKind) → alike_kinds k Other ≡ false
other_right Loop = refl
other_right (Par k) = refl
other_right Other = refl

alike_rests : (r q : Rest) → alike_kinds (rest_kind r) (rest_kind q) ≡ alike r q
alike_rests (stretch m (stmt a b) ∷ u) (stretch n (stmt c d) ∷ v) = alike_by_kinds a c
alike_rests [] q = other_left (rest_kind q)
alike_rests (stretch m empty ∷ u) q = other_left (rest_kind q)
alike_rests (stretch m (stmt a b) ∷ u) [] = other_right (stmt_kind a)
alike_rests (stretch m (stmt a b) ∷ u) (stretch n empty ∷ v) = other_right (stmt_kind a)

pub alike_points : (rule : Rule) (p q : ℕ)
    → alike_kinds (kind_at (point_kinds rule.left) p) (kind_at (point_kinds rule.right) q) ≡ alike (rest_at rule.left p) (rest_at rule.right q)
alike_points rule p q = (λ i. alike_kinds (kind_at_is rule.left p i) (kind_at_is rule.right q i)) ∙ alike_rests (rest_at rule.left p) (rest_at rule.right q)

meet_is : (rule : Rule) (l r : Stop) → stops_meet (rule_table rule) l r ≡ stops_alike rule l r
meet_is rule (At p) (At q) = ap (λ b. cond b ((p, q) ∷ []) []) (alike_points rule p q)
meet_is rule (At p) Halted = refl
meet_is rule Halted (At q) = refl
meet_is rule (Stuck k) (At q) = refl
meet_is rule l r = refl

right_meetings_are : (rule : Rule) (l : Stop) (rights : List Path) → right_meetings (rule_table rule) l rights ≡ flat_map (λ r. stops_alike rule l r.stop) rights
unfolding right_meetings
right_meetings_are rule l [] = refl
right_meetings_are rule l (r ∷ rights) = λ i. meet_is rule l r.stop i ++ right_meetings_are rule l rights i

pub meetings_are : (rule : Rule) (lefts rights : List Path) → meetings (rule_table rule) lefts rights ≡ arrivals rule lefts rights
unfolding meetings
meetings_are rule [] rights = refl
meetings_are rule (l ∷ lefts) rights = λ i. right_meetings_are rule l.stop rights i ++ meetings_are rule lefts rights i

-- a point has another kind only where it is before the exit
mutual
  few_stmt_kinds : (s : Stmt) → length (stmt_kinds s) ≤ stmt_count s
  few_stmt_kinds skip = omega arith
  few_stmt_kinds (put x is e) = omega arith
  few_stmt_kinds (assert_that t) = omega arith
  few_stmt_kinds (if_then t b c) = omega (arith, length-append (block_kinds b) (block_kinds c), few_kinds b, few_kinds c)
  few_stmt_kinds (while_do t b) = omega (arith, few_kinds b)
  few_stmt_kinds (for_to x lo hi b) = omega arith
  few_stmt_kinds (let_in x e b) = omega arith
  few_stmt_kinds (par_stmt k) = omega arith

  few_kinds : (b : Block) → length (block_kinds b) ≤ point_count b
  few_kinds empty = omega arith
  few_kinds (stmt s b) = omega (arith, length-append (stmt_kinds s) (block_kinds b), few_stmt_kinds s, few_kinds b)

pub few_point_kinds : (side : Block) → length (point_kinds side) ≤ exit_point side
few_point_kinds side = omega (arith, few_kinds side)
