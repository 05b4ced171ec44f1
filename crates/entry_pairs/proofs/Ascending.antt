-- The cut points of a side ascend: from one bound on they rise to another.
use Rattle.std.specs.Prelude.{◌≡◌, ◌≤◌, ◌<◌, ◌==◌, ℕ, zero, suc, ◌+◌, Bool, true, false, cond, List, [], ◌∷◌, ◌++◌, map}
use Rattle.std.proofs.Common.{arith, subst}
use Rattle.std.specs.List.{filter, range_with_len, list_any, slice_index}
use Rattle.std.specs.List.Sorted.{IsStrictlyIncreasing}
use Rattle.toy_imp.specs.Block.{Stmt, skip, put, assert_that, if_then, while_do, for_to, let_in, par_stmt, Block, empty, stmt}
use Rattle.toy_imp.specs.Points.{stmt_count, point_count, exit_point}
use Rattle.toy_imp.specs.declared.rule.CutList.{CutList}
use Rattle.toy_imp.specs.declared.rule.CutList.TheVariants.{Default, Listed}
use Rattle.entry_pairs.specs.Cuts.{has_par, stmt_cuts, default_cuts, listed_cuts, with_ends, left_cuts, right_cuts}

-- numbers from lo on and below hi, each below the next
abbrev Rises : ℕ → List ℕ → ℕ → Type 0
Rises lo [] hi = lo ≤ hi
Rises lo (x ∷ xs) hi = (lo ≤ x) × Rises (suc x) xs hi

rises_lower : (low lo hi : ℕ) (xs : List ℕ) → low ≤ lo → Rises lo xs hi → Rises low xs hi
rises_lower low lo hi [] h r = omega (arith, h, r)
rises_lower low lo hi (x ∷ xs) h r = (omega (arith, h, r.0), r.1)

rises_upper : (lo hi high : ℕ) (xs : List ℕ) → hi ≤ high → Rises lo xs hi → Rises lo xs high
rises_upper lo hi high [] h r = omega (arith, h, r)
rises_upper lo hi high (x ∷ xs) h r = (r.0, rises_upper (suc x) hi high xs h r.1)

rises_both : (lo mid hi : ℕ) (xs ys : List ℕ) → Rises lo xs mid → Rises mid ys hi → Rises lo (xs ++ ys) hi
rises_both lo mid hi [] ys r s = rises_lower lo mid hi ys r s
rises_both lo mid hi (x ∷ xs) ys r s = (r.0, rises_both (suc x) mid hi xs ys r.1 s)

own_rises : (n : ℕ) (b : Bool) → Rises n (cond b [] (n ∷ [])) (suc n)
own_rises n true = omega arith
own_rises n false = (omega arith, omega arith)

mutual
  stmt_rises : (n : ℕ) (s : Stmt) → Rises n (stmt_cuts n s) (n + stmt_count s)
  stmt_rises n skip = omega arith
  stmt_rises n (put x is e) = omega arith
  stmt_rises n (assert_that t) = omega arith
  stmt_rises n (if_then t b c) =
      rises_upper n (n + point_count b + point_count c) (n + (point_count b + point_count c)) (default_cuts n b ++ default_cuts (n + point_count b) c) (omega arith)
      (rises_both n (n + point_count b) (n + point_count b + point_count c) (default_cuts n b) (default_cuts (n + point_count b) c) (block_rises n b) (block_rises (n + point_count b) c))
  stmt_rises n (while_do t b) =
      rises_upper n (suc n + point_count b) (n + suc (point_count b)) (cond (has_par b) [] (n ∷ []) ++ default_cuts (suc n) b) (omega arith)
      (rises_both n (suc n) (suc n + point_count b) (cond (has_par b) [] (n ∷ [])) (default_cuts (suc n) b) (own_rises n (has_par b)) (block_rises (suc n) b))
  stmt_rises n (for_to x lo hi b) = block_rises n b
  stmt_rises n (let_in x e b) = block_rises n b
  stmt_rises n (par_stmt k) = (omega arith, omega arith)

  block_rises : (n : ℕ) (b : Block) → Rises n (default_cuts n b) (n + point_count b)
  block_rises n empty = omega arith
  block_rises n (stmt s b) =
      rises_upper n (n + stmt_count s + point_count b) (n + (stmt_count s + point_count b)) (stmt_cuts n s ++ default_cuts (n + stmt_count s) b) (omega arith)
      (rises_both n (n + stmt_count s) (n + stmt_count s + point_count b) (stmt_cuts n s) (default_cuts (n + stmt_count s) b) (stmt_rises n s) (block_rises (n + stmt_count s) b))

one_kept : (lo hi : ℕ) (xs : List ℕ) (b : Bool) → Rises (lo + 1) xs hi → Rises lo (cond b (lo ∷ xs) xs) hi
one_kept lo hi xs true r = (omega arith, rises_lower (suc lo) (lo + 1) hi xs (omega arith) r)
one_kept lo hi xs false r = rises_lower lo (lo + 1) hi xs (omega arith) r

named_rise : (test : ℕ → Bool) (lo n : ℕ) → Rises lo (filter test (range_with_len lo n)) (lo + n)
named_rise test lo zero = omega arith
named_rise test lo (suc n) =
    one_kept lo (lo + suc n) (filter test (range_with_len (lo + 1) n)) (test lo)
    (rises_upper (lo + 1) (lo + 1 + n) (lo + suc n) (filter test (range_with_len (lo + 1) n)) (omega arith) (named_rise test (lo + 1) n))

ends_rise : (side : Block) (inner : List ℕ) → Rises 1 inner (1 + point_count side) → Rises 0 (with_ends side inner) (suc (exit_point side))
ends_rise side inner r = (
  omega arith,
  rises_both 1 (exit_point side) (suc (exit_point side)) inner (exit_point side ∷ [])
      (rises_upper 1 (1 + point_count side) (exit_point side) inner (omega arith) r) (omega arith, omega arith),
)

left_rises : (list : CutList) (side : Block) → Rises 0 (left_cuts list side) (suc (exit_point side))
left_rises Default side = ends_rise side (default_cuts 1 side) (block_rises 1 side)
left_rises (Listed pairs) side =
    ends_rise side (listed_cuts side (map (λ a. a.0) pairs)) (named_rise (λ p. list_any (λ c. c == p) (map (λ a. a.0) pairs)) 1 (point_count side))

right_rises : (list : CutList) (side : Block) → Rises 0 (right_cuts list side) (suc (exit_point side))
right_rises Default side = ends_rise side (default_cuts 1 side) (block_rises 1 side)
right_rises (Listed pairs) side =
    ends_rise side (listed_cuts side (map (λ a. a.1) pairs)) (named_rise (λ p. list_any (λ c. c == p) (map (λ a. a.1) pairs)) 1 (point_count side))

increasing : (lo hi : ℕ) (xs : List ℕ) → Rises lo xs hi → IsStrictlyIncreasing xs
increasing lo hi [] r k h = absurd (omega (arith, h))
increasing lo hi (x ∷ []) r k h = absurd (omega (arith, h))
increasing lo hi (x ∷ y ∷ xs) r zero h = omega (arith, r.1.0)
increasing lo hi (x ∷ y ∷ xs) r (suc k) h =
    let next : suc (k + 1) ≡ suc k + 1 = omega arith in
    subst (λ n. slice_index (x ∷ y ∷ xs) (suc k) < slice_index (x ∷ y ∷ xs) n) next (increasing (suc x) hi (y ∷ xs) r.1 k (omega (arith, h)))

pub left_increases : (list : CutList) (side : Block) → IsStrictlyIncreasing (left_cuts list side)
left_increases list side = increasing 0 (suc (exit_point side)) (left_cuts list side) (left_rises list side)

pub right_increases : (list : CutList) (side : Block) → IsStrictlyIncreasing (right_cuts list side)
right_increases list side = increasing 0 (suc (exit_point side)) (right_cuts list side) (right_rises list side)
