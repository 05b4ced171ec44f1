-- Statements through which no walk goes without a stop: what comes after them makes no difference.
-- Through others a walk goes, and then as far as walks go behind.
use Rattle.std.specs.Prelude.{◌≡◌, ℕ, suc, ◌+◌, ◌*◌, ◌≤◌, ◌⊎◌, max, Bool, true, false, cond, not, ◌&&◌, ◌||◌, List, refl}
use Rattle.std.proofs.Common.{sym, ◌∙◌, ap, subst, inl, inr, arith}
use Rattle.std.proofs.lemmas.Bool.{and_parts}
use Rattle.toy_imp.specs.Block.{Stmt, skip, put, assert_that, if_then, while_do, for_to, let_in, par_stmt, Block, empty, stmt}
use Rattle.toy_imp.specs.Points.{stmt_count, point_count}
use Rattle.path_pairs.specs.OutcomeCounts.{outcome_count}
use Rattle.path_pairs.specs.Walks.{is_cut}
use Rattle.path_pairs.specs.Along.{stmt_passes, passes, stmt_steps, most_steps, stmt_walks, walk_count}

pub bool_cases : (x : Bool) → (x ≡ true) ⊎ (x ≡ false)
bool_cases true = inl refl
bool_cases false = inr refl

pub or_cases : (x y : Bool) → (x || y) ≡ true → (x ≡ true) ⊎ (y ≡ true)
or_cases true y h = inl refl
or_cases false y h = inr h

pub or_neither : (x y : Bool) → (x || y) ≡ false → (x ≡ false) × (y ≡ false)
or_neither true y h = cc
or_neither false y h = (refl, h)

pub and_not : (x y : Bool) → (x && y) ≡ false → (x ≡ false) ⊎ ((x ≡ true) × (y ≡ false))
and_not true y h = inr (refl, h)
and_not false y h = inl refl

pub not_true : (x : Bool) → not x ≡ true → x ≡ false
not_true true h = cc
not_true false h = refl

pub not_false : (x : Bool) → not x ≡ false → x ≡ true
not_false true h = refl
not_false false h = cc

-- a `while` or a statement parameter that is a cut point, or none
if_cut : (q : Bool) (a b : ℕ) → q ≡ true → cond q a b ≡ a
if_cut true a b h = refl
if_cut false a b h = cc

if_uncut : (q : Bool) (a b : ℕ) → q ≡ false → cond q a b ≡ b
if_uncut true a b h = cc
if_uncut false a b h = refl

either_within : (j m n : ℕ) → (j ≤ m) ⊎ (j ≤ n) → j ≤ suc (max m n)
either_within j m n (inl h) = omega (arith, h)
either_within j m n (inr h) = omega (arith, h)

loop_within : (p : Bool) (j m n : ℕ) → j ≤ 65 → j ≤ n → j ≤ cond p 65 (suc (max m n))
loop_within true j m n small h = small
loop_within false j m n small h = omega (arith, h)

mutual
  pub passed_stmt : (cuts : List ℕ) (n : ℕ) (a : Stmt) → stmt_passes cuts n a ≡ true → (j m : ℕ) → j ≤ 65 → j ≤ m → j ≤ stmt_steps cuts n a m
  passed_stmt cuts n skip e j m small h = omega (arith, h)
  passed_stmt cuts n (put x is v) e j m small h = omega (arith, h)
  passed_stmt cuts n (assert_that t) e j m small h = omega (arith, h)
  passed_stmt cuts n (if_then t b c) e j m small h =
      either_within j _ _ (elim (or_cases (passes cuts n b) (passes cuts (n + point_count b) c) e) [
        | inl d ↦ inl (passed cuts n b d j m small h)
        | inr d ↦ inr (passed cuts (n + point_count b) c d j m small h)
      ])
  passed_stmt cuts n (while_do t b) e j m small h =
      subst (λ k. j ≤ k) (sym (if_uncut (is_cut cuts n) 0 _ (not_true (is_cut cuts n) e))) (loop_within (passes cuts (suc n) b) j _ m small h)
  passed_stmt cuts n (for_to x lo hi b) e j m small h = cc
  passed_stmt cuts n (let_in x v b) e j m small h = cc
  passed_stmt cuts n (par_stmt k) e j m small h =
      subst (λ k. j ≤ k) (sym (if_uncut (is_cut cuts n) 0 (suc m) (not_true (is_cut cuts n) e))) (omega (arith, h))

  pub passed : (cuts : List ℕ) (n : ℕ) (b : Block) → passes cuts n b ≡ true → (j m : ℕ) → j ≤ 65 → j ≤ m → j ≤ most_steps cuts n b m
  passed cuts n empty e j m small h = h
  passed cuts n (stmt a b) e j m small h =
      let parts : (stmt_passes cuts n a ≡ true) × (passes cuts (n + stmt_count a) b ≡ true) = and_parts (stmt_passes cuts n a) (passes cuts (n + stmt_count a) b) e in
      passed_stmt cuts n a parts.0 j (most_steps cuts (n + stmt_count a) b m) small (passed cuts (n + stmt_count a) b parts.1 j m small h)

mutual
  pub blocked_stmt : (cuts : List ℕ) (n : ℕ) (a : Stmt) → stmt_passes cuts n a ≡ false → (i j : ℕ) → stmt_steps cuts n a i ≡ stmt_steps cuts n a j
  blocked_stmt cuts n skip e i j = cc
  blocked_stmt cuts n (put x is v) e i j = cc
  blocked_stmt cuts n (assert_that t) e i j = cc
  blocked_stmt cuts n (if_then t b c) e i j =
      let neither : (passes cuts n b ≡ false) × (passes cuts (n + point_count b) c ≡ false) = or_neither (passes cuts n b) (passes cuts (n + point_count b) c) e in
      let first : most_steps cuts n b i ≡ most_steps cuts n b j = blocked cuts n b neither.0 i j in
      let second : most_steps cuts (n + point_count b) c i ≡ most_steps cuts (n + point_count b) c j = blocked cuts (n + point_count b) c neither.1 i j in
      λ k. suc (max (first k) (second k))
  blocked_stmt cuts n (while_do t b) e i j =
      if_cut (is_cut cuts n) 0 _ (not_false (is_cut cuts n) e) ∙ sym (if_cut (is_cut cuts n) 0 _ (not_false (is_cut cuts n) e))
  blocked_stmt cuts n (for_to x lo hi b) e i j = refl
  blocked_stmt cuts n (let_in x v b) e i j = refl
  blocked_stmt cuts n (par_stmt k) e i j =
      if_cut (is_cut cuts n) 0 (suc i) (not_false (is_cut cuts n) e) ∙ sym (if_cut (is_cut cuts n) 0 (suc j) (not_false (is_cut cuts n) e))

  pub blocked : (cuts : List ℕ) (n : ℕ) (b : Block) → passes cuts n b ≡ false → (i j : ℕ) → most_steps cuts n b i ≡ most_steps cuts n b j
  blocked cuts n empty e i j = cc
  blocked cuts n (stmt a b) e i j =
      elim (and_not (stmt_passes cuts n a) (passes cuts (n + stmt_count a) b) e) [
        | inl d ↦ blocked_stmt cuts n a d (most_steps cuts (n + stmt_count a) b i) (most_steps cuts (n + stmt_count a) b j)
        | inr d ↦ ap (stmt_steps cuts n a) (blocked cuts (n + stmt_count a) b d.1 i j)
      ]

mutual
  pub as_many_stmt : (cuts : List ℕ) (n : ℕ) (a : Stmt) → stmt_passes cuts n a ≡ false → (i j : ℕ) → stmt_walks cuts n a i ≡ stmt_walks cuts n a j
  as_many_stmt cuts n skip e i j = cc
  as_many_stmt cuts n (put x is v) e i j = cc
  as_many_stmt cuts n (assert_that t) e i j = cc
  as_many_stmt cuts n (if_then t b c) e i j =
      let neither : (passes cuts n b ≡ false) × (passes cuts (n + point_count b) c ≡ false) = or_neither (passes cuts n b) (passes cuts (n + point_count b) c) e in
      let first : walk_count cuts n b i ≡ walk_count cuts n b j = as_many cuts n b neither.0 i j in
      let second : walk_count cuts (n + point_count b) c i ≡ walk_count cuts (n + point_count b) c j = as_many cuts (n + point_count b) c neither.1 i j in
      λ k. outcome_count t true * first k + outcome_count t false * second k
  as_many_stmt cuts n (while_do t b) e i j =
      if_cut (is_cut cuts n) 1 _ (not_false (is_cut cuts n) e) ∙ sym (if_cut (is_cut cuts n) 1 _ (not_false (is_cut cuts n) e))
  as_many_stmt cuts n (for_to x lo hi b) e i j = refl
  as_many_stmt cuts n (let_in x v b) e i j = refl
  as_many_stmt cuts n (par_stmt k) e i j =
      if_cut (is_cut cuts n) 1 (suc i) (not_false (is_cut cuts n) e) ∙ sym (if_cut (is_cut cuts n) 1 (suc j) (not_false (is_cut cuts n) e))

  pub as_many : (cuts : List ℕ) (n : ℕ) (b : Block) → passes cuts n b ≡ false → (i j : ℕ) → walk_count cuts n b i ≡ walk_count cuts n b j
  as_many cuts n empty e i j = cc
  as_many cuts n (stmt a b) e i j =
      elim (and_not (stmt_passes cuts n a) (passes cuts (n + stmt_count a) b) e) [
        | inl d ↦ as_many_stmt cuts n a d (walk_count cuts (n + stmt_count a) b i) (walk_count cuts (n + stmt_count a) b j)
        | inr d ↦ ap (stmt_walks cuts n a) (as_many cuts (n + stmt_count a) b d.1 i j)
      ]
