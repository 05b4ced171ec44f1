-- What is counted up to a bound: it makes no difference whether what is counted behind is cut off at the bound too.
use Rattle.std.specs.Prelude.{◌≡◌, ℕ, suc, ◌+◌, ◌*◌, ◌-◌, ◌^◌, min, max, Bool, true, false, cond, List, refl}
use Rattle.std.proofs.Common.{sym, ◌∙◌, ap, arith}
use Rattle.toy_imp.specs.Block.{Stmt, skip, put, assert_that, if_then, while_do, for_to, let_in, par_stmt, Block, empty, stmt}
use Rattle.toy_imp.specs.Points.{stmt_count, point_count}
use Rattle.path_pairs.specs.OutcomeCounts.{outcome_count}
use Rattle.path_pairs.specs.Walks.{is_cut}
use Rattle.path_pairs.specs.Along.{passes, stmt_steps, most_steps, stmt_walks, walk_count}
use Rattle.rule_terms.specs.Counts.{saturated}
use Rattle.path_pairs.proofs.Saturating.{saturated_product}

capped_if : (x y x' y' : ℕ) → min 65 x ≡ min 65 x' → min 65 y ≡ min 65 y' → min 65 (suc (max x y)) ≡ min 65 (suc (max x' y'))
capped_if x y x' y' e d = omega (arith, e, d)

capped_loop : (q p : Bool) (x m : ℕ) → min 65 (cond q 0 (cond p 65 (suc (max x (min 65 m))))) ≡ min 65 (cond q 0 (cond p 65 (suc (max x m))))
capped_loop true p x m = refl
capped_loop false true x m = refl
capped_loop false false x m = omega arith

capped_par : (q : Bool) (m : ℕ) → min 65 (cond q 0 (suc (min 65 m))) ≡ min 65 (cond q 0 (suc m))
capped_par true m = refl
capped_par false m = omega arith

mutual
  pub capped_stmt : (cuts : List ℕ) (n : ℕ) (a : Stmt) (m : ℕ) → min 65 (stmt_steps cuts n a (min 65 m)) ≡ min 65 (stmt_steps cuts n a m)
  capped_stmt cuts n skip m = omega arith
  capped_stmt cuts n (put x is v) m = omega arith
  capped_stmt cuts n (assert_that t) m = omega arith
  capped_stmt cuts n (if_then t b c) m = capped_if _ _ _ _ (capped cuts n b m) (capped cuts (n + point_count b) c m)
  capped_stmt cuts n (while_do t b) m = capped_loop (is_cut cuts n) (passes cuts (suc n) b) (most_steps cuts (suc n) b 0) m
  capped_stmt cuts n (for_to x lo hi b) m = refl
  capped_stmt cuts n (let_in x v b) m = refl
  capped_stmt cuts n (par_stmt k) m = capped_par (is_cut cuts n) m

  pub capped : (cuts : List ℕ) (n : ℕ) (b : Block) (m : ℕ) → min 65 (most_steps cuts n b (min 65 m)) ≡ min 65 (most_steps cuts n b m)
  capped cuts n empty m = omega arith
  capped cuts n (stmt a b) m =
      sym (capped_stmt cuts n a (most_steps cuts (n + stmt_count a) b (min 65 m)))
      ∙ ap (λ k. min 65 (stmt_steps cuts n a k)) (capped cuts (n + stmt_count a) b m)
      ∙ capped_stmt cuts n a (most_steps cuts (n + stmt_count a) b m)

-- a product whose second factor is cut off
one_saturated : (a b : ℕ) → saturated (a * saturated b) ≡ saturated (a * b)
one_saturated a b =
    let same : saturated (saturated b) ≡ saturated b = omega arith in
    sym (saturated_product a (saturated b)) ∙ ap (λ c. saturated (saturated a * c)) same ∙ saturated_product a b

other_saturated : (a b : ℕ) → saturated (saturated a * b) ≡ saturated (a * b)
other_saturated a b =
    let same : saturated (saturated a) ≡ saturated a = omega arith in
    sym (saturated_product (saturated a) b) ∙ ap (λ c. saturated (c * saturated b)) same ∙ saturated_product a b

-- so many for each of so many
pub saturated_test : (a b x y : ℕ) → saturated (saturated (saturated a * x) + saturated (saturated b * y)) ≡ saturated (a * x + b * y)
saturated_test a b x y =
    let first : saturated (saturated a * x) ≡ saturated (a * x) = other_saturated a x in
    let second : saturated (saturated b * y) ≡ saturated (b * y) = other_saturated b y in
    omega (arith, first, second)

pub saturated_each : (a b x y : ℕ) → saturated (a * saturated x + b * saturated y) ≡ saturated (a * x + b * y)
saturated_each a b x y =
    let first : saturated (a * saturated x) ≡ saturated (a * x) = one_saturated a x in
    let second : saturated (b * saturated y) ≡ saturated (b * y) = one_saturated b y in
    omega (arith, first, second)

same_each : (a b x y x' y' : ℕ) → saturated x ≡ saturated x' → saturated y ≡ saturated y' → saturated (a * x + b * y) ≡ saturated (a * x' + b * y')
same_each a b x y x' y' e d = sym (saturated_each a b x y) ∙ (λ i. saturated (a * e i + b * d i)) ∙ saturated_each a b x' y'

pub saturated_first : (a b x y : ℕ) → saturated (a * saturated x + b * y) ≡ saturated (a * x + b * y)
saturated_first a b x y = let first : saturated (a * saturated x) ≡ saturated (a * x) = one_saturated a x in omega (arith, first)

pub saturated_second : (a b x y : ℕ) → saturated (a * x + b * saturated y) ≡ saturated (a * x + b * y)
saturated_second a b x y = let second : saturated (b * saturated y) ≡ saturated (b * y) = one_saturated b y in omega (arith, second)

saturated_loop : (q : Bool) (a b x m : ℕ) → saturated (cond q 1 (a * x + b * saturated m)) ≡ saturated (cond q 1 (a * x + b * m))
saturated_loop true a b x m = refl
saturated_loop false a b x m = saturated_second a b x m

saturated_par : (q : Bool) (m : ℕ) → saturated (cond q 1 (suc (saturated m))) ≡ saturated (cond q 1 (suc m))
saturated_par true m = refl
saturated_par false m = omega arith

mutual
  pub saturated_stmt : (cuts : List ℕ) (n : ℕ) (a : Stmt) (m : ℕ) → saturated (stmt_walks cuts n a (saturated m)) ≡ saturated (stmt_walks cuts n a m)
  saturated_stmt cuts n skip m = omega arith
  saturated_stmt cuts n (put x is v) m = omega arith
  saturated_stmt cuts n (assert_that t) m = saturated_first (outcome_count t true) (outcome_count t false) m 1
  saturated_stmt cuts n (if_then t b c) m =
      same_each (outcome_count t true) (outcome_count t false) _ _ _ _ (saturated_block cuts n b m) (saturated_block cuts (n + point_count b) c m)
  saturated_stmt cuts n (while_do t b) m = saturated_loop (is_cut cuts n) (outcome_count t true) (outcome_count t false) (walk_count cuts (suc n) b 0) m
  saturated_stmt cuts n (for_to x lo hi b) m = refl
  saturated_stmt cuts n (let_in x v b) m = refl
  saturated_stmt cuts n (par_stmt k) m = saturated_par (is_cut cuts n) m

  pub saturated_block : (cuts : List ℕ) (n : ℕ) (b : Block) (m : ℕ) → saturated (walk_count cuts n b (saturated m)) ≡ saturated (walk_count cuts n b m)
  saturated_block cuts n empty m = omega arith
  saturated_block cuts n (stmt a b) m =
      sym (saturated_stmt cuts n a (walk_count cuts (n + stmt_count a) b (saturated m)))
      ∙ ap (λ k. saturated (stmt_walks cuts n a k)) (saturated_block cuts (n + stmt_count a) b m)
      ∙ saturated_stmt cuts n a (walk_count cuts (n + stmt_count a) b m)

-- the same with the bound first
pub bounded : (x : ℕ) → min (2 ^ 64 - 1) x ≡ saturated x
bounded x = omega arith

pub bounded_stmt : (cuts : List ℕ) (n : ℕ) (a : Stmt) (m : ℕ) → min (2 ^ 64 - 1) (stmt_walks cuts n a (min (2 ^ 64 - 1) m)) ≡ min (2 ^ 64 - 1) (stmt_walks cuts n a m)
bounded_stmt cuts n a m =
    bounded (stmt_walks cuts n a (min (2 ^ 64 - 1) m))
    ∙ ap (λ k. saturated (stmt_walks cuts n a k)) (bounded m)
    ∙ saturated_stmt cuts n a m
    ∙ sym (bounded (stmt_walks cuts n a m))
