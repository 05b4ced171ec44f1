-- Over a side with its cut points: how far walks go before they stop, and how many they are, by its statements alone.
-- What is said of a list of statements takes what is said of what comes after it.
use Rattle.std.specs.Prelude.{ℕ, zero, suc, ◌+◌, ◌*◌, max, Bool, true, false, cond, not, ◌&&◌, ◌||◌, List, [], ◌∷◌}
use Rattle.toy_imp.specs.Block.{Stmt, skip, put, assert_that, if_then, while_do, for_to, let_in, par_stmt, Block, empty, stmt}
use Rattle.toy_imp.specs.Points.{stmt_count, point_count}
use Rattle.path_pairs.specs.OutcomeCounts.{outcome_count}
use Rattle.path_pairs.specs.Rests.{Rest, stretch}
use Rattle.path_pairs.specs.Walks.{is_cut}

-- some walk goes through without a stop; of statements whose first point has this number
abbrev mutual
  pub stmt_passes : List ℕ → ℕ → Stmt → Bool
  stmt_passes cuts n skip = true
  stmt_passes cuts n (put x is e) = true
  stmt_passes cuts n (assert_that t) = true
  stmt_passes cuts n (if_then t b c) = passes cuts n b || passes cuts (n + point_count b) c
  stmt_passes cuts n (while_do t b) = not (is_cut cuts n)
  stmt_passes cuts n (for_to x lo hi b) = false
  stmt_passes cuts n (let_in x e b) = false
  stmt_passes cuts n (par_stmt k) = not (is_cut cuts n)

  pub passes : List ℕ → ℕ → Block → Bool
  passes cuts n empty = true
  passes cuts n (stmt s b) = stmt_passes cuts n s && passes cuts (n + stmt_count s) b

-- the steps of the longest walk before a stop, where walks behind make this many; 65 for a loop that goes on
abbrev mutual
  pub stmt_steps : List ℕ → ℕ → Stmt → ℕ → ℕ
  stmt_steps cuts n skip after = suc after
  stmt_steps cuts n (put x is e) after = suc after
  stmt_steps cuts n (assert_that t) after = suc after
  stmt_steps cuts n (if_then t b c) after = suc (max (most_steps cuts n b after) (most_steps cuts (n + point_count b) c after))
  stmt_steps cuts n (while_do t b) after = cond (is_cut cuts n) 0 (cond (passes cuts (suc n) b) 65 (suc (max (most_steps cuts (suc n) b 0) after)))
  stmt_steps cuts n (for_to x lo hi b) after = 0
  stmt_steps cuts n (let_in x e b) after = 0
  stmt_steps cuts n (par_stmt k) after = cond (is_cut cuts n) 0 (suc after)

  pub most_steps : List ℕ → ℕ → Block → ℕ → ℕ
  most_steps cuts n empty after = after
  most_steps cuts n (stmt s b) after = stmt_steps cuts n s (most_steps cuts (n + stmt_count s) b after)

abbrev pub rest_steps : List ℕ → Rest → ℕ
rest_steps cuts [] = 0
rest_steps cuts (stretch n b ∷ rest) = most_steps cuts n b (rest_steps cuts rest)

-- how many walks there are up to their stop, where this many go on behind and no loop goes on; each outcome in which an `assert` is
-- false is one that stops there
abbrev mutual
  pub stmt_walks : List ℕ → ℕ → Stmt → ℕ → ℕ
  stmt_walks cuts n skip after = after
  stmt_walks cuts n (put x is e) after = after
  stmt_walks cuts n (assert_that t) after = outcome_count t true * after + outcome_count t false * 1
  stmt_walks cuts n (if_then t b c) after = outcome_count t true * walk_count cuts n b after + outcome_count t false * walk_count cuts (n + point_count b) c after
  stmt_walks cuts n (while_do t b) after = cond (is_cut cuts n) 1 (outcome_count t true * walk_count cuts (suc n) b 0 + outcome_count t false * after)
  stmt_walks cuts n (for_to x lo hi b) after = 0
  stmt_walks cuts n (let_in x e b) after = 0
  stmt_walks cuts n (par_stmt k) after = cond (is_cut cuts n) 1 (suc after)

  pub walk_count : List ℕ → ℕ → Block → ℕ → ℕ
  walk_count cuts n empty after = after
  walk_count cuts n (stmt s b) after = stmt_walks cuts n s (walk_count cuts (n + stmt_count s) b after)

abbrev pub rest_walks : List ℕ → Rest → ℕ
rest_walks cuts [] = 1
rest_walks cuts (stretch n b ∷ rest) = walk_count cuts n b (rest_walks cuts rest)

-- A walk from a point other than the start makes its first step before it may stop: how far walks go after it, by how far they
-- go from the statement itself and from what follows it.
abbrev pub stmt_onward : List ℕ → ℕ → Stmt → ℕ → ℕ → ℕ
stmt_onward cuts n skip here behind = behind
stmt_onward cuts n (put x is e) here behind = behind
stmt_onward cuts n (assert_that t) here behind = behind
stmt_onward cuts n (if_then t b c) here behind = max (most_steps cuts n b behind) (most_steps cuts (n + point_count b) c behind)
stmt_onward cuts n (while_do t b) here behind = max (most_steps cuts (suc n) b here) behind
stmt_onward cuts n (for_to x lo hi b) here behind = 0
stmt_onward cuts n (let_in x e b) here behind = 0
stmt_onward cuts n (par_stmt k) here behind = behind

abbrev pub rest_onward : List ℕ → Rest → ℕ
rest_onward cuts [] = 0
rest_onward cuts (stretch n empty ∷ rest) = rest_onward cuts rest
rest_onward cuts (stretch n (stmt a b) ∷ rest) =
    stmt_onward cuts n a (rest_steps cuts (stretch n (stmt a b) ∷ rest)) (rest_steps cuts (stretch (n + stmt_count a) b ∷ rest))

-- .. and how many there are
abbrev pub stmt_branches : List ℕ → ℕ → Stmt → ℕ → ℕ → ℕ
stmt_branches cuts n skip here behind = behind
stmt_branches cuts n (put x is e) here behind = behind
stmt_branches cuts n (assert_that t) here behind = outcome_count t true * behind + outcome_count t false * 1
stmt_branches cuts n (if_then t b c) here behind = outcome_count t true * walk_count cuts n b behind + outcome_count t false * walk_count cuts (n + point_count b) c behind
stmt_branches cuts n (while_do t b) here behind = outcome_count t true * walk_count cuts (suc n) b here + outcome_count t false * behind
stmt_branches cuts n (for_to x lo hi b) here behind = 0
stmt_branches cuts n (let_in x e b) here behind = 0
stmt_branches cuts n (par_stmt k) here behind = suc behind

abbrev pub rest_branches : List ℕ → Rest → ℕ
rest_branches cuts [] = 0
rest_branches cuts (stretch n empty ∷ rest) = rest_branches cuts rest
rest_branches cuts (stretch n (stmt a b) ∷ rest) =
    stmt_branches cuts n a (rest_walks cuts (stretch n (stmt a b) ∷ rest)) (rest_walks cuts (stretch (n + stmt_count a) b ∷ rest))

-- the steps of the longest walk from a point, and the number of walks from it
abbrev pub steps_from : ℕ → List ℕ → Rest → ℕ
steps_from zero cuts rest = rest_steps cuts rest
steps_from (suc p) cuts rest = suc (rest_onward cuts rest)

abbrev pub number_from : ℕ → List ℕ → Rest → ℕ
number_from zero cuts rest = rest_walks cuts rest
number_from (suc p) cuts rest = rest_branches cuts rest
