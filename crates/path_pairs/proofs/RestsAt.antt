-- What stands at the points of a block, found by going down to the statement that holds the point.
use Rattle.std.specs.Prelude.{◌≡◌, ℕ, zero, suc, ◌+◌, ◌-◌, ◌^◌, ◌<◌, ◌≤◌, ◌≢◌, max, false, ◌||◌, List, [], ◌∷◌, ◌++◌, length, refl}
use Rattle.std.proofs.Common.{sym, ◌∙◌, ap, subst, get_or, take, drop, arith}
use Rattle.std.proofs.lemmas.List.{length-append, append_assoc, append-nil, length-drop, get_or_append_left, get_or-append_right, drop_all, take_all}
use Rattle.toy_imp.specs.Block.{Stmt, skip, put, assert_that, if_then, while_do, for_to, let_in, par_stmt, Block, empty, stmt, stmt_depth, block_depth}
use Rattle.toy_imp.specs.BlockView.{block_of}
use Rattle.toy_imp.specs.BlockFalls.{stmt_item}
use Rattle.toy_imp.specs.Points.{stmt_count, point_count}
use Rattle.toy_imp.specs.Test.{Test}
use Rattle.toy_imp.specs.Faults.{stmt_has_scope, has_scope}
use Rattle.rule_terms.specs.Counts.{saturated}
use Rattle.path_pairs.specs.declared.stretch.Stretch as code
use Rattle.path_pairs.specs.Rests.{Rest, stretch, stmt_rests, block_rests, rest_at}
use Rattle.path_pairs.specs.RestsFound.{Finds, Holds, HoldsInside}
use Rattle.path_pairs.specs.Stretches.{stretch_of, rest_of}
use Rattle.path_pairs.proofs.Backwards.{at_place}
use Rattle.path_pairs.proofs.Stopping.{or_neither}

-- as many as points, where there is no scope
mutual
  pub as_many_in : (n : ℕ) (s : Stmt) (here behind : Rest) → stmt_has_scope s ≡ false → length (stmt_rests n s here behind) ≡ stmt_count s
  as_many_in n skip here behind h = refl
  as_many_in n (put x is e) here behind h = refl
  as_many_in n (assert_that t) here behind h = refl
  as_many_in n (if_then t b c) here behind h =
      let inside : (has_scope b ≡ false) × (has_scope c ≡ false) = or_neither (has_scope b) (has_scope c) h in
      length-append (block_rests n b behind) (block_rests (n + point_count b) c behind)
      ∙ (λ i. as_many_rests n b behind inside.0 i + as_many_rests (n + point_count b) c behind inside.1 i)
  as_many_in n (while_do t b) here behind h = ap suc (as_many_rests (suc n) b here h)
  as_many_in n (for_to x lo hi b) here behind h = cc
  as_many_in n (let_in x e b) here behind h = cc
  as_many_in n (par_stmt k) here behind h = refl

  pub as_many_rests : (n : ℕ) (b : Block) (after : Rest) → has_scope b ≡ false → length (block_rests n b after) ≡ point_count b
  as_many_rests n empty after h = refl
  as_many_rests n (stmt s b) after h =
      let parts : (stmt_has_scope s ≡ false) × (has_scope b ≡ false) = or_neither (stmt_has_scope s) (has_scope b) h in
      length-append (stmt_rests n s (stretch n (stmt s b) ∷ after) (stretch (n + stmt_count s) b ∷ after)) (block_rests (n + stmt_count s) b after)
      ∙ (λ i. as_many_in n s (stretch n (stmt s b) ∷ after) (stretch (n + stmt_count s) b ∷ after) parts.0 i + as_many_rests (n + stmt_count s) b after parts.1 i)

-- past a statement
past : (n p : ℕ) (s : Stmt) (b : Block) → has_scope (stmt s b) ≡ false → n + stmt_count s ≤ p → (found : Rest) → Finds (n + stmt_count s) b p found → Finds n (stmt s b) p found
past n p s b plain h found f after =
    let parts : (stmt_has_scope s ≡ false) × (has_scope b ≡ false) = or_neither (stmt_has_scope s) (has_scope b) plain in
    let place : p - n - stmt_count s ≡ p - (n + stmt_count s) = omega arith in
    get_or-append_right (stmt_rests n s (stretch n (stmt s b) ∷ after) (stretch (n + stmt_count s) b ∷ after)) (block_rests (n + stmt_count s) b after) (stmt_count s) (p - n) []
    (as_many_in n s (stretch n (stmt s b) ∷ after) (stretch (n + stmt_count s) b ∷ after) parts.0) (omega (arith, h))
    ∙ ap (λ i. get_or (block_rests (n + stmt_count s) b after) i []) place
    ∙ f after

-- at a statement parameter or a `while`
pub at_par : (n p k : ℕ) (b : Block) (x : code.Stretch) → p - n ≡ 0 → stretch_of x ≡ stretch n (stmt (par_stmt k) b) → Finds n (stmt (par_stmt k) b) p (rest_of (x ∷ []))
at_par n p k b x h e after = ap (λ i. get_or (block_rests n (stmt (par_stmt k) b) after) i []) h ∙ ap (λ y. y ∷ after) (sym e)

pub at_while : (n p : ℕ) (t : Test) (c b : Block) (x : code.Stretch) → p - n ≡ 0 → stretch_of x ≡ stretch n (stmt (while_do t c) b) → Finds n (stmt (while_do t c) b) p (rest_of (x ∷ []))
at_while n p t c b x h e after = ap (λ i. get_or (block_rests n (stmt (while_do t c) b) after) i []) h ∙ ap (λ y. y ∷ after) (sym e)

rest_of_append : (xs ys : List code.Stretch) → rest_of (xs ++ ys) ≡ rest_of xs ++ rest_of ys
rest_of_append [] ys = refl
rest_of_append (x ∷ xs) ys = ap (λ r. stretch_of x ∷ r) (rest_of_append xs ys)

-- one stretch more at the end, in front of what comes behind
at_end : (found : List code.Stretch) (x : code.Stretch) (after : Rest) → rest_of found ++ (stretch_of x ∷ after) ≡ rest_of (found ++ x ∷ []) ++ after
at_end found x after = sym (ap (λ r. r ++ after) (rest_of_append found (x ∷ [])) ∙ append_assoc (rest_of found) (stretch_of x ∷ []) after)

-- inside a `while`
pub in_while : (n m p : ℕ) (t : Test) (c b : Block) (found : List code.Stretch) (x : code.Stretch) → m ≡ suc n → n < p → p < n + suc (point_count c) → has_scope c ≡ false
    → stretch_of x ≡ stretch n (stmt (while_do t c) b) → Finds m c p (rest_of found) → Finds n (stmt (while_do t c) b) p (rest_of (found ++ x ∷ []))
in_while n m p t c b found x d low high plain e f after =
    let here : Rest = stretch n (stmt (while_do t c) b) ∷ after in
    let behind : List Rest = block_rests (n + suc (point_count c)) b after in
    let place : p - n ≡ suc (p - suc n) = omega (arith, low) in
    let many : length (block_rests (suc n) c here) ≡ point_count c = as_many_rests (suc n) c here plain in
    let inside : Finds (suc n) c p (rest_of found) = subst (λ j. Finds j c p (rest_of found)) d f in
    ap (λ i. get_or (here ∷ (block_rests (suc n) c here ++ behind)) i []) place
    ∙ get_or_append_left (block_rests (suc n) c here) behind [] (p - suc n) (omega (arith, many, low, high))
    ∙ inside here
    ∙ ap (λ y. rest_of found ++ (y ∷ after)) (sym e)
    ∙ at_end found x after

-- inside an `if`
if_inside : (n p : ℕ) (t : Test) (b c d : Block) (after : Rest) → has_scope b ≡ false → has_scope c ≡ false → p - n < point_count b + point_count c
    → get_or (block_rests n (stmt (if_then t b c) d) after) (p - n) []
    ≡ get_or (block_rests n b (stretch (n + (point_count b + point_count c)) d ∷ after) ++ block_rests (n + point_count b) c (stretch (n + (point_count b + point_count c)) d ∷ after)) (p - n) []
if_inside n p t b c d after plain_b plain_c h =
    let behind : Rest = stretch (n + (point_count b + point_count c)) d ∷ after in
    let first : length (block_rests n b behind) ≡ point_count b = as_many_rests n b behind plain_b in
    let second : length (block_rests (n + point_count b) c behind) ≡ point_count c = as_many_rests (n + point_count b) c behind plain_c in
    get_or_append_left (block_rests n b behind ++ block_rests (n + point_count b) c behind) (block_rests (n + (point_count b + point_count c)) d after) [] (p - n)
    (omega (arith, length-append (block_rests n b behind) (block_rests (n + point_count b) c behind), first, second, h))

pub in_then : (n p : ℕ) (t : Test) (b c d : Block) (found : List code.Stretch) (x : code.Stretch) → n ≤ p → p < n + point_count b → has_scope b ≡ false → has_scope c ≡ false
    → stretch_of x ≡ stretch (n + (point_count b + point_count c)) d → Finds n b p (rest_of found) → Finds n (stmt (if_then t b c) d) p (rest_of (found ++ x ∷ []))
in_then n p t b c d found x low high plain_b plain_c e f after =
    let behind : Rest = stretch (n + (point_count b + point_count c)) d ∷ after in
    let many : length (block_rests n b behind) ≡ point_count b = as_many_rests n b behind plain_b in
    if_inside n p t b c d after plain_b plain_c (omega (arith, low, high))
    ∙ get_or_append_left (block_rests n b behind) (block_rests (n + point_count b) c behind) [] (p - n) (omega (arith, many, low, high))
    ∙ f behind
    ∙ ap (λ y. rest_of found ++ (y ∷ after)) (sym e)
    ∙ at_end found x after

pub in_else : (n m p : ℕ) (t : Test) (b c d : Block) (found : List code.Stretch) (x : code.Stretch) → m ≡ n + point_count b → m ≤ p → p < n + (point_count b + point_count c)
    → has_scope b ≡ false → has_scope c ≡ false
    → stretch_of x ≡ stretch (n + (point_count b + point_count c)) d → Finds m c p (rest_of found) → Finds n (stmt (if_then t b c) d) p (rest_of (found ++ x ∷ []))
in_else n m p t b c d found x place low high plain_b plain_c e f after =
    let behind : Rest = stretch (n + (point_count b + point_count c)) d ∷ after in
    let index : p - n - point_count b ≡ p - (n + point_count b) = omega arith in
    let inside : Finds (n + point_count b) c p (rest_of found) = subst (λ j. Finds j c p (rest_of found)) place f in
    if_inside n p t b c d after plain_b plain_c (omega (arith, place, low, high))
    ∙ get_or-append_right (block_rests n b behind) (block_rests (n + point_count b) c behind) (point_count b) (p - n) [] (as_many_rests n b behind plain_b) (omega (arith, place, low))
    ∙ ap (λ i. get_or (block_rests (n + point_count b) c behind) i []) index
    ∙ inside behind
    ∙ ap (λ y. rest_of found ++ (y ∷ after)) (sym e)
    ∙ at_end found x after

-- along the statements of a block
pub record Seeks (first : ℕ) (stmts : List Stmt) (p i n : ℕ) : Type 0 where
  pub from : n ≤ p
  pub numbered : n + point_count (block_of (drop i stmts)) ≡ first + point_count (block_of stmts)
  pub unscoped : has_scope (block_of (drop i stmts)) ≡ false
  pub finds : (found : Rest) → Finds n (block_of (drop i stmts)) p found → Finds first (block_of stmts) p found

pub seeks_start : (first : ℕ) (stmts : List Stmt) (p : ℕ) → first ≤ p → has_scope (block_of stmts) ≡ false → Seeks first stmts p 0 first
seeks_start first stmts p h plain = record { from = h; numbered = refl; unscoped = plain; finds = λ found f. f }

exact_count : (first : ℕ) (stmts : List Stmt) (p i n points : ℕ) (s : Stmt) → i < length stmts → s ≡ get_or stmts i s → points ≡ saturated (stmt_count s)
    → first + point_count (block_of stmts) < 2 ^ 64 → Seeks first stmts p i n → points ≡ stmt_count s
exact_count first stmts p i n points s h e c small k =
    let here : point_count (block_of (drop i stmts)) ≡ stmt_count s + point_count (block_of (drop (i + 1) stmts)) = ap point_count (at_place stmts i s h e) in
    let numbered : n + point_count (block_of (drop i stmts)) ≡ first + point_count (block_of stmts) = k.numbered in
    omega (arith, here, numbered, c, small)

pub seeks_fits : (first : ℕ) (stmts : List Stmt) (p i n points : ℕ) (s : Stmt) → i < length stmts → s ≡ get_or stmts i s → points ≡ saturated (stmt_count s)
    → first + point_count (block_of stmts) < 2 ^ 64 → Seeks first stmts p i n → n + points < 2 ^ 64
seeks_fits first stmts p i n points s h e c small k =
    let here : point_count (block_of (drop i stmts)) ≡ stmt_count s + point_count (block_of (drop (i + 1) stmts)) = ap point_count (at_place stmts i s h e) in
    let numbered : n + point_count (block_of (drop i stmts)) ≡ first + point_count (block_of stmts) = k.numbered in
    omega (arith, here, numbered, c, small)

pub seeks_next : (first : ℕ) (stmts : List Stmt) (p i n m points : ℕ) (s : Stmt) → i < length stmts → s ≡ get_or stmts i s → points ≡ saturated (stmt_count s)
    → first + point_count (block_of stmts) < 2 ^ 64 → m ≡ n + points → m ≤ p → Seeks first stmts p i n → Seeks first stmts p (i + 1) m
seeks_next first stmts p i n m points s h e c small d low k =
    let place : block_of (drop i stmts) ≡ stmt s (block_of (drop (i + 1) stmts)) = at_place stmts i s h e in
    let here : point_count (block_of (drop i stmts)) ≡ stmt_count s + point_count (block_of (drop (i + 1) stmts)) = ap point_count place in
    let exact : points ≡ stmt_count s = exact_count first stmts p i n points s h e c small k in
    let numbered : n + point_count (block_of (drop i stmts)) ≡ first + point_count (block_of stmts) = k.numbered in
    let sum : m ≡ n + stmt_count s = omega (arith, d, exact) in
    let plain : has_scope (stmt s (block_of (drop (i + 1) stmts))) ≡ false = sym (ap has_scope place) ∙ k.unscoped in
    record {
      from = low;
      numbered = omega (arith, here, numbered, sum);
      unscoped = (or_neither (stmt_has_scope s) (has_scope (block_of (drop (i + 1) stmts))) plain).1;
      finds = λ found f. k.finds found (subst (λ b. Finds n b p found) (sym place)
          (past n p s (block_of (drop (i + 1) stmts)) plain (omega (arith, sum, low)) found (subst (λ j. Finds j (block_of (drop (i + 1) stmts)) p found) sum f)));
    }

pub whole_rest : {A : Type 0} (k : ℕ) (xs : List A) → take (length xs - k) (drop k xs) ≡ drop k xs
whole_rest k xs = take_all (length xs - k) (drop k xs) (omega (arith, length-drop k xs))

seeks_found_behind : (first : ℕ) (stmts : List Stmt) (p i n points : ℕ) (s : Stmt) → i < length stmts → s ≡ get_or stmts i s → points ≡ saturated (stmt_count s)
    → first + point_count (block_of stmts) < 2 ^ 64 → p < n + points → Seeks first stmts p i n → Holds first (block_of stmts) p n s (block_of (drop (i + 1) stmts))
seeks_found_behind first stmts p i n points s h e c small high k =
    let place : block_of (drop i stmts) ≡ stmt s (block_of (drop (i + 1) stmts)) = at_place stmts i s h e in
    let here : point_count (block_of (drop i stmts)) ≡ stmt_count s + point_count (block_of (drop (i + 1) stmts)) = ap point_count place in
    let exact : points ≡ stmt_count s = exact_count first stmts p i n points s h e c small k in
    let numbered : n + point_count (block_of (drop i stmts)) ≡ first + point_count (block_of stmts) = k.numbered in
    record {
      from = k.from;
      below = omega (arith, exact, high);
      numbered = omega (arith, here, numbered);
      unscoped = sym (ap has_scope place) ∙ k.unscoped;
      smaller = subst (λ x. stmt_depth x < block_depth (block_of stmts)) (sym e) (stmt_item stmts i s h);
      finds = λ found f. k.finds found (subst (λ b. Finds n b p found) (sym place) f);
    }

pub seeks_never : (first : ℕ) (stmts : List Stmt) (p i n : ℕ) → length stmts ≤ i → p < first + point_count (block_of stmts) → Seeks first stmts p i n → ⊥
seeks_never first stmts p i n h high k =
    let done : point_count (block_of (drop i stmts)) ≡ 0 = ap (λ xs. point_count (block_of xs)) (drop_all i stmts h) in
    absurd (omega (arith, done, k.numbered, k.from, high))

pub seeks_found : (first : ℕ) (stmts : List Stmt) (p i n points : ℕ) (s : Stmt) → i < length stmts → s ≡ get_or stmts i s → points ≡ saturated (stmt_count s)
    → first + point_count (block_of stmts) < 2 ^ 64 → p < n + points → Seeks first stmts p i n
    → Holds first (block_of stmts) p n s (block_of (take (length stmts - (i + 1)) (drop (i + 1) stmts)))
seeks_found first stmts p i n points s h e c small high k =
    subst (λ xs. Holds first (block_of stmts) p n s (block_of xs)) (sym (whole_rest (i + 1) stmts)) (seeks_found_behind first stmts p i n points s h e c small high k)

-- the ways from the statement that holds the point
pub way_par : (first p n k : ℕ) (b others : Block) (s : Stmt) (x : code.Stretch) → Holds first b p n s others → s ≡ par_stmt k → stretch_of x ≡ stretch n (stmt s others)
    → Finds first b p (rest_of (x ∷ []))
way_par first p n k b others s x h e d =
    let one : stmt_count s ≡ 1 = ap stmt_count e in
    h.finds (rest_of (x ∷ []))
    (subst (λ y. Finds n (stmt y others) p (rest_of (x ∷ []))) (sym e) (at_par n p k others x (omega (arith, one, h.from, h.below)) (d ∙ ap (λ y. stretch n (stmt y others)) e)))

pub way_while : (first p n : ℕ) (b others c : Block) (s : Stmt) (t : Test) (x : code.Stretch) → Holds first b p n s others → s ≡ while_do t c → stretch_of x ≡ stretch n (stmt s others)
    → p ≡ n → Finds first b p (rest_of (x ∷ []))
way_while first p n b others c s t x h e d k =
    h.finds (rest_of (x ∷ []))
    (subst (λ y. Finds n (stmt y others) p (rest_of (x ∷ []))) (sym e) (at_while n p t c others x (omega (arith, k)) (d ∙ ap (λ y. stretch n (stmt y others)) e)))

abbrev Leads : ℕ → Block → ℕ → ℕ → Block → code.Stretch → Type 0
Leads first b p n c x = HoldsInside first b p n c × ((found : List code.Stretch) → Finds n c p (rest_of found) → Finds first b p (rest_of (found ++ x ∷ [])))

pub way_inside : (first p n m : ℕ) (b others c : Block) (s : Stmt) (t : Test) (x : code.Stretch) → Holds first b p n s others → s ≡ while_do t c → stretch_of x ≡ stretch n (stmt s others)
    → m ≡ n + 1 → p ≢ n → Leads first b p m c x
way_inside first p n m b others c s t x h e d k differs =
    let count : stmt_count s ≡ suc (point_count c) = ap stmt_count e in
    let depth : stmt_depth s ≡ suc (block_depth c) = ap stmt_depth e in
    let plain : has_scope (stmt (while_do t c) others) ≡ false = sym (ap (λ y. has_scope (stmt y others)) e) ∙ h.unscoped in
    let body : has_scope c ≡ false = (or_neither (has_scope c) (has_scope others) plain).0 in
    let low : n < p = omega (arith, h.from, differs) in (
      record {
        from = omega (arith, k, low);
        below = omega (arith, k, count, h.below);
        numbered = omega (arith, k, count, h.numbered);
        unscoped = body;
        smaller = omega (arith, depth, h.smaller);
      },
      λ found f. h.finds (rest_of (found ++ x ∷ [])) (subst (λ y. Finds n (stmt y others) p (rest_of (found ++ x ∷ []))) (sym e)
          (in_while n m p t c others found x (omega (arith, k)) low (omega (arith, count, h.below)) body (d ∙ ap (λ y. stretch n (stmt y others)) e) f)),
    )

-- of an `if`
record Sides (n : ℕ) (s : Stmt) (others c d : Block) : Type 0 where
  count : stmt_count s ≡ point_count c + point_count d
  first_depth : block_depth c < stmt_depth s
  second_depth : block_depth d < stmt_depth s
  first_plain : has_scope c ≡ false
  second_plain : has_scope d ≡ false

sides_of : (n : ℕ) (s : Stmt) (others c d : Block) (t : Test) → s ≡ if_then t c d → has_scope (stmt s others) ≡ false → Sides n s others c d
sides_of n s others c d t e h =
    let depth : stmt_depth s ≡ suc (max (block_depth c) (block_depth d)) = ap stmt_depth e in
    let plain : has_scope (stmt (if_then t c d) others) ≡ false = sym (ap (λ y. has_scope (stmt y others)) e) ∙ h in
    let inside : (has_scope c ≡ false) × (has_scope d ≡ false) = or_neither (has_scope c) (has_scope d) (or_neither (has_scope c || has_scope d) (has_scope others) plain).0 in
    record {
      count = ap stmt_count e;
      first_depth = omega (arith, depth);
      second_depth = omega (arith, depth);
      first_plain = inside.0;
      second_plain = inside.1;
    }

pub way_then : (first p n : ℕ) (b others c d : Block) (s : Stmt) (t : Test) (x : code.Stretch) → Holds first b p n s others → s ≡ if_then t c d
    → stretch_of x ≡ stretch (n + (point_count c + point_count d)) others → p < n + point_count c → Leads first b p n c x
way_then first p n b others c d s t x h e place high =
    let sides : Sides n s others c d = sides_of n s others c d t e h.unscoped in (
      record {
        from = h.from;
        below = high;
        numbered = omega (arith, sides.count, h.numbered);
        unscoped = sides.first_plain;
        smaller = omega (arith, sides.first_depth, h.smaller);
      },
      λ found f. h.finds (rest_of (found ++ x ∷ [])) (subst (λ y. Finds n (stmt y others) p (rest_of (found ++ x ∷ []))) (sym e)
          (in_then n p t c d others found x h.from high sides.first_plain sides.second_plain place f)),
    )

pub way_else : (first p n m : ℕ) (b others c d : Block) (s : Stmt) (t : Test) (x : code.Stretch) → Holds first b p n s others → s ≡ if_then t c d
    → stretch_of x ≡ stretch (n + (point_count c + point_count d)) others → m ≡ n + point_count c → m ≤ p → Leads first b p m d x
way_else first p n m b others c d s t x h e place k low =
    let sides : Sides n s others c d = sides_of n s others c d t e h.unscoped in (
      record {
        from = low;
        below = omega (arith, k, sides.count, h.below);
        numbered = omega (arith, k, sides.count, h.numbered);
        unscoped = sides.second_plain;
        smaller = omega (arith, sides.second_depth, h.smaller);
      },
      λ found f. h.finds (rest_of (found ++ x ∷ [])) (subst (λ y. Finds n (stmt y others) p (rest_of (found ++ x ∷ []))) (sym e)
          (in_else n m p t c d others found x k low (omega (arith, sides.count, h.below)) sides.first_plain sides.second_plain place f)),
    )

-- the points of the blocks of the statement that holds a point fit
pub if_fits : (first p n : ℕ) (b others c d : Block) (s : Stmt) (t : Test) → Holds first b p n s others → s ≡ if_then t c d → first + point_count b < 2 ^ 64
    → n + (point_count c + point_count d) < 2 ^ 64
if_fits first p n b others c d s t h e small =
    let count : stmt_count s ≡ point_count c + point_count d = ap stmt_count e in
    omega (arith, count, h.numbered, small)

-- from a side
pub found_at : (side : Block) (p : ℕ) (found : Rest) → 1 ≤ p → Finds 1 side p found → found ≡ rest_at side p
found_at side zero found h f = absurd (omega (arith, h))
found_at side (suc p) found h f =
    let place : suc p - 1 ≡ p = omega arith in
    sym (ap (λ i. get_or (block_rests 1 side []) i []) (sym place) ∙ f [] ∙ append-nil found)
