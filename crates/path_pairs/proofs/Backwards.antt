-- A list of statements from its end: what is counted behind a place, up to a bound, and the number of the first point there.
use Rattle.std.specs.Prelude.{◌≡◌, ℕ, zero, suc, ◌+◌, ◌-◌, ◌^◌, ◌≤◌, ◌<◌, min, List, [], ◌∷◌, length}
use Rattle.std.proofs.Common.{sym, ◌∙◌, ap, subst, get_or, drop, arith}
use Rattle.std.proofs.lemmas.List.{drop_more, drop_all}
use Rattle.toy_imp.specs.Block.{Stmt, Block, empty, stmt}
use Rattle.toy_imp.specs.BlockView.{block_of}
use Rattle.toy_imp.specs.Points.{stmt_count, point_count}
use Rattle.rule_terms.specs.Counts.{saturated}

-- what is counted of a block, by what is counted behind it
pub record Behind (bound : ℕ) (of_block : ℕ → Block → ℕ → ℕ) (first after : ℕ) (stmts : List Stmt) (i n found : ℕ) : Type 0 where
  pub within : i ≤ length stmts
  pub numbered : n + point_count (block_of (drop i stmts)) ≡ first + point_count (block_of stmts)
  pub counted : found ≡ min bound (of_block n (block_of (drop i stmts)) after)

pub behind_start : (bound : ℕ) (of_block : ℕ → Block → ℕ → ℕ) → ((n m : ℕ) → of_block n empty m ≡ m) → (first after : ℕ) (stmts : List Stmt) (i n : ℕ)
    → i ≡ length stmts → n ≡ first + point_count (block_of stmts) → after ≤ bound → Behind bound of_block first after stmts i n after
behind_start bound of_block law first after stmts i n e d h =
    let done : drop i stmts ≡ [] = drop_all i stmts (omega (arith, e)) in
    let none : point_count (block_of (drop i stmts)) ≡ 0 = ap (λ xs. point_count (block_of xs)) done in
    let behind : of_block n (block_of (drop i stmts)) after ≡ after = ap (λ xs. of_block n (block_of xs) after) done ∙ law n after in
    record { within = omega (arith, e); numbered = omega (arith, none, d); counted = omega (arith, behind, h) }

-- at a place, and behind it
pub at_place : (stmts : List Stmt) (i : ℕ) (s : Stmt) → i < length stmts → s ≡ get_or stmts i s → block_of (drop i stmts) ≡ stmt s (block_of (drop (i + 1) stmts))
at_place stmts i s h e = ap block_of (drop_more stmts i s h) ∙ ap (λ x. stmt x (block_of (drop (i + 1) stmts))) (sym e)

fewer : (stmts : List Stmt) (i : ℕ) → point_count (block_of (drop i stmts)) ≤ point_count (block_of stmts)
fewer stmts zero = omega arith
fewer [] (suc i) = omega arith
fewer (s ∷ stmts) (suc i) = omega (arith, fewer stmts i)

-- the numbers at the statement before a place
pub record Numbers (first n points count : ℕ) : Type 0 where
  pub exact : points ≡ count
  pub fits : points ≤ n
  pub room : n - points + count < 2 ^ 64

pub numbers_before : (bound : ℕ) (of_block : ℕ → Block → ℕ → ℕ) (first after : ℕ) (stmts : List Stmt) (at n found points : ℕ) (s : Stmt) → 0 < at
    → s ≡ get_or stmts (at - 1) s → points ≡ saturated (stmt_count s) → first + point_count (block_of stmts) < 2 ^ 64
    → Behind bound of_block first after stmts at n found → Numbers first n points (stmt_count s)
numbers_before bound of_block first after stmts at n found points s h e c small k =
    let next : at - 1 + 1 ≡ at = omega (arith, h) in
    let here : point_count (block_of (drop (at - 1) stmts)) ≡ stmt_count s + point_count (block_of (drop at stmts)) =
    ap point_count (at_place stmts (at - 1) s (omega (arith, h, k.within)) e) ∙ ap (λ i. stmt_count s + point_count (block_of (drop i stmts))) next in
    let numbered : n + point_count (block_of (drop at stmts)) ≡ first + point_count (block_of stmts) = k.numbered in
    let below : point_count (block_of (drop (at - 1) stmts)) ≤ point_count (block_of stmts) = fewer stmts (at - 1) in
    let small_count : stmt_count s < 2 ^ 64 = omega (arith, here, below, small) in
    let exact : points ≡ stmt_count s = omega (arith, c, small_count) in
    record {
      exact = exact;
      fits = omega (arith, exact, here, below, numbered);
      room = omega (arith, exact, here, below, numbered, small);
    }

behind_next : (bound : ℕ) (of_stmt : ℕ → Stmt → ℕ → ℕ) (of_block : ℕ → Block → ℕ → ℕ)
    → ((n : ℕ) (s : Stmt) (b : Block) (m : ℕ) → of_block n (stmt s b) m ≡ of_stmt n s (of_block (n + stmt_count s) b m))
    → ((n : ℕ) (s : Stmt) (m : ℕ) → min bound (of_stmt n s (min bound m)) ≡ min bound (of_stmt n s m))
    → (first after : ℕ) (stmts : List Stmt) (i n found : ℕ) (s : Stmt) (m more : ℕ) → i < length stmts → s ≡ get_or stmts i s
    → m + stmt_count s ≡ n → more ≡ min bound (of_stmt m s found) → Behind bound of_block first after stmts (i + 1) n found → Behind bound of_block first after stmts i m more
behind_next bound of_stmt of_block law capped first after stmts i n found s m more h e d c k =
    let place : block_of (drop i stmts) ≡ stmt s (block_of (drop (i + 1) stmts)) = at_place stmts i s h e in
    let here : point_count (block_of (drop i stmts)) ≡ stmt_count s + point_count (block_of (drop (i + 1) stmts)) = ap point_count place in
    record {
      within = omega (arith, h);
      numbered = omega (arith, here, k.numbered, d);
      counted =
          c ∙ ap (λ x. min bound (of_stmt m s x)) k.counted
          ∙ capped m s (of_block n (block_of (drop (i + 1) stmts)) after)
          ∙ ap (λ x. min bound (of_stmt m s (of_block x (block_of (drop (i + 1) stmts)) after))) (sym d)
          ∙ ap (min bound) (sym (law m s (block_of (drop (i + 1) stmts)) after))
          ∙ ap (λ b. min bound (of_block m b after)) (sym place);
    }

pub behind_before : (bound : ℕ) (of_stmt : ℕ → Stmt → ℕ → ℕ) (of_block : ℕ → Block → ℕ → ℕ)
    → ((n : ℕ) (s : Stmt) (b : Block) (m : ℕ) → of_block n (stmt s b) m ≡ of_stmt n s (of_block (n + stmt_count s) b m))
    → ((n : ℕ) (s : Stmt) (m : ℕ) → min bound (of_stmt n s (min bound m)) ≡ min bound (of_stmt n s m))
    → (first after : ℕ) (stmts : List Stmt) (at n found points more : ℕ) (s : Stmt) → 0 < at → s ≡ get_or stmts (at - 1) s
    → Numbers first n points (stmt_count s) → more ≡ min bound (of_stmt (n - points) s found) → Behind bound of_block first after stmts at n found
    → Behind bound of_block first after stmts (at - 1) (n - points) more
behind_before bound of_stmt of_block law capped first after stmts at n found points more s h e numbers c k =
    let next : at ≡ at - 1 + 1 = omega (arith, h) in
    behind_next bound of_stmt of_block law capped first after stmts (at - 1) n found s (n - points) more (omega (arith, h, k.within)) e
    (omega (arith, numbers.exact, numbers.fits)) c (subst (λ i. Behind bound of_block first after stmts i n found) next k)

pub behind_end : (bound : ℕ) (of_block : ℕ → Block → ℕ → ℕ) (first after : ℕ) (stmts : List Stmt) (i n found : ℕ) → i ≡ 0
    → Behind bound of_block first after stmts i n found → found ≡ min bound (of_block first (block_of stmts) after)
behind_end bound of_block first after stmts i n found e k =
    let same : point_count (block_of (drop i stmts)) ≡ point_count (block_of stmts) = ap (λ j. point_count (block_of (drop j stmts))) e in
    let d : n ≡ first = omega (arith, k.numbered, same) in
    k.counted ∙ (λ j. min bound (of_block (d j) (block_of (drop (e j) stmts)) after))
