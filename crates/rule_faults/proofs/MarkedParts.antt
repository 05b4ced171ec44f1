-- Marks after a walk: a walk over parts, one after another, marks what is found in one of them.
-- So each form of expression, test and statement marks what its parts mark, in their order.
use Rattle.std.proofs.Common.{◌≡◌, ◌<◌, ◌≤◌, ◌+◌, ℕ, ℤ, zero, suc, Bool, true, false, ◌||◌, List, [], ◌∷◌, length, set, drop, get_or, refl, sym, ap, ◌∙◌, arith}
use Rattle.std.proofs.Math.Bool.{or_assoc, or-false, or-true}
use Rattle.std.proofs.lemmas.Bool.Decides.{nat_tests}
use Rattle.std.proofs.lemmas.List.{drop_all}
use Rattle.std.specs.Prelude.{◌==◌}
use Rattle.toy_imp.specs.declared.name.Name.{Name}
use Rattle.toy_imp.specs.declared.name.Name.TheVariants.{Own, Par}
use Rattle.toy_imp.specs.Expr.{Expr, num, at, add, sub, mul, par_expr, Exprs, no_exprs, expr}
use Rattle.toy_imp.specs.Test.{Test, less, less_eq, equal, not_of, and_of, or_of, par_test}
use Rattle.toy_imp.specs.Block.{Stmt, skip, put, assert_that, if_then, while_do, for_to, let_in, par_stmt, Block, empty, stmt}
use Rattle.toy_imp.specs.Faults.{is_number, occurs}
use Rattle.toy_imp.specs.BlockView.{block_of}
use Rattle.toy_imp.specs.ExprView.{exprs_of}
use Rattle.toy_imp.specs.Uses.{name_use, expr_any, exprs_any, test_any, stmt_any}
use Rattle.rule_faults.specs.Marks.{marked_from, marked, number_marked, name_marked, expr_marked, exprs_marked, test_marked, stmt_marked, block_marked}

none_marked : (k : ℕ) (ms : List Bool) → marked_from k (λ j. false) ms ≡ ms
none_marked k [] = refl
none_marked k (m ∷ ms) = λ j. or-false m j ∷ none_marked (suc k) ms j

marked_twice : (k : ℕ) (p q : ℕ → Bool) (ms : List Bool) → marked_from k (λ j. p j || q j) ms ≡ marked_from k q (marked_from k p ms)
marked_twice k p q [] = refl
marked_twice k p q (m ∷ ms) = λ j. sym (or_assoc m (p k) (q k)) j ∷ marked_twice (suc k) p q ms j

-- one number, which has a place or none
number_beyond : (k n : ℕ) (ms : List Bool) → length ms + n ≤ k → marked_from n (λ j. k == j) ms ≡ ms
number_beyond k n [] h = refl
number_beyond k n (m ∷ ms) h =
    let other : (k == n) ≡ false = grind (arith, nat_tests) in
    λ j. (ap (λ b. m || b) other ∙ or-false m) j ∷ number_beyond k (suc n) ms (omega arith) j

number_before : (k n : ℕ) (ms : List Bool) → k < n → marked_from n (λ j. k == j) ms ≡ ms
number_before k n [] h = refl
number_before k n (m ∷ ms) h =
    let other : (k == n) ≡ false = grind (arith, nat_tests) in
    λ j. (ap (λ b. m || b) other ∙ or-false m) j ∷ number_before k (suc n) ms (omega arith) j

number_at : (i n : ℕ) (ms : List Bool) → i < length ms → marked_from n (λ j. (i + n) == j) ms ≡ set ms i true
number_at i n [] h = absurd (omega arith)
number_at zero n (m ∷ ms) h =
    let here : (zero + n == n) ≡ true = grind (arith, nat_tests) in
    λ j. (ap (λ b. m || b) here ∙ or-true m) j ∷ number_before (zero + n) (suc n) ms (omega arith) j
number_at (suc i) n (m ∷ ms) h =
    let other : (suc i + n == n) ≡ false = grind (arith, nat_tests) in
    let same : suc i + n ≡ i + suc n = omega arith in
    λ j. (ap (λ b. m || b) other ∙ or-false m) j ∷ (ap (λ k. marked_from (suc n) (λ j. k == j) ms) same ∙ number_at i (suc n) ms (omega arith)) j

pub number_passed : (k : ℕ) (ms : List Bool) → length ms ≤ k → number_marked k ms ≡ ms
unfolding number_marked marked
number_passed k ms h = number_beyond k 0 ms (omega arith)

pub number_set : (k : ℕ) (ms : List Bool) → k < length ms → number_marked k ms ≡ set ms k true
unfolding number_marked marked
number_set k ms h =
    let same : k ≡ k + 0 = omega arith in
    ap (λ i. marked_from 0 (λ j. i == j) ms) same ∙ number_at k 0 ms h

-- a part in which nothing is found leaves the marks as they are

pub own_marked : (x : List ℕ) (ms : List Bool) → name_marked (Own x) ms ≡ ms
unfolding name_marked marked
own_marked x ms = none_marked 0 ms

pub num_marked : (z : ℤ) (ms : List Bool) → expr_marked (num z) ms ≡ ms
unfolding expr_marked marked
num_marked z ms = none_marked 0 ms

pub no_exprs_marked : (ms : List Bool) → exprs_marked no_exprs ms ≡ ms
unfolding exprs_marked marked
no_exprs_marked ms = none_marked 0 ms

pub skip_marked : (ms : List Bool) → stmt_marked skip ms ≡ ms
unfolding stmt_marked marked
skip_marked ms = none_marked 0 ms

pub empty_marked : (ms : List Bool) → block_marked empty ms ≡ ms
unfolding block_marked marked
empty_marked ms = none_marked 0 ms

-- a parameter marks its number

pub name_par_marked : (k : ℕ) (ms : List Bool) → name_marked (Par k) ms ≡ number_marked k ms
unfolding name_marked number_marked
name_par_marked k ms = refl

pub par_expr_marked : (k : ℕ) (ms : List Bool) → expr_marked (par_expr k) ms ≡ number_marked k ms
unfolding expr_marked number_marked
par_expr_marked k ms = refl

pub par_test_marked : (k : ℕ) (ms : List Bool) → test_marked (par_test k) ms ≡ number_marked k ms
unfolding test_marked number_marked
par_test_marked k ms = refl

pub par_stmt_marked : (k : ℕ) (ms : List Bool) → stmt_marked (par_stmt k) ms ≡ number_marked k ms
unfolding stmt_marked number_marked
par_stmt_marked k ms = refl

-- expressions, part by part

pub at_marked : (x : Name) (es : Exprs) (ms : List Bool) → expr_marked (at x es) ms ≡ exprs_marked es (name_marked x ms)
unfolding expr_marked exprs_marked name_marked marked
at_marked x es ms = marked_twice 0 (λ k. is_number k (name_use x)) (λ k. exprs_any (is_number k) es) ms

pub add_marked : (a b : Expr) (ms : List Bool) → expr_marked (add a b) ms ≡ expr_marked b (expr_marked a ms)
unfolding expr_marked marked
add_marked a b ms = marked_twice 0 (λ k. expr_any (is_number k) a) (λ k. expr_any (is_number k) b) ms

pub sub_marked : (a b : Expr) (ms : List Bool) → expr_marked (sub a b) ms ≡ expr_marked b (expr_marked a ms)
unfolding expr_marked marked
sub_marked a b ms = marked_twice 0 (λ k. expr_any (is_number k) a) (λ k. expr_any (is_number k) b) ms

pub mul_marked : (a b : Expr) (ms : List Bool) → expr_marked (mul a b) ms ≡ expr_marked b (expr_marked a ms)
unfolding expr_marked marked
mul_marked a b ms = marked_twice 0 (λ k. expr_any (is_number k) a) (λ k. expr_any (is_number k) b) ms

pub exprs_part_marked : (e : Expr) (es : Exprs) (ms : List Bool) → exprs_marked (expr e es) ms ≡ exprs_marked es (expr_marked e ms)
unfolding expr_marked exprs_marked marked
exprs_part_marked e es ms = marked_twice 0 (λ k. expr_any (is_number k) e) (λ k. exprs_any (is_number k) es) ms

expr_at_marked : (items : List Expr) (i : ℕ) (d : Expr) (ms : List Bool) → i < length items
    → exprs_marked (exprs_of (drop i items)) ms ≡ exprs_marked (exprs_of (drop (suc i) items)) (expr_marked (get_or items i d) ms)
expr_at_marked [] i d ms h = absurd (omega arith)
expr_at_marked (e ∷ es) zero d ms h = exprs_part_marked e (exprs_of es) ms
expr_at_marked (e ∷ es) (suc i) d ms h = expr_at_marked es i d ms (omega arith)

pub expr_item_marked : (items : List Expr) (i : ℕ) (d : Expr) (ms : List Bool) → i < length items
    → exprs_marked (exprs_of (drop i items)) ms ≡ exprs_marked (exprs_of (drop (i + 1) items)) (expr_marked (get_or items i d) ms)
expr_item_marked items i d ms h =
    let next : suc i ≡ i + 1 = omega arith in
    expr_at_marked items i d ms h ∙ ap (λ k. exprs_marked (exprs_of (drop k items)) (expr_marked (get_or items i d) ms)) next

pub expr_items_marked : (items : List Expr) (i : ℕ) (ms : List Bool) → length items ≤ i → exprs_marked (exprs_of (drop i items)) ms ≡ ms
expr_items_marked items i ms h = ap (λ rest. exprs_marked (exprs_of rest) ms) (drop_all i items h) ∙ no_exprs_marked ms

-- tests, part by part

pub less_marked : (a b : Expr) (ms : List Bool) → test_marked (less a b) ms ≡ expr_marked b (expr_marked a ms)
unfolding test_marked expr_marked marked
less_marked a b ms = marked_twice 0 (λ k. expr_any (is_number k) a) (λ k. expr_any (is_number k) b) ms

pub less_eq_marked : (a b : Expr) (ms : List Bool) → test_marked (less_eq a b) ms ≡ expr_marked b (expr_marked a ms)
unfolding test_marked expr_marked marked
less_eq_marked a b ms = marked_twice 0 (λ k. expr_any (is_number k) a) (λ k. expr_any (is_number k) b) ms

pub equal_marked : (a b : Expr) (ms : List Bool) → test_marked (equal a b) ms ≡ expr_marked b (expr_marked a ms)
unfolding test_marked expr_marked marked
equal_marked a b ms = marked_twice 0 (λ k. expr_any (is_number k) a) (λ k. expr_any (is_number k) b) ms

pub not_marked : (t : Test) (ms : List Bool) → test_marked (not_of t) ms ≡ test_marked t ms
unfolding test_marked
not_marked t ms = refl

pub and_marked : (t u : Test) (ms : List Bool) → test_marked (and_of t u) ms ≡ test_marked u (test_marked t ms)
unfolding test_marked marked
and_marked t u ms = marked_twice 0 (λ k. test_any (is_number k) t) (λ k. test_any (is_number k) u) ms

pub or_marked : (t u : Test) (ms : List Bool) → test_marked (or_of t u) ms ≡ test_marked u (test_marked t ms)
unfolding test_marked marked
or_marked t u ms = marked_twice 0 (λ k. test_any (is_number k) t) (λ k. test_any (is_number k) u) ms

-- statements, part by part

pub put_marked : (x : Name) (is : Exprs) (e : Expr) (ms : List Bool) → stmt_marked (put x is e) ms ≡ expr_marked e (exprs_marked is (name_marked x ms))
unfolding stmt_marked expr_marked exprs_marked name_marked marked
put_marked x is e ms =
    marked_twice 0 (λ k. is_number k (name_use x)) (λ k. exprs_any (is_number k) is || expr_any (is_number k) e) ms
    ∙ marked_twice 0 (λ k. exprs_any (is_number k) is) (λ k. expr_any (is_number k) e) _

pub assert_marked : (t : Test) (ms : List Bool) → stmt_marked (assert_that t) ms ≡ test_marked t ms
unfolding stmt_marked test_marked
assert_marked t ms = refl

pub if_marked : (t : Test) (b c : Block) (ms : List Bool) → stmt_marked (if_then t b c) ms ≡ block_marked c (block_marked b (test_marked t ms))
unfolding stmt_marked block_marked test_marked marked
if_marked t b c ms =
    marked_twice 0 (λ k. test_any (is_number k) t) (λ k. occurs k b || occurs k c) ms
    ∙ marked_twice 0 (λ k. occurs k b) (λ k. occurs k c) _

pub while_marked : (t : Test) (b : Block) (ms : List Bool) → stmt_marked (while_do t b) ms ≡ block_marked b (test_marked t ms)
unfolding stmt_marked block_marked test_marked marked
while_marked t b ms = marked_twice 0 (λ k. test_any (is_number k) t) (λ k. occurs k b) ms

pub for_marked : (x : Name) (lo hi : Expr) (b : Block) (ms : List Bool)
    → stmt_marked (for_to x lo hi b) ms ≡ block_marked b (expr_marked hi (expr_marked lo (name_marked x ms)))
unfolding stmt_marked block_marked expr_marked name_marked marked
for_marked x lo hi b ms =
    marked_twice 0 (λ k. is_number k (name_use x)) (λ k. expr_any (is_number k) lo || (expr_any (is_number k) hi || occurs k b)) ms
    ∙ marked_twice 0 (λ k. expr_any (is_number k) lo) (λ k. expr_any (is_number k) hi || occurs k b) _
    ∙ marked_twice 0 (λ k. expr_any (is_number k) hi) (λ k. occurs k b) _

pub let_marked : (x : Name) (e : Expr) (b : Block) (ms : List Bool) → stmt_marked (let_in x e b) ms ≡ block_marked b (expr_marked e (name_marked x ms))
unfolding stmt_marked block_marked expr_marked name_marked marked
let_marked x e b ms =
    marked_twice 0 (λ k. is_number k (name_use x)) (λ k. expr_any (is_number k) e || occurs k b) ms
    ∙ marked_twice 0 (λ k. expr_any (is_number k) e) (λ k. occurs k b) _

pub block_part_marked : (s : Stmt) (b : Block) (ms : List Bool) → block_marked (stmt s b) ms ≡ block_marked b (stmt_marked s ms)
unfolding block_marked stmt_marked marked
block_part_marked s b ms = marked_twice 0 (λ k. stmt_any (is_number k) s) (λ k. occurs k b) ms

stmt_at_marked : (items : List Stmt) (i : ℕ) (d : Stmt) (ms : List Bool) → i < length items
    → block_marked (block_of (drop i items)) ms ≡ block_marked (block_of (drop (suc i) items)) (stmt_marked (get_or items i d) ms)
stmt_at_marked [] i d ms h = absurd (omega arith)
stmt_at_marked (s ∷ ss) zero d ms h = block_part_marked s (block_of ss) ms
stmt_at_marked (s ∷ ss) (suc i) d ms h = stmt_at_marked ss i d ms (omega arith)

pub stmt_item_marked : (items : List Stmt) (i : ℕ) (d : Stmt) (ms : List Bool) → i < length items
    → block_marked (block_of (drop i items)) ms ≡ block_marked (block_of (drop (i + 1) items)) (stmt_marked (get_or items i d) ms)
stmt_item_marked items i d ms h =
    let next : suc i ≡ i + 1 = omega arith in
    stmt_at_marked items i d ms h ∙ ap (λ k. block_marked (block_of (drop k items)) (stmt_marked (get_or items i d) ms)) next

pub stmt_items_marked : (items : List Stmt) (i : ℕ) (ms : List Bool) → length items ≤ i → block_marked (block_of (drop i items)) ms ≡ ms
stmt_items_marked items i ms h = ap (λ rest. block_marked (block_of rest) ms) (drop_all i items h) ∙ empty_marked ms
