-- A name that a block reads or writes has a place in it, and what a run touches has a name that the text reads or writes.
use Rattle.std.specs.Prelude.{◌≡◌, ℕ, Bool, true, false, ◌||◌, List, [], ◌∷◌, refl}
use Rattle.std.proofs.Common.{sym, ◌∙◌, true≢false}
use Rattle.toy_imp.specs.declared.name.Name.{Name}
use Rattle.toy_imp.specs.Cell.{Cell}
use Rattle.toy_imp.specs.Store.{Store}
use Rattle.toy_imp.specs.Expr.{Expr, num, at, add, sub, mul, par_expr, Exprs, no_exprs, expr}
use Rattle.toy_imp.specs.Test.{Test, less, less_eq, equal, not_of, and_of, or_of, par_test}
use Rattle.toy_imp.specs.Block.{Stmt, skip, put, assert_that, if_then, while_do, for_to, let_in, par_stmt, Block, empty, stmt}
use Rattle.toy_imp.specs.Run.{before}
use Rattle.side_conditions.specs.Each.{Each}
use Rattle.side_conditions.specs.Places.{expr_has, exprs_have, test_has, stmt_reads, block_reads, stmt_writes, block_writes}
use Rattle.side_conditions.specs.Seeking.{named, reads_name, writes_name}
use Rattle.side_conditions.specs.Frame.{Write, reads, writes}
use Rattle.side_conditions.specs.FrameLaws.{IsWithinText}
use Rattle.side_conditions.proofs.Framing.{each_both}
use Rattle.side_conditions.proofs.Within.{first_no, second_no, within_text}
use Rattle.swap_conditions.specs.Standing.{stmt_has, block_has}
use Rattle.swap_conditions.specs.SwapText.{touches}
use Rattle.swap_conditions.proofs.Exchanging.{cells_of, touched}

-- ---- a place of a kind that stands in a text: it is of no kind of which the text has none
pub record HasPlace (kind : Name → Exprs → Bool) (has : (Name → Exprs → Bool) → Bool) : Type 0 where
  pub name : Name
  pub indices : Exprs
  pub is : kind name indices ≡ true
  pub stands : (other : Name → Exprs → Bool) → has other ≡ false → other name indices ≡ false

or_place : {A : Type 0} (a b : Bool) → (a || b) ≡ true → (a ≡ true → A) → (b ≡ true → A) → A
or_place true b e f g = f refl
or_place false b e f g = g e

module _ (kind : Name → Exprs → Bool) where
  here : (x : Name) (es : Exprs) → kind x es ≡ true → HasPlace kind (λ k. k x es)
  here x es e = record { name = x; indices = es; is = e; stands = λ k none. none }

  -- in a text of two parts
  of_parts : (f g : (Name → Exprs → Bool) → Bool) → (f kind || g kind) ≡ true → (f kind ≡ true → HasPlace kind f) → (g kind ≡ true → HasPlace kind g) → HasPlace kind (λ k. f k || g k)
  of_parts f g e first second =
      or_place (f kind) (g kind) e
      (λ h. let p : HasPlace kind f = first h in record { name = p.name; indices = p.indices; is = p.is; stands = λ k none. p.stands k (first_no (f k) (g k) none) })
      (λ h. let p : HasPlace kind g = second h in record { name = p.name; indices = p.indices; is = p.is; stands = λ k none. p.stands k (second_no (f k) (g k) none) })

  mutual
    expr_place : (e : Expr) → expr_has kind e ≡ true → HasPlace kind (λ k. expr_has k e)
    expr_place (num z) h = absurd (true≢false (sym h))
    expr_place (at x es) h = of_parts (λ k. k x es) (λ k. exprs_have k es) h (here x es) (exprs_place es)
    expr_place (add a b) h = of_parts (λ k. expr_has k a) (λ k. expr_has k b) h (expr_place a) (expr_place b)
    expr_place (sub a b) h = of_parts (λ k. expr_has k a) (λ k. expr_has k b) h (expr_place a) (expr_place b)
    expr_place (mul a b) h = of_parts (λ k. expr_has k a) (λ k. expr_has k b) h (expr_place a) (expr_place b)
    expr_place (par_expr j) h = absurd (true≢false (sym h))

    exprs_place : (es : Exprs) → exprs_have kind es ≡ true → HasPlace kind (λ k. exprs_have k es)
    exprs_place no_exprs h = absurd (true≢false (sym h))
    exprs_place (expr e es) h = of_parts (λ k. expr_has k e) (λ k. exprs_have k es) h (expr_place e) (exprs_place es)

  test_place : (t : Test) → test_has kind t ≡ true → HasPlace kind (λ k. test_has k t)
  test_place (less a b) h = of_parts (λ k. expr_has k a) (λ k. expr_has k b) h (expr_place a) (expr_place b)
  test_place (less_eq a b) h = of_parts (λ k. expr_has k a) (λ k. expr_has k b) h (expr_place a) (expr_place b)
  test_place (equal a b) h = of_parts (λ k. expr_has k a) (λ k. expr_has k b) h (expr_place a) (expr_place b)
  test_place (not_of t) h = test_place t h
  test_place (and_of t u) h = of_parts (λ k. test_has k t) (λ k. test_has k u) h (test_place t) (test_place u)
  test_place (or_of t u) h = of_parts (λ k. test_has k t) (λ k. test_has k u) h (test_place t) (test_place u)
  test_place (par_test j) h = absurd (true≢false (sym h))

  mutual
    stmt_place : (s : Stmt) → stmt_has kind s ≡ true → HasPlace kind (λ k. stmt_has k s)
    stmt_place skip h = absurd (true≢false (sym h))
    stmt_place (put x is a) h =
        of_parts (λ k. k x is) (λ k. exprs_have k is || expr_has k a) h (here x is)
        (λ r. of_parts (λ k. exprs_have k is) (λ k. expr_has k a) r (exprs_place is) (expr_place a))
    stmt_place (assert_that t) h = test_place t h
    stmt_place (if_then t b c) h =
        of_parts (λ k. test_has k t) (λ k. block_has k b || block_has k c) h (test_place t)
        (λ r. of_parts (λ k. block_has k b) (λ k. block_has k c) r (has_place b) (has_place c))
    stmt_place (while_do t b) h = of_parts (λ k. test_has k t) (λ k. block_has k b) h (test_place t) (has_place b)
    stmt_place (for_to x lo hi b) h =
        of_parts (λ k. k x no_exprs) (λ k. expr_has k lo || (expr_has k hi || block_has k b)) h (here x no_exprs)
        (λ r. of_parts (λ k. expr_has k lo) (λ k. expr_has k hi || block_has k b) r (expr_place lo)
        (λ q. of_parts (λ k. expr_has k hi) (λ k. block_has k b) q (expr_place hi) (has_place b)))
    stmt_place (let_in x a b) h =
        of_parts (λ k. k x no_exprs) (λ k. expr_has k a || block_has k b) h (here x no_exprs)
        (λ r. of_parts (λ k. expr_has k a) (λ k. block_has k b) r (expr_place a) (has_place b))
    stmt_place (par_stmt j) h = absurd (true≢false (sym h))

    pub has_place : (b : Block) → block_has kind b ≡ true → HasPlace kind (λ k. block_has k b)
    has_place empty h = absurd (true≢false (sym h))
    has_place (stmt s b) h = of_parts (λ k. stmt_has k s) (λ k. block_has k b) h (stmt_place s) (has_place b)

-- ---- a block in which no place is of a kind neither reads nor writes at one
neither : (a b : Bool) → a ≡ false → b ≡ false → (a || b) ≡ false
neither true b e f = absurd (true≢false e)
neither false b e f = f

module _ (kind : Name → Exprs → Bool) where
  mutual
    stmt_reads_none : (s : Stmt) → stmt_has kind s ≡ false → stmt_reads kind s ≡ false
    stmt_reads_none skip e = refl
    stmt_reads_none (put x is a) e = second_no (kind x is) _ e
    stmt_reads_none (assert_that t) e = e
    stmt_reads_none (if_then t b c) e =
        let rest : (block_has kind b || block_has kind c) ≡ false = second_no (test_has kind t) _ e in
        neither _ _ (first_no _ _ e) (neither _ _ (reads_none b (first_no _ _ rest)) (reads_none c (second_no _ _ rest)))
    stmt_reads_none (while_do t b) e = neither _ _ (first_no _ _ e) (reads_none b (second_no _ _ e))
    stmt_reads_none (for_to x lo hi b) e =
        let rest : (expr_has kind lo || (expr_has kind hi || block_has kind b)) ≡ false = second_no (kind x no_exprs) _ e in
        let last : (expr_has kind hi || block_has kind b) ≡ false = second_no (expr_has kind lo) _ rest in
        neither _ _ (first_no _ _ rest) (neither _ _ (first_no _ _ last) (reads_none b (second_no _ _ last)))
    stmt_reads_none (let_in x a b) e =
        let rest : (expr_has kind a || block_has kind b) ≡ false = second_no (kind x no_exprs) _ e in
        neither _ _ (first_no _ _ rest) (reads_none b (second_no _ _ rest))
    stmt_reads_none (par_stmt j) e = refl

    pub reads_none : (b : Block) → block_has kind b ≡ false → block_reads kind b ≡ false
    reads_none empty e = refl
    reads_none (stmt s b) e = neither _ _ (stmt_reads_none s (first_no _ _ e)) (reads_none b (second_no _ _ e))

  mutual
    stmt_writes_none : (s : Stmt) → stmt_has kind s ≡ false → stmt_writes kind s ≡ false
    stmt_writes_none skip e = refl
    stmt_writes_none (put x is a) e = first_no _ _ e
    stmt_writes_none (assert_that t) e = refl
    stmt_writes_none (if_then t b c) e =
        let rest : (block_has kind b || block_has kind c) ≡ false = second_no (test_has kind t) _ e in
        neither _ _ (writes_none b (first_no _ _ rest)) (writes_none c (second_no _ _ rest))
    stmt_writes_none (while_do t b) e = writes_none b (second_no _ _ e)
    stmt_writes_none (for_to x lo hi b) e =
        let rest : (expr_has kind lo || (expr_has kind hi || block_has kind b)) ≡ false = second_no (kind x no_exprs) _ e in
        neither _ _ (first_no _ _ e) (writes_none b (second_no _ _ (second_no (expr_has kind lo) _ rest)))
    stmt_writes_none (let_in x a b) e =
        let rest : (expr_has kind a || block_has kind b) ≡ false = second_no (kind x no_exprs) _ e in
        neither _ _ (first_no _ _ e) (writes_none b (second_no _ _ rest))
    stmt_writes_none (par_stmt j) e = refl

    pub writes_none : (b : Block) → block_has kind b ≡ false → block_writes kind b ≡ false
    writes_none empty e = refl
    writes_none (stmt s b) e = neither _ _ (stmt_writes_none s (first_no _ _ e)) (writes_none b (second_no _ _ e))

pub touches_none : (b : Block) (z : List ℕ) → block_has (named z) b ≡ false → touches b z ≡ false
touches_none b z e = neither _ _ (reads_none (named z) b e) (writes_none (named z) b e)

-- so a name that is read or written has a place
true_or : {A : Type 0} (b : Bool) → (b ≡ true → A) → (b ≡ false → ⊥) → A
true_or true f g = f refl
true_or false f g = absurd (g refl)

pub touched_place : (b : Block) (z : List ℕ) → touches b z ≡ true → HasPlace (named z) (λ k. block_has k b)
touched_place b z e = true_or (block_has (named z) b) (has_place (named z) b) (λ none. true≢false (sym e ∙ touches_none b z none))

-- ---- what a run touches
or_second : (a b : Bool) → b ≡ true → (a || b) ≡ true
or_second true b e = refl
or_second false b e = e

written_touch : (b : Block) (ws : List Write) → Each (λ (w : Write). writes_name b w.0.0 ≡ true) ws → Each (λ (c : Cell). touches b c.0 ≡ true) (cells_of ws)
written_touch b [] h = tt
written_touch b (w ∷ ws) h = (or_second (reads_name b w.0.0) _ h.0, written_touch b ws h.1)

pub touched_names : (b : Block) (n : ℕ) (s : Store) → Each (λ (c : Cell). touches b c.0 ≡ true) (touched n b s)
touched_names b n s =
    let text : IsWithinText b n s = within_text b n s in
    each_both (λ (c : Cell). touches b c.0 ≡ true) (reads n (before b []) s) (cells_of (writes n (before b []) s)) text.read_names (written_touch b _ text.written_names)

pub written_names : (b : Block) (n : ℕ) (s : Store) → Each (λ (w : Write). writes_name b w.0.0 ≡ true) (writes n (before b []) s)
written_names b n s = let text : IsWithinText b n s = within_text b n s in text.written_names
