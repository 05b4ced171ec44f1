-- The cells of a name that a run of a block touches, where all places of the name in its text are good. A counter that the block
-- does not write keeps its number through the run, so what a good place says of its indices' values holds of every such cell.
use Rattle.std.specs.Prelude.{◌≡◌, ◌≢◌, ℕ, zero, suc, ℤ, pos, Bool, true, false, cond, not, ◌&&◌, ◌||◌, ◌+ℤ◌, List, [], ◌∷◌, int_lt, bytes_eq, refl}
use Rattle.std.proofs.Common.{sym, ◌∙◌, ap, true≢false}
use Rattle.std.proofs.lemmas.Slice.Eq.{bytes_eq-Decides}
use Rattle.toy_imp.specs.declared.name.Name.{Name}
use Rattle.toy_imp.specs.Cell.{Cell, spelled, variable}
use Rattle.toy_imp.specs.Store.{Store, read, write}
use Rattle.toy_imp.specs.Value.{value, values}
use Rattle.toy_imp.specs.Truth.{truth}
use Rattle.toy_imp.specs.Expr.{Expr, num, at, add, sub, mul, par_expr, Exprs, no_exprs, expr}
use Rattle.toy_imp.specs.Test.{Test, less, less_eq, equal, not_of, and_of, or_of, par_test}
use Rattle.toy_imp.specs.Block.{skip, put, assert_that, if_then, while_do, for_to, let_in, par_stmt, Block, empty, stmt}
use Rattle.toy_imp.specs.Run.{Item, act, turns, restore, halt, before, step}
use Rattle.toy_imp.proofs.Stores.{write_keeps_others}
use Rattle.side_conditions.specs.Each.{Each}
use Rattle.side_conditions.specs.Places.{expr_has, exprs_have, test_has, stmt_writes, block_writes}
use Rattle.side_conditions.specs.Seeking.{named, writes_name}
use Rattle.side_conditions.specs.Frame.{Write, expr_cells, exprs_cells, test_cells, step_reads, step_writes, reads, writes}
use Rattle.side_conditions.proofs.Framing.{each_both}
use Rattle.side_conditions.proofs.Within.{first_no, second_no}
use Rattle.swap_conditions.specs.Standing.{stmt_has, block_has, every_place}
use Rattle.swap_conditions.proofs.Exchanging.{cells_of, touched}

pub yes_of : (n g : Bool) → n ≡ true → (n && not g) ≡ false → g ≡ true
yes_of true true e h = refl
yes_of true false e h = absurd (true≢false h)
yes_of false g e h = absurd (true≢false (sym e))

pub no_of : (a : Bool) → not a ≡ true → a ≡ false
no_of true e = absurd (true≢false (sym e))
no_of false e = refl

other_name : (x k : List ℕ) → bytes_eq x k ≡ false → x ≢ k
other_name x k e p = true≢false (sym ((bytes_eq-Decides x k).1 p) ∙ e)

module _ (z k : List ℕ) (v : ℤ) (good : Exprs → Bool) (Good : List ℤ → Type 0)
    (sound : (es : Exprs) (s : Store) → read s (k, []) ≡ v → good es ≡ true → Good (values es s)) where
  bad : Name → Exprs → Bool
  bad x es = named z x es && not (good es)

  IsGood : Cell → Type 0
  IsGood c = c.0 ≡ z → Good c.1

  WrittenGood : Write → Type 0
  WrittenGood w = IsGood w.0

  Holds : Store → Type 0
  Holds s = read s (k, []) ≡ v

  cell_good : (x : Name) (es : Exprs) (s : Store) → Holds s → bad x es ≡ false → IsGood (spelled x, values es s)
  unfolding bad IsGood Holds
  cell_good x es s h e = λ same. sound es s h (yes_of _ (good es) ((bytes_eq-Decides (spelled x) z).1 same) e)

  variable_good : (x : Name) (s : Store) → Holds s → bad x no_exprs ≡ false → IsGood (variable x)
  unfolding values
  variable_good x s h e = cell_good x no_exprs s h e

  -- ---- evaluation
  mutual
    expr_good : (e : Expr) (s : Store) → Holds s → expr_has bad e ≡ false → Each IsGood (expr_cells e s)
    expr_good (num n) s h e = tt
    expr_good (at x es) s h e = each_both IsGood (exprs_cells es s) _ (exprs_good es s h (second_no _ _ e)) (cell_good x es s h (first_no _ _ e), tt)
    expr_good (add a b) s h e = each_both IsGood (expr_cells a s) (expr_cells b s) (expr_good a s h (first_no _ _ e)) (expr_good b s h (second_no _ _ e))
    expr_good (sub a b) s h e = each_both IsGood (expr_cells a s) (expr_cells b s) (expr_good a s h (first_no _ _ e)) (expr_good b s h (second_no _ _ e))
    expr_good (mul a b) s h e = each_both IsGood (expr_cells a s) (expr_cells b s) (expr_good a s h (first_no _ _ e)) (expr_good b s h (second_no _ _ e))
    expr_good (par_expr j) s h e = tt

    exprs_good : (es : Exprs) (s : Store) → Holds s → exprs_have bad es ≡ false → Each IsGood (exprs_cells es s)
    exprs_good no_exprs s h e = tt
    exprs_good (expr a es) s h e = each_both IsGood (expr_cells a s) (exprs_cells es s) (expr_good a s h (first_no _ _ e)) (exprs_good es s h (second_no _ _ e))

  test_good : (t : Test) (s : Store) → Holds s → test_has bad t ≡ false → Each IsGood (test_cells t s)
  test_good (less a b) s h e = each_both IsGood (expr_cells a s) (expr_cells b s) (expr_good a s h (first_no _ _ e)) (expr_good b s h (second_no _ _ e))
  test_good (less_eq a b) s h e = each_both IsGood (expr_cells a s) (expr_cells b s) (expr_good a s h (first_no _ _ e)) (expr_good b s h (second_no _ _ e))
  test_good (equal a b) s h e = each_both IsGood (expr_cells a s) (expr_cells b s) (expr_good a s h (first_no _ _ e)) (expr_good b s h (second_no _ _ e))
  test_good (not_of t) s h e = test_good t s h e
  test_good (and_of t u) s h e = each_both IsGood (test_cells t s) (test_cells u s) (test_good t s h (first_no _ _ e)) (test_good u s h (second_no _ _ e))
  test_good (or_of t u) s h e = each_both IsGood (test_cells t s) (test_cells u s) (test_good t s h (first_no _ _ e)) (test_good u s h (second_no _ _ e))
  test_good (par_test j) s h e = tt

  -- ---- the work that a run comes to: no bad place in it, and no write of the counter
  IsClean : Item → Type 0
  IsClean (act a) = (stmt_has bad a ≡ false) × (stmt_writes (named k) a ≡ false)
  IsClean (turns x j hi b) = (bad x no_exprs ≡ false) × (block_has bad b ≡ false) × (bytes_eq (spelled x) k ≡ false) × (block_writes (named k) b ≡ false)
  IsClean (restore x w) = (bad x no_exprs ≡ false) × (bytes_eq (spelled x) k ≡ false)
  IsClean halt = Unit {0}

  block_clean : (b : Block) (work : List Item) → block_has bad b ≡ false → block_writes (named k) b ≡ false → Each IsClean work → Each IsClean (before b work)
  unfolding IsClean
  block_clean empty work e f w = w
  block_clean (stmt a b) work e f w = ((first_no _ _ e, first_no _ _ f), block_clean b work (second_no _ _ e) (second_no _ _ f) w)

  either : (b : Bool) (u w : List Item) → Each IsClean u → Each IsClean w → Each IsClean (cond b u w)
  either true u w e f = e
  either false u w e f = f

  step_clean : (item : Item) (s : Store) (work : List Item) → IsClean item → Each IsClean work → Each IsClean ((step item s work).work)
  unfolding step IsClean
  step_clean (act skip) s work e w = w
  step_clean (act (put x is a)) s work e w = w
  step_clean (act (assert_that t)) s work e w = either (truth t s) work (halt ∷ work) w (tt, w)
  step_clean (act (if_then t b c)) s work e w =
      let inside : (block_has bad b || block_has bad c) ≡ false = second_no (test_has bad t) _ e.0 in
      either (truth t s) _ _ (block_clean b work (first_no _ _ inside) (first_no _ _ e.1) w) (block_clean c work (second_no _ _ inside) (second_no _ _ e.1) w)
  step_clean (act (while_do t b)) s work e w = either (truth t s) _ _ (block_clean b (act (while_do t b) ∷ work) (second_no _ _ e.0) e.1 (e, w)) w
  step_clean (act (for_to x lo hi b)) s work e w =
      let parts : (expr_has bad lo || (expr_has bad hi || block_has bad b)) ≡ false = second_no (bad x no_exprs) _ e.0 in
      let inside : (expr_has bad hi || block_has bad b) ≡ false = second_no (expr_has bad lo) _ parts in
      let set : bad x no_exprs ≡ false = first_no _ _ e.0 in
      ((set, second_no _ _ inside, first_no _ _ e.1, second_no _ _ e.1), ((set, first_no _ _ e.1), w))
  step_clean (act (let_in x a b)) s work e w =
      let parts : (expr_has bad a || block_has bad b) ≡ false = second_no (bad x no_exprs) _ e.0 in
      block_clean b _ (second_no _ _ parts) (second_no _ _ e.1) ((first_no _ _ e.0, first_no _ _ e.1), w)
  step_clean (act (par_stmt j)) s work e w = (e, w)
  step_clean (turns x j hi b) s work e w = either (int_lt j hi) _ _ (block_clean b (turns x (j +ℤ pos 1) hi b ∷ work) e.1 e.3 (e, w)) w
  step_clean (restore x j) s work e w = w
  step_clean halt s work e w = (e, w)

  -- ---- what a step reads and writes
  step_reads_good : (item : Item) (s : Store) → Holds s → IsClean item → Each IsGood (step_reads item s)
  unfolding IsClean
  step_reads_good (act skip) s h e = tt
  step_reads_good (act (put x is a)) s h e =
      let parts : (exprs_have bad is || expr_has bad a) ≡ false = second_no (bad x is) _ e.0 in
      each_both IsGood (exprs_cells is s) (expr_cells a s) (exprs_good is s h (first_no _ _ parts)) (expr_good a s h (second_no _ _ parts))
  step_reads_good (act (assert_that t)) s h e = test_good t s h e.0
  step_reads_good (act (if_then t b c)) s h e = test_good t s h (first_no _ _ e.0)
  step_reads_good (act (while_do t b)) s h e = test_good t s h (first_no _ _ e.0)
  step_reads_good (act (for_to x lo hi b)) s h e =
      let parts : (expr_has bad lo || (expr_has bad hi || block_has bad b)) ≡ false = second_no (bad x no_exprs) _ e.0 in
      let inside : (expr_has bad hi || block_has bad b) ≡ false = second_no (expr_has bad lo) _ parts in
      each_both IsGood (expr_cells lo s) _ (expr_good lo s h (first_no _ _ parts))
      (each_both IsGood (expr_cells hi s) (variable x ∷ []) (expr_good hi s h (first_no _ _ inside)) (variable_good x s h (first_no _ _ e.0), tt))
  step_reads_good (act (let_in x a b)) s h e =
      let parts : (expr_has bad a || block_has bad b) ≡ false = second_no (bad x no_exprs) _ e.0 in
      each_both IsGood (expr_cells a s) (variable x ∷ []) (expr_good a s h (first_no _ _ parts)) (variable_good x s h (first_no _ _ e.0), tt)
  step_reads_good (act (par_stmt j)) s h e = tt
  step_reads_good (turns x j hi b) s h e = tt
  step_reads_good (restore x j) s h e = tt
  step_reads_good halt s h e = tt

  one_or_none : (b : Bool) (w : Write) → IsGood w.0 → Each WrittenGood (cond b (w ∷ []) [])
  unfolding WrittenGood
  one_or_none true w h = (h, tt)
  one_or_none false w h = tt

  step_writes_good : (item : Item) (s : Store) → Holds s → IsClean item → Each WrittenGood (step_writes item s)
  unfolding IsClean WrittenGood
  step_writes_good (act skip) s h e = tt
  step_writes_good (act (put x is a)) s h e = (cell_good x is s h (first_no _ _ e.0), tt)
  step_writes_good (act (assert_that t)) s h e = tt
  step_writes_good (act (if_then t b c)) s h e = tt
  step_writes_good (act (while_do t b)) s h e = tt
  step_writes_good (act (for_to x lo hi b)) s h e = tt
  step_writes_good (act (let_in x a b)) s h e = (variable_good x s h (first_no _ _ e.0), tt)
  step_writes_good (act (par_stmt j)) s h e = tt
  step_writes_good (turns x j hi b) s h e = one_or_none (int_lt j hi) (variable x, j) (variable_good x s h e.0)
  step_writes_good (restore x j) s h e = (variable_good x s h e.0, tt)
  step_writes_good halt s h e = tt

  -- .. and the counter keeps its number
  written_aside : (x : Name) (is : List ℤ) (j : ℤ) (s : Store) → bytes_eq (spelled x) k ≡ false → Holds s → Holds (write s (spelled x, is) j)
  unfolding Holds
  written_aside x is j s e h = write_keeps_others s (spelled x, is) j (k, []) (λ same. other_name (spelled x) k e (sym (ap (λ (c : Cell). c.0) same))) ∙ h

  either_holds : (b : Bool) (s t : Store) → Holds s → Holds t → Holds (cond b s t)
  either_holds true s t h g = h
  either_holds false s t h g = g

  step_holds : (item : Item) (s : Store) (work : List Item) → Holds s → IsClean item → Holds ((step item s work).store)
  unfolding step IsClean
  step_holds (act skip) s work h e = h
  step_holds (act (put x is a)) s work h e = written_aside x (values is s) (value a s) s e.1 h
  step_holds (act (assert_that t)) s work h e = h
  step_holds (act (if_then t b c)) s work h e = h
  step_holds (act (while_do t b)) s work h e = h
  step_holds (act (for_to x lo hi b)) s work h e = h
  step_holds (act (let_in x a b)) s work h e = written_aside x [] (value a s) s (first_no _ _ e.1) h
  step_holds (act (par_stmt j)) s work h e = h
  step_holds (turns x j hi b) s work h e = either_holds (int_lt j hi) (write s (variable x) j) s (written_aside x [] j s e.2 h) h
  step_holds (restore x j) s work h e = written_aside x [] j s e.1 h
  step_holds halt s work h e = h

  -- ---- what a run reads and writes
  reads_good : (n : ℕ) (work : List Item) (s : Store) → Holds s → Each IsClean work → Each IsGood (reads n work s)
  reads_good n [] s h w = tt
  reads_good zero (item ∷ work) s h w = tt
  reads_good (suc n) (item ∷ work) s h w =
      each_both IsGood (step_reads item s) _ (step_reads_good item s h w.0) (reads_good n _ _ (step_holds item s work h w.0) (step_clean item s work w.0 w.1))

  writes_good : (n : ℕ) (work : List Item) (s : Store) → Holds s → Each IsClean work → Each WrittenGood (writes n work s)
  writes_good n [] s h w = tt
  writes_good zero (item ∷ work) s h w = tt
  writes_good (suc n) (item ∷ work) s h w =
      each_both WrittenGood (step_writes item s) _ (step_writes_good item s h w.0) (writes_good n _ _ (step_holds item s work h w.0) (step_clean item s work w.0 w.1))

  as_cells : (ws : List Write) → Each WrittenGood ws → Each IsGood (cells_of ws)
  unfolding WrittenGood
  as_cells [] h = tt
  as_cells (w ∷ ws) h = (h.0, as_cells ws h.1)

  pub touched_good : (b : Block) → every_place z good b ≡ true → writes_name b k ≡ false → (n : ℕ) (s : Store) → read s (k, []) ≡ v
      → Each (λ (c : Cell). c.0 ≡ z → Good c.1) (touched n b s)
  unfolding Holds IsGood bad
  touched_good b e f n s h =
      let clean : Each IsClean (before b []) = block_clean b [] (no_of _ e) f tt in
      each_both IsGood (reads n (before b []) s) _ (reads_good n (before b []) s h clean) (as_cells (writes n (before b []) s) (writes_good n (before b []) s h clean))
