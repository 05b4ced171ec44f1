-- What a run reads and writes is within the names of its text: every item of the work that a run comes to is made of the text's parts.
use Rattle.std.specs.Prelude.{◌≡◌, ◌≢◌, ◌⊎◌, ℕ, zero, suc, pos, Bool, true, false, cond, ◌||◌, ◌+ℤ◌, List, [], ◌∷◌, int_lt, bytes_eq, refl}
use Rattle.std.proofs.Common.{sym, ◌∙◌, subst, inl, inr, true≢false}
use Rattle.std.proofs.lemmas.Slice.Eq.{bytes_eq-Decides}
use Rattle.toy_imp.specs.Cell.{Cell, spelled, variable}
use Rattle.toy_imp.specs.Store.{Store}
use Rattle.toy_imp.specs.Truth.{truth}
use Rattle.toy_imp.specs.Expr.{Expr, num, at, add, sub, mul, par_expr, Exprs, no_exprs, expr}
use Rattle.toy_imp.specs.Test.{Test, less, less_eq, equal, not_of, and_of, or_of, par_test}
use Rattle.toy_imp.specs.Block.{skip, put, assert_that, if_then, while_do, for_to, let_in, par_stmt, Block, empty, stmt}
use Rattle.toy_imp.specs.Run.{Item, act, turns, restore, halt, before, step}
use Rattle.side_conditions.specs.Each.{Each}
use Rattle.side_conditions.specs.Places.{expr_has, exprs_have, test_has, stmt_reads, block_reads, stmt_writes, block_writes}
use Rattle.side_conditions.specs.Seeking.{named, reads_name, writes_name}
use Rattle.side_conditions.specs.Frame.{Write, expr_cells, exprs_cells, test_cells, step_reads, step_writes, reads, writes}
use Rattle.side_conditions.specs.FrameLaws.{WithinText}
use Rattle.side_conditions.proofs.Framing.{each_both}

pub first_no : (a b : Bool) → (a || b) ≡ false → a ≡ false
first_no true b e = cc
first_no false b e = refl

pub second_no : (a b : Bool) → (a || b) ≡ false → b ≡ false
second_no true b e = cc
second_no false b e = e

module _ (z : List ℕ) where
  apart_name : (x : List ℕ) → bytes_eq x z ≡ false → x ≢ z
  apart_name x e p = true≢false (sym ((bytes_eq-Decides x z).1 p) ∙ e)

  -- a cell of another name
  Other : Cell → Type 0
  Other c = c.0 ≢ z

  OtherWritten : Write → Type 0
  OtherWritten w = w.0.0 ≢ z

  -- ---- evaluation
  mutual
    unfolding Other

    expr_other : (e : Expr) (s : Store) → expr_has (named z) e ≡ false → Each Other (expr_cells e s)
    expr_other (num k) s h = tt
    expr_other (at x es) s h = each_both Other (exprs_cells es s) _ (exprs_other es s (second_no _ _ h)) (apart_name (spelled x) (first_no _ _ h), tt)
    expr_other (add a b) s h = each_both Other (expr_cells a s) (expr_cells b s) (expr_other a s (first_no _ _ h)) (expr_other b s (second_no _ _ h))
    expr_other (sub a b) s h = each_both Other (expr_cells a s) (expr_cells b s) (expr_other a s (first_no _ _ h)) (expr_other b s (second_no _ _ h))
    expr_other (mul a b) s h = each_both Other (expr_cells a s) (expr_cells b s) (expr_other a s (first_no _ _ h)) (expr_other b s (second_no _ _ h))
    expr_other (par_expr k) s h = tt

    exprs_other : (es : Exprs) (s : Store) → exprs_have (named z) es ≡ false → Each Other (exprs_cells es s)
    exprs_other no_exprs s h = tt
    exprs_other (expr e es) s h = each_both Other (expr_cells e s) (exprs_cells es s) (expr_other e s (first_no _ _ h)) (exprs_other es s (second_no _ _ h))

  test_other : (t : Test) (s : Store) → test_has (named z) t ≡ false → Each Other (test_cells t s)
  test_other (less a b) s h = each_both Other (expr_cells a s) (expr_cells b s) (expr_other a s (first_no _ _ h)) (expr_other b s (second_no _ _ h))
  test_other (less_eq a b) s h = each_both Other (expr_cells a s) (expr_cells b s) (expr_other a s (first_no _ _ h)) (expr_other b s (second_no _ _ h))
  test_other (equal a b) s h = each_both Other (expr_cells a s) (expr_cells b s) (expr_other a s (first_no _ _ h)) (expr_other b s (second_no _ _ h))
  test_other (not_of t) s h = test_other t s h
  test_other (and_of t u) s h = each_both Other (test_cells t s) (test_cells u s) (test_other t s (first_no _ _ h)) (test_other u s (second_no _ _ h))
  test_other (or_of t u) s h = each_both Other (test_cells t s) (test_cells u s) (test_other t s (first_no _ _ h)) (test_other u s (second_no _ _ h))
  test_other (par_test k) s h = tt

  pub expr_apart : (e : Expr) (s : Store) → expr_has (named z) e ≡ false → Each (λ (c : Cell). c.0 ≢ z) (expr_cells e s)
  unfolding Other
  expr_apart e s h = expr_other e s h

  pub test_apart : (t : Test) (s : Store) → test_has (named z) t ≡ false → Each (λ (c : Cell). c.0 ≢ z) (test_cells t s)
  unfolding Other
  test_apart t s h = test_other t s h

  -- ---- the writes: no item of the work writes the name
  NotWrittenBy : Item → Type 0
  NotWrittenBy (act a) = stmt_writes (named z) a ≡ false
  NotWrittenBy (turns x k hi b) = (bytes_eq (spelled x) z ≡ false) × (block_writes (named z) b ≡ false)
  NotWrittenBy (restore x v) = bytes_eq (spelled x) z ≡ false
  NotWrittenBy halt = Unit {0}

  block_not_written : (b : Block) (work : List Item) → block_writes (named z) b ≡ false → Each NotWrittenBy work → Each NotWrittenBy (before b work)
  unfolding NotWrittenBy
  block_not_written empty work h k = k
  block_not_written (stmt a b) work h k = (first_no _ _ h, block_not_written b work (second_no _ _ h) k)

  either : (P : Item → Type 0) (b : Bool) (u w : List Item) → Each P u → Each P w → Each P (cond b u w)
  either P true u w h k = h
  either P false u w h k = k

  step_not_written : (item : Item) (s : Store) (work : List Item) → NotWrittenBy item → Each NotWrittenBy work → Each NotWrittenBy ((step item s work).work)
  unfolding step NotWrittenBy
  step_not_written (act skip) s work h k = k
  step_not_written (act (put x is e)) s work h k = k
  step_not_written (act (assert_that t)) s work h k = either NotWrittenBy (truth t s) work (halt ∷ work) k (tt, k)
  step_not_written (act (if_then t b c)) s work h k = either NotWrittenBy (truth t s) _ _ (block_not_written b work (first_no _ _ h) k) (block_not_written c work (second_no _ _ h) k)
  step_not_written (act (while_do t b)) s work h k = either NotWrittenBy (truth t s) _ _ (block_not_written b (act (while_do t b) ∷ work) h (h, k)) k
  step_not_written (act (for_to x lo hi b)) s work h k = ((first_no _ _ h, second_no _ _ h), (first_no _ _ h, k))
  step_not_written (act (let_in x e b)) s work h k = block_not_written b _ (second_no _ _ h) (first_no _ _ h, k)
  step_not_written (act (par_stmt j)) s work h k = (h, k)
  step_not_written (turns x j hi b) s work h k = either NotWrittenBy (int_lt j hi) _ _ (block_not_written b (turns x (j +ℤ pos 1) hi b ∷ work) h.1 (h, k)) k
  step_not_written (restore x v) s work h k = k
  step_not_written halt s work h k = (h, k)

  one_or_none : (b : Bool) (w : Write) → OtherWritten w → Each OtherWritten (cond b (w ∷ []) [])
  one_or_none true w h = (h, tt)
  one_or_none false w h = tt

  step_writes_other : (item : Item) (s : Store) → NotWrittenBy item → Each OtherWritten (step_writes item s)
  unfolding NotWrittenBy OtherWritten
  step_writes_other (act skip) s h = tt
  step_writes_other (act (put x is e)) s h = (apart_name (spelled x) h, tt)
  step_writes_other (act (assert_that t)) s h = tt
  step_writes_other (act (if_then t b c)) s h = tt
  step_writes_other (act (while_do t b)) s h = tt
  step_writes_other (act (for_to x lo hi b)) s h = tt
  step_writes_other (act (let_in x e b)) s h = (apart_name (spelled x) (first_no _ _ h), tt)
  step_writes_other (act (par_stmt j)) s h = tt
  step_writes_other (turns x j hi b) s h = one_or_none (int_lt j hi) (variable x, j) (apart_name (spelled x) h.0)
  step_writes_other (restore x v) s h = (apart_name (spelled x) h, tt)
  step_writes_other halt s h = tt

  writes_other : (n : ℕ) (work : List Item) (s : Store) → Each NotWrittenBy work → Each OtherWritten (writes n work s)
  writes_other n [] s h = tt
  writes_other zero (item ∷ work) s h = tt
  writes_other (suc n) (item ∷ work) s h =
      each_both OtherWritten (step_writes item s) _ (step_writes_other item s h.0) (writes_other n _ _ (step_not_written item s work h.0 h.1))

  pub block_writes_other : (b : Block) (n : ℕ) (s : Store) → writes_name b z ≡ false → Each (λ (w : Write). w.0.0 ≢ z) (writes n (before b []) s)
  unfolding OtherWritten
  block_writes_other b n s h = writes_other n (before b []) s (block_not_written b [] h tt)

  -- ---- the reads: nor does it read it or set it
  NotReadBy : Item → Type 0
  NotReadBy (act a) = (stmt_reads (named z) a ≡ false) × (stmt_writes (named z) a ≡ false)
  NotReadBy (turns x k hi b) = (block_reads (named z) b ≡ false) × (block_writes (named z) b ≡ false)
  NotReadBy (restore x v) = Unit {0}
  NotReadBy halt = Unit {0}

  block_not_read : (b : Block) (work : List Item) → block_reads (named z) b ≡ false → block_writes (named z) b ≡ false → Each NotReadBy work → Each NotReadBy (before b work)
  unfolding NotReadBy
  block_not_read empty work h g k = k
  block_not_read (stmt a b) work h g k = ((first_no _ _ h, first_no _ _ g), block_not_read b work (second_no _ _ h) (second_no _ _ g) k)

  step_not_read : (item : Item) (s : Store) (work : List Item) → NotReadBy item → Each NotReadBy work → Each NotReadBy ((step item s work).work)
  unfolding step NotReadBy
  step_not_read (act skip) s work h k = k
  step_not_read (act (put x is e)) s work h k = k
  step_not_read (act (assert_that t)) s work h k = either NotReadBy (truth t s) work (halt ∷ work) k (tt, k)
  step_not_read (act (if_then t b c)) s work h k =
      let inside : (block_reads (named z) b || block_reads (named z) c) ≡ false = second_no (test_has (named z) t) _ h.0 in
      either NotReadBy (truth t s) _ _ (block_not_read b work (first_no _ _ inside) (first_no _ _ h.1) k) (block_not_read c work (second_no _ _ inside) (second_no _ _ h.1) k)
  step_not_read (act (while_do t b)) s work h k = either NotReadBy (truth t s) _ _ (block_not_read b (act (while_do t b) ∷ work) (second_no _ _ h.0) h.1 (h, k)) k
  step_not_read (act (for_to x lo hi b)) s work h k =
      let inside : (expr_has (named z) hi || block_reads (named z) b) ≡ false = second_no (expr_has (named z) lo) _ h.0 in
      ((second_no _ _ inside, second_no _ _ h.1), (tt, k))
  step_not_read (act (let_in x e b)) s work h k = block_not_read b _ (second_no _ _ h.0) (second_no _ _ h.1) (tt, k)
  step_not_read (act (par_stmt j)) s work h k = (h, k)
  step_not_read (turns x j hi b) s work h k = either NotReadBy (int_lt j hi) _ _ (block_not_read b (turns x (j +ℤ pos 1) hi b ∷ work) h.0 h.1 (h, k)) k
  step_not_read (restore x v) s work h k = k
  step_not_read halt s work h k = (h, k)

  step_reads_other : (item : Item) (s : Store) → NotReadBy item → Each Other (step_reads item s)
  unfolding NotReadBy Other
  step_reads_other (act skip) s h = tt
  step_reads_other (act (put x is e)) s h = each_both Other (exprs_cells is s) (expr_cells e s) (exprs_other is s (first_no _ _ h.0)) (expr_other e s (second_no _ _ h.0))
  step_reads_other (act (assert_that t)) s h = test_other t s h.0
  step_reads_other (act (if_then t b c)) s h = test_other t s (first_no _ _ h.0)
  step_reads_other (act (while_do t b)) s h = test_other t s (first_no _ _ h.0)
  step_reads_other (act (for_to x lo hi b)) s h =
      let inside : (expr_has (named z) hi || block_reads (named z) b) ≡ false = second_no (expr_has (named z) lo) _ h.0 in
      each_both Other (expr_cells lo s) _ (expr_other lo s (first_no _ _ h.0))
      (each_both Other (expr_cells hi s) (variable x ∷ []) (expr_other hi s (first_no _ _ inside)) (apart_name (spelled x) (first_no _ _ h.1), tt))
  step_reads_other (act (let_in x e b)) s h = each_both Other (expr_cells e s) (variable x ∷ []) (expr_other e s (first_no _ _ h.0)) (apart_name (spelled x) (first_no _ _ h.1), tt)
  step_reads_other (act (par_stmt j)) s h = tt
  step_reads_other (turns x j hi b) s h = tt
  step_reads_other (restore x v) s h = tt
  step_reads_other halt s h = tt

  reads_other : (n : ℕ) (work : List Item) (s : Store) → Each NotReadBy work → Each Other (reads n work s)
  reads_other n [] s h = tt
  reads_other zero (item ∷ work) s h = tt
  reads_other (suc n) (item ∷ work) s h =
      each_both Other (step_reads item s) _ (step_reads_other item s h.0) (reads_other n _ _ (step_not_read item s work h.0 h.1))

  pub block_reads_other : (b : Block) (n : ℕ) (s : Store) → reads_name b z ≡ false → writes_name b z ≡ false → Each (λ (c : Cell). c.0 ≢ z) (reads n (before b []) s)
  unfolding Other
  block_reads_other b n s h g = reads_other n (before b []) s (block_not_read b [] h g tt)

-- ---- an item that stands in a list
Stands : {A : Type 0} → List A → A → Type 0
Stands [] x = ⊥
Stands (y ∷ ys) x = (y ≡ x) ⊎ Stands ys x

of_standing : {A : Type 0} (P : A → Type 0) (xs : List A) → ((x : A) → Stands xs x → P x) → Each P xs
unfolding Stands
of_standing P [] f = tt
of_standing P (x ∷ xs) f = (f x (inl refl), of_standing P xs (λ y s. f y (inr s)))

at_standing : {A : Type 0} (P : A → Type 0) (xs : List A) (x : A) → Each P xs → Stands xs x → P x
unfolding Stands
at_standing P [] x h s = absurd s
at_standing P (y ∷ ys) x h (inl e) = subst P e h.0
at_standing P (y ∷ ys) x h (inr s) = at_standing P ys x h.1 s

-- a test that cannot fail is passed
passed : (b : Bool) → (b ≡ false → ⊥) → b ≡ true
passed true h = refl
passed false h = absurd (h refl)

pub within_text : WithinText
within_text b n s = record {
  read_names = of_standing (λ (c : Cell). (reads_name b c.0 || writes_name b c.0) ≡ true) (reads n (before b []) s)
      (λ c at. passed _ (λ no. at_standing (λ (d : Cell). d.0 ≢ c.0) (reads n (before b []) s) c
      (block_reads_other c.0 b n s (first_no _ _ no) (second_no _ _ no)) at refl));
  written_names = of_standing (λ (w : Write). writes_name b w.0.0 ≡ true) (writes n (before b []) s)
      (λ w at. passed _ (λ no. at_standing (λ (v : Write). v.0.0 ≢ w.0.0) (writes n (before b []) s) w
      (block_writes_other w.0.0 b n s no) at refl));
}
