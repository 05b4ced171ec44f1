-- What is read after a write, cell by cell, and that stores which agree at every cell are equal.
use Rattle.std.specs.Prelude.{◌≡◌, ◌≢◌, ◌⊎◌, ℤ, pos, Bool, true, false, cond, Option, Some, None, refl}
use Rattle.std.proofs.Common.{sym, ◌∙◌, ap, inl, inr, true≢false}
use Rattle.std.specs.Ordering.{int_eq, eq_by_cmp, is_eq, ordering_then}
use Rattle.std.specs.declared.cmp.Ordering.{Ordering}
use Rattle.std.specs.declared.cmp.Ordering.TheVariants.{Less, Equal, Greater}
use Rattle.std.proofs.lemmas.Cmp.{tied_itself}
use Rattle.std.specs.FinMap as map
use mathlib.Core.HLevel.{is_prop→PathP, Π_prop, ¬_prop}
use Rattle.toy_imp.specs.Cell.{Cell, cell_cmp}
use Rattle.toy_imp.specs.Store.{Store, held, read, cell_total, written, write}

first_tied : (q r : Ordering) → ordering_then q r ≡ Equal → q ≡ Equal
first_tied Less r e = cc
first_tied Equal r e = refl
first_tied Greater r e = cc

second_tied : (q r : Ordering) → ordering_then q r ≡ Equal → r ≡ Equal
second_tied Less r e = cc
second_tied Equal r e = e
second_tied Greater r e = cc

-- only equal cells tie
pub cell_same : map.IsAntisymmetric cell_cmp
cell_same a b e =
    let names : a.0 ≡ b.0 = map.slice_cmp-IsAntisymmetric map.nat_cmp-IsAntisymmetric a.0 b.0 (first_tied _ _ e) in
    let indices : a.1 ≡ b.1 = map.slice_cmp-IsAntisymmetric map.int_cmp-IsAntisymmetric a.1 b.1 (second_tied _ _ e) in
    λ i. (names i, indices i)

tied : (r : Ordering) → is_eq r ≡ true → r ≡ Equal
tied Less e = cc
tied Equal e = refl
tied Greater e = cc

held-none_or : (b : Bool) (v : ℤ) (o : Option ℤ) → v ≡ pos 0 → held (cond b None o) ≡ cond b v (held o)
held-none_or true v o e = sym e
held-none_or false v o e = refl

held-some_or : (b : Bool) (v : ℤ) (o : Option ℤ) → held (cond b (Some v) o) ≡ cond b v (held o)
held-some_or true v o = refl
held-some_or false v o = refl

read-written : (s : Store) (c : Cell) (v : ℤ) (b : Bool) (e : int_eq v (pos 0) ≡ b) (q : Cell) → read (written s c v b e) q ≡ cond (eq_by_cmp cell_cmp q c) v (read s q)
unfolding read written
read-written s c v true e q = ap held (map.get-remove cell_total s.cells c q) ∙ held-none_or (eq_by_cmp cell_cmp q c) v (map.get s.cells q) (map.int_cmp-IsAntisymmetric v (pos 0) (tied _ e))
read-written s c v false e q = ap held (map.get-insert cell_total s.cells c v q) ∙ held-some_or (eq_by_cmp cell_cmp q c) v (map.get s.cells q)

pub read-write : (s : Store) (c : Cell) (v : ℤ) (q : Cell) → read (write s c v) q ≡ cond (eq_by_cmp cell_cmp q c) v (read s q)
unfolding write
read-write s c v q = read-written s c v (int_eq v (pos 0)) refl q

pub write_is_read : (s : Store) (c : Cell) (v : ℤ) → read (write s c v) c ≡ v
write_is_read s c v = read-write s c v c ∙ ap (λ r. cond (is_eq r) v (read s c)) (tied_itself cell_total c)

other : (b : Bool) (v z : ℤ) → (b ≡ true → ⊥) → cond b v z ≡ z
other true v z h = absurd (h refl)
other false v z h = refl

pub write_keeps_others : (s : Store) (c : Cell) (v : ℤ) (q : Cell) → q ≢ c → read (write s c v) q ≡ read s q
write_keeps_others s c v q apart = read-write s c v q ∙ other _ v (read s q) (λ e. apart (cell_same q c (tied _ e)))

-- a map's answers by what it holds, where it never holds 0
answer : (o p : Option ℤ) → o ≢ Some (pos 0) → p ≢ Some (pos 0) → held o ≡ held p → o ≡ p
answer None None h k e = refl
answer None (Some v) h k e = absurd (k (ap Some (sym e)))
answer (Some v) None h k e = absurd (h (ap Some e))
answer (Some v) (Some w) h k e = ap Some e

same_cells : (s t : Store) → s.cells ≡ t.cells → s ≡ t
same_cells s t e = λ i. record { cells = e i; nonzero = is_prop→PathP (λ j. (c : Cell) → map.get (e j) c ≢ Some (pos 0)) (λ j. Π_prop (λ c. ¬_prop)) s.nonzero t.nonzero i }

pub agreeing_is_equal : (s t : Store) → ((c : Cell) → read s c ≡ read t c) → s ≡ t
unfolding read
agreeing_is_equal s t agree = same_cells s t (map.same_map cell_total cell_same s.cells t.cells (λ c. answer _ _ (s.nonzero c) (t.nonzero c) (agree c)))

-- two cells are the same or not
pub cells_decided : (q c : Cell) → (q ≡ c) ⊎ (q ≢ c)
cells_decided q c =
    elim (eq_by_cmp cell_cmp q c) as (λ b. eq_by_cmp cell_cmp q c ≡ b → (q ≡ c) ⊎ (q ≢ c)) [
      | true ↦ λ e. inl (cell_same q c (tied _ e))
      | false ↦ λ e. inr (λ p. true≢false (sym (ap is_eq (tied_itself cell_total c)) ∙ ap (λ d. is_eq (cell_cmp d c)) (sym p) ∙ e))
    ] refl

-- a store is as a cell and all the others of it are
pub same_by_cell : (s t : Store) (c : Cell) → read s c ≡ read t c → ((q : Cell) → q ≢ c → read s q ≡ read t q) → s ≡ t
same_by_cell s t c here others = agreeing_is_equal s t (λ q. elim (cells_decided q c) as (λ _. read s q ≡ read t q) [ inl e ↦ ap (read s) e ∙ here ∙ ap (read t) (sym e) | inr apart ↦ others q apart ])

-- to write what is held changes nothing
pub write-read : (s : Store) (c : Cell) → write s c (read s c) ≡ s
write-read s c = same_by_cell _ _ c (write_is_read s c (read s c)) (λ q apart. write_keeps_others s c (read s c) q apart)

-- of two writes into one cell the second counts
pub write-write : (s : Store) (c : Cell) (v w : ℤ) → write (write s c v) c w ≡ write s c w
write-write s c v w = same_by_cell _ _ c (write_is_read (write s c v) c w ∙ sym (write_is_read s c w))
    (λ q apart. write_keeps_others (write s c v) c w q apart ∙ write_keeps_others s c v q apart ∙ sym (write_keeps_others s c w q apart))

-- writes into different cells may come in either order
pub writes_commute : (s : Store) (c d : Cell) (v w : ℤ) → d ≢ c → write (write s c v) d w ≡ write (write s d w) c v
writes_commute s c d v w apart = same_by_cell _ _ d
    (write_is_read (write s c v) d w ∙ sym (write_keeps_others (write s d w) c v d apart ∙ write_is_read s d w))
    (λ q not_d. write_keeps_others (write s c v) d w q not_d ∙ same_elsewhere q not_d)
  where
    same_elsewhere : (q : Cell) → q ≢ d → read (write s c v) q ≡ read (write (write s d w) c v) q
    same_elsewhere q not_d = elim (cells_decided q c) as (λ _. read (write s c v) q ≡ read (write (write s d w) c v) q) [
      | inl e ↦ ap (read (write s c v)) e ∙ write_is_read s c v ∙ sym (ap (read (write (write s d w) c v)) e ∙ write_is_read (write s d w) c v)
      | inr not_c ↦ write_keeps_others s c v q not_c ∙ sym (write_keeps_others (write s d w) c v q not_c ∙ write_keeps_others s d w q not_d)
    ]
