-- The store that cells make: what one cell more does, and that two lists whose stores agree at all their cells make one store.
use Rattle.std.specs.Prelude.{◌≡◌, ◌⊎◌, ℕ, ◌+◌, ◌<◌, ℤ, pos, Bool, true, false, cond, ◌&&◌, List, [], ◌∷◌, ◌++◌, take, length, fold, get_or, refl}
use Rattle.std.proofs.Common.{sym, ◌∙◌, ap, inl, inr}
use Rattle.std.proofs.lemmas.Bool.{and_parts, and_from}
use Rattle.std.proofs.lemmas.List.Sums.{fold-append, fold_more}
use Rattle.std.specs.Ordering.{eq_by_cmp, int_eq}
use Rattle.std.specs.List.{list_all}
use Rattle.std.specs.FinMap as map
use Rattle.toy_imp.specs.Cell as places
use Rattle.toy_imp.specs.Cell.{cell_cmp}
use Rattle.toy_imp.specs.Store.{Store, held, read, write}
use Rattle.toy_imp.proofs.Stores.{read-write, write_keeps_others, agreeing_is_equal, cells_decided}
use Rattle.toy_run.specs.declared.cell.Cell.{Cell}
use Rattle.toy_run.specs.Stored.{empty_store}
use Rattle.term_meaning.specs.SameStore.{same_store}
use Rattle.term_meaning.proofs.SameStores.{same_equal, same_from}
use Rattle.term_meaning.proofs.Truths.{int_equal, int_from}
use Rattle.term_run.specs.Cells.{cell_of, with_cell, store_by, agree_on}

read_empty : (q : places.Cell) → read empty_store q ≡ pos 0
unfolding read empty_store
read_empty q = ap held (map.get-empty cell_cmp q)

pub read_none : (q : places.Cell) → read (store_by []) q ≡ pos 0
unfolding store_by
read_none q = read_empty q

pub store_more : (cells : List Cell) (c : Cell) → store_by (cells ++ c ∷ []) ≡ write (store_by cells) (cell_of c) c.value
unfolding store_by
store_more cells c = fold-append with_cell empty_store cells (c ∷ [])

-- what is read of the first cells and one more
read_more : (cells : List Cell) (i : ℕ) (d : Cell) (q : places.Cell) → i < length cells → read (store_by (take (i + 1) cells)) q ≡ cond (eq_by_cmp cell_cmp q (cell_of (get_or cells i d))) (get_or cells i d).value (read (store_by (take i cells)) q)
unfolding store_by
read_more cells i d q below = ap (λ s. read s q) (fold_more with_cell empty_store cells i d below) ∙ read-write (fold with_cell empty_store (take i cells)) (cell_of (get_or cells i d)) (get_or cells i d).value q

pub read_next : (cells : List Cell) (i : ℕ) (c : Cell) (q : places.Cell) (v new : ℤ) → i < length cells → c ≡ get_or cells i c → v ≡ read (store_by (take i cells)) q → new ≡ cond (eq_by_cmp cell_cmp q (cell_of c)) c.value v → new ≡ read (store_by (take (i + 1) cells)) q
read_next cells i c q v new below at before e =
    e ∙ ap (λ z. cond (eq_by_cmp cell_cmp q (cell_of c)) c.value z) before ∙ ap (λ d. cond (eq_by_cmp cell_cmp q (cell_of d)) d.value (read (store_by (take i cells)) q)) at ∙ sym (read_more cells i c q below)

-- a cell is one of the list, at which the stores agree, or holds what it held
module _ (a b : Store) (q : places.Cell) where
  made : (s : Store) (cells : List Cell) → list_all (λ c. int_eq (read a (cell_of c)) (read b (cell_of c))) cells ≡ true → (read a q ≡ read b q) ⊎ (read (fold with_cell s cells) q ≡ read s q)
  made s [] h = inr refl
  made s (c ∷ cells) h =
      elim (cells_decided q (cell_of c)) as (λ _. (read a q ≡ read b q) ⊎ (read (fold with_cell s (c ∷ cells)) q ≡ read s q)) [
        | inl e ↦ inl (ap (read a) e ∙ int_equal _ _ (and_parts _ _ h).0 ∙ ap (read b) (sym e))
        | inr apart ↦ elim (made (with_cell s c) cells (and_parts _ _ h).1) as (λ _. (read a q ≡ read b q) ⊎ (read (fold with_cell s (c ∷ cells)) q ≡ read s q)) [
          | inl same ↦ inl same
          | inr kept ↦ inr (kept ∙ write_keeps_others s (cell_of c) c.value q apart)
        ]
      ]

both_made : (a b : List Cell) → agree_on a b a ≡ true → agree_on a b b ≡ true → store_by a ≡ store_by b
unfolding store_by
both_made a b on_a on_b = agreeing_is_equal _ _ (λ q. by q (made (store_by a) (store_by b) q empty_store a on_a) (made (store_by a) (store_by b) q empty_store b on_b))
  where
    by : (q : places.Cell) → (read (store_by a) q ≡ read (store_by b) q) ⊎ (read (fold with_cell empty_store a) q ≡ read empty_store q) → (read (store_by a) q ≡ read (store_by b) q) ⊎ (read (fold with_cell empty_store b) q ≡ read empty_store q) → read (store_by a) q ≡ read (store_by b) q
    by q (inl same) more = same
    by q (inr none_a) (inl same) = same
    by q (inr none_a) (inr none_b) = none_a ∙ sym none_b

all_agree : (a b cells : List Cell) → store_by a ≡ store_by b → agree_on a b cells ≡ true
all_agree a b [] e = refl
all_agree a b (c ∷ cells) e = and_from _ _ (int_from _ _ (ap (λ s. read s (cell_of c)) e)) (all_agree a b cells e)

same_answer : (s t : Bool) → (s ≡ true → t ≡ true) → (t ≡ true → s ≡ true) → s ≡ t
same_answer true t f g = sym (f refl)
same_answer false true f g = g refl
same_answer false false f g = refl

same_by_cells : (a b : List Cell) → (agree_on a b a && agree_on a b b) ≡ same_store (store_by a) (store_by b)
same_by_cells a b = same_answer _ _
    (λ h. let parts : (agree_on a b a ≡ true) × (agree_on a b b ≡ true) = and_parts (agree_on a b a) (agree_on a b b) h in same_from _ _ (both_made a b parts.0 parts.1))
    (λ h. let e : store_by a ≡ store_by b = same_equal _ _ h in and_from _ _ (all_agree a b a e) (all_agree a b b e))

pub same_where_first : (a b : List Cell) (r : Bool) → agree_on a b a ≡ true → r ≡ agree_on a b b → r ≡ same_store (store_by a) (store_by b)
same_where_first a b r first e = e ∙ sym (ap (λ t. t && agree_on a b b) first) ∙ same_by_cells a b

pub other_where_not : (a b : List Cell) (r : Bool) → r ≡ false → r ≡ agree_on a b a → r ≡ same_store (store_by a) (store_by b)
other_where_not a b r not_first e = not_first ∙ sym (ap (λ t. t && agree_on a b b) (sym e ∙ not_first)) ∙ same_by_cells a b
