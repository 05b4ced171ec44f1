-- Cells in order are those of the store that they make, and a store is made by the cells that are listed of it.
use Rattle.std.specs.Prelude.{◌≡◌, ◌≢◌, ◌⊎◌, ℕ, suc, ℤ, pos, List, [], ◌∷◌, Contains, refl}
use Rattle.std.proofs.Common.{sym, ◌∙◌, ap, subst, inl, inr, arith, get_or}
use Rattle.std.specs.List.{All, AllByRecursion}
use Rattle.std.specs.List.Sorted.{IsStrictlySortedBy}
use Rattle.std.proofs.lemmas.List.Elements.{recursion_from_All}
use Rattle.toy_imp.specs.Cell as imp
use Rattle.toy_imp.specs.Store.{Store, read}
use Rattle.toy_imp.proofs.Stores.{cells_decided, agreeing_is_equal}
use Rattle.toy_run.specs.declared.cell.Cell.{Cell}
use Rattle.toy_run.specs.Cells.{AreCells, key_of, cell_order, is_not_zero}
use Rattle.toy_run.specs.Stored.{empty_store, with_cells, IsApart, IsCellAt}
use Rattle.toy_run.proofs.InOrder.{apart_read, all_at, any_default, held_at, found_value}
use Rattle.toy_run.proofs.Stores.{read_empty}

key_among : (cs : List Cell) (k : imp.Cell) → IsApart k cs ⊎ ((i : ℕ) × IsCellAt cs k i)
key_among [] k = inl tt
key_among (c ∷ cs) k = elim (cells_decided (key_of c) k) [
  | inl same ↦ inr (0, (omega arith, λ d. same))
  | inr apart ↦ elim (key_among cs k) [ inl rest ↦ inl (apart, rest) | inr at ↦ inr (suc at.0, (omega (arith, at.1.0), at.1.1)) ]
]

-- ---- the cells of the store that they make
pub cells_listed : (cs : List Cell) → IsStrictlySortedBy cell_order cs → AllByRecursion is_not_zero cs → AreCells (with_cells cs empty_store) cs
cells_listed cs sorted nonzero = record { in_order = sorted; exact = λ c. (there c, back c) }
  where
    there : (c : Cell) → Contains cs c → (read (with_cells cs empty_store) (c.name, c.indices) ≡ c.value) × (c.value ≢ pos 0)
    there c at =
        subst (λ (x : Cell). (read (with_cells cs empty_store) (x.name, x.indices) ≡ x.value) × (x.value ≢ pos 0)) at.2
        (held_at cs empty_store at.0 c sorted at.1, all_at is_not_zero cs at.0 c nonzero at.1)

    back : (c : Cell) → (read (with_cells cs empty_store) (c.name, c.indices) ≡ c.value) × (c.value ≢ pos 0) → Contains cs c
    back c held = elim (key_among cs (key_of c)) [
      | inl apart ↦ absurd (held.1 (sym held.0 ∙ apart_read cs empty_store (key_of c) apart ∙ read_empty (key_of c)))
      | inr at ↦ (at.0, at.1.0, same (get_or cs at.0 c) (at.1.1 c) (found_value cs empty_store at.0 (key_of c) c sorted at.1 ∙ held.0))
    ]
      where
        same : (x : Cell) → key_of x ≡ key_of c → x.value ≡ c.value → x ≡ c
        same x key value = λ j. record { name = (key j).0; indices = (key j).1; value = value j }

-- ---- a store by the cells that are listed of it
zero_elsewhere : (s : Store) (ys : List Cell) (q : imp.Cell) → AreCells s ys → IsApart q ys → read s q ≡ pos 0
zero_elsewhere s ys q are apart = elim (cells_decided (q.0, read s q ∷ []) (q.0, pos 0 ∷ [])) [
  | inl same ↦ ap (λ (c : imp.Cell). first c.1) same
  | inr other ↦ absurd (clash (λ e. other (ap (λ z. (q.0, z ∷ [])) e)))
]
  where
    first : List ℤ → ℤ
    first [] = pos 0
    first (z ∷ zs) = z

    clash : (read s q ≢ pos 0) → ⊥
    clash h =
        let c : Cell = record { name = q.0; indices = q.1; value = read s q } in
        let at : Contains ys c = (are.exact c).1 (refl, h) in
        all_at (λ x. key_of x ≢ q) ys at.0 c apart at.1 (ap key_of at.2)

pub made_by_cells : (s : Store) (ys : List Cell) → AreCells s ys → with_cells ys empty_store ≡ s
made_by_cells s ys are = agreeing_is_equal (with_cells ys empty_store) s at
  where
    at : (q : imp.Cell) → read (with_cells ys empty_store) q ≡ read s q
    at q = elim (key_among ys q) [
      | inl apart ↦ apart_read ys empty_store q apart ∙ read_empty q ∙ sym (zero_elsewhere s ys q are apart)
      | inr found ↦ here (get_or ys found.0 none) (found.1.1 none) (sym (found_value ys empty_store found.0 q none are.in_order found.1)) (found.0, found.1.0, any_default ys found.0 _ none found.1.0)
    ]
      where
        none : Cell
        none = record { name = q.0; indices = q.1; value = pos 0 }

        here : (x : Cell) → key_of x ≡ q → read (with_cells ys empty_store) q ≡ x.value → Contains ys x → read (with_cells ys empty_store) q ≡ read s q
        here x key value there = value ∙ sym ((are.exact x).0 there).0 ∙ ap (read s) key

-- ---- what is listed of the cells in order and the others
pub all_in_order : (cs ys : List Cell) (s : Store) → AreCells s ys → ys ≡ [] → IsStrictlySortedBy cell_order cs → All is_not_zero cs → AreCells (with_cells cs s) cs
unfolding with_cells
all_in_order cs ys s are none sorted nonzero =
    subst (λ t. AreCells (with_cells cs t) cs) (ap (λ l. with_cells l empty_store) (sym none) ∙ made_by_cells s ys are) (cells_listed cs sorted (recursion_from_All is_not_zero cs nonzero))

pub both_listed : (cs ys all : List Cell) (s : Store) → AreCells s ys → AreCells (with_cells cs (with_cells ys empty_store)) all → AreCells (with_cells cs s) all
both_listed cs ys all s are listed = subst (λ t. AreCells (with_cells cs t) all) (made_by_cells s ys are) listed
