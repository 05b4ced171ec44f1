-- The entries of a store, each as a cell, are its cells in order.
use Rattle.std.specs.Prelude.{◌≡◌, ◌≢◌, ℕ, zero, suc, ◌<◌, ℤ, pos, true, List, [], ◌∷◌, map, length, Contains, Option, Some, None, refl}
use Rattle.std.proofs.Common.{sym, ◌∙◌, ap, subst, arith, get_or, slice_get}
use Rattle.std.specs.Ordering.{is_eq}
use Rattle.std.specs.declared.cmp.Ordering.{Ordering}
use Rattle.std.specs.declared.cmp.Ordering.TheVariants.{Less, Equal, Greater}
use Rattle.std.proofs.lemmas.Cmp.{eq_by_cmp_equiv}
use Rattle.std.specs.List.{AllByRecursion}
use Rattle.std.specs.List.Sorted.{IsStrictlySortedBy}
use Rattle.std.specs.Map.{lookup, keys_of}
use Rattle.std.specs.BTreeMap.{is_at}
use Rattle.std.proofs.lemmas.Map.Keys.{IsDistinct-from_sorted}
use Rattle.std.proofs.lemmas.Map.Entries.{lookup_from_place, place_from_lookup}
use Rattle.toy_imp.specs.Store.{held, read}
use Rattle.toy_imp.specs.Cell as imp
use Rattle.toy_imp.proofs.Stores.{cell_same}
use Rattle.toy_run.specs.declared.place.Place.{Place}
use Rattle.toy_run.specs.declared.cell.Cell.{Cell}
use Rattle.toy_run.specs.Place.{cell_of, place_cmp, place_total}
use Rattle.toy_run.specs.Stored.{store_of}
use Rattle.toy_run.specs.Cells.{cell_order, AreCells}
use Rattle.toy_run.proofs.Stores.{ties_alike, read_made}

abbrev pub to_cell : Place × ℤ → Cell
to_cell e = record { name = e.0.name.now; indices = e.0.indices; value = e.1 }

-- a place of the cell, wherever its name lies
abbrev place_of : Cell → Place
place_of c = record { name = record { ref_ptr = (0, 0); now = c.name }; indices = c.indices }

abbrev with_value : ℤ → imp.Cell → Cell
with_value v x = record { name = x.0; indices = x.1; value = v }

-- ---- the order
all_later : (e : Place × ℤ) (es : List (Place × ℤ)) → AllByRecursion (λ y. place_cmp e.0 y ≡ Less) (keys_of es) → AllByRecursion (λ y. cell_order (to_cell e) y ≡ Less) (map to_cell es)
all_later e [] h = h
all_later e (f ∷ es) h = (h.0, all_later e es h.1)

stays_sorted : (es : List (Place × ℤ)) → IsStrictlySortedBy place_cmp (keys_of es) → IsStrictlySortedBy cell_order (map to_cell es)
unfolding IsStrictlySortedBy
stays_sorted [] h = h
stays_sorted (e ∷ es) h = (all_later e es h.0, stays_sorted es h.1)

-- ---- a cell that is listed is an entry
entry_at : (es : List (Place × ℤ)) (k : ℕ) (c : Cell) → k < length (map to_cell es) → get_or (map to_cell es) k c ≡ c → (e : Place × ℤ) × (slice_get es k ≡ Some e) × (to_cell e ≡ c)
entry_at [] k c h is = absurd (omega arith)
entry_at (e ∷ es) zero c h is = (e, refl, is)
entry_at (e ∷ es) (suc k) c h is = entry_at es k c (omega arith) is

found : (es : List (Place × ℤ)) → IsStrictlySortedBy place_cmp (keys_of es) → (e : Place × ℤ) (k : ℕ) → slice_get es k ≡ Some e → lookup (is_at (place_cmp e.0)) es ≡ Some e.1
found es sorted e k there = lookup_from_place (eq_by_cmp_equiv place_total) es k e.0 e.1 (IsDistinct-from_sorted place_cmp _ sorted) there

-- ---- an entry is listed
listed_at : (es : List (Place × ℤ)) (i : ℕ) (e : Place × ℤ) (d : Cell) → slice_get es i ≡ Some e → (i < length (map to_cell es)) × (get_or (map to_cell es) i d ≡ to_cell e)
listed_at [] i e d is = cc
listed_at (x ∷ xs) zero e d is = let same : x ≡ e = cc in (omega arith, ap to_cell same)
listed_at (x ∷ xs) (suc i) e d is = let rest : (i < length (map to_cell xs)) × (get_or (map to_cell xs) i d ≡ to_cell e) = listed_at xs i e d is in (omega arith, rest.1)

tied : (r : Ordering) → is_eq r ≡ true → r ≡ Equal
tied Less e = cc
tied Equal e = refl
tied Greater e = cc

same_place : (p q : Place) → is_at (place_cmp p) q ≡ true → cell_of q ≡ cell_of p
same_place p q e = sym (cell_same (cell_of p) (cell_of q) (tied _ (sym (ties_alike (cell_of p) (cell_of q)) ∙ e)))

present : (es : List (Place × ℤ)) (c : Cell) → lookup (is_at (place_cmp (place_of c))) es ≡ Some c.value → Contains (map to_cell es) c
present es c is =
    let spot = place_from_lookup (is_at (place_cmp (place_of c))) es c.value is in
    let same : cell_of spot.1 ≡ cell_of (place_of c) = same_place (place_of c) spot.1 spot.3 in
    let listed = listed_at es spot.0 (spot.1, c.value) c spot.2 in
    (spot.0, listed.0, listed.1 ∙ ap (with_value c.value) same)

-- ---- both
from_held : (o : Option ℤ) (v : ℤ) → held o ≡ v → v ≢ pos 0 → o ≡ Some v
from_held None v e nonzero = absurd (nonzero (sym e))
from_held (Some w) v e nonzero = ap Some e

pub are_cells : (es : List (Place × ℤ)) → IsStrictlySortedBy place_cmp (keys_of es) → ((p : Place) → lookup (is_at (place_cmp p)) es ≢ Some (pos 0)) → AreCells (store_of es) (map to_cell es)
are_cells es sorted no_zero = record {
  in_order = stays_sorted es sorted;
  exact = λ c. (listed_held c, λ held. present es c (from_held _ c.value (sym (read_made es (place_of c)) ∙ held.0) held.1));
}
  where
    entry_held : (e : Place × ℤ) (k : ℕ) → slice_get es k ≡ Some e → (read (store_of es) (cell_of e.0) ≡ e.1) × (e.1 ≢ pos 0)
    entry_held e k there =
        let is : lookup (is_at (place_cmp e.0)) es ≡ Some e.1 = found es sorted e k there in
        (read_made es e.0 ∙ ap held is, λ zero. no_zero e.0 (is ∙ ap Some zero))

    listed_held : (c : Cell) → Contains (map to_cell es) c → (read (store_of es) (c.name, c.indices) ≡ c.value) × (c.value ≢ pos 0)
    listed_held c there =
        let spot = entry_at es there.0 c there.1 there.2 in
        subst (λ (x : Cell). (read (store_of es) (x.name, x.indices) ≡ x.value) × (x.value ≢ pos 0)) spot.2 (entry_held spot.0 there.0 spot.1)

map_itself : (xs : List (Place × ℤ)) → map (λ p. p) xs ≡ xs
map_itself [] = refl
map_itself (x ∷ xs) = ap (λ l. x ∷ l) (map_itself xs)

pub all_listed : (es xs : List (Place × ℤ)) (cells : List Cell) → map (λ p. p) xs ≡ es → cells ≡ map to_cell xs
    → IsStrictlySortedBy place_cmp (keys_of es) → ((p : Place) → lookup (is_at (place_cmp p)) es ≢ Some (pos 0)) → AreCells (store_of es) cells
all_listed es xs cells all listed sorted no_zero =
    let is : cells ≡ map to_cell es = listed ∙ ap (map to_cell) (sym (map_itself xs) ∙ all) in
    subst (AreCells (store_of es)) (sym is) (are_cells es sorted no_zero)
