-- What is read of the store that entries make is what they have at the place, and an entry that changes is a write.
use Rattle.std.specs.Prelude.{◌≡◌, ◌≢◌, ℤ, pos, Bool, true, false, cond, List, [], ◌∷◌, length, Option, Some, None, refl}
use Rattle.std.proofs.Common.{sym, ◌∙◌, ap, ap₂}
use Rattle.std.specs.Ordering.{nat_cmp, int_cmp, is_eq, eq_by_cmp, ordering_then}
use Rattle.std.specs.declared.cmp.Ordering.{Ordering}
use Rattle.std.specs.declared.cmp.Ordering.TheVariants.{Less, Equal, Greater}
use Rattle.std.specs.Cmp.Lexicographic.{slice_cmp}
use Rattle.std.proofs.lemmas.Cmp.{tied_itself, nat_cmp_total, eq_by_cmp_equiv}
use Rattle.std.specs.Map.{lookup}
use Rattle.std.specs.BTreeMap.{is_at}
use Rattle.std.specs.FinMap as map
use Rattle.toy_imp.specs.Cell.{Cell, cell_cmp}
use Rattle.toy_imp.specs.Store.{held, read, write, cell_total}
use Rattle.toy_imp.proofs.Stores.{read-write, agreeing_is_equal}
use Rattle.toy_run.specs.declared.place.Place.{Place}
use Rattle.toy_run.specs.Place.{cell_of, listed_cmp, place_cmp}
use Rattle.toy_run.specs.Stored.{empty_store, store_of}

-- ---- both orders tie the same cells
counted : (n : Ordering) (r : Ordering) → (r ≡ Equal → n ≡ Equal) → is_eq (ordering_then n r) ≡ is_eq r
counted Less Less h = refl
counted Less Equal h = let e : Less ≡ Equal = h refl in cc
counted Less Greater h = refl
counted Equal r h = refl
counted Greater Less h = refl
counted Greater Equal h = let e : Greater ≡ Equal = h refl in cc
counted Greater Greater h = refl

named : (q a b : Ordering) → is_eq a ≡ is_eq b → is_eq (ordering_then q a) ≡ is_eq (ordering_then q b)
named Less a b e = refl
named Equal a b e = e
named Greater a b e = refl

as_long : (x y : List ℤ) → slice_cmp int_cmp x y ≡ Equal → nat_cmp (length x) (length y) ≡ Equal
as_long x y e = ap (λ l. nat_cmp (length x) (length l)) (sym (map.slice_cmp-IsAntisymmetric map.int_cmp-IsAntisymmetric x y e)) ∙ tied_itself nat_cmp_total (length x)

pub ties_alike : (a b : Cell) → is_eq (listed_cmp a b) ≡ eq_by_cmp cell_cmp a b
ties_alike a b = named (slice_cmp _ a.0 b.0) _ _ (counted (nat_cmp (length a.1) (length b.1)) (slice_cmp int_cmp a.1 b.1) (as_long a.1 b.1))

-- ---- reading
pub made_of_none : (es : List (Place × ℤ)) → es ≡ [] → store_of es ≡ empty_store
unfolding store_of
made_of_none es e = ap store_of e

pub read_empty : (c : Cell) → read empty_store c ≡ pos 0
unfolding read empty_store
read_empty c = ap held (map.get-empty cell_cmp c)

pub held-cond : (b : Bool) (v : ℤ) (o : Option ℤ) → cond b v (held o) ≡ held (cond b (Some v) o)
held-cond true v o = refl
held-cond false v o = refl

pub read_made : (es : List (Place × ℤ)) (p : Place) → read (store_of es) (cell_of p) ≡ held (lookup (is_at (place_cmp p)) es)
unfolding store_of
read_made [] p = read_empty (cell_of p)
read_made (e ∷ es) p =
    read-write (store_of es) (cell_of e.0) e.1 (cell_of p)
    ∙ ap₂ (λ b z. cond b e.1 z) (sym (ties_alike (cell_of p) (cell_of e.0))) (read_made es p)
    ∙ held-cond (is_eq (place_cmp p e.0)) e.1 (lookup (is_at (place_cmp p)) es)

-- ---- writing
pub held-update : (b : Bool) (v : ℤ) (w o : Option ℤ) → held w ≡ v → held (cond b w o) ≡ cond b v (held o)
held-update true v w o e = e
held-update false v w o e = refl

pub made_by_write : (es fs : List (Place × ℤ)) (k : Place) (w : Option ℤ) (v : ℤ) → held w ≡ v
    → ((q : Place) → lookup (is_at (place_cmp q)) fs ≡ cond (is_at (place_cmp k) q) w (lookup (is_at (place_cmp q)) es))
    → store_of fs ≡ write (store_of es) (cell_of k) v
made_by_write es fs k w v is changed = agreeing_is_equal _ _ (λ c. at (record { name = record { ref_ptr = (0, 0); now = c.0 }; indices = c.1 }))
  where
    tie : (q : Place) → is_at (place_cmp k) q ≡ eq_by_cmp cell_cmp (cell_of q) (cell_of k)
    tie q = ties_alike (cell_of k) (cell_of q) ∙ (eq_by_cmp_equiv cell_total).symm (cell_of k) (cell_of q)

    at : (q : Place) → read (store_of fs) (cell_of q) ≡ read (write (store_of es) (cell_of k) v) (cell_of q)
    at q =
        read_made fs q ∙ ap held (changed q)
        ∙ held-update (is_at (place_cmp k) q) v w (lookup (is_at (place_cmp q)) es) is
        ∙ ap₂ (λ b z. cond b v z) (tie q) (sym (read_made es q))
        ∙ sym (read-write (store_of es) (cell_of k) v (cell_of q))

-- ---- no entry is 0
pub taken_nonzero : (b : Bool) (o : Option ℤ) → o ≢ Some (pos 0) → cond b None o ≢ Some (pos 0)
taken_nonzero true o h e = cc
taken_nonzero false o h e = h e

pub put_nonzero : (b : Bool) (v : ℤ) (o : Option ℤ) → v ≢ pos 0 → o ≢ Some (pos 0) → cond b (Some v) o ≢ Some (pos 0)
put_nonzero true v o nonzero h e = nonzero (ap held e)
put_nonzero false v o nonzero h e = h e
