-- Variables written over a store of cells with indices: what is read of both, and an entry that changes is a write.
use Rattle.std.specs.Prelude.{◌≡◌, ◌≢◌, ℕ, ◌<◌, ℤ, pos, length, false, cond, List, [], ◌∷◌, ◌++◌, Option, Some, None, refl}
use Rattle.std.proofs.Common.{sym, ◌∙◌, ap, ap₂, arith}
use Rattle.std.specs.Ordering.{nat_cmp, is_eq, eq_by_cmp, ordering_then}
use Rattle.std.specs.declared.cmp.Ordering.{Ordering}
use Rattle.std.specs.declared.cmp.Ordering.TheVariants.{Less, Equal, Greater}
use Rattle.std.specs.Cmp.Lexicographic.{slice_cmp}
use Rattle.std.proofs.lemmas.Cmp.{eq_by_cmp_equiv}
use Rattle.std.specs.Map.{lookup}
use Rattle.std.specs.BTreeMap.{is_at}
use denote.Bor.{Bor}
use Rattle.toy_imp.specs.Cell.{cell_cmp}
use Rattle.toy_imp.specs.Store.{Store, held, read, write, cell_total}
use Rattle.toy_imp.proofs.Stores.{read-write, agreeing_is_equal, writes_commute}
use Rattle.toy_run.specs.declared.place.Place.{Place}
use Rattle.toy_run.specs.Place.{cell_of, place_cmp}
use Rattle.toy_run.specs.Stored.{empty_store, store_of, with_variables}
use Rattle.toy_run.proofs.Stores.{read_made, made_of_none, ties_alike, held-cond, held-update}

abbrev pub name_cmp : Bor (List ℕ) → Bor (List ℕ) → Ordering
name_cmp x y = slice_cmp nat_cmp x.now y.now

-- a name, wherever it lies, and the place of its variable
abbrev pub name_of : List ℕ → Bor (List ℕ)
name_of x = record { ref_ptr = (0, 0); now = x }

abbrev pub place_of_variable : List ℕ → Place
place_of_variable x = record { name = name_of x; indices = [] }

-- ---- variables tie as their names do, and with no cell that has indices
equal_behind : (r : Ordering) → is_eq (ordering_then r Equal) ≡ is_eq r
equal_behind Less = refl
equal_behind Equal = refl
equal_behind Greater = refl

greater_behind : (r : Ordering) → is_eq (ordering_then r Greater) ≡ false
greater_behind Less = refl
greater_behind Equal = refl
greater_behind Greater = refl

variables_tie : (x y : List ℕ) → eq_by_cmp cell_cmp (x, []) (y, []) ≡ is_eq (slice_cmp nat_cmp x y)
variables_tie x y = equal_behind (slice_cmp nat_cmp x y)

never_tie : (x y : List ℕ) (i : ℤ) (is : List ℤ) → eq_by_cmp cell_cmp (x, i ∷ is) (y, []) ≡ false
never_tie x y i is = greater_behind (slice_cmp nat_cmp x y)

never_tie_back : (x y : List ℕ) (i : ℤ) (is : List ℤ) → eq_by_cmp cell_cmp (x, []) (y, i ∷ is) ≡ false
never_tie_back x y i is = (eq_by_cmp_equiv cell_total).symm (x, []) (y, i ∷ is) ∙ never_tie y x i is

-- ---- reading
abbrev NoVariable : Store → Type 0
NoVariable s = (x : List ℕ) → read s (x, []) ≡ pos 0

read_variable : (vs : List (Bor (List ℕ) × ℤ)) (s : Store) (x : Bor (List ℕ)) → NoVariable s → read (with_variables vs s) (x.now, []) ≡ held (lookup (is_at (name_cmp x)) vs)
unfolding with_variables
read_variable [] s x none = none x.now
read_variable (e ∷ es) s x none =
    read-write (with_variables es s) (e.0.now, []) e.1 (x.now, [])
    ∙ ap₂ (λ b z. cond b e.1 z) (variables_tie x.now e.0.now) (read_variable es s x none)
    ∙ held-cond (is_eq (name_cmp x e.0)) e.1 (lookup (is_at (name_cmp x)) es)

read_cell : (vs : List (Bor (List ℕ) × ℤ)) (s : Store) (x : List ℕ) (i : ℤ) (is : List ℤ) → read (with_variables vs s) (x, i ∷ is) ≡ read s (x, i ∷ is)
unfolding with_variables
read_cell [] s x i is = refl
read_cell (e ∷ es) s x i is =
    read-write (with_variables es s) (e.0.now, []) e.1 (x, i ∷ is)
    ∙ ap₂ (λ b z. cond b e.1 z) (never_tie x e.0.now i is) (read_cell es s x i is)

-- entries of cells with indices make a store without variables
no_variable : (es : List (Place × ℤ)) → ((p : Place) → p.indices ≡ [] → lookup (is_at (place_cmp p)) es ≡ None) → NoVariable (store_of es)
no_variable es none x = read_made es (place_of_variable x) ∙ ap held (none (place_of_variable x) refl)

pub variable_read : (vs : List (Bor (List ℕ) × ℤ)) (es : List (Place × ℤ)) (x : Bor (List ℕ)) → ((q : Place) → q.indices ≡ [] → lookup (is_at (place_cmp q)) es ≡ None)
    → read (with_variables vs (store_of es)) (x.now, []) ≡ held (lookup (is_at (name_cmp x)) vs)
variable_read vs es x none = read_variable vs (store_of es) x (no_variable es none)

pub cell_read : (vs : List (Bor (List ℕ) × ℤ)) (es : List (Place × ℤ)) (p : Place) → p.indices ≢ [] → read (with_variables vs (store_of es)) (cell_of p) ≡ held (lookup (is_at (place_cmp p)) es)
cell_read vs es p some = at p.indices some ∙ read_made es p
  where
    at : (is : List ℤ) → is ≢ [] → read (with_variables vs (store_of es)) (p.name.now, is) ≡ read (store_of es) (p.name.now, is)
    at [] some = absurd (some refl)
    at (i ∷ is) some = read_cell vs (store_of es) p.name.now i is

pub nothing_held : (vs : List (Bor (List ℕ) × ℤ)) (es : List (Place × ℤ)) → vs ≡ [] → es ≡ [] → with_variables vs (store_of es) ≡ empty_store
unfolding with_variables
nothing_held vs es none empty = ap (λ l. with_variables l (store_of es)) none ∙ made_of_none es empty

-- ---- a variable that changes
set_variable : (vs ws : List (Bor (List ℕ) × ℤ)) (s : Store) (k : Bor (List ℕ)) (v : ℤ) → NoVariable s
    → ((q : Bor (List ℕ)) → lookup (is_at (name_cmp q)) ws ≡ cond (is_at (name_cmp k) q) (Some v) (lookup (is_at (name_cmp q)) vs))
    → with_variables ws s ≡ write (with_variables vs s) (k.now, []) v
set_variable vs ws s k v none changed = agreeing_is_equal _ _ (λ c. at c.0 c.1)
  where
    tie : (x : Bor (List ℕ)) → is_at (name_cmp k) x ≡ eq_by_cmp cell_cmp (x.now, []) (k.now, [])
    tie x = sym (variables_tie k.now x.now) ∙ (eq_by_cmp_equiv cell_total).symm (k.now, []) (x.now, [])

    named : (x : Bor (List ℕ)) → read (with_variables ws s) (x.now, []) ≡ read (write (with_variables vs s) (k.now, []) v) (x.now, [])
    named x =
        read_variable ws s x none ∙ ap held (changed x)
        ∙ held-update (is_at (name_cmp k) x) v (Some v) (lookup (is_at (name_cmp x)) vs) refl
        ∙ ap₂ (λ b z. cond b v z) (tie x) (sym (read_variable vs s x none))
        ∙ sym (read-write (with_variables vs s) (k.now, []) v (x.now, []))

    at : (x : List ℕ) (is : List ℤ) → read (with_variables ws s) (x, is) ≡ read (write (with_variables vs s) (k.now, []) v) (x, is)
    at x [] = named (name_of x)
    at x (i ∷ is) =
        read_cell ws s x i is
        ∙ sym (read_cell vs s x i is)
        ∙ ap (λ b. cond b v (read (with_variables vs s) (x, i ∷ is))) (sym (never_tie x k.now i is))
        ∙ sym (read-write (with_variables vs s) (k.now, []) v (x, i ∷ is))

pub variable_set : (vs ws : List (Bor (List ℕ) × ℤ)) (es : List (Place × ℤ)) (x : Bor (List ℕ)) (v : ℤ) → ((q : Place) → q.indices ≡ [] → lookup (is_at (place_cmp q)) es ≡ None)
    → ((q : Bor (List ℕ)) → lookup (is_at (name_cmp q)) ws ≡ cond (is_at (name_cmp x) q) (Some v) (lookup (is_at (name_cmp q)) vs))
    → with_variables ws (store_of es) ≡ write (with_variables vs (store_of es)) (x.now, []) v
variable_set vs ws es x v none changed = set_variable vs ws (store_of es) x v (no_variable es none) changed

-- ---- a cell with indices that changes
set_cell : (vs : List (Bor (List ℕ) × ℤ)) (s : Store) (x : List ℕ) (i : ℤ) (is : List ℤ) (v : ℤ) → with_variables vs (write s (x, i ∷ is) v) ≡ write (with_variables vs s) (x, i ∷ is) v
unfolding with_variables
set_cell [] s x i is v = refl
set_cell (e ∷ es) s x i is v =
    ap (λ t. write t (e.0.now, []) e.1) (set_cell es s x i is v)
    ∙ writes_commute (with_variables es s) (x, i ∷ is) (e.0.now, []) v e.1 (λ same. apart (λ j. (same j).1))
  where
    apart : [] ≡ i ∷ is → ⊥
    apart clash = cc

pub cell_set : (vs : List (Bor (List ℕ) × ℤ)) (es fs : List (Place × ℤ)) (p : Place) (v : ℤ) → store_of fs ≡ write (store_of es) (cell_of p) v → p.indices ≢ []
    → with_variables vs (store_of fs) ≡ write (with_variables vs (store_of es)) (cell_of p) v
cell_set vs es fs p v made some = ap (with_variables vs) made ∙ at p.indices some
  where
    at : (is : List ℤ) → is ≢ [] → with_variables vs (write (store_of es) (p.name.now, is) v) ≡ write (with_variables vs (store_of es)) (p.name.now, is) v
    at [] some = absurd (some refl)
    at (i ∷ is) some = set_cell vs (store_of es) p.name.now i is v

-- no entry without indices comes in by that
tie_false : (p q : Place) → q.indices ≡ [] → p.indices ≢ [] → is_at (place_cmp p) q ≡ false
tie_false p q none some = ties_alike (cell_of p) (cell_of q) ∙ ap (λ l. eq_by_cmp cell_cmp (cell_of p) (q.name.now, l)) none ∙ at p.indices some
  where
    at : (is : List ℤ) → is ≢ [] → eq_by_cmp cell_cmp (p.name.now, is) (q.name.now, []) ≡ false
    at [] some = absurd (some refl)
    at (i ∷ is) some = never_tie p.name.now q.name.now i is

pub still_no_variable : (es fs : List (Place × ℤ)) (p : Place) (w : Option ℤ) → ((q : Place) → q.indices ≡ [] → lookup (is_at (place_cmp q)) es ≡ None)
    → ((q : Place) → lookup (is_at (place_cmp q)) fs ≡ cond (is_at (place_cmp p) q) w (lookup (is_at (place_cmp q)) es)) → p.indices ≢ []
    → (q : Place) → q.indices ≡ [] → lookup (is_at (place_cmp q)) fs ≡ None
still_no_variable es fs p w none changed some q is = changed q ∙ ap (λ b. cond b w (lookup (is_at (place_cmp q)) es)) (tie_false p q is some) ∙ none q is

-- ---- the last variable becomes a cell
pub last_moves : (vs ws : List (Bor (List ℕ) × ℤ)) (x : Bor (List ℕ)) (v : ℤ) (es fs : List (Place × ℤ)) (t : Store)
    → with_variables vs (store_of es) ≡ t → vs ≡ ws ++ (x, v) ∷ [] → store_of fs ≡ write (store_of es) (x.now, []) v → with_variables ws (store_of fs) ≡ t
unfolding with_variables
last_moves vs ws x v es fs t is last made = ap (with_variables ws) made ∙ sym (at ws (store_of es)) ∙ ap (λ l. with_variables l (store_of es)) (sym last) ∙ is
  where
    at : (us : List (Bor (List ℕ) × ℤ)) (s : Store) → with_variables (us ++ (x, v) ∷ []) s ≡ with_variables us (write s (x.now, []) v)
    at [] s = refl
    at (u ∷ us) s = ap (λ r. write r (u.0.now, []) u.1) (at us s)

emptied : {A : Type 0} (xs : List A) → (0 < length xs → ⊥) → xs ≡ []
emptied [] h = refl
emptied (x ∷ xs) h = absurd (h (omega arith))

pub none_left : (vs : List (Bor (List ℕ) × ℤ)) (es : List (Place × ℤ)) (t : Store) → (0 < length vs → ⊥) → with_variables vs (store_of es) ≡ t → store_of es ≡ t
unfolding with_variables
none_left vs es t none is = ap (λ l. with_variables l (store_of es)) (sym (emptied vs none)) ∙ is
