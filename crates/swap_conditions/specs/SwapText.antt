-- `swaps` by text, for two blocks S and T and the names of one or two counters.
-- They share a name where one writes it and the other reads or writes it. All places of such a name, in both blocks, have to have
-- as many indices, and at some position `k + c` for a counter k: with one c where the numbers of k differ in the region, and where
-- S's is the greater with no c in S below one in T. So S and T touch different cells of it. A place of it clashes otherwise.
use Rattle.std.specs.Prelude.{ℕ, zero, suc, ℤ, Bool, true, false, not, ◌&&◌, ◌||◌, List, [], ◌∷◌, Option, Some, None, bytes_eq}
use Rattle.toy_imp.specs.declared.name.Name.{Name}
use Rattle.toy_imp.specs.declared.condition.Region.{Region}
use Rattle.toy_imp.specs.declared.condition.Region.TheVariants as region
use Rattle.toy_imp.specs.Cell.{spelled}
use Rattle.toy_imp.specs.Expr.{Exprs}
use Rattle.toy_imp.specs.Block.{Block}
use Rattle.side_conditions.specs.Places.{block_asserts}
use Rattle.side_conditions.specs.Seeking.{reads_name, writes_name}
use Rattle.swap_conditions.specs.Standing.{block_has, every_place}
use Rattle.swap_conditions.specs.Placing.{count, distance, is_just, not_above}

-- whether a test holds of a number below n
abbrev pub some_below : ℕ → (ℕ → Bool) → Bool
some_below zero test = false
some_below (suc n) test = test n || some_below n test

-- all places of the name z in S and in T are c from the counter k
abbrev pub all_just : List ℕ → ℕ → ℕ → List ℕ → Block → Block → Option ℤ → Bool
all_just k n p z s t (Some c) = every_place z (λ es. is_just c (distance k n p es)) s && every_place z (λ es. is_just c (distance k n p es)) t
all_just k n p z s t None = false

-- .. as a place with these indices is, at a position, and at some position
abbrev pub constant_at : Name → List ℕ → Exprs → Block → Block → ℕ → Bool
constant_at k z is s t p = all_just (spelled k) (count is) p z s t (distance (spelled k) (count is) p is)

abbrev pub has_constant : Name → List ℕ → Exprs → Block → Block → Bool
has_constant k z is s t = some_below (count is) (constant_at k z is s t)

-- all places of the name z in T are at most as far from the counter k as all those in S
abbrev pub all_ordered : List ℕ → ℕ → ℕ → List ℕ → Block → Block → Bool
all_ordered k n p z s t = every_place z (λ es. every_place z (λ js. not_above (distance k n p js) (distance k n p es)) t) s

-- .. at a position of so many indices as these, and at some position
abbrev pub order_at : Name → List ℕ → Exprs → Block → Block → ℕ → Bool
order_at k z is s t p = all_ordered (spelled k) (count is) p z s t

abbrev pub has_order : Name → List ℕ → Exprs → Block → Block → Bool
has_order k z is s t = some_below (count is) (order_at k z is s t)

-- what the region demands of a name that clashes; these are the indices of one of its places
abbrev pub is_apart : Region → List Name → List ℕ → Exprs → Block → Block → Bool
is_apart region.Distinct (k ∷ []) z is s t = has_constant k z is s t
is_apart region.Distinct (k ∷ l ∷ []) z is s t = has_constant k z is s t && has_constant l z is s t
is_apart region.Earlier (k ∷ []) z is s t = has_order k z is s t
is_apart region.Earlier (k ∷ l ∷ []) z is s t = has_constant k z is s t && has_constant l z is s t
is_apart region.Crossing (k ∷ l ∷ []) z is s t = has_constant k z is s t || has_constant l z is s t
is_apart _ _ z is s t = false

-- whether a block reads or writes a name
abbrev pub touches : Block → List ℕ → Bool
touches b z = reads_name b z || writes_name b z

-- whether one of two blocks writes a name and the other reads or writes it
abbrev pub shares : Block → Block → List ℕ → Bool
shares s t z = (writes_name s z && touches t z) || (writes_name t z && touches s z)

-- a place of such a name, without what the region demands
abbrev pub clashes : Region → List Name → Block → Block → Name → Exprs → Bool
clashes r ks s t x is = shares s t (spelled x) && not (is_apart r ks (spelled x) is s t)

-- one counter, or two that differ
abbrev pub are_counters : List Name → Bool
are_counters (k ∷ []) = true
are_counters (k ∷ l ∷ []) = not (bytes_eq (spelled k) (spelled l))
are_counters _ = false

-- a block that writes none of the counters
abbrev pub leaves : List Name → Block → Bool
leaves [] b = true
leaves (k ∷ ks) b = not (writes_name b (spelled k)) && leaves ks b

-- a name that they share stands in both, so the places in the first are all that is asked of
abbrev pub swaps_by_text : Block → Block → List Name → Region → Bool
swaps_by_text s t ks r =
    (not (block_asserts s) && not (block_asserts t))
    && ((are_counters ks && (leaves ks s && leaves ks t)) && not (block_has (clashes r ks s t) s))
