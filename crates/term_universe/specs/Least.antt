-- The least item above a mark, among others, in a total order; each different item of a list is met by going from one to the next.
-- `least_above low best xs` is the least of `best` and those of xs that are above `low`.
use Rattle.std.specs.Prelude.{◌≡◌, Bool, true, cond, ◌&&◌, List, [], ◌∷◌, ◌++◌, Option, Some, None, refl}
use Rattle.std.specs.Ordering.{is_lt}
use Rattle.std.specs.declared.cmp.Ordering.{Ordering}

-- above the mark, or any where there is no mark
abbrev pub is_above : {X : Type 0} → (X → X → Ordering) → Option X → X → Bool
is_above cmp None x = true
is_above cmp (Some low) x = is_lt (cmp low x)

-- before the least so far, or any where there is none
abbrev pub is_before : {X : Type 0} → (X → X → Ordering) → Option X → X → Bool
is_before cmp None x = true
is_before cmp (Some best) x = is_lt (cmp x best)

abbrev pub lesser : {X : Type 0} → (X → X → Ordering) → Option X → Option X → X → Option X
lesser cmp low best x = cond (is_above cmp low x && is_before cmp best x) (Some x) best

unfoldable pub least_above : {X : Type 0} → (X → X → Ordering) → Option X → Option X → List X → Option X
least_above cmp low best [] = best
least_above cmp low best (x ∷ xs) = least_above cmp low (lesser cmp low best x) xs

pub least_append : {X : Type 0} (cmp : X → X → Ordering) (low best : Option X) (xs ys : List X) → least_above cmp low best (xs ++ ys) ≡ least_above cmp low (least_above cmp low best xs) ys
unfolding least_above
least_append cmp low best [] ys = refl
least_append cmp low best (x ∷ xs) ys = least_append cmp low (lesser cmp low best x) xs ys
