-- What is wrong with a rule whose sides have loops: one definition for each item, and the first item of all that holds of a rule.
-- They come after the items that every rule is asked.
use Rattle.std.specs.Prelude.{ℕ, Bool, true, false, not, ◌&&◌, ◌||◌, ◌==◌, nat_lt, List, [], ◌∷◌, length, count_by, Option, None, Some, is_none, if◌then◌else◌}
use Rattle.std.specs.List.{list_all, list_any}
use Rattle.std.specs.Option.{option_or}
use Rattle.toy_imp.specs.declared.condition.Condition.{Condition}
use Rattle.toy_imp.specs.declared.condition.Condition.TheVariants as condition
use Rattle.toy_imp.specs.declared.condition.Region.{Region}
use Rattle.toy_imp.specs.declared.condition.Region.TheVariants as region
use Rattle.toy_imp.specs.declared.rule.Method.{Method}
use Rattle.toy_imp.specs.declared.rule.Method.TheVariants as method
use Rattle.toy_imp.specs.declared.rule.Rule.{Rule}
use Rattle.toy_imp.specs.Faults.{is_swaps, first_fault as general_fault}
use Rattle.loop_sides.specs.declared.spots.Spot.{Spot}
use Rattle.loop_sides.specs.declared.spots.Sides.{Sides}
use Rattle.loop_sides.specs.Below.{any_below}
use Rattle.loop_sides.specs.Required.{lacks_condition}
use Rattle.loop_sides.specs.Setting.{sets_round}
use Rattle.loop_sides.specs.Spots.{spot_of, sides_of}
use Rattle.loop_maps.specs.Maps.{maps_between}

abbrev pub is_permute : Method → Bool
is_permute method.Simulate = false
is_permute method.Permute = true
is_permute method.Chain = false
is_permute method.Tile = false

abbrev pub is_chain : Method → Bool
is_chain method.Simulate = false
is_chain method.Permute = false
is_chain method.Chain = true
is_chain method.Tile = false

-- F7: method permute, and the sides are not those of a rule of loops
abbrev pub has_other_sides : Rule → Bool
has_other_sides rule = is_permute rule.method && is_none (sides_of rule)

-- F8: method permute, and a condition that is required is missing
abbrev pub lacks_required : Rule → Bool
lacks_required rule = is_permute rule.method && lacks_condition rule

-- F9: method permute, and a statement has no map with an inverse
abbrev pub is_mapless : ℕ → Option Spot → Option Spot → Bool
is_mapless n (Some left) (Some right) = is_none (maps_between n left right)
is_mapless n _ _ = false

abbrev pub statement_mapless : ℕ → Sides → ℕ → Bool
statement_mapless n sides k = is_mapless n (spot_of k sides.left) (spot_of k sides.right)

abbrev pub some_mapless : ℕ → Option Sides → Bool
some_mapless n None = false
some_mapless n (Some sides) = any_below (statement_mapless n sides) n

abbrev pub lacks_map : Rule → Bool
lacks_map rule = is_permute rule.method && some_mapless (length rule.params) (sides_of rule)

-- F10: a `swaps` condition that lists no name, more than two, or one twice, or one name alone for `crossing`; and, but for method
-- chain, more than two such conditions, or one with a name that is not set on both sides round both its statements
abbrev pub is_crossing : Region → Bool
is_crossing region.Distinct = false
is_crossing region.Earlier = false
is_crossing region.Crossing = true

abbrev pub is_wrong_list : Region → List ℕ → Bool
is_wrong_list r [] = true
is_wrong_list r (x ∷ []) = is_crossing r
is_wrong_list r (x ∷ y ∷ []) = x == y
is_wrong_list r (x ∷ y ∷ z ∷ names) = true

abbrev pub lists_wrongly : Condition → Bool
lists_wrongly (condition.Swaps s t names r) = is_wrong_list r names
lists_wrongly _ = false

abbrev pub is_set_round_one : Rule → ℕ → ℕ → Bool
is_set_round_one rule s x = sets_round x s rule.left && sets_round x s rule.right

abbrev pub is_set_round : Rule → ℕ → ℕ → ℕ → Bool
is_set_round rule s t x = is_set_round_one rule s x && is_set_round_one rule t x

abbrev pub names_unset : Rule → Condition → Bool
names_unset rule (condition.Swaps s t names r) = not (list_all (is_set_round rule s t) names)
names_unset rule _ = false

abbrev pub swaps_count : Rule → ℕ
swaps_count rule = count_by is_swaps rule.conditions

abbrev pub has_wrong_swaps : Rule → Bool
has_wrong_swaps rule =
    list_any lists_wrongly rule.conditions
    || (not (is_chain rule.method) && (nat_lt 2 (swaps_count rule) || list_any (names_unset rule) rule.conditions))

-- the least number of an item F7 to F10 that holds
unfoldable pub first_loop_fault : Rule → Option ℕ
first_loop_fault rule =
    if has_other_sides rule then Some 7
    else if lacks_required rule then Some 8
    else if lacks_map rule then Some 9
    else if has_wrong_swaps rule then Some 10
    else None

-- the items of every rule come before those of loops, save the one on size, 11, which comes after them
unfoldable pub merged : Option ℕ → Option ℕ → Option ℕ
merged None by_loops = by_loops
merged (Some k) by_loops = if nat_lt k 7 then Some k else option_or by_loops (Some k)

-- the least number of an item F1 to F11 that holds
abbrev pub first_fault : Rule → Option ℕ
first_fault rule = merged (general_fault rule) (first_loop_fault rule)
