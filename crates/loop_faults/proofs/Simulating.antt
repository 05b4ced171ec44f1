-- A rule of method simulate whose scopes are right has no `swaps` condition, so none of the items of loops holds of it.
use Rattle.std.specs.Prelude.{◌≡◌, ℕ, Bool, true, false, not, ◌&&◌, ◌||◌, nat_lt, List, [], ◌∷◌, length, count_by, Option, None, Some, is_none, if◌then◌else◌, refl}
use Rattle.std.specs.List.{list_any}
use Rattle.std.specs.Option.{option_or}
use Rattle.std.proofs.Common.{◌∙◌, ap, sym, arith, true≢false}
use Rattle.toy_imp.specs.declared.condition.Condition.{Condition}
use Rattle.toy_imp.specs.declared.condition.Condition.TheVariants as condition
use Rattle.toy_imp.specs.declared.rule.Method.{Method}
use Rattle.toy_imp.specs.declared.rule.Method.TheVariants as method
use Rattle.toy_imp.specs.declared.rule.Rule.{Rule}
use Rattle.toy_imp.specs.Faults.{is_simulate, is_swaps, simulates_scopes, has_scope, repeats_name, uses_undeclared, misplaces_parameter, omits_parameter, has_wrong_cuts, is_too_large, first_fault as general_fault}
use Rattle.loop_sides.specs.Required.{lacks_condition}
use Rattle.loop_sides.specs.Spots.{sides_of}
use Rattle.loop_faults.specs.Laws.{SimulateAsksNoMore}
use Rattle.loop_faults.specs.LoopFaults.{is_permute, is_chain, lists_wrongly, names_unset, swaps_count, has_wrong_swaps, some_mapless, first_loop_fault, merged}

-- an item by its number
abbrev item : ℕ → Option ℕ
item n = Some n

both_false : (a b : Bool) → (a || b) ≡ false → (a ≡ false) × (b ≡ false)
both_false true b is = absurd (true≢false is)
both_false false b is = (refl, is)

last_false : (a b c d : Bool) → (a && ((b || c) || d)) ≡ false → a ≡ true → d ≡ false
last_false true b c d is holds = (both_false (b || c) d is).1
last_false false b c d is holds = absurd (true≢false (sym holds))

not_permute : (m : Method) → is_simulate m ≡ true → is_permute m ≡ false
not_permute method.Simulate is = refl
not_permute method.Permute is = absurd (true≢false (sym is))
not_permute method.Chain is = refl
not_permute method.Tile is = refl

-- ---- without `swaps` conditions none is wrong
not_listed : (c : Condition) → is_swaps c ≡ false → lists_wrongly c ≡ false
not_listed (condition.Keeps s o) other = refl
not_listed (condition.Ignores o x) other = refl
not_listed (condition.Commutes s t) other = refl
not_listed (condition.Positive e) other = refl
not_listed (condition.Constant e) other = refl
not_listed (condition.Distinct x y) other = refl
not_listed (condition.Quiet s) other = refl
not_listed (condition.Swaps s t names r) other = absurd (true≢false other)

not_unset : (rule : Rule) (c : Condition) → is_swaps c ≡ false → names_unset rule c ≡ false
not_unset rule (condition.Keeps s o) other = refl
not_unset rule (condition.Ignores o x) other = refl
not_unset rule (condition.Commutes s t) other = refl
not_unset rule (condition.Positive e) other = refl
not_unset rule (condition.Constant e) other = refl
not_unset rule (condition.Distinct x y) other = refl
not_unset rule (condition.Quiet s) other = refl
not_unset rule (condition.Swaps s t names r) other = absurd (true≢false other)

none_more : (p q : Condition → Bool) → ((c : Condition) → p c ≡ false → q c ≡ false) → (cs : List Condition) → list_any p cs ≡ false → list_any q cs ≡ false
none_more p q less [] none = refl
none_more p q less (c ∷ cs) none =
    let parts = both_false (p c) (list_any p cs) none in
    ap (λ b. b || list_any q cs) (less c parts.0) ∙ none_more p q less cs parts.1

none_counted : (p : Condition → Bool) (cs : List Condition) → list_any p cs ≡ false → count_by p cs ≡ 0
none_counted p [] none = refl
none_counted p (c ∷ cs) none =
    let parts = both_false (p c) (list_any p cs) none in
    grind (arith, parts.0, none_counted p cs parts.1)

all_false : (a b c d : Bool) → a ≡ false → c ≡ false → d ≡ false → (a || (b && (c || d))) ≡ false
all_false a true c d first second third = grind (arith, first, second, third)
all_false a false c d first second third = grind (arith, first)

few : (n : ℕ) → n ≡ 0 → nat_lt 2 n ≡ false
few n is = ap (nat_lt 2) is

none_wrong : (rule : Rule) → list_any is_swaps rule.conditions ≡ false → has_wrong_swaps rule ≡ false
none_wrong rule none =
    all_false (list_any lists_wrongly rule.conditions) (not (is_chain rule.method)) (nat_lt 2 (swaps_count rule)) (list_any (names_unset rule) rule.conditions)
    (none_more is_swaps lists_wrongly not_listed rule.conditions none)
    (few (swaps_count rule) (none_counted is_swaps rule.conditions none))
    (none_more is_swaps (names_unset rule) (not_unset rule) rule.conditions none)

-- ---- none of the items of loops holds
none_by : (p a b c d : Bool) → p ≡ false → d ≡ false →
    (if p && a then item 7 else if p && b then item 8 else if p && c then item 9 else if d then item 10 else None) ≡ None
none_by true a b c d is last = absurd (true≢false is)
none_by false a b c true is last = absurd (true≢false last)
none_by false a b c false is last = refl

none_of_loops : (rule : Rule) → is_simulate rule.method ≡ true → simulates_scopes rule ≡ false → first_loop_fault rule ≡ None
unfolding first_loop_fault
none_of_loops rule simulate scopes =
    none_by (is_permute rule.method) (is_none (sides_of rule)) (lacks_condition rule) (some_mapless (length rule.params) (sides_of rule)) (has_wrong_swaps rule)
    (not_permute rule.method simulate)
    (none_wrong rule (last_false (is_simulate rule.method) (has_scope rule.left) (has_scope rule.right) (list_any is_swaps rule.conditions) scopes simulate))

-- ---- the items in order
merged_by : (a b c d e f g : Bool) (by_loops : Option ℕ) → (e ≡ false → by_loops ≡ None) →
    merged (if a then item 1 else if b then item 2 else if c then item 3 else if d then item 4 else if e then item 5 else if f then item 6 else if g then item 11 else None) by_loops
    ≡ (if a then item 1 else if b then item 2 else if c then item 3 else if d then item 4 else if e then item 5 else if f then item 6 else if g then item 11 else None)
unfolding merged
merged_by true b c d e f g by_loops none = refl
merged_by false true c d e f g by_loops none = refl
merged_by false false true d e f g by_loops none = refl
merged_by false false false true e f g by_loops none = refl
merged_by false false false false true f g by_loops none = refl
merged_by false false false false false true g by_loops none = refl
merged_by false false false false false false true by_loops none = ap (λ (o : Option ℕ). option_or o (item 11)) (none refl)
merged_by false false false false false false false by_loops none = none refl

pub simulate_asks_no_more : SimulateAsksNoMore
unfolding general_fault
simulate_asks_no_more rule simulate =
    merged_by (repeats_name rule.params) (uses_undeclared rule) (misplaces_parameter rule) (omits_parameter rule) (simulates_scopes rule) (has_wrong_cuts rule) (is_too_large rule)
    (first_loop_fault rule) (none_of_loops rule simulate)
