-- The count of different parts, as the walk goes from one to the next.
-- A value term is behind all store terms and readings.
use Rattle.std.specs.Prelude.{◌≡◌, ℕ, ◌+◌, Bool, true, cond, List, Option, Some, None, refl}
use Rattle.std.proofs.Common.{◌∙◌, ap, arith}
use Rattle.std.specs.List.{filter}
use Rattle.std.specs.Ordering.{is_lt}
use Rattle.rule_terms.specs.Parts.{Part, a_store, a_value, a_place, an_expr, a_test}
use Rattle.rule_terms.specs.Order.{part_cmp, part_same}
use Rattle.term_universe.specs.Tallies.{different, is_store, is_reading, is_value}
use Rattle.rule_terms.specs.Counts.{saturated}
use Rattle.term_universe.specs.Least.{least_above}
use Rattle.rule_terms.proofs.Orders.{part_total, part_equal}
use Rattle.term_universe.proofs.Nexts.{passed, next_counts, starts_at_none, all_passed, kind_passed}

-- how many different parts of a kind did not pass a mark
abbrev pub counted : (Part → Bool) → Option Part → List Part → ℕ
counted kind low ps = different part_same (filter (passed part_cmp part_total part_equal kind low) ps)

pub counted_none : (kind : Part → Bool) (ps : List Part) → 0 ≡ saturated (counted kind None ps)
counted_none kind ps = let none : counted kind None ps ≡ 0 = starts_at_none part_cmp part_total part_equal kind ps in omega (arith, none)

pub counted_next : (kind : Part → Bool) (low : Option Part) (ps : List Part) (m : Part) (n after : ℕ) → least_above part_cmp low None ps ≡ Some m
    → n ≡ saturated (counted kind low ps) → after ≡ saturated (n + cond (kind m) 1 0) → after ≡ saturated (counted kind (Some m) ps)
counted_next kind low ps m n after h e k =
    let step : counted kind (Some m) ps ≡ counted kind low ps + cond (kind m) 1 0 = next_counts part_cmp part_total part_equal kind low ps m h in
    omega (arith, step, e, k)

pub counted_all : (kind : Part → Bool) (low : Option Part) (ps : List Part) (n : ℕ) → least_above part_cmp low None ps ≡ None
    → n ≡ saturated (counted kind low ps) → n ≡ saturated (different part_same (filter kind ps))
counted_all kind low ps n h e = e ∙ ap saturated (all_passed part_cmp part_total part_equal kind low ps h)

store_first : (p m : Part) → is_value m ≡ true → is_store p ≡ true → is_lt (part_cmp p m) ≡ true
unfolding part_cmp
store_first (a_store s) (a_value v) h k = refl
store_first (a_store s) (a_store t) h k = cc
store_first (a_store s) (a_place q) h k = cc
store_first (a_store s) (an_expr j) h k = cc
store_first (a_store s) (a_test j) h k = cc
store_first (a_value v) m h k = cc
store_first (a_place q) m h k = cc
store_first (an_expr j) m h k = cc
store_first (a_test j) m h k = cc

reading_first : (p m : Part) → is_value m ≡ true → is_reading p ≡ true → is_lt (part_cmp p m) ≡ true
unfolding part_cmp
reading_first (a_place q) (a_value v) h k = refl
reading_first (a_place q) (a_store s) h k = cc
reading_first (a_place q) (a_place r) h k = cc
reading_first (a_place q) (an_expr j) h k = cc
reading_first (a_place q) (a_test j) h k = cc
reading_first (an_expr i) (a_value v) h k = refl
reading_first (an_expr i) (a_store s) h k = cc
reading_first (an_expr i) (a_place r) h k = cc
reading_first (an_expr i) (an_expr j) h k = cc
reading_first (an_expr i) (a_test j) h k = cc
reading_first (a_test i) (a_value v) h k = refl
reading_first (a_test i) (a_store s) h k = cc
reading_first (a_test i) (a_place r) h k = cc
reading_first (a_test i) (an_expr j) h k = cc
reading_first (a_test i) (a_test j) h k = cc
reading_first (a_store s) m h k = cc
reading_first (a_value v) m h k = cc

pub stores_done : (low : Option Part) (ps : List Part) (m : Part) (n : ℕ) → is_value m ≡ true → least_above part_cmp low None ps ≡ Some m
    → n ≡ saturated (counted is_store low ps) → n ≡ saturated (different part_same (filter is_store ps))
stores_done low ps m n v h e = e ∙ ap saturated (kind_passed part_cmp part_total part_equal is_store low ps m (λ p k. store_first p m v k) h)

pub readings_done : (low : Option Part) (ps : List Part) (m : Part) (n : ℕ) → is_value m ≡ true → least_above part_cmp low None ps ≡ Some m
    → n ≡ saturated (counted is_reading low ps) → n ≡ saturated (different part_same (filter is_reading ps))
readings_done low ps m n v h e = e ∙ ap saturated (kind_passed part_cmp part_total part_equal is_reading low ps m (λ p k. reading_first p m v k) h)
