-- The counts of an obligation: nodes, different stores, readings, and depth. Each stands still at 2^64 - 1.
use Rattle.std.specs.Prelude.{ℕ, suc, Bool, true, false, cond, List, [], ◌∷◌}
use Rattle.std.specs.List.{list_any, filter}
use Rattle.rule_terms.specs.Parts.{Part, a_store, a_value, a_place, an_expr, a_test, obligation_parts}
use Rattle.rule_terms.specs.Order.{part_same}
use Rattle.rule_terms.specs.Counts.{obligation_nodes, obligation_depth, saturated}
use Rattle.rule_terms.specs.declared.obligation.Obligation.{Obligation}
use Rattle.term_universe.specs.declared.tally.Tally.{Tally}

-- how many different items a list has: an item counts where no equal one comes after it
unfoldable pub different : {X : Type 0} → (X → X → Bool) → List X → ℕ
different same [] = 0
different same (x ∷ xs) = cond (list_any (same x) xs) (different same xs) (suc (different same xs))

abbrev pub is_store : Part → Bool
is_store (a_store s) = true
is_store _ = false

-- a place, an expression parameter or a test parameter
abbrev pub is_reading : Part → Bool
is_reading (a_place p) = true
is_reading (an_expr k) = true
is_reading (a_test k) = true
is_reading _ = false

abbrev pub is_value : Part → Bool
is_value (a_value v) = true
is_value _ = false

abbrev pub different_stores : List Part → ℕ
different_stores ps = different part_same (filter is_store ps)

abbrev pub different_readings : List Part → ℕ
different_readings ps = different part_same (filter is_reading ps)

abbrev pub tally : Obligation → Tally
tally ob = record { nodes = saturated (obligation_nodes ob); stores = saturated (different_stores (obligation_parts ob)); readings = saturated (different_readings (obligation_parts ob)); depth = saturated (obligation_depth ob) }
