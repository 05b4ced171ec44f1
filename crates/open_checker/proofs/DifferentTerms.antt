-- Marks that are listed once are of different terms.
use Rattle.std.proofs.Common.{◌≡◌, ◌≢◌, ℕ, zero, suc, ◌<◌, Bool, true, false, cond, not, List, [], ◌∷◌, length, get_or, Some, is_some, subst, true≢false, arith}
use Rattle.std.proofs.lemmas.Bool.{and_parts}
use Rattle.std.proofs.lemmas.List.Kept.{AllPairs-cons}
use Rattle.rule_terms.specs.Term.{StoreTerm, ValueTerm}
use Rattle.rule_terms.specs.Order.{store_same, value_same}
use Rattle.law_clauses.proofs.Itself.{store_itself, value_itself}
use Rattle.law_clauses.proofs.Same.{not_true}
use Rattle.escape_marks.specs.declared.escape.StoreMark.{StoreMark}
use Rattle.escape_marks.specs.declared.escape.ValueMark.{ValueMark}
use Rattle.escape_marks.specs.Marks.{store_mark, value_mark}
use Rattle.open_checker.specs.Once.{stores_once, values_once}
use Rattle.open_checker.specs.EscapeLaws.{StoresDiffer, ValuesDiffer}

-- no mark of these is of the term
no_store : (ms : List StoreMark) (s : StoreTerm) → is_some (store_mark ms s) ≡ false → (k : ℕ) (d : StoreMark) → k < length ms → s ≢ (get_or ms k d).store
unfolding store_mark
no_store [] s h k d lt = absurd (omega (arith, lt))
no_store (x ∷ ms) s h zero d lt = λ e. true≢false (subst (λ t. is_some (cond t (Some x) (store_mark ms s)) ≡ false) (subst (λ (t : StoreTerm). store_same s t ≡ true) e (store_itself s)) h)
no_store (x ∷ ms) s h (suc k) d lt = no_store ms s (behind (store_same s x.store) h) k d (omega (arith, lt))
  where
    behind : (t : Bool) → is_some (cond t (Some x) (store_mark ms s)) ≡ false → is_some (store_mark ms s) ≡ false
    behind true f = absurd (true≢false f)
    behind false f = f

pub stores_differ : StoresDiffer
unfolding stores_once
stores_differ [] h = λ i j d before within. absurd (omega (arith, within))
stores_differ (m ∷ ms) h =
    let parts = and_parts (not (is_some (store_mark ms m.store))) (stores_once ms) h in
    AllPairs-cons (λ (a b : StoreMark). a.store ≢ b.store) m ms (no_store ms m.store (not_true _ parts.0)) (stores_differ ms parts.1)

-- no mark of these is of the term
no_value : (ms : List ValueMark) (s : ValueTerm) → is_some (value_mark ms s) ≡ false → (k : ℕ) (d : ValueMark) → k < length ms → s ≢ (get_or ms k d).value
unfolding value_mark
no_value [] s h k d lt = absurd (omega (arith, lt))
no_value (x ∷ ms) s h zero d lt = λ e. true≢false (subst (λ t. is_some (cond t (Some x) (value_mark ms s)) ≡ false) (subst (λ (t : ValueTerm). value_same s t ≡ true) e (value_itself s)) h)
no_value (x ∷ ms) s h (suc k) d lt = no_value ms s (behind (value_same s x.value) h) k d (omega (arith, lt))
  where
    behind : (t : Bool) → is_some (cond t (Some x) (value_mark ms s)) ≡ false → is_some (value_mark ms s) ≡ false
    behind true f = absurd (true≢false f)
    behind false f = f

pub values_differ : ValuesDiffer
unfolding values_once
values_differ [] h = λ i j d before within. absurd (omega (arith, within))
values_differ (m ∷ ms) h =
    let parts = and_parts (not (is_some (value_mark ms m.value))) (values_once ms) h in
    AllPairs-cons (λ (a b : ValueMark). a.value ≢ b.value) m ms (no_value ms m.value (not_true _ parts.0)) (values_differ ms parts.1)
