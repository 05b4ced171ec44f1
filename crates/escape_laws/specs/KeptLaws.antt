-- What the tests at terms say of the laws: where the marks of an escape pass them, each clause of these laws holds, and the other way round.
use Rattle.std.specs.Prelude.{◌≡◌, Bool, true, false}
use Rattle.std.specs.List.{list_all, list_any}
use Rattle.rule_terms.specs.declared.obligation.Obligation.{Obligation}
use Rattle.law_clauses.specs.ClauseForms.{Clause, literals, past_name, past_count, is_allowed, write_ends, written_ends, run_starts, plus_zero, zero_plus, zero_times, times_zero, one_times, times_one, less_itself}
use Rattle.escape_marks.specs.declared.escape.StoreMark.{StoreMark}
use Rattle.escape_marks.specs.declared.escape.ValueMark.{ValueMark}
use Rattle.escape_marks.specs.declared.escape.Escape.{Escape}
use Rattle.escape_marks.specs.Marks.{signed_true}
use Rattle.escape_marks.specs.LawsHold.{signed_marked, LawsHold}
use Rattle.escape_laws.specs.MarkedLaws.{ends_kept, reads_kept, sums_kept}

-- a clause of laws 7 to 9; of 2 and 4; of 23 and 24
abbrev pub speaks_of_ends : Clause → Bool
speaks_of_ends (write_ends s p v) = true
speaks_of_ends (written_ends s p v) = true
speaks_of_ends (run_starts k s) = true
speaks_of_ends _ = false

abbrev pub speaks_of_reads : Clause → Bool
speaks_of_reads (past_name s p v q) = true
speaks_of_reads (past_count s p v q) = true
speaks_of_reads _ = false

abbrev pub speaks_of_sums : Clause → Bool
speaks_of_sums (plus_zero a b) = true
speaks_of_sums (zero_plus a b) = true
speaks_of_sums (zero_times a b) = true
speaks_of_sums (times_zero a b) = true
speaks_of_sums (one_times a b) = true
speaks_of_sums (times_one a b) = true
speaks_of_sums (less_itself a b) = true
speaks_of_sums _ = false

-- all terms of the clause have marks only where one of its literals is true
abbrev pub HoldsIn : Obligation → Escape → Clause → Type 0
HoldsIn ob e c = list_all (signed_marked e) (literals c) ≡ true → list_any (signed_true ob.params e) (literals c) ≡ true

abbrev pub EndLawsHold : Type 0
EndLawsHold = (ob : Obligation) (e : Escape) → list_all (λ (m : StoreMark). ends_kept ob.params e m.store) e.stores ≡ true → (c : Clause) → speaks_of_ends c ≡ true → HoldsIn ob e c

abbrev pub ReadLawsHold : Type 0
ReadLawsHold = (ob : Obligation) (e : Escape) → list_all (λ (m : ValueMark). reads_kept ob.params e m.value) e.values ≡ true → (c : Clause) → speaks_of_reads c ≡ true → is_allowed ob c ≡ true → HoldsIn ob e c

abbrev pub SumLawsHold : Type 0
SumLawsHold = (ob : Obligation) (e : Escape) → list_all (λ (m : ValueMark). sums_kept ob.params e m.value) e.values ≡ true → (c : Clause) → speaks_of_sums c ≡ true → HoldsIn ob e c

-- where the laws hold, the tests pass
abbrev pub LawsPass : Type 0
LawsPass = (ob : Obligation) (e : Escape) → LawsHold ob e
    → (list_all (λ (m : StoreMark). ends_kept ob.params e m.store) e.stores ≡ true)
    × (list_all (λ (m : ValueMark). reads_kept ob.params e m.value) e.values ≡ true)
    × (list_all (λ (m : ValueMark). sums_kept ob.params e m.value) e.values ≡ true)
