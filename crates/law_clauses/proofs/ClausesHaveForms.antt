-- Each clause of a law has a form, by the laws' numbers.
use Rattle.std.specs.Prelude.{◌≡◌, ℕ, Bool, true, ◌==◌, ◌&&◌, List, [], ◌∷◌}
use Rattle.std.proofs.Common.{sym, subst, inl, inr, true≢false}
use Rattle.std.proofs.lemmas.Bool.{and_parts}
use Rattle.rule_terms.specs.declared.obligation.Obligation.{Obligation}
use Rattle.law_clauses.specs.Signed.{Signed}
use Rattle.law_clauses.specs.Laws.{some_row, laws, is_clause}
use Rattle.law_clauses.specs.ClauseForms.{HasForm, ClausesHaveForms}
use Rattle.law_clauses.proofs.Same.{or_cases, number_is}
use Rattle.law_clauses.proofs.Each.{Each}
use Rattle.law_clauses.proofs.WriteForms.{form_1, form_2, form_3, form_4, form_5, form_6, form_7, form_8, form_9, form_10}
use Rattle.law_clauses.proofs.ConditionForms.{form_11, form_12, form_13, form_14, form_15, form_16, form_17, form_18, form_19, form_20, form_21}
use Rattle.law_clauses.proofs.NumberForms.{form_22, form_23, form_24}

module _ (ob : Obligation) where
  row_gives : (k : ℕ) (xs : List Signed) (rows : List (ℕ × Bool)) → some_row k rows ≡ true → Each (λ (row : ℕ × Bool). row.1 ≡ true → HasForm ob row.0 xs) rows → HasForm ob k xs
  row_gives k xs [] e each = absurd (true≢false (sym e))
  row_gives k xs (row ∷ rows) e each =
      elim (or_cases (k == row.0 && row.1) (some_row k rows) e) as (λ _. HasForm ob k xs) [
        | inl f ↦ let p = and_parts (k == row.0) row.1 f in subst (λ n. HasForm ob n xs) (sym (number_is k row.0 p.0)) (each.0 p.1)
        | inr f ↦ row_gives k xs rows f each.1
      ]

  all_forms : (xs : List Signed) → Each (λ (row : ℕ × Bool). row.1 ≡ true → HasForm ob row.0 xs) (laws ob xs)
  all_forms xs =
      (form_1 ob xs, (form_2 ob xs, (form_3 ob xs, (form_4 ob xs, (form_5 ob xs, (form_6 ob xs, (form_7 ob xs, (form_8 ob xs, (form_9 ob xs, (form_10 ob xs, (form_11 ob xs, (form_12 ob xs, (form_13 ob xs, (form_14 ob xs, (form_15 ob xs, (form_16 ob xs, (form_17 ob xs, (form_18 ob xs, (form_19 ob xs, (form_20 ob xs, (form_21 ob xs, (form_22 ob xs, (form_23 ob xs, (form_24 ob xs, tt))))))))))))))))))))))))

pub clauses_have_forms : ClausesHaveForms
unfolding is_clause
clauses_have_forms ob k xs e = row_gives ob k xs (laws ob xs) e (all_forms ob xs)
