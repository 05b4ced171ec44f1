-- Every clause of a law is true: where all its literals fail, whatever is being shown is so.
use Rattle.std.specs.Prelude.{◌≡◌, ℕ, Bool, true, false, ◌==◌, ◌&&◌, List, [], ◌∷◌}
use Rattle.std.specs.List.{list_any}
use Rattle.std.proofs.Common.{sym, ◌∙◌, inl, inr, true≢false}
use Rattle.std.proofs.lemmas.Bool.{and_parts, or_parts}
use Rattle.toy_imp.specs.declared.instance.Instance.{Instance}
use Rattle.toy_imp.specs.Store.{Store}
use Rattle.toy_imp.specs.Meets.{Meets}
use Rattle.rule_terms.specs.declared.obligation.Literal.{Literal}
use Rattle.rule_terms.specs.declared.obligation.Obligation.{Obligation}
use Rattle.term_meaning.specs.Table.{Entry, Faithful}
use Rattle.term_meaning.specs.Meaning.{literal_truth, fits_kinds, Reached}
use Rattle.law_clauses.specs.Signed.{Signed, all_signed}
use Rattle.law_clauses.specs.Laws.{some_row, laws, is_clause}
use Rattle.law_clauses.specs.ClauseLaws.{ClausesAreTrue}
use Rattle.law_clauses.proofs.Same.{or_cases}
use Rattle.law_clauses.proofs.Each.{Each, each_of_all}
use Rattle.law_clauses.proofs.Meant.{Fails, Covers, signed_truth, all_covered}
use Rattle.law_clauses.proofs.WriteClauses.{law_1_true, law_2_true, law_3_true, law_4_true, law_5_true, law_6_true, law_7_true, law_8_true, law_9_true, law_10_true}
use Rattle.law_clauses.proofs.ConditionClauses.{law_11_true, law_12_true, law_13_true, law_14_true, law_15_true, law_16_true, law_17_true, law_18_true, law_19_true, law_20_true, law_21_true}
use Rattle.law_clauses.proofs.NumberClauses.{law_22_true, law_23_true, law_24_true}

-- what follows from each row follows from some row
some_row_gives : (A : Type 0) (k : ℕ) (rows : List (ℕ × Bool)) → some_row k rows ≡ true → Each (λ (row : ℕ × Bool). row.1 ≡ true → A) rows → A
some_row_gives A k [] e each = absurd (true≢false (sym e))
some_row_gives A k (row ∷ rows) e each =
    elim (or_cases (k == row.0 && row.1) (some_row k rows) e) as (λ _. A) [
      | inl f ↦ each.0 (and_parts (k == row.0) row.1 f).1
      | inr f ↦ some_row_gives A k rows f each.1
    ]

module _ (A : Type 0) (i : Instance) (T : List Entry) (l r : Store) (faithful : Faithful A i T) (ob : Obligation) (fits : fits_kinds ob.params i.fillings ≡ true) (meets : Each (Meets i) ob.conditions) where
  pub clause_true : (k : ℕ) (clause : List Signed) → is_clause ob k clause ≡ true → Each (Covers i T l r) clause → Each (Fails i T l r) clause → A
  unfolding is_clause
  clause_true k clause e c none = some_row_gives A k (laws ob clause) e (
    λ h. law_1_true A i T l r clause h none,
    (
      λ h. law_2_true A i T l r clause h none,
      (
        λ h. law_3_true A i T l r clause h none,
        (
          λ h. law_4_true A i T l r clause h none,
          (
            λ h. law_5_true A i T l r clause h none,
            (
              λ h. law_6_true A i T l r clause h none,
              (
                λ h. law_7_true A i T l r clause h none,
                (
                  λ h. law_8_true A i T l r clause h none,
                  (
                    λ h. law_9_true A i T l r clause h none,
                    (
                      λ h. law_10_true A i T l r clause h none,
                      (
                        λ h. law_11_true A i T l r faithful ob meets clause h c none,
                        (
                          λ h. law_12_true A i T l r faithful ob meets fits clause h c none,
                          (
                            λ h. law_13_true A i T l r faithful ob meets clause h c none,
                            (
                              λ h. law_14_true A i T l r faithful ob meets clause h none,
                              (
                                λ h. law_15_true A i T l r faithful ob meets clause h none,
                                (
                                  λ h. law_16_true A i T l r faithful ob meets clause h c none,
                                  (
                                    λ h. law_17_true A i T l r faithful ob meets clause h c none,
                                    (
                                      λ h. law_18_true A i T l r faithful ob meets clause h c none,
                                      (
                                        λ h. law_19_true A i T l r faithful ob meets clause h none,
                                        (
                                          λ h. law_20_true A i T l r faithful ob meets clause h none,
                                          (
                                            λ h. law_21_true A i T l r faithful ob meets clause h none,
                                            (
                                              λ h. law_22_true A i T l r clause h none,
                                              (
                                                λ h. law_23_true A i T l r clause h none,
                                                (
                                                  λ h. law_24_true A i T l r clause h none,
                                                  tt,
                                                ),
                                              ),
                                            ),
                                          ),
                                        ),
                                      ),
                                    ),
                                  ),
                                ),
                              ),
                            ),
                          ),
                        ),
                      ),
                    ),
                  ),
                ),
              ),
            ),
          ),
        ),
      ),
    ),
  )

-- ---- .. stated of literals
module _ (i : Instance) (T : List Entry) (l r : Store) where
  all_fail : (xs : List Literal) → list_any (literal_truth i T l r) xs ≡ false → Each (Fails i T l r) (all_signed xs)
  all_fail [] e = tt
  all_fail (x ∷ xs) e =
      let p = or_parts (literal_truth i T l r x) (list_any (literal_truth i T l r) xs) e in
      (signed_truth i T l r x ∙ p.0, all_fail xs p.1)

pub clauses_are_true : ClausesAreTrue
clauses_are_true f i T l r faithful ob fits meets k clause e covers none =
    clause_true (Reached f) i T l r faithful ob fits (each_of_all (Meets i) ob.conditions meets) k (all_signed clause) e (all_covered i T l r clause covers) (all_fail i T l r clause none)
