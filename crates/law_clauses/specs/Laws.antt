-- The clauses of the laws, by the laws' numbers, for the parameters and the side conditions of an obligation.
use Rattle.std.specs.Prelude.{ℕ, Bool, false, ◌==◌, ◌&&◌, ◌||◌, List, [], ◌∷◌}
use Rattle.rule_terms.specs.declared.obligation.Obligation.{Obligation}
use Rattle.law_clauses.specs.Signed.{Signed}
use Rattle.law_clauses.specs.WriteLaws.{law_1, law_2, law_3, law_4, law_5, law_6, law_7, law_8, law_9, law_10}
use Rattle.law_clauses.specs.ConditionLaws.{law_11, law_12, law_13, law_14, law_15, law_16, law_17, law_18, law_19, law_20, law_21}
use Rattle.law_clauses.specs.NumberLaws.{law_22, law_23, law_24}

-- some row has this number, and holds
abbrev pub some_row : ℕ → List (ℕ × Bool) → Bool
some_row k [] = false
some_row k (row ∷ rows) = (k == row.0 && row.1) || some_row k rows

-- each law by its number, and whether the list of literals is a clause of it
abbrev pub laws : Obligation → List Signed → List (ℕ × Bool)
laws ob clause =
    (1, law_1 clause) ∷ (2, law_2 clause) ∷ (3, law_3 clause) ∷ (4, law_4 clause) ∷ (5, law_5 clause) ∷ (6, law_6 clause)
    ∷ (7, law_7 clause) ∷ (8, law_8 clause) ∷ (9, law_9 clause) ∷ (10, law_10 clause)
    ∷ (11, law_11 ob clause) ∷ (12, law_12 ob clause) ∷ (13, law_13 ob clause)
    ∷ (14, law_14 ob clause) ∷ (15, law_15 ob clause) ∷ (16, law_16 ob clause)
    ∷ (17, law_17 ob clause) ∷ (18, law_18 ob clause) ∷ (19, law_19 ob clause)
    ∷ (20, law_20 ob clause) ∷ (21, law_21 ob clause)
    ∷ (22, law_22 clause) ∷ (23, law_23 clause) ∷ (24, law_24 clause) ∷ []

unfoldable pub is_clause : Obligation → ℕ → List Signed → Bool
is_clause ob k clause = some_row k (laws ob clause)
