-- The laws whose clauses have one, two or three literals, by their numbers: all but those that speak of any number of places, 1 and 5.
-- That these and the two are all laws is a lemma: `proofs/ShortClauses.antt`.
use Rattle.std.specs.Prelude.{ℕ, Bool, ◌||◌, List, [], ◌∷◌}
use Rattle.rule_terms.specs.declared.obligation.Obligation.{Obligation}
use Rattle.law_clauses.specs.Signed.{Signed}
use Rattle.law_clauses.specs.WriteLaws.{law_2, law_3, law_4, law_6, law_7, law_8, law_9, law_10}
use Rattle.law_clauses.specs.ConditionLaws.{law_11, law_12, law_13, law_14, law_15, law_16, law_17, law_18, law_19, law_20, law_21}
use Rattle.law_clauses.specs.NumberLaws.{law_22, law_23, law_24}
use Rattle.law_clauses.specs.Laws.{some_row}

abbrev pub laws_of_one : Obligation → List Signed → List (ℕ × Bool)
laws_of_one ob clause = (4, law_4 clause) ∷ (6, law_6 clause) ∷ (18, law_18 ob clause) ∷ (21, law_21 ob clause) ∷ []

-- of two literals: reads and writes, side conditions, numbers
abbrev pub write_laws_of_two : List Signed → List (ℕ × Bool)
write_laws_of_two clause = (2, law_2 clause) ∷ (3, law_3 clause) ∷ (7, law_7 clause) ∷ (8, law_8 clause) ∷ (9, law_9 clause) ∷ []

abbrev pub condition_laws_of_two : Obligation → List Signed → List (ℕ × Bool)
condition_laws_of_two ob clause =
    (11, law_11 ob clause) ∷ (12, law_12 ob clause) ∷ (14, law_14 ob clause)
    ∷ (16, law_16 ob clause) ∷ (19, law_19 ob clause) ∷ []

abbrev pub number_laws_of_two : List Signed → List (ℕ × Bool)
number_laws_of_two clause = (23, law_23 clause) ∷ (24, law_24 clause) ∷ []

-- some law of two literals by its number
abbrev pub some_law_of_two : Obligation → ℕ → List Signed → Bool
some_law_of_two ob k clause = some_row k (write_laws_of_two clause) || (some_row k (condition_laws_of_two ob clause) || some_row k (number_laws_of_two clause))

abbrev pub laws_of_three : Obligation → List Signed → List (ℕ × Bool)
laws_of_three ob clause =
    (10, law_10 clause) ∷ (13, law_13 ob clause) ∷ (15, law_15 ob clause)
    ∷ (17, law_17 ob clause) ∷ (20, law_20 ob clause) ∷ (22, law_22 clause) ∷ []
