-- A clause of a law has one, two or three literals, but for the laws 1 and 5; so the short tables are the laws of such clauses.
use Rattle.std.specs.Prelude.{◌≡◌, ◌≢◌, ℕ, Bool, true, false, cond, ◌==◌, ◌&&◌, ◌||◌, ◌<◌, ◌≤◌, List, [], ◌∷◌, ◌++◌, length, get_or, refl}
use Rattle.std.proofs.Common.{sym, ap, ◌∙◌, arith, true≢false}
use Rattle.std.proofs.lemmas.Bool.{eq-eqb, eqb-true}
use Rattle.std.proofs.lemmas.List.{drop_all, length-map}
use Rattle.toy_imp.proofs.Items.{one_item, two_items, three_items}
use Rattle.rule_terms.specs.declared.obligation.Literal.{Literal}
use Rattle.rule_terms.specs.declared.obligation.Obligation.{Obligation}
use Rattle.law_clauses.specs.Signed.{Signed, signed_of, all_signed}
use Rattle.law_clauses.specs.WriteLaws.{law_1, law_5}
use Rattle.law_clauses.specs.Laws.{some_row, laws, is_clause}
use Rattle.law_clauses.specs.ShortLaws.{laws_of_one, write_laws_of_two, condition_laws_of_two, number_laws_of_two, some_law_of_two, laws_of_three}
use Rattle.law_clauses.proofs.ClauseLengths.{law_2_two, law_3_two, law_4_one, law_6_one, law_7_two, law_8_two, law_9_two, law_10_three, law_11_two, law_12_two, law_13_three, law_14_two, law_15_three, law_16_two, law_17_three, law_18_one, law_19_two, law_20_three, law_21_one, law_22_three, law_23_two, law_24_two}
use Rattle.law_clauses.proofs.Same.{or_false, or_more}

-- how many literals the clauses of each law have, 0 for any number of them
abbrev sizes : List ℕ
sizes = 0 ∷ 2 ∷ 2 ∷ 1 ∷ 0 ∷ 1 ∷ 2 ∷ 2 ∷ 2 ∷ 3 ∷ 2 ∷ 2 ∷ 3 ∷ 2 ∷ 3 ∷ 2 ∷ 3 ∷ 1 ∷ 2 ∷ 3 ∷ 1 ∷ 3 ∷ 2 ∷ 2 ∷ []

-- a row of another size than n is of no use for k
abbrev Sized : ℕ → ℕ → List ℕ → List (ℕ × Bool) → Type 0
Sized k n [] rows = Unit {0}
Sized k n (m ∷ ms) [] = Unit {0}
Sized k n (m ∷ ms) (row ∷ rows) = (n ≢ m → (k == row.0 && row.1) ≡ false) × Sized k n ms rows

-- the rows of size n
abbrev kept : ℕ → List ℕ → List (ℕ × Bool) → List (ℕ × Bool)
kept n [] rows = rows
kept n (m ∷ ms) [] = []
kept n (m ∷ ms) (row ∷ rows) = cond (n == m) (row ∷ kept n ms rows) (kept n ms rows)

by_size : (k n m : ℕ) (row : ℕ × Bool) (more less : List (ℕ × Bool)) (b : Bool) → (n == m) ≡ b → (n ≢ m → (k == row.0 && row.1) ≡ false) → some_row k more ≡ some_row k less
    → ((k == row.0 && row.1) || some_row k more) ≡ some_row k (cond b (row ∷ less) less)
by_size k n m row more less true e none same = ap (λ c. (k == row.0 && row.1) || c) same
by_size k n m row more less false e none same =
    let apart : n ≢ m = λ f. true≢false (sym (eq-eqb n m f) ∙ e) in
    ap (λ c. c || some_row k more) (none apart) ∙ same

kept_same : (k n : ℕ) (ms : List ℕ) (rows : List (ℕ × Bool)) → Sized k n ms rows → some_row k rows ≡ some_row k (kept n ms rows)
kept_same k n [] rows h = refl
kept_same k n (m ∷ ms) [] h = refl
kept_same k n (m ∷ ms) (row ∷ rows) h = by_size k n m row rows (kept n ms rows) (n == m) refl h.0 (kept_same k n ms rows h.1)

-- a row of another number, and one that does not hold
other : (k n : ℕ) (b : Bool) → k ≢ n → (k == n && b) ≡ false
other k n b apart = by_test (k == n) refl
  where
    by_test : (c : Bool) → (k == n) ≡ c → (c && b) ≡ false
    by_test true e = absurd (apart (eqb-true k n e))
    by_test false e = refl

fails : (k n : ℕ) (b : Bool) → b ≡ false → (k == n && b) ≡ false
fails k n b e = ap (λ c. k == n && c) e ∙ by_test (k == n)
  where
    by_test : (c : Bool) → (c && false) ≡ false
    by_test true = refl
    by_test false = refl

some_row_append : (k : ℕ) (rows more : List (ℕ × Bool)) → some_row k (rows ++ more) ≡ (some_row k rows || some_row k more)
some_row_append k [] more = refl
some_row_append k (row ∷ rows) more = ap (λ b. (k == row.0 && row.1) || b) (some_row_append k rows more) ∙ or_more (k == row.0 && row.1) (some_row k rows) (some_row k more)

module _ (ob : Obligation) (k : ℕ) (not_1 : k ≢ 1) (not_5 : k ≢ 5) where
  sized : (n : ℕ) (xs : List Signed) → (n ≢ 1 → length xs ≢ 1) → (n ≢ 2 → length xs ≢ 2) → (n ≢ 3 → length xs ≢ 3) → Sized k n sizes (laws ob xs)
  sized n xs one two three = (
    λ h. other k 1 (law_1 xs) not_1,
    (
      λ h. fails k 2 _ (law_2_two xs (two h)),
      (
        λ h. fails k 3 _ (law_3_two xs (two h)),
        (
          λ h. fails k 4 _ (law_4_one xs (one h)),
          (
            λ h. other k 5 (law_5 xs) not_5,
            (
              λ h. fails k 6 _ (law_6_one xs (one h)),
              (
                λ h. fails k 7 _ (law_7_two xs (two h)),
                (
                  λ h. fails k 8 _ (law_8_two xs (two h)),
                  (
                    λ h. fails k 9 _ (law_9_two xs (two h)),
                    (
                      λ h. fails k 10 _ (law_10_three xs (three h)),
                      (
                        λ h. fails k 11 _ (law_11_two ob xs (two h)),
                        (
                          λ h. fails k 12 _ (law_12_two ob xs (two h)),
                          (
                            λ h. fails k 13 _ (law_13_three ob xs (three h)),
                            (
                              λ h. fails k 14 _ (law_14_two ob xs (two h)),
                              (
                                λ h. fails k 15 _ (law_15_three ob xs (three h)),
                                (
                                  λ h. fails k 16 _ (law_16_two ob xs (two h)),
                                  (
                                    λ h. fails k 17 _ (law_17_three ob xs (three h)),
                                    (
                                      λ h. fails k 18 _ (law_18_one ob xs (one h)),
                                      (
                                        λ h. fails k 19 _ (law_19_two ob xs (two h)),
                                        (
                                          λ h. fails k 20 _ (law_20_three ob xs (three h)),
                                          (
                                            λ h. fails k 21 _ (law_21_one ob xs (one h)),
                                            (
                                              λ h. fails k 22 _ (law_22_three xs (three h)),
                                              (
                                                λ h. fails k 23 _ (law_23_two xs (two h)),
                                                (λ h. fails k 24 _ (law_24_two xs (two h)), tt),
                                              ),
                                            ),
                                          ),
                                        ),
                                      ),
                                    ),
                                  ),
                                ),
                              ),
                            ),
                          ),
                        ),
                      ),
                    ),
                  ),
                ),
              ),
            ),
          ),
        ),
      ),
    ),
  )

  of_size : (n : ℕ) (xs : List Signed) → (n ≢ 1 → length xs ≢ 1) → (n ≢ 2 → length xs ≢ 2) → (n ≢ 3 → length xs ≢ 3) → is_clause ob k xs ≡ some_row k (kept n sizes (laws ob xs))
  unfolding is_clause
  of_size n xs one two three = kept_same k n sizes (laws ob xs) (sized n xs one two three)

  -- ---- lists of literals, as a slice's pattern finds them
  pub one_short : (xs : List Literal) (x : Literal) → 1 ≤ length xs → length xs < 2 → x ≡ get_or xs 0 x → is_clause ob k (all_signed xs) ≡ some_row k (laws_of_one ob (signed_of x ∷ []))
  one_short xs x low high p = ap (λ ys. is_clause ob k (all_signed ys)) (one_item xs x low high p) ∙ of_size 1 (signed_of x ∷ []) (λ h. h) (λ h. h) (λ h. h)

  pub two_short : (xs : List Literal) (x y : Literal) → 2 ≤ length xs → length xs < 3 → x ≡ get_or xs 0 x → y ≡ get_or xs 1 y
      → is_clause ob k (all_signed xs)
      ≡ some_law_of_two ob k (signed_of x ∷ signed_of y ∷ [])
  two_short xs x y low high p q =
      let clause = signed_of x ∷ signed_of y ∷ [] in
      ap (λ ys. is_clause ob k (all_signed ys)) (two_items xs x y low high p q)
      ∙ of_size 2 clause (λ h. h) (λ h. h) (λ h. h)
      ∙ some_row_append k (write_laws_of_two clause) (condition_laws_of_two ob clause ++ number_laws_of_two clause)
      ∙ ap (λ b. some_row k (write_laws_of_two clause) || b) (some_row_append k (condition_laws_of_two ob clause) (number_laws_of_two clause))

  pub three_short : (xs : List Literal) (x y z : Literal) → 3 ≤ length xs → length xs < 4 → x ≡ get_or xs 0 x → y ≡ get_or xs 1 y → z ≡ get_or xs 2 z
      → is_clause ob k (all_signed xs) ≡ some_row k (laws_of_three ob (signed_of x ∷ signed_of y ∷ signed_of z ∷ []))
  three_short xs x y z low high p q r =
      let end : length xs ≤ 3 = omega arith in
      let items = three_items xs x y z low p q r ∙ ap (λ ys. x ∷ y ∷ z ∷ ys) (drop_all 3 xs end) in
      ap (λ ys. is_clause ob k (all_signed ys)) items ∙ of_size 3 (signed_of x ∷ signed_of y ∷ signed_of z ∷ []) (λ h. h) (λ h. h) (λ h. h)

  pub none_short : (xs : List Literal) → length xs ≢ 1 → length xs ≢ 2 → length xs ≢ 3 → is_clause ob k (all_signed xs) ≡ false
  none_short xs one two three =
      let same : length (all_signed xs) ≡ length xs = length-map xs signed_of in
      of_size 4 (all_signed xs) (λ _ e. one (sym same ∙ e)) (λ _ e. two (sym same ∙ e)) (λ _ e. three (sym same ∙ e))

-- ---- the two laws of any number of literals
pub clause_1 : (ob : Obligation) (xs : List Signed) → is_clause ob 1 xs ≡ law_1 xs
unfolding is_clause
clause_1 ob xs = or_false (law_1 xs)

pub clause_5 : (ob : Obligation) (xs : List Signed) → is_clause ob 5 xs ≡ law_5 xs
unfolding is_clause
clause_5 ob xs = or_false (law_5 xs)
