-- The tokens of a derivation tree of a test are read as its value, whatever stands behind that does not go on with it.
-- A loop is stated with its turns still to come, as for expressions. A name alone is told from a comparison by what follows.
use Rattle.std.proofs.Common.{◌≡◌, ℕ, zero, suc, ◌+◌, ◌-◌, ◌<◌, ◌≤◌, Bool, true, false, List, [], ◌∷◌, ◌++◌, cond, length, Some, sym, ◌∙◌, ap, subst, refl, append_assoc, length-append, arith}
use Rattle.toy_imp.specs.declared.param.Param.{Param}
use Rattle.toy_imp.specs.Expr.{Expr}
use Rattle.toy_imp.specs.Test.{Test, less, less_eq, equal, not_of, and_of, or_of}
use Rattle.toy_imp.specs.ExprGrammar.{ExprTree, term, plus, minus, TermTree, factor, times, FactorTree, numeral, negative, cell, group, variable, index_1, index_2, index_3, expr_value, expr_levels, expr_operators}
use Rattle.toy_imp.specs.TestGrammar.{TestTree, both, either, BothTree, one, also, OneTree, negated, bracketed, named_test, below, at_most, same, test_tree_value, both_value, one_value, test_levels, both_levels, one_levels, test_operators, both_operators, one_operators}
use Rattle.toy_imp.specs.Parameters.{test_value}
use Rattle.pec_text.specs.declared.token.Sign.TheVariants as s
use Rattle.pec_text.specs.declared.token.Token.{Token}
use Rattle.pec_text.specs.declared.token.Token.TheVariants as t
use Rattle.pec_text.specs.declared.token.Word.TheVariants as w
use Rattle.program_reader.specs.Read.{Read, and_then}
use Rattle.program_reader.specs.TreeTokens.{expr_tokens, term_tokens, factor_tokens, test_tokens, both_tokens, one_tokens}
use Rattle.program_reader.specs.ExprReading.{expr_read}
use Rattle.program_reader.specs.TestReading.{ands_read, both_read, ors_read, either_read, goes_on, behind_left, comparison_read, bracket_closed, one_by, one_read, test_read}
use Rattle.program_reader.proofs.ExprComplete.{continues_expr, expr_reads}

-- ---- what goes on with a conjunction and with a test; `goes_on` says it of one test
abbrev pub continues_both : List Token → Bool
continues_both (t.Word w.And ∷ rest) = true
continues_both rest = goes_on rest

abbrev pub continues_test : List Token → Bool
continues_test (t.Word w.And ∷ rest) = true
continues_test (t.Word w.Or ∷ rest) = true
continues_test rest = goes_on rest

expr_ends : (rest : List Token) → goes_on rest ≡ false → continues_expr rest ≡ false
expr_ends (t.Sign s.OpenBracket ∷ rest) h = h
expr_ends (t.Sign s.Star ∷ rest) h = h
expr_ends (t.Sign s.Plus ∷ rest) h = h
expr_ends (t.Sign s.Minus ∷ rest) h = h
expr_ends _ h = refl

one_ends : (rest : List Token) → continues_both rest ≡ false → goes_on rest ≡ false
one_ends (t.Word w.And ∷ rest) h = refl
one_ends rest h = h

both_ends : (rest : List Token) → continues_test rest ≡ false → continues_both rest ≡ false
both_ends (t.Word w.And ∷ rest) h = h
both_ends (t.Word w.Or ∷ rest) h = refl
both_ends rest h = h

-- ---- how many turns a loop takes: the count at its begin, where n turns follow the tree
abbrev ands : BothTree → ℕ → ℕ
ands (one a) n = n
ands (also a b) n = ands a (suc n)

abbrev ors : TestTree → ℕ → ℕ
ors (both a) n = n
ors (either a b) n = ors a (suc n)

ands_are : (a : BothTree) (n : ℕ) → ands a n ≡ ands a 0 + n
ands_are (one a) n = omega arith
ands_are (also a b) n = let more = ands_are a (suc n) in let first = ands_are a 1 in omega arith

ors_are : (a : TestTree) (n : ℕ) → ors a n ≡ ors a 0 + n
ors_are (both a) n = omega arith
ors_are (either a b) n = let more = ors_are a (suc n) in let first = ors_are a 1 in omega arith

ands_fit : (a : BothTree) → ands a 0 ≤ length (both_tokens a)
ands_fit (one a) = omega arith
ands_fit (also a b) =
    let first = ands_are a 1 in
    let fits = ands_fit a in
    let joined = length-append (both_tokens a) (t.Word w.And ∷ one_tokens b) in
    omega arith

ors_fit : (a : TestTree) → ors a 0 ≤ length (test_tokens a)
ors_fit (both a) = omega arith
ors_fit (either a b) =
    let first = ors_are a 1 in
    let fits = ors_fit a in
    let joined = length-append (test_tokens a) (t.Word w.Or ∷ both_tokens b) in
    omega arith

and_turns : (a : BothTree) (rest : List Token) → (n : ℕ) × (ands a n ≡ length (both_tokens a ++ rest))
and_turns a rest =
    let joined = length-append (both_tokens a) rest in
    let fits = ands_fit a in
    let n : ℕ = length (both_tokens a ++ rest) - ands a 0 in
    let all = ands_are a n in
    let same : ands a n ≡ length (both_tokens a ++ rest) = omega arith in
    (n, same)

or_turns : (a : TestTree) (rest : List Token) → (n : ℕ) × (ors a n ≡ length (test_tokens a ++ rest))
or_turns a rest =
    let joined = length-append (test_tokens a) rest in
    let fits = ors_fit a in
    let n : ℕ = length (test_tokens a ++ rest) - ors a 0 in
    let all = ors_are a n in
    let same : ors a n ≡ length (test_tokens a ++ rest) = omega arith in
    (n, same)

-- ---- the tests that `and` and `or` join
module _ (ps : List Param) (d : ℕ) (inner : ℕ → List Token → Read Test)
    (inner_reads : (a : OneTree) (j k : ℕ) (rest : List Token) → one_levels a < d → j ≡ one_operators a + k → goes_on rest ≡ false
    → inner j (one_tokens a ++ rest) ≡ Some (one_value ps a, k, rest)) where
  ands_read_of : (a : BothTree) (n j k : ℕ) (rest : List Token) → both_levels a < d → j ≡ both_operators a + k → goes_on rest ≡ false
      → and_then (inner j (both_tokens a ++ rest)) (λ q k rest. ands_read inner (ands a n) q k rest) ≡ ands_read inner n (both_value ps a) k rest
  unfolding ands_read
  ands_read_of (one a) n j k rest low c h = ap (λ r. and_then r (λ q k rest. ands_read inner n q k rest)) (inner_reads a j k rest low c h)
  ands_read_of (also a b) n j k rest low c h =
      let i : ℕ = one_operators b + k in
      let first : j ≡ both_operators a + suc i = omega arith in
      ap (λ z. and_then (inner j z) (λ q k rest. ands_read inner (ands a (suc n)) q k rest)) (append_assoc (both_tokens a) (t.Word w.And ∷ one_tokens b) rest)
      ∙ ands_read_of a (suc n) j (suc i) (t.Word w.And ∷ (one_tokens b ++ rest)) (omega arith) first refl
      ∙ ap (λ r. and_then r (λ q k rest. ands_read inner n (and_of (both_value ps a) q) k rest)) (inner_reads b i k rest (omega arith) refl h)

  ands_stop : (n k : ℕ) (left : Test) (rest : List Token) → continues_both rest ≡ false → ands_read inner n left k rest ≡ Some (left, k, rest)
  unfolding ands_read
  ands_stop (suc n) (suc k) left (t.Word w.And ∷ rest) h = cc
  ands_stop (suc n) zero left (t.Word w.And ∷ rest) h = cc
  ands_stop n k left rest h = refl

  both_reads : (a : BothTree) (j k : ℕ) (rest : List Token) → both_levels a < d → j ≡ both_operators a + k → continues_both rest ≡ false
      → both_read inner j (both_tokens a ++ rest) ≡ Some (both_value ps a, k, rest)
  unfolding both_read
  both_reads a j k rest low c h =
      let turns = and_turns a rest in
      ap (λ z. and_then (inner j (both_tokens a ++ rest)) (λ q k rest. ands_read inner z q k rest)) (sym turns.1)
      ∙ ands_read_of a turns.0 j k rest low c (one_ends rest h)
      ∙ ands_stop turns.0 k (both_value ps a) rest h

  ors_read_of : (a : TestTree) (n j k : ℕ) (rest : List Token) → test_levels a < d → j ≡ test_operators a + k → continues_both rest ≡ false
      → and_then (both_read inner j (test_tokens a ++ rest)) (λ q k rest. ors_read inner (ors a n) q k rest) ≡ ors_read inner n (test_tree_value ps a) k rest
  unfolding ors_read
  ors_read_of (both a) n j k rest low c h = ap (λ r. and_then r (λ q k rest. ors_read inner n q k rest)) (both_reads a j k rest low c h)
  ors_read_of (either a b) n j k rest low c h =
      let i : ℕ = both_operators b + k in
      let first : j ≡ test_operators a + suc i = omega arith in
      ap (λ z. and_then (both_read inner j z) (λ q k rest. ors_read inner (ors a (suc n)) q k rest)) (append_assoc (test_tokens a) (t.Word w.Or ∷ both_tokens b) rest)
      ∙ ors_read_of a (suc n) j (suc i) (t.Word w.Or ∷ (both_tokens b ++ rest)) (omega arith) first refl
      ∙ ap (λ r. and_then r (λ q k rest. ors_read inner n (or_of (test_tree_value ps a) q) k rest)) (both_reads b i k rest (omega arith) refl h)

  ors_stop : (n k : ℕ) (left : Test) (rest : List Token) → continues_test rest ≡ false → ors_read inner n left k rest ≡ Some (left, k, rest)
  unfolding ors_read
  ors_stop (suc n) (suc k) left (t.Word w.Or ∷ rest) h = cc
  ors_stop (suc n) zero left (t.Word w.Or ∷ rest) h = cc
  ors_stop n k left rest h = refl

  joined_reads : (a : TestTree) (j k : ℕ) (rest : List Token) → test_levels a < d → j ≡ test_operators a + k → continues_test rest ≡ false
      → either_read inner j (test_tokens a ++ rest) ≡ Some (test_tree_value ps a, k, rest)
  unfolding either_read
  joined_reads a j k rest low c h =
      let turns = or_turns a rest in
      ap (λ z. and_then (both_read inner j (test_tokens a ++ rest)) (λ q k rest. ors_read inner z q k rest)) (sym turns.1)
      ∙ ors_read_of a turns.0 j k rest low c (both_ends rest h)
      ∙ ors_stop turns.0 k (test_tree_value ps a) rest h

-- ---- a comparison is told by its first tokens
module _ (ps : List Param) (side : ℕ → List Token → Read Expr) (inner : ℕ → List Token → Read Test) (j : ℕ) where
  abbrev IsCompared : List Token → Type 0
  IsCompared tokens = one_by ps side inner j tokens ≡ comparison_read side j tokens

  name_compared : (x : List ℕ) (rest : List Token) → goes_on rest ≡ true → IsCompared (t.Name x ∷ rest)
  unfolding one_by
  name_compared x rest h = ap (λ b. cond b (comparison_read side j (t.Name x ∷ rest)) (Some (test_value ps x, j, rest))) h

  factor_compared : (a : FactorTree) (rest : List Token) → goes_on rest ≡ true → IsCompared (factor_tokens a ++ rest)
  unfolding one_by
  factor_compared (numeral m) rest h = refl
  factor_compared (negative m) rest h = refl
  factor_compared (cell (variable x)) rest h = name_compared x rest h
  factor_compared (cell (index_1 x a)) rest h = refl
  factor_compared (cell (index_2 x a b)) rest h = refl
  factor_compared (cell (index_3 x a b c)) rest h = refl
  factor_compared (group a) rest h = refl

  term_compared : (a : TermTree) (rest : List Token) → goes_on rest ≡ true → IsCompared (term_tokens a ++ rest)
  term_compared (factor a) rest h = factor_compared a rest h
  term_compared (times a b) rest h =
      subst IsCompared (sym (append_assoc (term_tokens a) (t.Sign s.Star ∷ factor_tokens b) rest)) (term_compared a (t.Sign s.Star ∷ (factor_tokens b ++ rest)) refl)

  expr_compared : (a : ExprTree) (rest : List Token) → goes_on rest ≡ true → IsCompared (expr_tokens a ++ rest)
  expr_compared (term a) rest h = term_compared a rest h
  expr_compared (plus a b) rest h =
      subst IsCompared (sym (append_assoc (expr_tokens a) (t.Sign s.Plus ∷ term_tokens b) rest)) (expr_compared a (t.Sign s.Plus ∷ (term_tokens b ++ rest)) refl)
  expr_compared (minus a b) rest h =
      subst IsCompared (sym (append_assoc (expr_tokens a) (t.Sign s.Minus ∷ term_tokens b) rest)) (expr_compared a (t.Sign s.Minus ∷ (term_tokens b ++ rest)) refl)

-- ---- one test
module _ (ps : List Param) (d : ℕ) (inner : ℕ → List Token → Read Test)
    (inner_reads : (a : OneTree) (j k : ℕ) (rest : List Token) → one_levels a < d → j ≡ one_operators a + k → goes_on rest ≡ false
    → inner j (one_tokens a ++ rest) ≡ Some (one_value ps a, k, rest)) where
  abbrev reading : ℕ → List Token → Read Test
  reading j tokens = one_by ps (expr_read ps (suc d)) inner j tokens

  -- the left side of a comparison and its sign are read, whichever sign it is
  left_reads : (a : ExprTree) (j i : ℕ) (rest : List Token) → expr_levels a < suc d → j ≡ expr_operators a + i → goes_on rest ≡ true → continues_expr rest ≡ false
      → reading j (expr_tokens a ++ rest) ≡ behind_left (expr_read ps (suc d)) (expr_value ps a) i rest
  unfolding comparison_read
  left_reads a j i rest low c on ends =
      expr_compared ps (expr_read ps (suc d)) inner j a rest on
      ∙ ap (λ r. and_then r (behind_left (expr_read ps (suc d)))) (expr_reads ps (suc d) a j i rest low c ends)

  one_by_reads : (a : OneTree) (j k : ℕ) (rest : List Token) → one_levels a < suc d → j ≡ one_operators a + k → goes_on rest ≡ false
      → reading j (one_tokens a ++ rest) ≡ Some (one_value ps a, k, rest)
  unfolding one_by
  one_by_reads (negated a) j k rest low c h = ap (λ r. and_then r (λ q k rest. Some (not_of q, k, rest))) (inner_reads a j k rest (omega arith) c h)
  one_by_reads (bracketed a) j k rest low c h =
      ap (λ z. and_then (either_read inner j z) bracket_closed) (append_assoc (test_tokens a) (t.Sign s.CloseBracket ∷ []) rest)
      ∙ ap (λ r. and_then r bracket_closed) (joined_reads ps d inner inner_reads a j k (t.Sign s.CloseBracket ∷ rest) (omega arith) c refl)
  one_by_reads (named_test x) j k rest low c h =
      let same : j ≡ k = omega arith in
      ap (λ b. cond b (comparison_read (expr_read ps (suc d)) j (t.Name x ∷ rest)) (Some (test_value ps x, j, rest))) h ∙ ap (λ z. Some (test_value ps x, z, rest)) same
  one_by_reads (below a b) j k rest low c h =
      let i : ℕ = expr_operators b + k in
      let first : j ≡ expr_operators a + i = omega arith in
      ap (reading j) (append_assoc (expr_tokens a) (t.Sign s.Less ∷ expr_tokens b) rest)
      ∙ left_reads a j i (t.Sign s.Less ∷ (expr_tokens b ++ rest)) (omega arith) first refl refl
      ∙ ap (λ r. and_then r (λ e k rest. Some (less (expr_value ps a) e, k, rest))) (expr_reads ps (suc d) b i k rest (omega arith) refl (expr_ends rest h))
  one_by_reads (at_most a b) j k rest low c h =
      let i : ℕ = expr_operators b + k in
      let first : j ≡ expr_operators a + i = omega arith in
      ap (reading j) (append_assoc (expr_tokens a) (t.Sign s.LessEq ∷ expr_tokens b) rest)
      ∙ left_reads a j i (t.Sign s.LessEq ∷ (expr_tokens b ++ rest)) (omega arith) first refl refl
      ∙ ap (λ r. and_then r (λ e k rest. Some (less_eq (expr_value ps a) e, k, rest))) (expr_reads ps (suc d) b i k rest (omega arith) refl (expr_ends rest h))
  one_by_reads (same a b) j k rest low c h =
      let i : ℕ = expr_operators b + k in
      let first : j ≡ expr_operators a + i = omega arith in
      ap (reading j) (append_assoc (expr_tokens a) (t.Sign s.DoubleEquals ∷ expr_tokens b) rest)
      ∙ left_reads a j i (t.Sign s.DoubleEquals ∷ (expr_tokens b ++ rest)) (omega arith) first refl refl
      ∙ ap (λ r. and_then r (λ e k rest. Some (equal (expr_value ps a) e, k, rest))) (expr_reads ps (suc d) b i k rest (omega arith) refl (expr_ends rest h))

pub one_reads : (ps : List Param) (d : ℕ) (a : OneTree) (j k : ℕ) (rest : List Token) → one_levels a < d → j ≡ one_operators a + k → goes_on rest ≡ false
    → one_read ps d j (one_tokens a ++ rest) ≡ Some (one_value ps a, k, rest)
unfolding one_read
one_reads ps zero a j k rest low c h = absurd (omega arith)
one_reads ps (suc d) a j k rest low c h = one_by_reads ps d (λ k rest. one_read ps d k rest) (λ a j k rest. one_reads ps d a j k rest) a j k rest low c h

pub test_reads : (ps : List Param) (d : ℕ) (a : TestTree) (j k : ℕ) (rest : List Token) → test_levels a < d → j ≡ test_operators a + k → continues_test rest ≡ false
    → test_read ps d j (test_tokens a ++ rest) ≡ Some (test_tree_value ps a, k, rest)
unfolding test_read
test_reads ps d a j k rest low c h = joined_reads ps d (one_read ps d) (one_reads ps d) a j k rest low c h
