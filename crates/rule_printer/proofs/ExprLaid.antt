-- The canonical text of an expression and of a test spells the tokens of its canonical tree, in each form of the grammar.
-- Each case is one alternative.
use Rattle.std.proofs.Common.{◌≡◌, ℕ, zero, suc, ◌<◌, ◌-◌, ◌^◌, true, ◌&&◌, ℤ, pos, negsuc, List, [], ◌∷◌, ◌++◌, length, codes, refl, arith}
use Rattle.std.specs.List.{AllByRecursion}
use Rattle.std.proofs.lemmas.Bool.{and_parts, ltb-true}
use Rattle.toy_imp.specs.declared.form.ExprForm.{ExprForm}
use Rattle.toy_imp.specs.declared.form.ExprForm.TheVariants as expr_form
use Rattle.toy_imp.specs.declared.form.TestForm.{TestForm}
use Rattle.toy_imp.specs.declared.form.TestForm.TheVariants as test_form
use Rattle.toy_imp.specs.declared.name.Name.{Name}
use Rattle.toy_imp.specs.declared.name.Name.TheVariants.{Own, Par}
use Rattle.toy_imp.specs.declared.param.Param.{Param}
use Rattle.toy_imp.specs.Expr.{Expr, num, at, add, sub, mul, par_expr, Exprs, no_exprs, expr}
use Rattle.toy_imp.specs.Test.{Test, less, less_eq, equal, not_of, and_of, or_of, par_test}
use Rattle.toy_imp.specs.ExprGrammar.{ExprTree, term, plus, minus, TermTree, factor, times, FactorTree, cell, variable}
use Rattle.toy_imp.specs.TestGrammar.{TestTree, both, either, BothTree, one, also, OneTree}
use Rattle.toy_imp.specs.ExprCanonical.{declared_name, written_name, as_term, as_factor, canonical_number, canonical_expr, canonical_place}
use Rattle.toy_imp.specs.TestCanonical.{as_both, as_one, canonical_test}
use Rattle.toy_imp.specs.Spellable.{is_first, is_spellable_name, is_spellable, are_spellable_indices, is_spellable_test}
use Rattle.pec_text.specs.Spelling.{IsName}
use Rattle.pec_text.specs.declared.token.Sign.TheVariants as s
use Rattle.pec_text.specs.declared.token.Token.{Token}
use Rattle.pec_text.specs.declared.token.Token.TheVariants as t
use Rattle.pec_text.specs.declared.token.Word.TheVariants as w
use Rattle.pec_text.proofs.Runs.{stops_never}
use Rattle.program_reader.specs.TreeTokens.{expr_tokens, term_tokens, factor_tokens, place_tokens, test_tokens, both_tokens, one_tokens}
use Rattle.rule_printer.specs.CanonicalText.{expr_bytes, term_bytes, factor_bytes, place_bytes, test_bytes, both_bytes, one_bytes}
use Rattle.rule_printer.specs.CanonicalForms.{expr_bytes_as, test_bytes_as}
use Rattle.program_reader.specs.OwnNames.{NameIs, ExprNamesAre, ExprsNamesAre, TestNamesAre}
use Rattle.rule_printer.proofs.Laying.{Piece, Anything, Breaks, then, before, space, sign_laid, sign_between, word_before, word_between, name_laid, number_laid}

abbrev pub expr_tokens_as : ExprForm → ExprTree → List Token
expr_tokens_as expr_form.Expr a = expr_tokens a
expr_tokens_as expr_form.Term a = term_tokens (as_term a)
expr_tokens_as expr_form.Factor a = factor_tokens (as_factor a)

abbrev pub test_tokens_as : TestForm → TestTree → List Token
test_tokens_as test_form.Test a = test_tokens a
test_tokens_as test_form.Both a = both_tokens (as_both a)
test_tokens_as test_form.One a = one_tokens (as_one a)

-- ---- parentheses and brackets
grouped : {bytes : List ℕ} {tokens : List Token} → Piece Breaks bytes tokens → Piece Breaks (codes "(" ++ (bytes ++ codes ")")) (t.Sign s.OpenParen ∷ (tokens ++ (t.Sign s.CloseParen ∷ [])))
grouped x = then (sign_laid s.OpenParen refl stops_never) (then x (before (sign_laid s.CloseParen refl stops_never) (λ rest _. tt)) (λ rest _. refl)) (λ rest _. tt)

bracketed_laid : {bytes : List ℕ} {tokens : List Token} → Piece Breaks bytes tokens → Piece Breaks (codes "[" ++ (bytes ++ codes "]")) (t.Sign s.OpenBracket ∷ (tokens ++ (t.Sign s.CloseBracket ∷ [])))
bracketed_laid x = then (sign_laid s.OpenBracket refl stops_never) (then x (before (sign_laid s.CloseBracket refl stops_never) (λ rest _. tt)) (λ rest _. refl)) (λ rest _. tt)

comma : Piece Anything (codes ", ") (t.Sign s.Comma ∷ [])
comma = then (sign_laid s.Comma refl stops_never) space (λ rest _. tt)

-- ---- forms
plus_as : (form : ExprForm) (a : ExprTree) (b : TermTree) → Piece Breaks (expr_bytes (plus a b)) (expr_tokens (plus a b)) → Piece Breaks (expr_bytes_as form (plus a b)) (expr_tokens_as form (plus a b))
plus_as expr_form.Expr a b x = x
plus_as expr_form.Term a b x = grouped x
plus_as expr_form.Factor a b x = grouped x

minus_as : (form : ExprForm) (a : ExprTree) (b : TermTree) → Piece Breaks (expr_bytes (minus a b)) (expr_tokens (minus a b)) → Piece Breaks (expr_bytes_as form (minus a b)) (expr_tokens_as form (minus a b))
minus_as expr_form.Expr a b x = x
minus_as expr_form.Term a b x = grouped x
minus_as expr_form.Factor a b x = grouped x

times_as : (form : ExprForm) (a : TermTree) (b : FactorTree) → Piece Breaks (term_bytes (times a b)) (term_tokens (times a b)) → Piece Breaks (expr_bytes_as form (term (times a b))) (expr_tokens_as form (term (times a b)))
times_as expr_form.Expr a b x = x
times_as expr_form.Term a b x = x
times_as expr_form.Factor a b x = grouped x

factor_as : (form : ExprForm) (a : FactorTree) → Piece Breaks (factor_bytes a) (factor_tokens a) → Piece Breaks (expr_bytes_as form (term (factor a))) (expr_tokens_as form (term (factor a)))
factor_as expr_form.Expr a x = x
factor_as expr_form.Term a x = x
factor_as expr_form.Factor a x = x

either_as : (form : TestForm) (a : TestTree) (b : BothTree) → Piece Breaks (test_bytes (either a b)) (test_tokens (either a b)) → Piece Breaks (test_bytes_as form (either a b)) (test_tokens_as form (either a b))
either_as test_form.Test a b x = x
either_as test_form.Both a b x = bracketed_laid x
either_as test_form.One a b x = bracketed_laid x

also_as : (form : TestForm) (a : BothTree) (b : OneTree) → Piece Breaks (both_bytes (also a b)) (both_tokens (also a b)) → Piece Breaks (test_bytes_as form (both (also a b))) (test_tokens_as form (both (also a b)))
also_as test_form.Test a b x = x
also_as test_form.Both a b x = x
also_as test_form.One a b x = bracketed_laid x

one_as : (form : TestForm) (a : OneTree) → Piece Breaks (one_bytes a) (one_tokens a) → Piece Breaks (test_bytes_as form (both (one a))) (test_tokens_as form (both (one a)))
one_as test_form.Test a x = x
one_as test_form.Both a x = x
one_as test_form.One a x = x

-- ---- names
declared_is_name : (ps : List Param) → AllByRecursion (λ p. IsName p.name) ps → (k : ℕ) → k < length ps → IsName (declared_name ps k)
declared_is_name [] all k low = absurd (omega arith)
declared_is_name (p ∷ ps) all zero low = all.0
declared_is_name (p ∷ ps) all (suc k) low = declared_is_name ps all.1 k (omega arith)

-- ---- numbers
pub number_as : (z : ℤ) → is_spellable [] (num z) ≡ true → Piece Breaks (factor_bytes (canonical_number z)) (factor_tokens (canonical_number z))
number_as (pos n) h = number_laid n (ltb-true n (2 ^ 63) h)
number_as (negsuc n) h =
    let low : n < 2 ^ 63 - 1 = ltb-true n (2 ^ 63 - 1) ((and_parts _ _ h).0) in
    then (sign_laid s.Minus refl stops_never) (number_laid (suc n) (omega arith)) (λ rest _. tt)

module _ (ps : List Param) (declared : AllByRecursion (λ p. IsName p.name) ps) where
  pub first_is_name : (k : ℕ) → is_first ps k ≡ true → IsName (declared_name ps k)
  first_is_name k h = declared_is_name ps declared k (ltb-true _ _ ((and_parts _ _ h).0))

  pub written_is_name : (x : Name) → is_spellable_name ps x ≡ true → NameIs IsName x → IsName (written_name ps x)
  written_is_name (Own x) h is = is
  written_is_name (Par k) h is = first_is_name k h

  -- ---- expressions
  mutual
    pub expr_laid : (form : ExprForm) (e : Expr) → is_spellable ps e ≡ true → ExprNamesAre IsName e → Piece Breaks (expr_bytes_as form (canonical_expr ps e)) (expr_tokens_as form (canonical_expr ps e))
    expr_laid form (num z) h names = factor_as form (canonical_number z) (number_as z h)
    expr_laid form (at x no_exprs) h names = factor_as form (cell (canonical_place ps (written_name ps x) no_exprs)) (name_laid (written_name ps x) (written_is_name x ((and_parts _ _ h).0) names.0))
    expr_laid form (at x (expr a es)) h names =
        factor_as form (cell (canonical_place ps (written_name ps x) (expr a es))) (place_laid (written_name ps x) (expr a es) (written_is_name x ((and_parts _ _ h).0) names.0) ((and_parts _ _ h).1) names.1)
    expr_laid form (add a b) h names =
        plus_as form (canonical_expr ps a) (as_term (canonical_expr ps b))
        (then (expr_laid expr_form.Expr a ((and_parts _ _ h).0) names.0) (then (sign_between s.Plus refl (λ rest. refl)) (expr_laid expr_form.Term b ((and_parts _ _ h).1) names.1) (λ rest _. tt)) (λ rest _. refl))
    expr_laid form (sub a b) h names =
        minus_as form (canonical_expr ps a) (as_term (canonical_expr ps b))
        (then (expr_laid expr_form.Expr a ((and_parts _ _ h).0) names.0) (then (sign_between s.Minus refl (λ rest. refl)) (expr_laid expr_form.Term b ((and_parts _ _ h).1) names.1) (λ rest _. tt)) (λ rest _. refl))
    expr_laid form (mul a b) h names =
        times_as form (as_term (canonical_expr ps a)) (as_factor (canonical_expr ps b))
        (then (expr_laid expr_form.Term a ((and_parts _ _ h).0) names.0) (then (sign_between s.Star refl (λ rest. refl)) (expr_laid expr_form.Factor b ((and_parts _ _ h).1) names.1) (λ rest _. tt)) (λ rest _. refl))
    expr_laid form (par_expr k) h names = factor_as form (cell (variable (declared_name ps k))) (name_laid (declared_name ps k) (first_is_name k ((and_parts _ _ h).0)))

    pub place_laid : (x : List ℕ) (es : Exprs) → IsName x → are_spellable_indices ps es ≡ true → ExprsNamesAre IsName es → Piece Breaks (place_bytes (canonical_place ps x es)) (place_tokens (canonical_place ps x es))
    place_laid x no_exprs is h names = name_laid x is
    place_laid x (expr a no_exprs) is h names = then (name_laid x is) (bracketed_laid (expr_laid expr_form.Expr a h names.0)) (λ rest _. refl)
    place_laid x (expr a (expr b no_exprs)) is h names =
        then (name_laid x is)
        (then (sign_laid s.OpenBracket refl stops_never)
        (then (expr_laid expr_form.Expr a ((and_parts _ _ h).0) names.0)
        (then comma
        (then (expr_laid expr_form.Expr b ((and_parts _ _ h).1) names.1.0) (before (sign_laid s.CloseBracket refl stops_never) (λ rest _. tt)) (λ rest _. refl))
        (λ rest _. tt))
        (λ rest _. refl))
        (λ rest _. tt))
        (λ rest _. refl)
    place_laid x (expr a (expr b (expr c no_exprs))) is h names =
        let later : (is_spellable ps b && is_spellable ps c) ≡ true = (and_parts _ _ h).1 in
        then (name_laid x is)
        (then (sign_laid s.OpenBracket refl stops_never)
        (then (expr_laid expr_form.Expr a ((and_parts _ _ h).0) names.0)
        (then comma
        (then (expr_laid expr_form.Expr b ((and_parts _ _ later).0) names.1.0)
        (then comma
        (then (expr_laid expr_form.Expr c ((and_parts _ _ later).1) names.1.1.0) (before (sign_laid s.CloseBracket refl stops_never) (λ rest _. tt)) (λ rest _. refl))
        (λ rest _. tt))
        (λ rest _. refl))
        (λ rest _. tt))
        (λ rest _. refl))
        (λ rest _. tt))
        (λ rest _. refl)
    place_laid x (expr a (expr b (expr c (expr d more)))) is h names = cc

  -- ---- tests
  pub test_laid : (form : TestForm) (q : Test) → is_spellable_test ps q ≡ true → TestNamesAre IsName q → Piece Breaks (test_bytes_as form (canonical_test ps q)) (test_tokens_as form (canonical_test ps q))
  test_laid form (less a b) h names =
      one_as form _ (then (expr_laid expr_form.Expr a ((and_parts _ _ h).0) names.0) (then (sign_between s.Less refl (λ rest. refl)) (expr_laid expr_form.Expr b ((and_parts _ _ h).1) names.1) (λ rest _. tt)) (λ rest _. refl))
  test_laid form (less_eq a b) h names =
      one_as form _ (then (expr_laid expr_form.Expr a ((and_parts _ _ h).0) names.0) (then (sign_between s.LessEq refl (λ rest. refl)) (expr_laid expr_form.Expr b ((and_parts _ _ h).1) names.1) (λ rest _. tt)) (λ rest _. refl))
  test_laid form (equal a b) h names =
      one_as form _ (then (expr_laid expr_form.Expr a ((and_parts _ _ h).0) names.0) (then (sign_between s.DoubleEquals refl (λ rest. refl)) (expr_laid expr_form.Expr b ((and_parts _ _ h).1) names.1) (λ rest _. tt)) (λ rest _. refl))
  test_laid form (not_of q) h names = one_as form _ (then (word_before w.Not refl) (test_laid test_form.One q h names) (λ rest _. tt))
  test_laid form (and_of q r) h names =
      also_as form (as_both (canonical_test ps q)) (as_one (canonical_test ps r))
      (then (test_laid test_form.Both q ((and_parts _ _ h).0) names.0) (then (word_between w.And refl) (test_laid test_form.One r ((and_parts _ _ h).1) names.1) (λ rest _. tt)) (λ rest _. refl))
  test_laid form (or_of q r) h names =
      either_as form (canonical_test ps q) (as_both (canonical_test ps r))
      (then (test_laid test_form.Test q ((and_parts _ _ h).0) names.0) (then (word_between w.Or refl) (test_laid test_form.Both r ((and_parts _ _ h).1) names.1) (λ rest _. tt)) (λ rest _. refl))
  test_laid form (par_test k) h names = one_as form _ (name_laid (declared_name ps k) (first_is_name k h))
