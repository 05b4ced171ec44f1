-- What the small pieces of a canonical text put, as their loops and look-ups find it.
use Rattle.std.proofs.Common.{◌≡◌, ℕ, zero, suc, ◌+◌, ◌-◌, ◌<◌, ◌≤◌, ℤ, pos, negsuc, List, [], ◌∷◌, ◌++◌, length, get_or, codes, refl, sym, ◌∙◌, ap, arith}
use Rattle.std.specs.Fmt.{signed_decimal}
use Rattle.std.proofs.lemmas.List.{append-nil, append_assoc}
use Rattle.toy_imp.specs.declared.form.ExprForm.{ExprForm}
use Rattle.toy_imp.specs.declared.form.ExprForm.TheVariants as expr_form
use Rattle.toy_imp.specs.declared.form.TestForm.{TestForm}
use Rattle.toy_imp.specs.declared.form.TestForm.TheVariants as test_form
use Rattle.toy_imp.specs.declared.param.Param.{Param}
use Rattle.toy_imp.specs.Expr.{Exprs, no_exprs, expr}
use Rattle.toy_imp.specs.ExprGrammar.{ExprTree, term, plus, minus, TermTree, factor, times, FactorTree}
use Rattle.toy_imp.specs.TestGrammar.{TestTree, both, either, BothTree, one, also, OneTree}
use Rattle.toy_imp.specs.ExprCanonical.{declared_name, canonical_number, canonical_place}
use Rattle.rule_printer.specs.CanonicalText.{expr_bytes, term_bytes, factor_bytes, place_bytes, test_bytes, both_bytes, one_bytes, indent}
use Rattle.rule_printer.specs.CanonicalForms.{expr_bytes_as, test_bytes_as, sum_as, product_as, or_as, and_as}

pub number_bytes : (z : ℤ) → factor_bytes (canonical_number z) ≡ signed_decimal z
number_bytes (pos n) = refl
number_bytes (negsuc n) = refl

pub declared_at : (ps : List Param) (k : ℕ) (d : Param) → k < length ps → declared_name ps k ≡ (get_or ps k d).name
declared_at [] k d low = absurd (omega arith)
declared_at (p ∷ ps) zero d low = refl
declared_at (p ∷ ps) (suc k) d low = declared_at ps k d (omega arith)

pub declared_beyond : (ps : List Param) (k : ℕ) → length ps ≤ k → declared_name ps k ≡ []
declared_beyond [] k high = refl
declared_beyond (p ∷ ps) zero high = absurd (omega arith)
declared_beyond (p ∷ ps) (suc k) high = declared_beyond ps k (omega arith)

-- one turn of the loop that indents
pub indent_step : (d i : ℕ) (start before after : List ℕ) → i < d → before ++ indent (d - i) ≡ start → after ≡ before ++ codes "  " → after ++ indent (d - (i + 1)) ≡ start
indent_step d i start before after low so_far e =
    let more : d - i ≡ suc (d - (i + 1)) = omega arith in
    ap (λ z. z ++ indent (d - (i + 1))) e ∙ append_assoc before (codes "  ") (indent (d - (i + 1))) ∙ ap (λ n. before ++ indent n) (sym more) ∙ so_far

-- a factor and a comparison need no parentheses and no brackets
pub factor_alone : (form : ExprForm) (a : FactorTree) → expr_bytes_as form (term (factor a)) ≡ factor_bytes a
factor_alone expr_form.Expr a = refl
factor_alone expr_form.Term a = refl
factor_alone expr_form.Factor a = refl

pub one_alone : (form : TestForm) (a : OneTree) → test_bytes_as form (both (one a)) ≡ one_bytes a
one_alone test_form.Test a = refl
one_alone test_form.Both a = refl
one_alone test_form.One a = refl

-- the name of a place stands in front of its indices
place_parts : (ps : List Param) (x : List ℕ) (es : Exprs) → x ++ place_bytes (canonical_place ps [] es) ≡ place_bytes (canonical_place ps x es)
place_parts ps x no_exprs = append-nil x
place_parts ps x (expr a no_exprs) = refl
place_parts ps x (expr a (expr b no_exprs)) = refl
place_parts ps x (expr a (expr b (expr c more))) = refl

pub place_joined : (ps : List Param) (front x : List ℕ) (es : Exprs) → (front ++ x) ++ place_bytes (canonical_place ps [] es) ≡ front ++ place_bytes (canonical_place ps x es)
place_joined ps front x es = append_assoc front x (place_bytes (canonical_place ps [] es)) ∙ ap (λ z. front ++ z) (place_parts ps x es)

-- ---- operators in a form of the grammar
pub plus_form : (form : ExprForm) (a : ExprTree) (b : TermTree) → expr_bytes_as form (plus a b) ≡ sum_as form (expr_bytes a ++ (codes " + " ++ term_bytes b))
plus_form expr_form.Expr a b = refl
plus_form expr_form.Term a b = refl
plus_form expr_form.Factor a b = refl

pub minus_form : (form : ExprForm) (a : ExprTree) (b : TermTree) → expr_bytes_as form (minus a b) ≡ sum_as form (expr_bytes a ++ (codes " - " ++ term_bytes b))
minus_form expr_form.Expr a b = refl
minus_form expr_form.Term a b = refl
minus_form expr_form.Factor a b = refl

pub times_form : (form : ExprForm) (a : TermTree) (b : FactorTree) → expr_bytes_as form (term (times a b)) ≡ product_as form (term_bytes a ++ (codes " * " ++ factor_bytes b))
times_form expr_form.Expr a b = refl
times_form expr_form.Term a b = refl
times_form expr_form.Factor a b = refl

pub either_form : (form : TestForm) (a : TestTree) (b : BothTree) → test_bytes_as form (either a b) ≡ or_as form (test_bytes a ++ (codes " or " ++ both_bytes b))
either_form test_form.Test a b = refl
either_form test_form.Both a b = refl
either_form test_form.One a b = refl

pub also_form : (form : TestForm) (a : BothTree) (b : OneTree) → test_bytes_as form (both (also a b)) ≡ and_as form (both_bytes a ++ (codes " and " ++ one_bytes b))
also_form test_form.Test a b = refl
also_form test_form.Both a b = refl
also_form test_form.One a b = refl

pub ruleset expr_forms = (factor_alone, plus_form, minus_form, times_form)

pub ruleset test_forms = (one_alone, either_form, also_form)
