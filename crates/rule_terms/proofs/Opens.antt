-- Expressions of a list whose names are all open, one after another, and the terms that stand for them.
use Rattle.std.specs.Prelude.{◌≡◌, ℕ, ◌+◌, ◌<◌, true, List, [], ◌∷◌, length, map, refl}
use Rattle.std.proofs.Common.{sym, ◌∙◌, ap, get_or, drop}
use Rattle.std.proofs.lemmas.Bool.{and_parts}
use Rattle.std.proofs.lemmas.List.{drop_more}
use Rattle.toy_imp.specs.Expr.{Expr}
use Rattle.toy_imp.specs.ExprView.{exprs_of}
use Rattle.rule_terms.specs.Term.{StoreTerm, term}
use Rattle.rule_terms.specs.TermView.{terms_of}
use Rattle.rule_terms.specs.ValueAt.{names_are_open, all_names_are_open, value_at, values_at}

both : (es : List Expr) (i : ℕ) (d : Expr) → i < length es → all_names_are_open (exprs_of (drop i es)) ≡ true → (names_are_open (get_or es i d) ≡ true) × (all_names_are_open (exprs_of (drop (i + 1) es)) ≡ true)
both es i d h k = and_parts (names_are_open (get_or es i d)) (all_names_are_open (exprs_of (drop (i + 1) es))) (sym (ap (λ xs. all_names_are_open (exprs_of xs)) (drop_more es i d h)) ∙ k)

pub open_item : (es : List Expr) (i : ℕ) (d : Expr) → i < length es → all_names_are_open (exprs_of (drop i es)) ≡ true → names_are_open (get_or es i d) ≡ true
open_item es i d h k = (both es i d h k).0

pub open_rest : (es : List Expr) (i : ℕ) (d : Expr) → i < length es → all_names_are_open (exprs_of (drop i es)) ≡ true → all_names_are_open (exprs_of (drop (i + 1) es)) ≡ true
open_rest es i d h k = (both es i d h k).1

pub terms_map : (es : List Expr) (s : StoreTerm) → terms_of (map (λ e. value_at e s) es) ≡ values_at (exprs_of es) s
unfolding values_at
terms_map [] s = refl
terms_map (e ∷ es) s = ap (term (value_at e s)) (terms_map es s)
