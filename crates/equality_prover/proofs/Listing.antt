-- The list of all terms, built from the front.
use Rattle.std.specs.Prelude.{◌≡◌, ℕ, suc, ◌+◌, ◌<◌, List, [], ◌∷◌, ◌++◌, length, get_or, map, refl}
use Rattle.std.proofs.Common.{sym, ap, ◌∙◌, drop, add-one, append_assoc, take}
use Rattle.std.proofs.lemmas.List.{drop_more, take_more, map-append}
use Rattle.toy_imp.specs.declared.param.Kind.{Kind}
use Rattle.toy_imp.specs.declared.param.Kind.TheVariants as kind
use Rattle.rule_terms.specs.Term.{StoreTerm, ValueTerm}
use Rattle.law_clauses.specs.Arguments.{Argument, of_name, of_store, of_value}
use Rattle.law_clauses.specs.ArgumentView.{argument_of}
use Rattle.law_clauses.specs.declared.arguments.Argument as code
use Rattle.equality_prover.specs.Terms.{names_from, all_terms}

-- ---- names
pub in_order : (params : List Kind) (stores : List StoreTerm) (values : List ValueTerm) (a b c : List Argument)
    → a ≡ map of_name (names_from 0 params) → b ≡ a ++ map of_store stores → c ≡ b ++ map of_value values → c ≡ all_terms params stores values
unfolding all_terms
in_order params stores values a b c first second third =
    third ∙ ap (λ xs. xs ++ map of_value values) second ∙ ap (λ xs. (xs ++ map of_store stores) ++ map of_value values) first
    ∙ append_assoc (map of_name (names_from 0 params)) (map of_store stores) (map of_value values)

names_apart : (k : ℕ) (kind : Kind) (kinds : List Kind) → names_from k (kind ∷ kinds) ≡ names_from k (kind ∷ []) ++ names_from (suc k) kinds
names_apart k kind.Name kinds = refl
names_apart k kind.Expr kinds = refl
names_apart k kind.Test kinds = refl
names_apart k kind.Stmt kinds = refl

pub next_name : (params : List Kind) (start before after : List Argument) (k : ℕ) (d : Kind) → k < length params → after ≡ before ++ map of_name (names_from k (get_or params k d ∷ []))
    → before ++ map of_name (names_from k (drop k params)) ≡ start ++ map of_name (names_from 0 params)
    → after ++ map of_name (names_from (k + 1) (drop (k + 1) params)) ≡ start ++ map of_name (names_from 0 params)
next_name params start before after k d h grown e =
    ap (λ xs. xs ++ map of_name (names_from (k + 1) (drop (k + 1) params))) grown
    ∙ append_assoc before (map of_name (names_from k (get_or params k d ∷ []))) (map of_name (names_from (k + 1) (drop (k + 1) params)))
    ∙ ap (λ xs. before ++ xs) (sym (map-append of_name (names_from k (get_or params k d ∷ [])) (names_from (k + 1) (drop (k + 1) params))))
    ∙ ap (λ n. before ++ map of_name (names_from k (get_or params k d ∷ []) ++ names_from n (drop (k + 1) params))) (add-one k)
    ∙ ap (λ ns. before ++ map of_name ns) (sym (names_apart k (get_or params k d) (drop (k + 1) params)))
    ∙ ap (λ kinds. before ++ map of_name (names_from k kinds)) (sym (drop_more params k d h))
    ∙ e

-- ---- terms
next_item : {X : Type 0} (f : X → Argument) (found : List code.Argument) (start : List Argument) (items : List X) (i : ℕ) (d : X) (x : code.Argument) → i < length items
    → argument_of x ≡ f (get_or items i d) → map argument_of found ≡ start ++ map f (take i items) → map argument_of (found ++ x ∷ []) ≡ start ++ map f (take (i + 1) items)
next_item f found start items i d x h is e =
    map-append argument_of found (x ∷ [])
    ∙ (λ j. e j ++ is j ∷ [])
    ∙ append_assoc start (map f (take i items)) (f (get_or items i d) ∷ [])
    ∙ ap (λ xs. start ++ xs) (sym (map-append f (take i items) (get_or items i d ∷ [])))
    ∙ ap (λ xs. start ++ map f xs) (sym (take_more items i d h))

pub next_store : (found : List code.Argument) (start : List Argument) (stores : List StoreTerm) (i : ℕ) (d : StoreTerm) (x : code.Argument) → i < length stores
    → argument_of x ≡ of_store (get_or stores i d) → map argument_of found ≡ start ++ map of_store (take i stores) → map argument_of (found ++ x ∷ []) ≡ start ++ map of_store (take (i + 1) stores)
next_store = next_item of_store

pub next_value : (found : List code.Argument) (start : List Argument) (values : List ValueTerm) (i : ℕ) (d : ValueTerm) (x : code.Argument) → i < length values
    → argument_of x ≡ of_value (get_or values i d) → map argument_of found ≡ start ++ map of_value (take i values) → map argument_of (found ++ x ∷ []) ≡ start ++ map of_value (take (i + 1) values)
next_value = next_item of_value
