-- The value term of an expression at a store term means the value of the filled expression in the store that the term means.
use Rattle.std.specs.Prelude.{◌≡◌, true, ◌+ℤ◌, ◌-ℤ◌, ◌*ℤ◌, List, ◌∷◌, Some, refl}
use Rattle.std.proofs.Common.{sym, true≢false}
use Rattle.std.proofs.lemmas.Bool.{and_parts}
use Rattle.toy_imp.specs.declared.name.Name.{Name}
use Rattle.toy_imp.specs.declared.name.Name.TheVariants.{Own, Par}
use Rattle.toy_imp.specs.declared.instance.Instance.{Instance}
use Rattle.toy_imp.specs.Cell.{spelled}
use Rattle.toy_imp.specs.Store.{Store}
use Rattle.toy_imp.specs.Value.{value, values}
use Rattle.toy_imp.specs.Fill.{name_at, expr_at, fill_name, fill_expr, fill_exprs}
use Rattle.toy_imp.specs.Expr.{Expr, Exprs, no_exprs, expr}
use Rattle.toy_imp.specs.Expr as e
use Rattle.rule_terms.specs.Term.{StoreTerm}
use Rattle.rule_terms.specs.ValueAt.{is_open, names_are_open, all_names_are_open, number_of, value_at, values_at}
use Rattle.term_meaning.specs.MaybeStore.{read_in, value_in}
use Rattle.term_meaning.specs.Table.{Entry}
use Rattle.term_meaning.specs.Meaning.{store_of, value_of, values_of, CoversStore, CoversValue, CoversValues}

name_means : (i : Instance) (x : Name) → is_open x ≡ true → spelled (name_at i (number_of x)) ≡ spelled (fill_name i x)
unfolding fill_name
name_means i (Own bytes) h = absurd (true≢false (sym h))
name_means i (Par k) h = refl

module _ (i : Instance) (T : List Entry) (l r : Store) (u : StoreTerm) where
  mutual
    unfolding value_of values_of value_at values_at value values fill_expr fill_exprs

    pub value_at_means : (s : Store) → store_of i T l r u ≡ Some s → (a : Expr) → names_are_open a ≡ true → value_of i T l r (value_at a u) ≡ value (fill_expr i a) s
    value_at_means s is_s (e.num z) h = refl
    value_at_means s is_s (e.at x es) h = λ j. read_in (is_s j) (name_means i x (and_parts _ _ h).0 j, values_at_mean s is_s es (and_parts _ _ h).1 j)
    value_at_means s is_s (e.add a b) h = λ j. value_at_means s is_s a (and_parts _ _ h).0 j +ℤ value_at_means s is_s b (and_parts _ _ h).1 j
    value_at_means s is_s (e.sub a b) h = λ j. value_at_means s is_s a (and_parts _ _ h).0 j -ℤ value_at_means s is_s b (and_parts _ _ h).1 j
    value_at_means s is_s (e.mul a b) h = λ j. value_at_means s is_s a (and_parts _ _ h).0 j *ℤ value_at_means s is_s b (and_parts _ _ h).1 j
    value_at_means s is_s (e.par_expr k) h = λ j. value_in (is_s j) (expr_at i k)

    pub values_at_mean : (s : Store) → store_of i T l r u ≡ Some s → (es : Exprs) → all_names_are_open es ≡ true → values_of i T l r (values_at es u) ≡ values (fill_exprs i es) s
    values_at_mean s is_s no_exprs h = refl
    values_at_mean s is_s (expr a es) h = λ j. value_at_means s is_s a (and_parts _ _ h).0 j ∷ values_at_mean s is_s es (and_parts _ _ h).1 j

  -- a table that covers the store term covers it too
  mutual
    unfolding CoversValue CoversValues value_at values_at

    pub value_at_covered : CoversStore i T l r u → (a : Expr) → CoversValue i T l r (value_at a u)
    value_at_covered c (e.num z) = tt
    value_at_covered c (e.at x es) = (values_at_covered c es, c)
    value_at_covered c (e.add a b) = (value_at_covered c a, value_at_covered c b)
    value_at_covered c (e.sub a b) = (value_at_covered c a, value_at_covered c b)
    value_at_covered c (e.mul a b) = (value_at_covered c a, value_at_covered c b)
    value_at_covered c (e.par_expr k) = c

    pub values_at_covered : CoversStore i T l r u → (es : Exprs) → CoversValues i T l r (values_at es u)
    values_at_covered c no_exprs = tt
    values_at_covered c (expr a es) = (value_at_covered c a, values_at_covered c es)
