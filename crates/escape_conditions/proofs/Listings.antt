-- A condition that is listed is among those that are walked over.
use Rattle.std.proofs.Common.{◌≡◌, ℕ, true, ◌==◌, ◌&&◌, List, [], ◌∷◌, sym, subst, ⊎_elim, true≢false}
use Rattle.std.specs.List.{list_all, list_any}
use Rattle.std.proofs.lemmas.Bool.{and_parts}
use Rattle.toy_imp.specs.declared.condition.Condition.{Condition}
use Rattle.toy_imp.specs.declared.condition.Condition.TheVariants.{Ignores, Distinct}
use Rattle.toy_imp.specs.declared.param.Kind.{Kind}
use Rattle.toy_imp.specs.declared.param.Kind.TheVariants as kind
use Rattle.rule_terms.specs.Listed.{is_ignores, ignores}
use Rattle.rule_terms.specs.declared.obligation.Obligation.{Obligation}
use Rattle.law_clauses.specs.Listed.{is_distinct, distinct, has_kind, lists_ignores, lists_distinct}
use Rattle.law_clauses.specs.ClauseForms.{Clause, names_differ}
use Rattle.law_clauses.proofs.Same.{or_cases, number_is}
use Rattle.escape_marks.specs.declared.escape.Escape.{Escape}
use Rattle.escape_conditions.specs.MarkedConditions.{kept, kept_at, kept_at_names, name_kept}

-- the condition of `ignores` is listed
ignored : (ob : Obligation) (wanted : Kind) (k x : ℕ) → lists_ignores ob wanted k x ≡ true → ignores ob.conditions k x ≡ true
unfolding lists_ignores
ignored ob wanted k x h = (and_parts (has_kind ob.params kind.Name x) (ignores ob.conditions k x) (and_parts (has_kind ob.params wanted k) _ h).1).1

module _ (ob : Obligation) (e : Escape) where
  at_this : (clause : ℕ → Clause) (k x : ℕ) (c : Condition) → is_ignores k x c ≡ true → kept_at ob e clause c ≡ true → kept ob e (clause x) ≡ true
  at_this clause k x (Ignores a y) f h = subst (λ z. kept ob e (clause z) ≡ true) (number_is y x (and_parts (a == k) (y == x) f).1) h
  at_this clause k x _ f h = absurd (true≢false (sym f))

  at_some : (clause : ℕ → Clause) (k x : ℕ) (cs : List Condition) → list_any (is_ignores k x) cs ≡ true → list_all (kept_at ob e clause) cs ≡ true → kept ob e (clause x) ≡ true
  at_some clause k x [] f h = absurd (true≢false (sym f))
  at_some clause k x (c ∷ cs) f h =
      let parts = and_parts (kept_at ob e clause c) (list_all (kept_at ob e clause) cs) h in
      ⊎_elim (λ g. at_this clause k x c g parts.0) (λ g. at_some clause k x cs g parts.1) (or_cases (is_ignores k x c) (list_any (is_ignores k x) cs) f)

  -- what is kept at each name is kept at one that is listed
  pub at_name : (clause : ℕ → Clause) (wanted : Kind) (k x : ℕ) → kept_at_names ob e clause ≡ true → lists_ignores ob wanted k x ≡ true → kept ob e (clause x) ≡ true
  unfolding kept_at_names ignores
  at_name clause wanted k x h f = at_some clause k x ob.conditions (ignored ob wanted k x f) h

  -- the names of a condition, in either order
  these : (x y : ℕ) (c : Condition) → is_distinct x y c ≡ true → name_kept ob e c ≡ true → kept ob e (names_differ x y) ≡ true
  unfolding name_kept
  these x y (Distinct a b) f h =
      let parts = and_parts (kept ob e (names_differ a b)) (kept ob e (names_differ b a)) h in
      ⊎_elim
      (λ g. let same = and_parts (a == x) (b == y) g in subst (λ t. t ≡ true) (λ j. kept ob e (names_differ (number_is a x same.0 j) (number_is b y same.1 j))) parts.0)
      (λ g. let same = and_parts (a == y) (b == x) g in subst (λ t. t ≡ true) (λ j. kept ob e (names_differ (number_is b x same.1 j) (number_is a y same.0 j))) parts.1)
      (or_cases (a == x && b == y) (a == y && b == x) f)
  these x y _ f h = absurd (true≢false (sym f))

  some_of_these : (x y : ℕ) (cs : List Condition) → list_any (is_distinct x y) cs ≡ true → list_all (name_kept ob e) cs ≡ true → kept ob e (names_differ x y) ≡ true
  some_of_these x y [] f h = absurd (true≢false (sym f))
  some_of_these x y (c ∷ cs) f h =
      let parts = and_parts (name_kept ob e c) (list_all (name_kept ob e) cs) h in
      ⊎_elim (λ g. these x y c g parts.0) (λ g. some_of_these x y cs g parts.1) (or_cases (is_distinct x y c) (list_any (is_distinct x y) cs) f)

  pub at_names : (x y : ℕ) → list_all (name_kept ob e) ob.conditions ≡ true → lists_distinct ob x y ≡ true → kept ob e (names_differ x y) ≡ true
  unfolding lists_distinct distinct
  at_names x y h f =
      let kinds = and_parts (has_kind ob.params kind.Name x) _ f in
      some_of_these x y ob.conditions (and_parts (has_kind ob.params kind.Name y) (list_any (is_distinct x y) ob.conditions) kinds.1).1 h
