-- The clauses of a law at each name that a parameter ignores, as the code asks them: the name apart, or the rest of the clause.
use Rattle.std.proofs.Common.{◌≡◌, ◌≢◌, ℕ, Bool, true, false, not, ◌&&◌, ◌||◌, List, [], ◌∷◌, sym, ap, refl, arith}
use Rattle.std.specs.List.{list_all}
use Rattle.toy_imp.specs.declared.condition.Condition.{Condition}
use Rattle.toy_imp.specs.declared.condition.Condition.TheVariants.{Ignores}
use Rattle.toy_imp.specs.declared.param.Kind.{Kind}
use Rattle.toy_imp.specs.declared.param.Kind.TheVariants as kind
use Rattle.rule_terms.specs.Term.{StoreTerm, run, ValueTerm, get, ev, ValueTerms, no_terms, term, Place}
use Rattle.rule_terms.specs.declared.obligation.Atom.TheVariants.{SameName, SameStore, SameValue, Ends, Holds}
use Rattle.rule_terms.specs.declared.obligation.Obligation.{Obligation}
use Rattle.term_meaning.specs.Indices.{count}
use Rattle.law_clauses.specs.Signed.{Signed, plus, minus}
use Rattle.law_clauses.specs.Shapes.{put_at, get_at}
use Rattle.law_clauses.specs.Listed.{lists_ignores, lists_keeps}
use Rattle.law_clauses.specs.ClauseForms.{Clause}
use Rattle.law_clauses.specs.ClauseForms as form
use Rattle.law_clauses.proofs.Same.{or_false}
use Rattle.escape_marks.specs.declared.escape.Escape.{Escape}
use Rattle.escape_marks.specs.LawsHold.{is_kept}
use Rattle.escape_conditions.specs.MarkedConditions.{kept, kept_at, kept_at_names, variable_stays}
use Rattle.escape_conditions.specs.Shapes.{name_apart, names_apart}

alike : {X : Type 0} (p q : X → Bool) (xs : List X) → ((x : X) → p x ≡ q x) → list_all p xs ≡ list_all q xs
alike p q [] f = refl
alike p q (x ∷ xs) f = λ j. f x j && alike p q xs f j

third : (a b : Bool) → (a || (b || false)) ≡ (a || b)
third true b = refl
third false b = or_false b

behind_first : (a b c : Bool) → (b || (a || c)) ≡ (a || (b || (c || false)))
behind_first true true c = refl
behind_first true false c = refl
behind_first false true c = refl
behind_first false false c = sym (or_false c)

module _ (ob : Obligation) (e : Escape) where
  abbrev is : Signed → Bool
  is x = is_kept ob.params e x

  at_names : (wanted : Kind) (k n : ℕ) (rest : Bool) (clause : ℕ → Clause) → ((x : ℕ) → (not (lists_ignores ob wanted k x) || (is (minus (SameName n x)) || rest)) ≡ kept ob e (clause x)) → names_apart ob e wanted k n rest ≡ kept_at_names ob e clause
  unfolding names_apart kept_at_names
  at_names wanted k n rest clause f = alike (name_apart ob e wanted k n rest) (kept_at ob e clause) ob.conditions each
    where
      each : (c : Condition) → name_apart ob e wanted k n rest c ≡ kept_at ob e clause c
      each (Ignores a x) = f x
      each _ = refl

  pub value_names : (i : ℕ) (s : StoreTerm) (p : Place) (v : ValueTerm) → names_apart ob e kind.Expr i p.name (is (plus (SameValue (ev i (put_at s p v)) (ev i s)))) ≡ kept_at_names ob e (λ n. form.value_ignores i n s p v)
  value_names i s p v =
      let rest = is (plus (SameValue (ev i (put_at s p v)) (ev i s))) in
      at_names kind.Expr i p.name rest (λ n. form.value_ignores i n s p v) (λ x. ap (λ b. not (lists_ignores ob kind.Expr i x) || (is (minus (SameName p.name x)) || b)) (sym (or_false rest)))

  pub test_names : (q : ℕ) (s : StoreTerm) (p : Place) (v : ValueTerm) → names_apart ob e kind.Test q p.name (is (minus (Holds q s)) || is (plus (Holds q (put_at s p v)))) ≡ kept_at_names ob e (λ n. form.test_ignores q n s p v)
  test_names q s p v =
      let before = is (minus (Holds q s)) in
      let after = is (plus (Holds q (put_at s p v))) in
      at_names kind.Test q p.name (before || after) (λ n. form.test_ignores q n s p v) (λ x. ap (λ b. not (lists_ignores ob kind.Test q x) || (is (minus (SameName p.name x)) || b)) (sym (third before after)))

  pub test_names_back : (q : ℕ) (s : StoreTerm) (p : Place) (v : ValueTerm) → names_apart ob e kind.Test q p.name (is (minus (Holds q (put_at s p v))) || is (plus (Holds q s))) ≡ kept_at_names ob e (λ n. form.test_ignores_back q n s p v)
  test_names_back q s p v =
      let before = is (minus (Holds q (put_at s p v))) in
      let after = is (plus (Holds q s)) in
      at_names kind.Test q p.name (before || after) (λ n. form.test_ignores_back q n s p v) (λ x. ap (λ b. not (lists_ignores ob kind.Test q x) || (is (minus (SameName p.name x)) || b)) (sym (third before after)))

  pub run_names : (k : ℕ) (s : StoreTerm) (p : Place) (v : ValueTerm) → names_apart ob e kind.Stmt k p.name (is (plus (SameStore (run k (put_at s p v)) (put_at (run k s) p v)))) ≡ kept_at_names ob e (λ n. form.run_ignores k n s p v)
  run_names k s p v =
      let rest = is (plus (SameStore (run k (put_at s p v)) (put_at (run k s) p v))) in
      at_names kind.Stmt k p.name rest (λ n. form.run_ignores k n s p v) (λ x. ap (λ b. not (lists_ignores ob kind.Stmt k x) || (is (minus (SameName p.name x)) || b)) (sym (or_false rest)))

  pub read_names : (k : ℕ) (s : StoreTerm) (p : Place) → names_apart ob e kind.Stmt k p.name (is (minus (Ends (run k s))) || is (plus (SameValue (get_at p (run k s)) (get_at p s)))) ≡ kept_at_names ob e (λ n. form.run_leaves k n s p)
  read_names k s p =
      let stuck = is (minus (Ends (run k s))) in
      let same = is (plus (SameValue (get_at p (run k s)) (get_at p s))) in
      at_names kind.Stmt k p.name (stuck || same) (λ n. form.run_leaves k n s p) (λ x. ap (λ b. not (lists_ignores ob kind.Stmt k x) || b) (behind_first stuck (is (minus (SameName p.name x))) same))

  -- a variable is a place without indices
  other_variable : (k : ℕ) (s : StoreTerm) (x : ℕ) (vs : ValueTerms) → count vs ≢ 0 → variable_stays ob e k s x vs ≡ true
  unfolding variable_stays
  other_variable k s x no_terms f = absurd (f refl)
  other_variable k s x (term v vs) f = refl

  pub some_index : (k : ℕ) (s : StoreTerm) (p : Place) → count p.indices ≢ 0 → variable_stays ob e k s p.name p.indices ≡ true
  some_index k s p h = other_variable k s p.name p.indices h

  one_variable : (k : ℕ) (s : StoreTerm) (x : ℕ) (vs : ValueTerms) → count vs ≡ 0 → (not (lists_keeps ob kind.Name k x) || (is (minus (Ends (run k s))) || is (plus (SameValue (get x vs (run k s)) (get x vs s))))) ≡ variable_stays ob e k s x vs
  unfolding variable_stays
  one_variable k s x no_terms f =
      let stuck = is (minus (Ends (run k s))) in
      let same = is (plus (SameValue (get x no_terms (run k s)) (get x no_terms s))) in
      ap (λ b. not (lists_keeps ob kind.Name k x) || b) (sym (third stuck same))
  one_variable k s x (term v vs) f = absurd (omega arith)

  pub no_index : (k : ℕ) (s : StoreTerm) (p : Place) → count p.indices ≡ 0 → (not (lists_keeps ob kind.Name k p.name) || (is (minus (Ends (run k s))) || is (plus (SameValue (get_at p (run k s)) (get_at p s))))) ≡ variable_stays ob e k s p.name p.indices
  no_index k s p h = one_variable k s p.name p.indices h
