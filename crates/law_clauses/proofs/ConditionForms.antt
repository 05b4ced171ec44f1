-- Each clause of the laws that side conditions give, 11 to 21, has a form: what its letters stand for is read off it.
use Rattle.std.specs.Prelude.{◌≡◌, ℕ, pos, true, ◌==◌, ◌&&◌, List, [], ◌∷◌, refl}
use Rattle.std.proofs.Common.{sym, ◌∙◌, inl, inr, true≢false}
use Rattle.std.proofs.lemmas.Bool.{and_parts}
use Rattle.toy_imp.specs.declared.param.Kind.TheVariants as kind
use Rattle.rule_terms.specs.Term.{StoreTerm, put, run, get, ev, no_terms}
use Rattle.rule_terms.specs.Order.{store_same, place_same}
use Rattle.rule_terms.specs.declared.obligation.Atom.TheVariants.{SameName, SameStore, SameValue, AtMost, Ends, Holds}
use Rattle.rule_terms.specs.declared.obligation.Obligation.{Obligation}
use Rattle.term_meaning.specs.Indices.{count}
use Rattle.law_clauses.specs.Signed.{Signed, plus, minus}
use Rattle.law_clauses.specs.Shapes.{place, is_run, is_num}
use Rattle.law_clauses.specs.Listed.{lists_keeps, lists_ignores, lists_commutes, lists_positive, lists_constant}
use Rattle.law_clauses.specs.ConditionLaws.{law_11, law_12, law_13, law_14, written_at, law_15, law_16, law_17, law_18, law_19, law_20, law_21}
use Rattle.law_clauses.specs.ClauseForms as form
use Rattle.law_clauses.specs.ClauseForms.{HasForm}
use Rattle.law_clauses.proofs.Same.{or_cases, number_is, integer_is, store_is, value_is, place_is, run_is, num_is, get_is, ev_is}
use Rattle.law_clauses.proofs.ConditionClauses.{no_indices}

module _ (ob : Obligation) where
  pub form_11 : (xs : List Signed) → law_11 ob xs ≡ true → HasForm ob 11 xs
  unfolding law_11
  form_11 (minus (Ends (run k s)) ∷ plus (SameValue (ev e t) w) ∷ []) h =
      let p = and_parts (lists_keeps ob kind.Expr k e) _ h in
      let q = and_parts (is_run t k s) _ p.1 in
      record {
        clause = form.keeps_value k s e;
        law = refl;
        same = λ j. minus (Ends (run k s)) ∷ plus (SameValue (ev e (run_is t k s q.0 j)) (ev_is w e s q.1 j)) ∷ [];
        allowed = p.0;
      }
  form_11 _ h = absurd (true≢false (sym h))

  pub form_12 : (xs : List Signed) → law_12 ob xs ≡ true → HasForm ob 12 xs
  unfolding law_12
  form_12 (minus (Ends (run k s)) ∷ plus (SameValue (get x is t) w) ∷ []) h =
      let m = and_parts (count is == 0) _ h in
      let p = and_parts (lists_keeps ob kind.Name k x) _ m.1 in
      let q = and_parts (is_run t k s) _ p.1 in
      let bare = no_indices is (number_is (count is) 0 m.0) in
      let read : w ≡ get x no_terms s = get_is w x is s q.1 ∙ (λ j. get x (bare j) s) in
      record {
        clause = form.keeps_variable k s x;
        law = refl;
        same = λ j. minus (Ends (run k s)) ∷ plus (SameValue (get x (bare j) (run_is t k s q.0 j)) (read j)) ∷ [];
        allowed = p.0;
      }
  form_12 _ h = absurd (true≢false (sym h))

  pub form_13 : (xs : List Signed) → law_13 ob xs ≡ true → HasForm ob 13 xs
  unfolding law_13
  form_13 (minus (Ends (run k s)) ∷ minus (Holds q a) ∷ plus (Holds r b) ∷ []) h =
      let p = and_parts (lists_keeps ob kind.Test k q) _ h in
      let n = and_parts (r == q) _ p.1 in
      elim (or_cases (store_same a s && is_run b k s) (is_run a k s && store_same b s) n.1) as (λ _. HasForm ob 13 (minus (Ends (run k s)) ∷ minus (Holds q a) ∷ plus (Holds r b) ∷ [])) [
        | inl f ↦ let g = and_parts (store_same a s) _ f in record {
          clause = form.keeps_test k s q;
          law = refl;
          same = λ j. minus (Ends (run k s)) ∷ minus (Holds q (store_is a s g.0 j)) ∷ plus (Holds (number_is r q n.0 j) (run_is b k s g.1 j)) ∷ [];
          allowed = p.0;
        }
        | inr f ↦ let g = and_parts (is_run a k s) _ f in record {
          clause = form.keeps_test_back k s q;
          law = refl;
          same = λ j. minus (Ends (run k s)) ∷ minus (Holds q (run_is a k s g.0 j)) ∷ plus (Holds (number_is r q n.0 j) (store_is b s g.1 j)) ∷ [];
          allowed = p.0;
        }
      ]
  form_13 _ h = absurd (true≢false (sym h))

  pub form_14 : (xs : List Signed) → law_14 ob xs ≡ true → HasForm ob 14 xs
  unfolding law_14
  form_14 (minus (SameName n x) ∷ plus (SameValue (ev e (put s y is v)) w) ∷ []) h =
      let p = and_parts (lists_ignores ob kind.Expr e x) _ h in
      let q = and_parts (n == y) _ p.1 in
      record {
        clause = form.value_ignores e x s (place y is) v;
        law = refl;
        same = λ j. minus (SameName (number_is n y q.0 j) x) ∷ plus (SameValue (ev e (put s y is v)) (ev_is w e s q.1 j)) ∷ [];
        allowed = p.0;
      }
  form_14 _ h = absurd (true≢false (sym h))

  -- a store term that is written at a place of the name
  form_15_to : (n x q r : ℕ) (a b : StoreTerm) → lists_ignores ob kind.Test q x ≡ true → (r == q) ≡ true → written_at n a b ≡ true
      → HasForm ob 15 (minus (SameName n x) ∷ minus (Holds q a) ∷ plus (Holds r b) ∷ [])
  form_15_to n x q r a (put u y is v) listed_too same_test h =
      let p = and_parts (n == y) _ h in
      record {
        clause = form.test_ignores q x u (place y is) v;
        law = refl;
        same = λ j. minus (SameName (number_is n y p.0 j) x) ∷ minus (Holds q (sym (store_is u a p.1) j)) ∷ plus (Holds (number_is r q same_test j) (put u y is v)) ∷ [];
        allowed = listed_too;
      }
  form_15_to n x q r a _ listed_too same_test h = absurd (true≢false (sym h))

  form_15_back : (n x q r : ℕ) (a b : StoreTerm) → lists_ignores ob kind.Test q x ≡ true → (r == q) ≡ true → written_at n b a ≡ true
      → HasForm ob 15 (minus (SameName n x) ∷ minus (Holds q a) ∷ plus (Holds r b) ∷ [])
  form_15_back n x q r (put u y is v) b listed_too same_test h =
      let p = and_parts (n == y) _ h in
      record {
        clause = form.test_ignores_back q x u (place y is) v;
        law = refl;
        same = λ j. minus (SameName (number_is n y p.0 j) x) ∷ minus (Holds q (put u y is v)) ∷ plus (Holds (number_is r q same_test j) (sym (store_is u b p.1) j)) ∷ [];
        allowed = listed_too;
      }
  form_15_back n x q r _ b listed_too same_test h = absurd (true≢false (sym h))

  pub form_15 : (xs : List Signed) → law_15 ob xs ≡ true → HasForm ob 15 xs
  unfolding law_15
  form_15 (minus (SameName n x) ∷ minus (Holds q a) ∷ plus (Holds r b) ∷ []) h =
      let p = and_parts (lists_ignores ob kind.Test q x) _ h in
      let m = and_parts (r == q) _ p.1 in
      elim (or_cases (written_at n a b) (written_at n b a) m.1) as (λ _. HasForm ob 15 (minus (SameName n x) ∷ minus (Holds q a) ∷ plus (Holds r b) ∷ [])) [
        | inl f ↦ form_15_to n x q r a b p.0 m.0 f
        | inr f ↦ form_15_back n x q r a b p.0 m.0 f
      ]
  form_15 _ h = absurd (true≢false (sym h))

  pub form_16 : (xs : List Signed) → law_16 ob xs ≡ true → HasForm ob 16 xs
  unfolding law_16
  form_16 (minus (SameName n x) ∷ plus (SameStore (run k (put s y is v)) (put u z js w)) ∷ []) h =
      let p = and_parts (lists_ignores ob kind.Stmt k x) _ h in
      let q = and_parts (n == y) _ p.1 in
      let f = and_parts (is_run u k s) _ q.1 in
      let g = and_parts (place_same (place z js) (place y is)) _ f.1 in
      let at = place_is (place z js) (place y is) g.0 in
      record {
        clause = form.run_ignores k x s (place y is) v;
        law = refl;
        same = λ j. minus (SameName (number_is n y q.0 j) x) ∷ plus (SameStore (run k (put s y is v)) (put (run_is u k s f.0 j) ((at j).name) ((at j).indices) (value_is w v g.1 j))) ∷ [];
        allowed = p.0;
      }
  form_16 _ h = absurd (true≢false (sym h))

  pub form_17 : (xs : List Signed) → law_17 ob xs ≡ true → HasForm ob 17 xs
  unfolding law_17
  form_17 (minus (Ends (run k s)) ∷ minus (SameName n x) ∷ plus (SameValue (get y js t) w) ∷ []) h =
      let o = and_parts (lists_ignores ob kind.Stmt k x) _ h in
      let p = and_parts (n == y) _ o.1 in
      let q = and_parts (is_run t k s) _ p.1 in
      record {
        clause = form.run_leaves k x s (place y js);
        law = refl;
        same = λ j. minus (Ends (run k s)) ∷ minus (SameName (number_is n y p.0 j) x) ∷ plus (SameValue (get y js (run_is t k s q.0 j)) (get_is w y js s q.1 j)) ∷ [];
        allowed = o.0;
      }
  form_17 _ h = absurd (true≢false (sym h))

  pub form_18 : (xs : List Signed) → law_18 ob xs ≡ true → HasForm ob 18 xs
  unfolding law_18
  form_18 (plus (SameStore (run k (run j s)) (run m u)) ∷ []) h =
      let p = and_parts (lists_commutes ob j k) _ h in
      let q = and_parts (m == j) _ p.1 in
      record {
        clause = form.runs_commute j k s;
        law = refl;
        same = λ z. plus (SameStore (run k (run j s)) (run (number_is m j q.0 z) (run_is u k s q.1 z))) ∷ [];
        allowed = p.0;
      }
  form_18 _ h = absurd (true≢false (sym h))

  pub form_19 : (xs : List Signed) → law_19 ob xs ≡ true → HasForm ob 19 xs
  unfolding law_19
  form_19 (minus (Ends s) ∷ plus (AtMost a (ev e t) c) ∷ []) h =
      let o = and_parts (lists_positive ob e) _ h in
      let p = and_parts (is_num a (pos 1)) _ o.1 in
      let q = and_parts (store_same t s) _ p.1 in
      record {
        clause = form.at_least_one e s;
        law = refl;
        same = λ j. minus (Ends s) ∷ plus (AtMost (num_is a (pos 1) p.0 j) (ev e (store_is t s q.0 j)) (integer_is c (pos 0) q.1 j)) ∷ [];
        allowed = o.0;
      }
  form_19 _ h = absurd (true≢false (sym h))

  pub form_20 : (xs : List Signed) → law_20 ob xs ≡ true → HasForm ob 20 xs
  unfolding law_20
  form_20 (minus (Ends a) ∷ minus (Ends c) ∷ plus (SameValue (ev e b) w) ∷ []) h =
      let o = and_parts (lists_constant ob e) _ h in
      let p = and_parts (store_same b a) _ o.1 in
      record {
        clause = form.constant_value e a c;
        law = refl;
        same = λ j. minus (Ends a) ∷ minus (Ends c) ∷ plus (SameValue (ev e (store_is b a p.0 j)) (ev_is w e c p.1 j)) ∷ [];
        allowed = o.0;
      }
  form_20 _ h = absurd (true≢false (sym h))

  pub form_21 : (xs : List Signed) → law_21 ob xs ≡ true → HasForm ob 21 xs
  unfolding law_21
  form_21 (minus (SameName x y) ∷ []) h = record { clause = form.names_differ x y; law = refl; same = refl; allowed = h }
  form_21 _ h = absurd (true≢false (sym h))
