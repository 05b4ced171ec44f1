-- Each clause of the laws of reads, writes and ends, 1 to 10, has a form: what its letters stand for is read off it.
use Rattle.std.specs.Prelude.{◌≡◌, true, not, ◌==◌, List, [], ◌∷◌, ◌++◌, Option, Some, None, refl}
use Rattle.std.proofs.Common.{sym, ap, subst, true≢false}
use Rattle.std.proofs.lemmas.Bool.{and_from, and_parts}
use Rattle.rule_terms.specs.Term.{left_store, right_store, put, run, get}
use Rattle.rule_terms.specs.Order.{store_same, value_same}
use Rattle.rule_terms.specs.declared.obligation.Atom.TheVariants.{SameName, SameStore, SameValue, Ends}
use Rattle.rule_terms.specs.declared.obligation.Obligation.{Obligation}
use Rattle.term_meaning.specs.Indices.{count}
use Rattle.law_clauses.specs.Signed.{Signed, plus, minus}
use Rattle.law_clauses.specs.Shapes.{place}
use Rattle.law_clauses.specs.WriteLaws.{conclusion, negated_conditions, read_back, law_1, law_2, index_pair, law_3, law_4, written_alike, law_5, law_6, law_7, law_8, law_9, law_10}
use Rattle.law_clauses.specs.ClauseForms as form
use Rattle.law_clauses.specs.ClauseForms.{HasForm}
use Rattle.law_clauses.proofs.Same.{number_is, store_is, value_is, all_is, get_is}

-- a list is its negated conditions and its conclusion
abbrev listed : Option Signed → List Signed
listed None = []
listed (Some x) = x ∷ []

parts_joined : (xs : List Signed) → xs ≡ negated_conditions xs ++ listed (conclusion xs)
parts_joined [] = refl
parts_joined (x ∷ []) = refl
parts_joined (x ∷ y ∷ ys) = ap (λ zs. x ∷ zs) (parts_joined (y ∷ ys))

module _ (ob : Obligation) where
  form_read_back : (o : Option Signed) (cs : List Signed) → read_back o cs ≡ true → HasForm ob 1 (cs ++ listed o)
  unfolding read_back
  form_read_back (Some (plus (SameValue (get y js (put s x is v)) w))) cs e =
      let p = and_parts (count js == count is) _ e in
      let q = and_parts (value_same w v) _ p.1 in
      record {
        clause = form.read_back s (place x is) v (place y js);
        law = refl;
        same = λ j. all_is cs _ q.1 j ++ plus (SameValue (get y js (put s x is v)) (value_is w v q.0 j)) ∷ [];
        allowed = p.0;
      }
  form_read_back _ cs e = absurd (true≢false (sym e))

  pub form_1 : (xs : List Signed) → law_1 xs ≡ true → HasForm ob 1 xs
  unfolding law_1
  form_1 xs e = subst (HasForm ob 1) (sym (parts_joined xs)) (form_read_back (conclusion xs) (negated_conditions xs) e)

  pub form_2 : (xs : List Signed) → law_2 xs ≡ true → HasForm ob 2 xs
  unfolding law_2
  form_2 (plus (SameName y z) ∷ plus (SameValue (get q js (put s x is v)) w) ∷ []) e =
      let m = and_parts (y == q) _ e in
      let n = and_parts (z == x) _ m.1 in
      record {
        clause = form.past_name s (place x is) v (place q js);
        law = refl;
        same = λ j. plus (SameName (number_is y q m.0 j) (number_is z x n.0 j)) ∷ plus (SameValue (get q js (put s x is v)) (get_is w q js s n.1 j)) ∷ [];
        allowed = refl;
      }
  form_2 _ e = absurd (true≢false (sym e))

  pub form_3 : (xs : List Signed) → law_3 xs ≡ true → HasForm ob 3 xs
  unfolding law_3
  form_3 (plus (SameValue a b) ∷ plus (SameValue (get q js (put s x is v)) w) ∷ []) e =
      let m = and_parts (count js == count is) _ e in
      let n = and_parts (index_pair a b js is) _ m.1 in
      record {
        clause = form.past_index s (place x is) v (place q js) a b;
        law = refl;
        same = λ j. plus (SameValue a b) ∷ plus (SameValue (get q js (put s x is v)) (get_is w q js s n.1 j)) ∷ [];
        allowed = and_from _ _ m.0 n.0;
      }
  form_3 _ e = absurd (true≢false (sym e))

  pub form_4 : (xs : List Signed) → law_4 xs ≡ true → HasForm ob 4 xs
  unfolding law_4
  form_4 (plus (SameValue (get q js (put s x is v)) w) ∷ []) e =
      let m = and_parts (not (count js == count is)) _ e in
      record {
        clause = form.past_count s (place x is) v (place q js);
        law = refl;
        same = λ j. plus (SameValue (get q js (put s x is v)) (get_is w q js s m.1 j)) ∷ [];
        allowed = m.0;
      }
  form_4 _ e = absurd (true≢false (sym e))

  form_written_alike : (o : Option Signed) (cs : List Signed) → written_alike o cs ≡ true → HasForm ob 5 (cs ++ listed o)
  unfolding written_alike
  form_written_alike (Some (plus (SameStore a c))) cs e =
      record {
        clause = form.written_alike a c;
        law = refl;
        same = λ j. all_is cs _ e j ++ plus (SameStore a c) ∷ [];
        allowed = refl;
      }
  form_written_alike _ cs e = absurd (true≢false (sym e))

  pub form_5 : (xs : List Signed) → law_5 xs ≡ true → HasForm ob 5 xs
  unfolding law_5
  form_5 xs e = subst (HasForm ob 5) (sym (parts_joined xs)) (form_written_alike (conclusion xs) (negated_conditions xs) e)

  pub form_6 : (xs : List Signed) → law_6 xs ≡ true → HasForm ob 6 xs
  unfolding law_6
  form_6 (plus (Ends left_store) ∷ []) e = record { clause = form.left_ends; law = refl; same = refl; allowed = refl }
  form_6 (plus (Ends right_store) ∷ []) e = record { clause = form.right_ends; law = refl; same = refl; allowed = refl }
  form_6 _ e = absurd (true≢false (sym e))

  pub form_7 : (xs : List Signed) → law_7 xs ≡ true → HasForm ob 7 xs
  unfolding law_7
  form_7 (minus (Ends s) ∷ plus (Ends (put u x is v)) ∷ []) e =
      record {
        clause = form.write_ends s (place x is) v;
        law = refl;
        same = λ j. minus (Ends s) ∷ plus (Ends (put (store_is u s e j) x is v)) ∷ [];
        allowed = refl;
      }
  form_7 _ e = absurd (true≢false (sym e))

  pub form_8 : (xs : List Signed) → law_8 xs ≡ true → HasForm ob 8 xs
  unfolding law_8
  form_8 (minus (Ends (put u x is v)) ∷ plus (Ends s) ∷ []) e =
      record {
        clause = form.written_ends s (place x is) v;
        law = refl;
        same = λ j. minus (Ends (put (store_is u s e j) x is v)) ∷ plus (Ends s) ∷ [];
        allowed = refl;
      }
  form_8 _ e = absurd (true≢false (sym e))

  pub form_9 : (xs : List Signed) → law_9 xs ≡ true → HasForm ob 9 xs
  unfolding law_9
  form_9 (minus (Ends (run k u)) ∷ plus (Ends s) ∷ []) e =
      record {
        clause = form.run_starts k s;
        law = refl;
        same = λ j. minus (Ends (run k (store_is u s e j))) ∷ plus (Ends s) ∷ [];
        allowed = refl;
      }
  form_9 _ e = absurd (true≢false (sym e))

  pub form_10 : (xs : List Signed) → law_10 xs ≡ true → HasForm ob 10 xs
  unfolding law_10
  form_10 (plus (Ends a) ∷ plus (Ends c) ∷ plus (SameStore b d) ∷ []) e =
      let p = and_parts (store_same b a) _ e in
      record {
        clause = form.neither_ends a c;
        law = refl;
        same = λ j. plus (Ends a) ∷ plus (Ends c) ∷ plus (SameStore (store_is b a p.0 j) (store_is d c p.1 j)) ∷ [];
        allowed = refl;
      }
  form_10 _ e = absurd (true≢false (sym e))
