-- The clauses of the laws of reads and writes, 1 to 10, are true: where all their literals fail, whatever is being shown is so.
use Rattle.std.specs.Prelude.{◌≡◌, ◌≢◌, ℕ, zero, suc, Bool, true, false, not, cond, ◌==◌, ◌&&◌, List, [], ◌∷◌, ◌++◌, map, Option, Some, is_some, refl}
use Rattle.std.specs.List.{list_any}
use Rattle.std.proofs.Common.{sym, ◌∙◌, ap, subst, inl, inr, true≢false, eq-eqb, arith}
use Rattle.std.proofs.lemmas.Bool.{and_parts}
use Rattle.toy_imp.specs.declared.instance.Instance.{Instance}
use Rattle.toy_imp.specs.Cell.{spelled}
use Rattle.toy_imp.specs.Store.{Store}
use Rattle.toy_imp.specs.Fill.{name_at}
use Rattle.rule_terms.specs.Term.{StoreTerm, left_store, right_store, put, run, ValueTerm, get, ValueTerms, no_terms, term, Place}
use Rattle.rule_terms.specs.Order.{value_same, place_same}
use Rattle.rule_terms.specs.Added.{added, added_all}
use Rattle.rule_terms.specs.declared.obligation.Atom.TheVariants.{SameName, SameStore, SameValue, Ends}
use Rattle.term_meaning.specs.Table.{Entry}
use Rattle.term_meaning.specs.Meaning.{store_of, value_of}
use Rattle.term_meaning.specs.Indices.{count, index_at}
use Rattle.term_meaning.specs.Writes.{base_of, written_in}
use Rattle.term_meaning.proofs.Truths.{names_differ, values_differ}
use Rattle.term_meaning.proofs.ReadsAndWrites.{IndicesAlike, read_after_write, read_past_another_name, read_past_another_index, read_past_another_count, write_ends, written_ends, sides_end, run_starts, neither_ends, stores_with_equal_writes}
use Rattle.law_clauses.specs.Signed.{Signed, plus, minus}
use Rattle.law_clauses.specs.Shapes.{is_get}
use Rattle.law_clauses.specs.WriteLaws.{conclusion, negated_conditions, unequal, read_back, law_1, law_2, index_pair, law_3, law_4, places_written, read_unlike, written_alike, law_5, law_6, law_7, law_8, law_9, law_10}
use Rattle.law_clauses.proofs.Same.{get_is, or_cases, not_true, number_is, store_is, value_is, place_is, all_is}
use Rattle.law_clauses.proofs.Each.{Each, IfThere}
use Rattle.law_clauses.proofs.Meant.{Fails, names_met, stores_met, values_met, end_met, no_end, values_concluded, stores_concluded, end_concluded}

-- an index pair has a number
find_pair : (a b : ValueTerm) (js is : ValueTerms) → index_pair a b js is ≡ true → (k : ℕ) × ((index_at js k ≡ Some a) × (index_at is k ≡ Some b))
unfolding index_pair
find_pair a b (term c cs) (term d ds) e =
    elim (or_cases (value_same a c && value_same b d) (index_pair a b cs ds) e) as (λ _. (k : ℕ) × ((index_at (term c cs) k ≡ Some a) × (index_at (term d ds) k ≡ Some b))) [
      | inl f ↦ let p = and_parts (value_same a c) (value_same b d) f in (zero, (ap Some (sym (value_is a c p.0)), ap Some (sym (value_is b d p.1))))
      | inr f ↦ let q = find_pair a b cs ds f in (suc q.0, q.1)
    ]
find_pair a b _ _ e = absurd (true≢false (sym e))

module _ (A : Type 0) (i : Instance) (T : List Entry) (l r : Store) where
  abbrev V : ValueTerm → ValueTerm → Type 0
  V a b = value_of i T l r a ≡ value_of i T l r b

  abbrev N : ℕ → List ℕ
  N x = spelled (name_at i x)

  abbrev Failing : List Signed → Type 0
  Failing clause = Each (Fails i T l r) clause

  -- ---- 1
  unequal_alike : (js is : ValueTerms) → count js ≡ count is → Failing (unequal js is) → IndicesAlike i T l r js is
  unfolding unequal
  unequal_alike no_terms no_terms e none = tt
  unequal_alike no_terms (term w ws) e none = absurd (omega arith)
  unequal_alike (term v vs) no_terms e none = absurd (omega arith)
  unequal_alike (term v vs) (term w ws) e none = let f : count vs ≡ count ws = omega arith in (values_met i T l r v w none.0, unequal_alike vs ws f none.1)

  read_clause : (s : StoreTerm) (x : ℕ) (is : ValueTerms) (v : ValueTerm) (y : ℕ) (js : ValueTerms) (w : ValueTerm) → count js ≡ count is → w ≡ v → Failing (minus (Ends (put s x is v)) ∷ minus (SameName y x) ∷ unequal js is) →
      Fails i T l r (plus (SameValue (get y js (put s x is v)) w)) → A
  read_clause s x is v y js w counts same none fails =
      let read : V (get y js (put s x is v)) v = read_after_write i T l r s x is v y js (end_met i T l r (put s x is v) none.0) (names_met i T l r y x none.1.0) (unequal_alike js is counts none.1.1) in
      values_concluded i T l r A (get y js (put s x is v)) w (read ∙ ap (value_of i T l r) (sym same)) fails

  read_back_true : (c : Option Signed) (conditions : List Signed) → read_back c conditions ≡ true → Failing conditions → IfThere (Fails i T l r) c → A
  unfolding read_back
  read_back_true (Some (plus (SameValue (get y js (put s x is v)) w))) conditions e none fails =
      let p = and_parts (count js == count is) _ e in
      let q = and_parts (value_same w v) _ p.1 in
      read_clause s x is v y js w (number_is (count js) (count is) p.0) (value_is w v q.0) (subst Failing (all_is conditions _ q.1) none) fails
  read_back_true _ conditions e none fails = absurd (true≢false (sym e))

  -- a clause is its negated conditions and its conclusion
  conditions_fail : (clause : List Signed) → Failing clause → Failing (negated_conditions clause)
  conditions_fail [] none = tt
  conditions_fail (x ∷ []) none = tt
  conditions_fail (x ∷ y ∷ zs) none = (none.0, conditions_fail (y ∷ zs) none.1)

  conclusion_fails : (clause : List Signed) → Failing clause → IfThere (Fails i T l r) (conclusion clause)
  conclusion_fails [] none = tt
  conclusion_fails (x ∷ []) none = none.0
  conclusion_fails (x ∷ y ∷ zs) none = conclusion_fails (y ∷ zs) none.1

  pub law_1_true : (clause : List Signed) → law_1 clause ≡ true → Failing clause → A
  unfolding law_1
  law_1_true clause e none = read_back_true (conclusion clause) (negated_conditions clause) e (conditions_fail clause none) (conclusion_fails clause none)

  -- ---- 2 to 4: a read past a write into another cell
  passes : (s : StoreTerm) (x : ℕ) (is : ValueTerms) (v : ValueTerm) (q : ℕ) (js : ValueTerms) (w : ValueTerm) → is_get w q js s ≡ true →
      V (get q js (put s x is v)) (get q js s) → Fails i T l r (plus (SameValue (get q js (put s x is v)) w)) → A
  passes s x is v q js w e read fails = values_concluded i T l r A (get q js (put s x is v)) w (read ∙ ap (value_of i T l r) (sym (get_is w q js s e))) fails

  pub law_2_true : (clause : List Signed) → law_2 clause ≡ true → Failing clause → A
  unfolding law_2
  law_2_true (plus (SameName y z) ∷ plus (SameValue (get q js (put s x is v)) w) ∷ []) e none =
      let p = and_parts (y == q) _ e in
      let p2 = and_parts (z == x) _ p.1 in
      let apart : N q ≢ N x = λ same. names_differ i T l r y z none.0 (ap N (number_is y q p.0) ∙ same ∙ sym (ap N (number_is z x p2.0))) in
      passes s x is v q js w p2.1 (read_past_another_name i T l r s x is v q js apart) none.1.0
  law_2_true _ e none = absurd (true≢false (sym e))

  pub law_3_true : (clause : List Signed) → law_3 clause ≡ true → Failing clause → A
  unfolding law_3
  law_3_true (plus (SameValue a b) ∷ plus (SameValue (get q js (put s x is v)) w) ∷ []) e none =
      let p = and_parts (count js == count is) _ e in
      let p2 = and_parts (index_pair a b js is) _ p.1 in
      let found = find_pair a b js is p2.0 in
      passes s x is v q js w p2.1 (read_past_another_index i T l r s x is v q js found.0 a b found.1.0 found.1.1 (values_differ i T l r a b none.0)) none.1.0
  law_3_true _ e none = absurd (true≢false (sym e))

  pub law_4_true : (clause : List Signed) → law_4 clause ≡ true → Failing clause → A
  unfolding law_4
  law_4_true (plus (SameValue (get q js (put s x is v)) w) ∷ []) e none =
      let p = and_parts (not (count js == count is)) _ e in
      let apart : count js ≢ count is = λ same. true≢false (sym (eq-eqb (count js) (count is) same) ∙ not_true _ p.0) in
      passes s x is v q js w p.1 (read_past_another_count i T l r s x is v q js apart) none.0
  law_4_true _ e none = absurd (true≢false (sym e))

  -- ---- 5
  module _ (a c : StoreTerm) where
    abbrev ReadAlike : List Place → Type 0
    ReadAlike [] = Unit {0}
    ReadAlike (p ∷ ps) = V (get p.name p.indices a) (get p.name p.indices c) × ReadAlike ps

    none_unlike : (ps : List Place) → Failing (map (read_unlike a c) ps) → ReadAlike ps
    none_unlike [] none = tt
    none_unlike (p ∷ ps) none = (values_met i T l r (get p.name p.indices a) (get p.name p.indices c) none.0, none_unlike ps none.1)

    alike_first : (xs ys : List Place) → ReadAlike (xs ++ ys) → ReadAlike xs × ReadAlike ys
    alike_first [] ys h = (tt, h)
    alike_first (x ∷ xs) ys h = let p = alike_first xs ys h.1 in ((h.0, p.0), p.1)

    -- a place that is there already
    alike_there : (y : Place) (xs : List Place) → list_any (place_same y) xs ≡ true → ReadAlike xs → V (get y.name y.indices a) (get y.name y.indices c)
    alike_there y [] e h = absurd (true≢false (sym e))
    alike_there y (x ∷ xs) e h =
        elim (or_cases (place_same y x) (list_any (place_same y) xs) e) as (λ _. V (get y.name y.indices a) (get y.name y.indices c)) [
          | inl f ↦ subst (λ (p : Place). V (get p.name p.indices a) (get p.name p.indices c)) (sym (place_is y x f)) h.0
          | inr f ↦ alike_there y xs f h.1
        ]

    alike_added : (y : Place) (xs : List Place) (b : Bool) → list_any (place_same y) xs ≡ b → ReadAlike (cond b xs (xs ++ y ∷ [])) → ReadAlike xs × V (get y.name y.indices a) (get y.name y.indices c)
    alike_added y xs true e h = (h, alike_there y xs e h)
    alike_added y xs false e h = let p = alike_first xs (y ∷ []) h in (p.0, p.1.0)

    alike_all : (xs ys : List Place) → ReadAlike (added_all place_same xs ys) → ReadAlike xs × ReadAlike ys
    unfolding added_all
    alike_all xs [] h = (h, tt)
    alike_all xs (y ∷ ys) h =
        let p = alike_all (added place_same xs y) ys h in
        let q = alike_added y xs (list_any (place_same y) xs) refl p.0 in
        (q.0, (q.1, p.1))

    writes_clause : Failing (minus (SameStore (base_of a) (base_of c)) ∷ map (read_unlike a c) (places_written a c)) → Fails i T l r (plus (SameStore a c)) → A
    writes_clause none fails =
        let alike = alike_all [] (written_in a ++ written_in c) (none_unlike (places_written a c) none.1) in
        let parts = alike_first (written_in a) (written_in c) alike.1 in
        stores_concluded i T l r A a c (stores_with_equal_writes i T l r a c (stores_met i T l r (base_of a) (base_of c) none.0) parts.0 parts.1) fails

  written_alike_true : (c : Option Signed) (conditions : List Signed) → written_alike c conditions ≡ true → Failing conditions → IfThere (Fails i T l r) c → A
  unfolding written_alike
  written_alike_true (Some (plus (SameStore a c))) conditions e none fails = writes_clause a c (subst Failing (all_is conditions _ e) none) fails
  written_alike_true _ conditions e none fails = absurd (true≢false (sym e))

  pub law_5_true : (clause : List Signed) → law_5 clause ≡ true → Failing clause → A
  unfolding law_5
  law_5_true clause e none = written_alike_true (conclusion clause) (negated_conditions clause) e (conditions_fail clause none) (conclusion_fails clause none)

  -- ---- 6 to 10: which terms end
  pub law_6_true : (clause : List Signed) → law_6 clause ≡ true → Failing clause → A
  unfolding law_6
  law_6_true (plus (Ends left_store) ∷ []) e none = end_concluded i T l r A left_store (sides_end i T l r).0 none.0
  law_6_true (plus (Ends right_store) ∷ []) e none = end_concluded i T l r A right_store (sides_end i T l r).1 none.0
  law_6_true _ e none = absurd (true≢false (sym e))

  abbrev There : StoreTerm → Type 0
  There s = is_some (store_of i T l r s) ≡ true

  pub law_7_true : (clause : List Signed) → law_7 clause ≡ true → Failing clause → A
  unfolding law_7
  law_7_true (minus (Ends s) ∷ plus (Ends (put u x is v)) ∷ []) e none =
      end_concluded i T l r A (put u x is v) (write_ends i T l r u x is v (subst There (sym (store_is u s e)) (end_met i T l r s none.0))) none.1.0
  law_7_true _ e none = absurd (true≢false (sym e))

  pub law_8_true : (clause : List Signed) → law_8 clause ≡ true → Failing clause → A
  unfolding law_8
  law_8_true (minus (Ends (put u x is v)) ∷ plus (Ends s) ∷ []) e none =
      end_concluded i T l r A s (subst There (store_is u s e) (written_ends i T l r u x is v (end_met i T l r (put u x is v) none.0))) none.1.0
  law_8_true _ e none = absurd (true≢false (sym e))

  pub law_9_true : (clause : List Signed) → law_9 clause ≡ true → Failing clause → A
  unfolding law_9
  law_9_true (minus (Ends (run k u)) ∷ plus (Ends s) ∷ []) e none =
      end_concluded i T l r A s (subst There (store_is u s e) (run_starts i T l r k u (end_met i T l r (run k u) none.0))) none.1.0
  law_9_true _ e none = absurd (true≢false (sym e))

  pub law_10_true : (clause : List Signed) → law_10 clause ≡ true → Failing clause → A
  unfolding law_10
  law_10_true (plus (Ends a) ∷ plus (Ends c) ∷ plus (SameStore b d) ∷ []) e none =
      let p = and_parts _ _ e in
      let neither = neither_ends i T l r a c (no_end i T l r a none.0) (no_end i T l r c none.1.0) in
      let same = ap (store_of i T l r) (store_is b a p.0) ∙ neither ∙ sym (ap (store_of i T l r) (store_is d c p.1)) in
      stores_concluded i T l r A b d same none.1.1.0
  law_10_true _ e none = absurd (true≢false (sym e))
