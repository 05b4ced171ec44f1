-- The tests of two terms and the laws: each clause is one of two terms that have marks.
use Rattle.std.proofs.Common.{◌≡◌, Bool, true, ◌&&◌, is_some, sym, ◌∙◌, refl, true≢false}
use Rattle.std.specs.List.{list_all}
use Rattle.std.proofs.lemmas.Bool.{and_parts, and_from}
use Rattle.rule_terms.specs.Term.{StoreTerm, ValueTerm, num, get, ev, add, sub, mul}
use Rattle.rule_terms.specs.declared.obligation.Atom.TheVariants.{SameStore, SameValue, Ends}
use Rattle.rule_terms.specs.declared.obligation.Obligation.{Obligation}
use Rattle.law_clauses.specs.ClauseForms.{Clause, literals, law_of, is_allowed}
use Rattle.law_clauses.specs.ClauseForms as form
use Rattle.escape_marks.specs.declared.escape.StoreMark.{StoreMark}
use Rattle.escape_marks.specs.declared.escape.ValueMark.{ValueMark}
use Rattle.escape_marks.specs.declared.escape.Escape.{Escape}
use Rattle.escape_marks.specs.Marks.{store_mark, value_mark}
use Rattle.escape_marks.specs.LawsHold.{is_marked, LawsHold}
use Rattle.escape_laws.specs.MarkedLaws.{keeps}
use Rattle.escape_laws.specs.PairLaws.{halts_kept, halts_as_all, operands_exchanged, exchange_kept, exchanges_with_all}
use Rattle.escape_laws.specs.KeptLaws.{HoldsIn}
use Rattle.escape_laws.specs.KeptPairs.{speaks_of_pairs, PairsPass, PairLawsHold, PairLawsPass}
use Rattle.escape_laws.proofs.KeptClauses.{store_passes, value_passes, all_pass}
use Rattle.escape_laws.proofs.KeptLaws.{store_marked, value_marked, second, first, holds, kept_by}

second_value_marked : (e : Escape) (v w : ValueTerm) → is_marked e (SameValue v w) ≡ true → is_some (value_mark e.values w) ≡ true
unfolding is_marked
second_value_marked e v w h = (and_parts (is_some (value_mark e.values v)) (is_some (value_mark e.values w)) h).1

rest : (a b : Bool) → (a && b) ≡ true → b ≡ true
rest a b h = (and_parts a b h).1

module _ (ob : Obligation) (e : Escape) where
  -- two terms pass, and a term passes with each mark
  abbrev halts : StoreTerm → StoreTerm → Bool
  halts a c = keeps ob.params e (form.neither_ends a c)

  abbrev halts_row : StoreTerm → Bool
  halts_row a = list_all (λ (n : StoreMark). halts a n.store) e.stores

  abbrev exchange_row : ValueTerm → Bool
  exchange_row v = list_all (λ (n : ValueMark). operands_exchanged ob.params e v n.value) e.values

  halts_rows : list_all (halts_as_all ob.params e) e.stores ≡ list_all (λ (m : StoreMark). halts_row m.store) e.stores
  unfolding halts_as_all halts_kept
  halts_rows = refl

  exchange_rows : list_all (exchanges_with_all ob.params e) e.values ≡ list_all (λ (m : ValueMark). exchange_row m.value) e.values
  unfolding exchanges_with_all exchange_kept
  exchange_rows = refl

  two_halts : PairsPass ob e → (a c : StoreTerm) → is_some (store_mark e.stores a) ≡ true → is_some (store_mark e.stores c) ≡ true → halts a c ≡ true
  two_halts p a c m n = store_passes (halts a) e.stores c (store_passes halts_row e.stores a (sym halts_rows ∙ p.halts) m) n

  two_exchange : PairsPass ob e → (v w : ValueTerm) → is_marked e (SameValue v w) ≡ true → operands_exchanged ob.params e v w ≡ true
  two_exchange p v w m = value_passes (operands_exchanged ob.params e v) e.values w (value_passes exchange_row e.values v (sym exchange_rows ∙ p.exchanges) (value_marked e v w m)) (second_value_marked e v w m)

  pairs_hold : PairsPass ob e → (c : Clause) → speaks_of_pairs c ≡ true → HoldsIn ob e c
  pairs_hold p form.left_ends is m = holds ob e form.left_ends (and_parts (keeps ob.params e form.left_ends) (keeps ob.params e form.right_ends) p.sides).0 m
  pairs_hold p form.right_ends is m = holds ob e form.right_ends (and_parts (keeps ob.params e form.left_ends) (keeps ob.params e form.right_ends) p.sides).1 m
  pairs_hold p (form.neither_ends a c) is m =
      let one = first (is_marked e (Ends a)) (is_marked e (Ends c) && (is_marked e (SameStore a c) && true)) m in
      let more = rest (is_marked e (Ends a)) (is_marked e (Ends c) && (is_marked e (SameStore a c) && true)) m in
      let two = first (is_marked e (Ends c)) (is_marked e (SameStore a c) && true) more in
      holds ob e (form.neither_ends a c) (two_halts p a c (store_marked e a one) (store_marked e c two)) m
  pairs_hold p (form.sum_exchanged a b c d) is m =
      let more = rest (is_marked e (SameValue a d)) (is_marked e (SameValue b c) && (is_marked e (SameValue (add a b) (add c d)) && true)) m in
      holds ob e (form.sum_exchanged a b c d) (two_exchange p (add a b) (add c d) (second (is_marked e (SameValue b c)) (is_marked e (SameValue (add a b) (add c d))) more)) m
  pairs_hold p (form.product_exchanged a b c d) is m =
      let more = rest (is_marked e (SameValue a d)) (is_marked e (SameValue b c) && (is_marked e (SameValue (mul a b) (mul c d)) && true)) m in
      holds ob e (form.product_exchanged a b c d) (two_exchange p (mul a b) (mul c d) (second (is_marked e (SameValue b c)) (is_marked e (SameValue (mul a b) (mul c d))) more)) m
  pairs_hold p _ is m = absurd (true≢false (sym is))

  -- ---- from the laws to the tests
  exchange_passes : LawsHold ob e → (v w : ValueTerm) → operands_exchanged ob.params e v w ≡ true
  exchange_passes laws (add a b) (add c d) = kept_by ob e laws (form.sum_exchanged a b c d) refl
  exchange_passes laws (mul a b) (mul c d) = kept_by ob e laws (form.product_exchanged a b c d) refl
  exchange_passes laws (num z) _ = refl
  exchange_passes laws (get x is s) _ = refl
  exchange_passes laws (ev k s) _ = refl
  exchange_passes laws (sub a b) _ = refl
  exchange_passes laws (add a b) _ = refl
  exchange_passes laws (mul a b) _ = refl

pub pair_laws_hold : PairLawsHold
pair_laws_hold ob e p c is = pairs_hold ob e p c is

pub pair_laws_pass : PairLawsPass
pair_laws_pass ob e laws = record {
  sides = and_from (keeps ob.params e form.left_ends) (keeps ob.params e form.right_ends) (kept_by ob e laws form.left_ends refl) (kept_by ob e laws form.right_ends refl);
  halts = halts_rows ob e ∙ all_pass (λ (m : StoreMark). halts_row ob e m.store) e.stores (λ m. all_pass (λ (n : StoreMark). halts ob e m.store n.store) e.stores (λ n. kept_by ob e laws (form.neither_ends m.store n.store) refl));
  exchanges = exchange_rows ob e ∙ all_pass (λ (m : ValueMark). exchange_row ob e m.value) e.values (λ m. all_pass (λ (n : ValueMark). operands_exchanged ob.params e m.value n.value) e.values (λ n. exchange_passes ob e laws m.value n.value));
}
