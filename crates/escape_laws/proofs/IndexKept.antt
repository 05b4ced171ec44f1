-- Law 3 and its test: the read of a clause has a mark, and the two indices stand beside one another.
use Rattle.std.proofs.Common.{◌≡◌, Bool, true, false, not, ◌==◌, ◌&&◌, ◌||◌, List, sym, ap, ◌∙◌, subst, refl, true≢false, ⊎_elim}
use Rattle.std.specs.List.{list_all}
use Rattle.std.proofs.lemmas.Bool.{and_parts, and_from}
use Rattle.toy_imp.specs.declared.param.Kind.{Kind}
use Rattle.rule_terms.specs.Term.{StoreTerm, left_store, right_store, put, run, ValueTerm, num, get, ev, add, sub, mul, ValueTerms, no_terms, term, Place}
use Rattle.rule_terms.specs.Order.{value_same}
use Rattle.rule_terms.specs.declared.obligation.Atom.TheVariants.{SameValue}
use Rattle.rule_terms.specs.declared.obligation.Obligation.{Obligation}
use Rattle.term_meaning.specs.Indices.{count}
use Rattle.law_clauses.specs.Signed.{plus}
use Rattle.law_clauses.specs.Shapes.{place, put_at, get_at}
use Rattle.law_clauses.specs.WriteLaws.{index_pair}
use Rattle.law_clauses.specs.ClauseForms.{past_index}
use Rattle.law_clauses.proofs.Same.{or_cases, or_false, value_is}
use Rattle.law_clauses.proofs.Itself.{value_itself}
use Rattle.escape_marks.specs.declared.escape.ValueMark.{ValueMark}
use Rattle.escape_marks.specs.declared.escape.Escape.{Escape}
use Rattle.escape_marks.specs.LawsHold.{is_marked, is_kept, LawsHold}
use Rattle.escape_laws.specs.MarkedLaws.{keeps}
use Rattle.escape_laws.specs.IndexLaw.{each_pair, index_kept, equal_or, IndexLawHolds, IndexLawPasses}
use Rattle.escape_laws.proofs.KeptClauses.{value_passes, all_pass}
use Rattle.escape_laws.proofs.KeptLaws.{value_marked, second, holds, kept_by}
use Rattle.escape_laws.proofs.BackKept.{behind, before}

pairs_alike : (p q : ValueTerm → ValueTerm → Bool) (js is : ValueTerms) → ((a b : ValueTerm) → p a b ≡ q a b) → each_pair p js is ≡ each_pair q js is
unfolding each_pair
pairs_alike p q (term a more) (term b bs) f = λ j. f a b j && pairs_alike p q more bs f j
pairs_alike p q no_terms no_terms f = refl
pairs_alike p q no_terms (term b bs) f = refl
pairs_alike p q (term a more) no_terms f = refl

pub pairs_or : (params : List Kind) (e : Escape) (s : StoreTerm) (p : Place) (v : ValueTerm) (q : Place)
    → each_pair (equal_or params e (is_kept params e (plus (SameValue (get_at q (put_at s p v)) (get_at q s))))) q.indices p.indices ≡ each_pair (λ a b. keeps params e (past_index s p v q a b)) q.indices p.indices
pairs_or params e s p v q =
    let same = is_kept params e (plus (SameValue (get_at q (put_at s p v)) (get_at q s))) in
    pairs_alike (equal_or params e same) (λ a b. keeps params e (past_index s p v q a b)) q.indices p.indices
    (λ a b. ap (λ c. is_kept params e (plus (SameValue a b)) || c) (sym (or_false same)))

-- what each two indices pass, two that stand beside one another pass
at_pair : (passes : ValueTerm → ValueTerm → Bool) (a b : ValueTerm) (js is : ValueTerms) → each_pair passes js is ≡ true → index_pair a b js is ≡ true → passes a b ≡ true
unfolding each_pair index_pair
at_pair passes a b (term c more) (term d ds) h f =
    let parts = and_parts (passes c d) (each_pair passes more ds) h in
    ⊎_elim
    (λ g. let same = and_parts (value_same a c) (value_same b d) g in subst (λ t. t ≡ true) (λ j. passes (sym (value_is a c same.0) j) (sym (value_is b d same.1) j)) parts.0)
    (λ g. at_pair passes a b more ds parts.1 g)
    (or_cases (value_same a c && value_same b d) (index_pair a b more ds) f)
at_pair passes a b no_terms no_terms h f = absurd (true≢false (sym f))
at_pair passes a b no_terms (term d ds) h f = absurd (true≢false (sym f))
at_pair passes a b (term c more) no_terms h f = absurd (true≢false (sym f))

or_left : (a b : Bool) → a ≡ true → (a || b) ≡ true
or_left a b h = ap (λ t. t || b) h

or_right : (a b : Bool) → b ≡ true → (a || b) ≡ true
or_right true b h = refl
or_right false b h = h

each_passes : (passes : ValueTerm → ValueTerm → Bool) (js is : ValueTerms) → ((a b : ValueTerm) → index_pair a b js is ≡ true → passes a b ≡ true) → each_pair passes js is ≡ true
unfolding each_pair index_pair
each_passes passes (term c more) (term d ds) f =
    and_from (passes c d) (each_pair passes more ds)
    (f c d (or_left (value_same c c && value_same d d) (index_pair c d more ds) (and_from (value_same c c) (value_same d d) (value_itself c) (value_itself d))))
    (each_passes passes more ds (λ a b h. f a b (or_right (value_same a c && value_same b d) (index_pair a b more ds) h)))
each_passes passes no_terms no_terms f = refl
each_passes passes no_terms (term d ds) f = refl
each_passes passes (term c more) no_terms f = refl

module _ (ob : Obligation) (e : Escape) where
  abbrev pair_passes : StoreTerm → Place → ValueTerm → Place → ValueTerm → ValueTerm → Bool
  pair_passes s p v q a b = keeps ob.params e (past_index s p v q a b)

  at_index : (s : StoreTerm) (p : Place) (v : ValueTerm) (q : Place) → index_kept ob.params e (get_at q (put_at s p v)) ≡ true → (not (count q.indices == count p.indices) || each_pair (pair_passes s p v q) q.indices p.indices) ≡ true
  unfolding index_kept
  at_index s p v q h = h

  all_indices : LawsHold ob e → (v : ValueTerm) → index_kept ob.params e v ≡ true
  unfolding index_kept
  all_indices laws (get y js (put s x is v)) =
      before (count js == count is) (each_pair (pair_passes s (place x is) v (place y js)) js is)
      (λ n. each_passes (pair_passes s (place x is) v (place y js)) js is (λ a b f. kept_by ob e laws (past_index s (place x is) v (place y js) a b) (and_from (count js == count is) (index_pair a b js is) n f)))
  all_indices laws (get y js left_store) = refl
  all_indices laws (get y js right_store) = refl
  all_indices laws (get y js (run k s)) = refl
  all_indices laws (num z) = refl
  all_indices laws (ev k s) = refl
  all_indices laws (add a b) = refl
  all_indices laws (sub a b) = refl
  all_indices laws (mul a b) = refl

pub index_law_holds : IndexLawHolds
index_law_holds ob e h s p v q a b allowed m =
    let t = get_at q (put_at s p v) in
    let two = second (is_marked e (SameValue a b)) (is_marked e (SameValue t (get_at q s))) m in
    let parts = and_parts (count q.indices == count p.indices) (index_pair a b q.indices p.indices) allowed in
    let all = behind (count q.indices == count p.indices) (each_pair (pair_passes ob e s p v q) q.indices p.indices) (at_index ob e s p v q (value_passes (index_kept ob.params e) e.values t h (value_marked e t (get_at q s) two))) parts.0 in
    holds ob e (past_index s p v q a b) (at_pair (pair_passes ob e s p v q) a b q.indices p.indices all parts.1) m

pub index_law_passes : IndexLawPasses
index_law_passes ob e laws = all_pass (λ (m : ValueMark). index_kept ob.params e m.value) e.values (λ m. all_indices ob e laws m.value)
