-- Law 1 and its test: the read of a clause has a mark.
use Rattle.std.proofs.Common.{◌≡◌, Bool, true, false, not, ◌==◌, ◌&&◌, ◌||◌, List, [], ◌∷◌, ◌++◌, sym, ◌∙◌, ap, refl, true≢false}
use Rattle.std.specs.List.{list_all, list_any}
use Rattle.std.proofs.lemmas.Bool.{and_parts}
use Rattle.std.proofs.lemmas.List.Folds.{list_any-append}
use Rattle.toy_imp.specs.declared.param.Kind.{Kind}
use Rattle.rule_terms.specs.Term.{StoreTerm, left_store, right_store, put, run, ValueTerm, num, get, ev, add, sub, mul, Place}
use Rattle.rule_terms.specs.declared.obligation.Atom.TheVariants.{SameName, SameValue, Ends}
use Rattle.rule_terms.specs.declared.obligation.Obligation.{Obligation}
use Rattle.term_meaning.specs.Indices.{count}
use Rattle.law_clauses.specs.Signed.{Signed, plus}
use Rattle.law_clauses.specs.Shapes.{place, put_at, get_at}
use Rattle.law_clauses.specs.WriteLaws.{unequal}
use Rattle.law_clauses.specs.ClauseForms.{read_back}
use Rattle.law_clauses.proofs.Same.{or_false}
use Rattle.escape_marks.specs.declared.escape.ValueMark.{ValueMark}
use Rattle.escape_marks.specs.declared.escape.Escape.{Escape}
use Rattle.escape_marks.specs.LawsHold.{is_marked, signed_marked, is_kept, LawsHold}
use Rattle.escape_laws.specs.MarkedLaws.{keeps}
use Rattle.escape_laws.specs.KeptLaws.{HoldsIn}
use Rattle.escape_laws.specs.ReadBack.{back_kept, BackLawHolds, BackLawPasses}
use Rattle.escape_laws.proofs.KeptClauses.{value_passes, all_pass}
use Rattle.escape_laws.proofs.KeptLaws.{value_marked, holds, kept_by}

-- some literal of these, or the last one
pub one_behind : (params : List Kind) (e : Escape) (xs : List Signed) (y : Signed) → list_any (is_kept params e) (xs ++ y ∷ []) ≡ (list_any (is_kept params e) xs || is_kept params e y)
one_behind params e xs y = list_any-append (is_kept params e) xs (y ∷ []) ∙ ap (λ b. list_any (is_kept params e) xs || b) (or_false (is_kept params e y))

pub last_marked : (e : Escape) (xs : List Signed) (y : Signed) → list_all (signed_marked e) (xs ++ y ∷ []) ≡ true → signed_marked e y ≡ true
last_marked e [] y h = (and_parts (signed_marked e y) true h).0
last_marked e (x ∷ xs) y h = last_marked e xs y (and_parts (signed_marked e x) (list_all (signed_marked e) (xs ++ y ∷ [])) h).1

pub behind : (c k : Bool) → (not c || k) ≡ true → c ≡ true → k ≡ true
behind true k h is = h
behind false k h is = absurd (true≢false (sym is))

pub before : (c k : Bool) → (c ≡ true → k ≡ true) → (not c || k) ≡ true
before true k f = f refl
before false k f = refl

module _ (ob : Obligation) (e : Escape) where
  at_back : (s : StoreTerm) (p : Place) (v : ValueTerm) (q : Place) → back_kept ob.params e (get_at q (put_at s p v)) ≡ true → (not (count q.indices == count p.indices) || keeps ob.params e (read_back s p v q)) ≡ true
  unfolding back_kept
  at_back s p v q h = h

  all_back : LawsHold ob e → (v : ValueTerm) → back_kept ob.params e v ≡ true
  unfolding back_kept
  all_back laws (get y js (put s x is v)) = before (count js == count is) (keeps ob.params e (read_back s (place x is) v (place y js))) (λ n. kept_by ob e laws (read_back s (place x is) v (place y js)) n)
  all_back laws (get y js left_store) = refl
  all_back laws (get y js right_store) = refl
  all_back laws (get y js (run k s)) = refl
  all_back laws (num z) = refl
  all_back laws (ev k s) = refl
  all_back laws (add a b) = refl
  all_back laws (sub a b) = refl
  all_back laws (mul a b) = refl

pub back_law_holds : BackLawHolds
back_law_holds ob e h s p v q as_many m =
    let t = get_at q (put_at s p v) in
    let named = and_parts (is_marked e (Ends (put_at s p v))) _ m in
    let more = and_parts (is_marked e (SameName q.name p.name)) _ named.1 in
    let last = last_marked e (unequal q.indices p.indices) (plus (SameValue t v)) more.1 in
    holds ob e (read_back s p v q) (behind (count q.indices == count p.indices) (keeps ob.params e (read_back s p v q)) (at_back ob e s p v q (value_passes (back_kept ob.params e) e.values t h (value_marked e t v last))) as_many) m

pub back_law_passes : BackLawPasses
back_law_passes ob e laws = all_pass (λ (m : ValueMark). back_kept ob.params e m.value) e.values (λ m. all_back ob e laws m.value)
