-- Law 5 and its test: both stores of a clause have marks, and its places are those written in the one and in the other.
use Rattle.std.proofs.Common.{◌≡◌, Bool, true, false, cond, ◌&&◌, ◌||◌, List, [], ◌∷◌, ◌++◌, map, is_some, sym, ap, ◌∙◌, subst, refl, true≢false, ⊎_elim}
use Rattle.std.specs.List.{list_all, list_any}
use Rattle.std.proofs.lemmas.Bool.{and_parts}
use Rattle.std.proofs.lemmas.List.Folds.{list_any-append}
use Rattle.toy_imp.specs.declared.param.Kind.{Kind}
use Rattle.rule_terms.specs.Term.{StoreTerm, Place}
use Rattle.rule_terms.specs.Order.{place_same}
use Rattle.rule_terms.specs.Added.{added_all}
use Rattle.rule_terms.specs.declared.obligation.Atom.TheVariants.{SameStore}
use Rattle.rule_terms.specs.declared.obligation.Obligation.{Obligation}
use Rattle.term_meaning.specs.Writes.{base_of, written_in}
use Rattle.law_clauses.specs.Signed.{Signed, plus, minus}
use Rattle.law_clauses.specs.WriteLaws.{places_written, read_unlike}
use Rattle.law_clauses.specs.ClauseForms.{written_alike}
use Rattle.law_clauses.proofs.Same.{or_cases, or_false, place_is}
use Rattle.escape_marks.specs.declared.escape.StoreMark.{StoreMark}
use Rattle.escape_marks.specs.declared.escape.Escape.{Escape}
use Rattle.escape_marks.specs.Marks.{store_mark}
use Rattle.escape_marks.specs.LawsHold.{is_marked, signed_marked, is_kept, LawsHold}
use Rattle.escape_laws.specs.MarkedLaws.{keeps}
use Rattle.escape_laws.specs.WrittenLaw.{written_kept, written_as_all, WrittenLawHolds, WrittenLawPasses}
use Rattle.escape_laws.proofs.KeptClauses.{store_passes, all_pass}
use Rattle.escape_laws.proofs.KeptLaws.{holds, kept_by}
use Rattle.escape_laws.proofs.BackKept.{one_behind, last_marked}

-- ---- some place written passes exactly where some place of the one or of the other store does
already : (test : Place → Bool) (p : Place) (ps : List Place) → list_any (place_same p) ps ≡ true → (list_any test ps || test p) ≡ list_any test ps
already test p [] h = absurd (true≢false (sym h))
already test p (q ∷ ps) h =
    ⊎_elim
    (λ g. here (test q) (list_any test ps) (test p) (λ j. test (place_is p q g j)))
    (λ g. there (test q) (list_any test ps) (test p) (already test p ps g))
    (or_cases (place_same p q) (list_any (place_same p) ps) h)
  where
    here : (a b c : Bool) → c ≡ a → ((a || b) || c) ≡ (a || b)
    here true b c e = refl
    here false true c e = refl
    here false false c e = e

    there : (a b c : Bool) → (b || c) ≡ b → ((a || b) || c) ≡ (a || b)
    there true b c e = refl
    there false b c e = e

or_moved : (a b c : Bool) → ((a || b) || c) ≡ (a || (b || c))
or_moved true b c = refl
or_moved false b c = refl

any_added : (test : Place → Bool) (seen ps : List Place) → list_any test (added_all place_same seen ps) ≡ (list_any test seen || list_any test ps)
unfolding added_all
any_added test seen [] = sym (or_false (list_any test seen))
any_added test seen (p ∷ ps) = by_test (list_any (place_same p) seen) refl (any_added test seen ps) (any_added test (seen ++ p ∷ []) ps)
  where
    by_test : (b : Bool) → list_any (place_same p) seen ≡ b → list_any test (added_all place_same seen ps) ≡ (list_any test seen || list_any test ps)
        → list_any test (added_all place_same (seen ++ p ∷ []) ps) ≡ (list_any test (seen ++ p ∷ []) || list_any test ps)
        → list_any test (added_all place_same (cond b seen (seen ++ p ∷ [])) ps) ≡ (list_any test seen || (test p || list_any test ps))
    by_test true f old new = old ∙ ap (λ b. b || list_any test ps) (sym (already test p seen f)) ∙ or_moved (list_any test seen) (test p) (list_any test ps)
    by_test false f old new =
        new
        ∙ ap (λ b. b || list_any test ps) (list_any-append test seen (p ∷ []) ∙ ap (λ b. list_any test seen || b) (or_false (test p)))
        ∙ or_moved (list_any test seen) (test p) (list_any test ps)

any_map : (k : Signed → Bool) (f : Place → Signed) (ps : List Place) → list_any k (map f ps) ≡ list_any (λ p. k (f p)) ps
any_map k f [] = refl
any_map k f (p ∷ ps) = ap (λ b. k (f p) || b) (any_map k f ps)

moved : (s b r t : Bool) → (s || (b || (r || t))) ≡ (b || ((r || t) || s))
moved true true r t = refl
moved true false true t = refl
moved true false false true = refl
moved true false false false = refl
moved false true r t = refl
moved false false r t = sym (or_false (r || t))

module _ (params : List Kind) (e : Escape) where
  at_places : (a c : StoreTerm) → list_any (is_kept params e) (map (read_unlike a c) (places_written a c)) ≡ (list_any (is_kept params e) (map (read_unlike a c) (written_in a)) || list_any (is_kept params e) (map (read_unlike a c) (written_in c)))
  at_places a c =
      let test : Place → Bool = λ p. is_kept params e (read_unlike a c p) in
      any_map (is_kept params e) (read_unlike a c) (places_written a c)
      ∙ any_added test [] (written_in a ++ written_in c)
      ∙ list_any-append test (written_in a) (written_in c)
      ∙ (λ j. sym (any_map (is_kept params e) (read_unlike a c) (written_in a)) j || sym (any_map (is_kept params e) (read_unlike a c) (written_in c)) j)

  pub alike_kept : (a c : StoreTerm)
      → (is_kept params e (plus (SameStore a c)) || (is_kept params e (minus (SameStore (base_of a) (base_of c))) || (list_any (is_kept params e) (map (read_unlike a c) (written_in a)) || list_any (is_kept params e) (map (read_unlike a c) (written_in c)))))
      ≡ keeps params e (written_alike a c)
  alike_kept a c =
      let same = is_kept params e (plus (SameStore a c)) in
      let based = is_kept params e (minus (SameStore (base_of a) (base_of c))) in
      moved same based (list_any (is_kept params e) (map (read_unlike a c) (written_in a))) (list_any (is_kept params e) (map (read_unlike a c) (written_in c)))
      ∙ ap (λ b. based || (b || same)) (sym (at_places a c))
      ∙ ap (λ b. based || b) (sym (one_behind params e (map (read_unlike a c) (places_written a c)) (plus (SameStore a c))))

both_stores : (e : Escape) (s t : StoreTerm) → is_marked e (SameStore s t) ≡ true → (is_some (store_mark e.stores s) ≡ true) × (is_some (store_mark e.stores t) ≡ true)
unfolding is_marked
both_stores e s t h = and_parts (is_some (store_mark e.stores s)) (is_some (store_mark e.stores t)) h

module _ (ob : Obligation) (e : Escape) where
  abbrev written : StoreTerm → StoreTerm → Bool
  written a c = keeps ob.params e (written_alike a c)

  abbrev written_row : StoreTerm → Bool
  written_row a = list_all (λ (n : StoreMark). written a n.store) e.stores

  written_rows : list_all (written_as_all ob.params e) e.stores ≡ list_all (λ (m : StoreMark). written_row m.store) e.stores
  unfolding written_as_all written_kept
  written_rows = refl

pub written_law_holds : WrittenLawHolds
written_law_holds ob e h a c m =
    let more = and_parts (is_marked e (SameStore (base_of a) (base_of c))) _ m in
    let both = both_stores e a c (last_marked e (map (read_unlike a c) (places_written a c)) (plus (SameStore a c)) more.1) in
    let row = store_passes (written_row ob e) e.stores a (sym (written_rows ob e) ∙ h) both.0 in
    holds ob e (written_alike a c) (store_passes (written ob e a) e.stores c row both.1) m

pub written_law_passes : WrittenLawPasses
written_law_passes ob e laws = written_rows ob e ∙ all_pass (λ (m : StoreMark). written_row ob e m.store) e.stores (λ m. all_pass (λ (n : StoreMark). written ob e m.store n.store) e.stores (λ n. kept_by ob e laws (written_alike m.store n.store) refl))
