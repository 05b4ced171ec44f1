-- What a faithful table says of a run is so; and how that is used where the run is known to end, and where it is not.
use Rattle.std.specs.Prelude.{◌≡◌, ℕ, Bool, true, false, cond, ◌&&◌, ◌==◌, List, [], ◌∷◌, Option, Some, None, refl}
use Rattle.std.proofs.Common.{sym, ap, subst, eqb-true}
use Rattle.std.proofs.lemmas.Bool.{and_parts}
use Rattle.toy_imp.specs.declared.instance.Instance.{Instance}
use Rattle.toy_imp.specs.Store.{Store}
use Rattle.toy_imp.specs.Ends as blocks
use Rattle.toy_imp.specs.Run.{before}
use Rattle.toy_imp.specs.Fill.{block_at}
use Rattle.toy_imp.proofs.Runs.{one_final_store}
use Rattle.rule_terms.specs.Term.{StoreTerm, run}
use Rattle.term_meaning.specs.SameStore.{same_store}
use Rattle.term_meaning.specs.Table.{Entry, older, look, told, after, Agrees, AgreesAt, Covered, Faithful}
use Rattle.term_meaning.specs.Meaning.{store_of, CoversStore}
use Rattle.term_meaning.proofs.SameStores.{same_equal}

-- ---- plain facts of options
pub some_equal : {X : Type 0} (x y : X) → Some x ≡ Some y → x ≡ y
some_equal {X = X} x y e = ap (from x) e
  where
    from : X → Option X → X
    from d None = d
    from d (Some z) = z

pub none_some : {X : Type 0} {A : Type 0} (x : X) → ◌≡◌ {A = Option X} None (Some x) → A
none_some x e = cc

module _ (A : Type 0) (i : Instance) where
  -- an entry that is of the run and says o
  entry_agrees : (e : Entry) → Agrees A i e.statement e.from e.to → (k : ℕ) (s : Store) (o : Option Store) (b : Bool) → (e.statement == k && same_store e.from s) ≡ b → ◌≡◌ {A = Option (Option Store)} (cond b (Some e.to) None) (Some o) → Agrees A i k s o
  entry_agrees e h k s o false test said = none_some o said
  entry_agrees e h k s o true test said =
      let number : e.statement ≡ k = eqb-true e.statement k (and_parts _ _ test).0 in
      let store : e.from ≡ s = same_equal e.from s (and_parts _ _ test).1 in
      let same : e.to ≡ o = some_equal e.to o said in
      subst (λ x. Agrees A i k s x) same (subst (λ x. Agrees A i k x e.to) store (subst (λ x. Agrees A i x e.from e.to) number h))

  -- of the older entries and a newer one
  older_agrees : (e : Entry) → Agrees A i e.statement e.from e.to → (k : ℕ) (s : Store) (o : Option Store) (p : Option (Option Store)) → (p ≡ Some o → Agrees A i k s o) → older p (cond (e.statement == k && same_store e.from s) (Some e.to) None) ≡ Some o → Agrees A i k s o
  older_agrees e h k s o (Some q) known said = known said
  older_agrees e h k s o None known said = entry_agrees e h k s o (e.statement == k && same_store e.from s) refl said

  -- what a faithful table says of a run is so
  pub found : (T : List Entry) → Faithful A i T → (k : ℕ) (s : Store) (o : Option Store) → look T k s ≡ Some o → Agrees A i k s o
  unfolding look
  found [] f k s o said = none_some o said
  found (e ∷ T) f k s o said = older_agrees e f.0 k s o (look T k s) (λ known. found T f.1 k s o known) said

  pub after_agrees : (T : List Entry) → Faithful A i T → (k : ℕ) (o : Option Store) → Covered T k o → AgreesAt A i k o (after T k o)
  after_agrees T f k None h = refl
  after_agrees T f k (Some s) h = subst (λ x. Agrees A i k s x) (sym (ap told h.1)) (found T f k s h.0 h.1)

  -- .. so is what it makes of a run term that it covers
  pub run_agrees : (T : List Entry) (l r : Store) → Faithful A i T → (k : ℕ) (u : StoreTerm) → CoversStore i T l r (run k u) → AgreesAt A i k (store_of i T l r u) (store_of i T l r (run k u))
  unfolding store_of CoversStore
  run_agrees T l r f k u c = after_agrees T f k (store_of i T l r u) c.1

  -- ---- in use
  -- a run that is known to end in t: t is what is said of it, or there is the answer at once
  pub known_end : (k : ℕ) (s t : Store) (p : Option Store) → blocks.Ends (block_at i k) s t → Agrees A i k s p → (p ≡ Some t → A) → A
  known_end k s t None ends said ret = said t ends
  known_end k s t (Some m) ends said ret = ret (ap Some (one_final_store (before (block_at i k) []) s m t said ends))

  -- a run of which it is not known whether it ends: it goes on where it ends, and gives the answer where it does not
  pub by_end : (k : ℕ) (s : Store) (p : Option Store) → Agrees A i k s p → (p ≡ None → A) → ((m : Store) → p ≡ Some m → blocks.Ends (block_at i k) s m → A) → A
  by_end k s None said stops goes = stops refl
  by_end k s (Some m) said stops goes = goes m refl said
