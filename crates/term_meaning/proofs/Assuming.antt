-- To show an answer, one may assume a faithful table that covers any finite list of terms.
-- Each run that the table says nothing of is settled twice: as if it ended in whatever store it ends, and as if it did not end.
use Rattle.std.specs.Prelude.{◌≡◌, ℕ, List, [], ◌∷◌, Option, Some, None, refl}
use Rattle.std.proofs.Common.{sym, subst}
use Rattle.toy_imp.specs.declared.instance.Instance.{Instance}
use Rattle.toy_imp.specs.Store.{Store}
use Rattle.toy_imp.specs.Ends as blocks
use Rattle.toy_imp.specs.Fill.{block_at}
use Rattle.rule_terms.specs.Term.{StoreTerm, left_store, right_store, put, run, ValueTerm, num, get, ev, add, sub, mul, ValueTerms, no_terms, term}
use Rattle.rule_terms.specs.declared.obligation.Atom.{Atom}
use Rattle.rule_terms.specs.declared.obligation.Atom.TheVariants.{SameName, SameStore, SameValue, AtMost, Ends, Holds}
use Rattle.rule_terms.specs.declared.obligation.Literal.{Literal}
use Rattle.rule_terms.specs.declared.obligation.Conjunct.{Conjunct}
use Rattle.rule_terms.specs.declared.obligation.Obligation.{Obligation}
use Rattle.term_meaning.specs.Table.{Entry, look, Covered, Faithful, Grows}
use Rattle.term_meaning.specs.Meaning.{store_of, CoversStore, CoversValue, CoversValues, CoversAtom, CoversLiterals, CoversGives, CoversConjunct, CoversConjuncts, CoversObligation}
use Rattle.term_meaning.proofs.Growth.{grows_self, grows_chain, grows_more, entry, new_look, store_kept, covers_kept, covers_value_kept, covers_values_kept, covers_atom_kept, covers_literals_kept, covers_conjunct_kept, covers_conjuncts_kept}

module _ (A : Type 0) (i : Instance) where
  -- a continuation that is given a table which says more
  abbrev pub Extends : List Entry → (List Entry → Type 0) → Type 0
  Extends T P = ((U : List Entry) → Faithful A i U → Grows T U → P U → A) → A

  grow_case : (T : List Entry) → Faithful A i T → (k : ℕ) (s : Store) (p : Option (Option Store)) → look T k s ≡ p → Extends T (λ U. Covered U k (Some s))
  grow_case T f k s (Some o) e ret = ret T f (grows_self T) (o, e)
  grow_case T f k s None e ret =
      let none_ends : (t : Store) → blocks.Ends (block_at i k) s t → A = λ t h. ret (entry k s (Some t) ∷ T) (h, f) (grows_more (entry k s (Some t)) T) (Some t, new_look T k s (Some t) e) in
      ret (entry k s None ∷ T) (none_ends, f) (grows_more (entry k s None) T) (None, new_look T k s None e)

  grow : (T : List Entry) → Faithful A i T → (k : ℕ) (o : Option Store) → Extends T (λ U. Covered U k o)
  grow T f k None ret = ret T f (grows_self T) tt
  grow T f k (Some s) ret = grow_case T f k s (look T k s) refl ret

  module _ (l r : Store) where
    run_covered : (k : ℕ) (s : StoreTerm) (U V : List Entry) → Grows U V → CoversStore i U l r s → Covered V k (store_of i U l r s) → CoversStore i V l r (run k s)
    unfolding CoversStore
    run_covered k s U V g c h = (covers_kept i U V g l r s c, subst (λ o. Covered V k o) (sym (store_kept i U V g l r s c)) h)

    mutual
      unfolding CoversStore CoversValue CoversValues

      pub extend_store : (u : StoreTerm) (T : List Entry) → Faithful A i T → Extends T (λ U. CoversStore i U l r u)
      extend_store left_store T f ret = ret T f (grows_self T) tt
      extend_store right_store T f ret = ret T f (grows_self T) tt
      extend_store (put s x is v) T f ret =
          extend_store s T f (λ U fU gU cU. extend_values is U fU (λ V fV gV cV. extend_value v V fV (λ W fW gW cW.
          ret W fW (grows_chain T V W (grows_chain T U V gU gV) gW)
          (covers_kept i U W (grows_chain U V W gV gW) l r s cU, (covers_values_kept i V W gW l r is cV, cW)))))
      extend_store (run k s) T f ret =
          extend_store s T f (λ U fU gU cU. grow U fU k (store_of i U l r s) (λ V fV gV hV.
          ret V fV (grows_chain T U V gU gV) (run_covered k s U V gV cU hV)))

      pub extend_value : (v : ValueTerm) (T : List Entry) → Faithful A i T → Extends T (λ U. CoversValue i U l r v)
      extend_value (num z) T f ret = ret T f (grows_self T) tt
      extend_value (get x is s) T f ret =
          extend_values is T f (λ U fU gU cU. extend_store s U fU (λ V fV gV cV. ret V fV (grows_chain T U V gU gV) (covers_values_kept i U V gV l r is cU, cV)))
      extend_value (ev k s) T f ret = extend_store s T f ret
      extend_value (add a b) T f ret =
          extend_value a T f (λ U fU gU cU. extend_value b U fU (λ V fV gV cV. ret V fV (grows_chain T U V gU gV) (covers_value_kept i U V gV l r a cU, cV)))
      extend_value (sub a b) T f ret =
          extend_value a T f (λ U fU gU cU. extend_value b U fU (λ V fV gV cV. ret V fV (grows_chain T U V gU gV) (covers_value_kept i U V gV l r a cU, cV)))
      extend_value (mul a b) T f ret =
          extend_value a T f (λ U fU gU cU. extend_value b U fU (λ V fV gV cV. ret V fV (grows_chain T U V gU gV) (covers_value_kept i U V gV l r a cU, cV)))

      pub extend_values : (vs : ValueTerms) (T : List Entry) → Faithful A i T → Extends T (λ U. CoversValues i U l r vs)
      extend_values no_terms T f ret = ret T f (grows_self T) tt
      extend_values (term v vs) T f ret =
          extend_value v T f (λ U fU gU cU. extend_values vs U fU (λ V fV gV cV. ret V fV (grows_chain T U V gU gV) (covers_value_kept i U V gV l r v cU, cV)))

    pub extend_atom : (a : Atom) (T : List Entry) → Faithful A i T → Extends T (λ U. CoversAtom i U l r a)
    unfolding CoversAtom
    extend_atom (SameName x y) T f ret = ret T f (grows_self T) tt
    extend_atom (SameStore a b) T f ret =
        extend_store a T f (λ U fU gU cU. extend_store b U fU (λ V fV gV cV. ret V fV (grows_chain T U V gU gV) (covers_kept i U V gV l r a cU, cV)))
    extend_atom (SameValue a b) T f ret =
        extend_value a T f (λ U fU gU cU. extend_value b U fU (λ V fV gV cV. ret V fV (grows_chain T U V gU gV) (covers_value_kept i U V gV l r a cU, cV)))
    extend_atom (AtMost a b z) T f ret =
        extend_value a T f (λ U fU gU cU. extend_value b U fU (λ V fV gV cV. ret V fV (grows_chain T U V gU gV) (covers_value_kept i U V gV l r a cU, cV)))
    extend_atom (Ends s) T f ret = extend_store s T f ret
    extend_atom (Holds k s) T f ret = extend_store s T f ret

    pub extend_literals : (xs : List Literal) (T : List Entry) → Faithful A i T → Extends T (λ U. CoversLiterals i U l r xs)
    extend_literals [] T f ret = ret T f (grows_self T) tt
    extend_literals (x ∷ xs) T f ret =
        extend_atom x.atom T f (λ U fU gU cU. extend_literals xs U fU (λ V fV gV cV. ret V fV (grows_chain T U V gU gV) (covers_atom_kept i U V gV l r x.atom cU, cV)))

    extend_gives : (x : Option Literal) (T : List Entry) → Faithful A i T → Extends T (λ U. CoversGives i U l r x)
    extend_gives None T f ret = ret T f (grows_self T) tt
    extend_gives (Some x) T f ret = extend_atom x.atom T f ret

    pub extend_conjunct : (c : Conjunct) (T : List Entry) → Faithful A i T → Extends T (λ U. CoversConjunct i U l r c)
    extend_conjunct c T f ret =
        extend_literals c.when T f (λ U fU gU cU. extend_gives c.gives U fU (λ V fV gV cV. ret V fV (grows_chain T U V gU gV) (covers_literals_kept i U V gV l r c.when cU, cV)))

    pub extend_conjuncts : (cs : List Conjunct) (T : List Entry) → Faithful A i T → Extends T (λ U. CoversConjuncts i U l r cs)
    extend_conjuncts [] T f ret = ret T f (grows_self T) tt
    extend_conjuncts (c ∷ cs) T f ret =
        extend_conjunct c T f (λ U fU gU cU. extend_conjuncts cs U fU (λ V fV gV cV. ret V fV (grows_chain T U V gU gV) (covers_conjunct_kept i U V gV l r c cU, cV)))

    pub extend_obligation : (ob : Obligation) (T : List Entry) → Faithful A i T → Extends T (λ U. CoversObligation i U l r ob)
    extend_obligation ob T f ret =
        extend_conjuncts ob.known T f (λ U fU gU cU. extend_literals ob.path U fU (λ V fV gV cV. extend_conjunct ob.goal V fV (λ W fW gW cW.
        ret W fW (grows_chain T V W (grows_chain T U V gU gV) gW)
        (covers_conjuncts_kept i U W (grows_chain U V W gV gW) l r ob.known cU, (covers_literals_kept i V W gW l r ob.path cV, cW)))))

    -- a table that covers literals, from none
    pub with_table : (xs : List Literal) → ((T : List Entry) → Faithful A i T → CoversLiterals i T l r xs → A) → A
    with_table xs ret = extend_literals xs [] tt (λ U fU gU cU. ret U fU cU)
