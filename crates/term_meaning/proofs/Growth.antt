-- A table that says all that another says means the same by each term that the other covers, and covers it too.
use Rattle.std.specs.Prelude.{◌≡◌, ℕ, ◌+ℤ◌, ◌-ℤ◌, ◌*ℤ◌, ◌==◌, true, cond, not, ◌&&◌, ◌||◌, List, [], ◌∷◌, Option, Some, None, is_some, int_le, refl}
use Rattle.std.specs.Ordering.{int_eq}
use Rattle.std.specs.List.{list_all}
use Rattle.std.proofs.Common.{sym, ◌∙◌, ap, subst, eq-eqb}
use Rattle.std.proofs.lemmas.Bool.{and_from}
use Rattle.toy_imp.specs.declared.instance.Instance.{Instance}
use Rattle.toy_imp.specs.Store.{Store}
use Rattle.toy_imp.specs.Fill.{expr_at, test_at}
use Rattle.rule_terms.specs.Term.{StoreTerm, left_store, right_store, put, run, ValueTerm, num, get, ev, add, sub, mul, ValueTerms, no_terms, term}
use Rattle.rule_terms.specs.declared.obligation.Atom.{Atom}
use Rattle.rule_terms.specs.declared.obligation.Atom.TheVariants.{SameName, SameStore, SameValue, AtMost, Ends, Holds}
use Rattle.rule_terms.specs.declared.obligation.Literal.{Literal}
use Rattle.rule_terms.specs.declared.obligation.Conjunct.{Conjunct}
use Rattle.term_meaning.specs.SameStore.{same_store}
use Rattle.term_meaning.specs.MaybeStore.{put_in, read_in, value_in, truth_in, same_option}
use Rattle.term_meaning.specs.Table.{Entry, older, look, told, after, Covered, Grows}
use Rattle.term_meaning.specs.Meaning.{cell_at, signed, store_of, value_of, values_of, atom_truth, literal_truth, gives_truth, conjunct_truth, CoversStore, CoversValue, CoversValues, CoversAtom, CoversLiterals, CoversGives, CoversConjunct, CoversConjuncts}
use Rattle.term_meaning.proofs.SameStores.{same_self}

-- ---- how tables grow
pub grows_self : (T : List Entry) → Grows T T
grows_self T = λ k s o e. e

pub grows_chain : (T U V : List Entry) → Grows T U → Grows U V → Grows T V
grows_chain T U V g h = λ k s o e. h k s o (g k s o e)

pub grows_more : (e : Entry) (T : List Entry) → Grows T (e ∷ T)
unfolding look
grows_more e T = λ k s o said. ap (λ x. older x (cond (e.statement == k && same_store e.from s) (Some e.to) None)) said

abbrev pub entry : ℕ → Store → Option Store → Entry
entry k s o = record { statement = k; from = s; to = o }

-- a new entry counts where nothing was said
pub new_look : (T : List Entry) (k : ℕ) (s : Store) (o : Option Store) → look T k s ≡ None → look (entry k s o ∷ T) k s ≡ Some o
unfolding look
new_look T k s o none =
    let test : (k == k && same_store s s) ≡ true = and_from _ _ (eq-eqb k k refl) (same_self s) in
    ap (λ x. older x (cond (k == k && same_store s s) (Some o) None)) none ∙ ap (λ b. cond {A = Option (Option Store)} b (Some o) None) test

-- ---- what is kept
after_kept : (T U : List Entry) → Grows T U → (k : ℕ) (o : Option Store) → Covered T k o → after U k o ≡ after T k o
after_kept T U g k None h = refl
after_kept T U g k (Some s) h = ap told (g k s h.0 h.1) ∙ sym (ap told h.1)

covered_kept : (T U : List Entry) → Grows T U → (k : ℕ) (o : Option Store) → Covered T k o → Covered U k o
covered_kept T U g k None h = tt
covered_kept T U g k (Some s) h = (h.0, g k s h.0 h.1)

module _ (i : Instance) (T U : List Entry) (g : Grows T U) (l r : Store) where
  mutual
    unfolding store_of value_of values_of CoversStore CoversValue CoversValues

    pub store_kept : (u : StoreTerm) → CoversStore i T l r u → store_of i U l r u ≡ store_of i T l r u
    store_kept left_store c = refl
    store_kept right_store c = refl
    store_kept (put s x is v) c = λ j. put_in (store_kept s c.0 j) (cell_at i x (values_kept is c.1.0 j)) (value_kept v c.1.1 j)
    store_kept (run k s) c = ap (after U k) (store_kept s c.0) ∙ after_kept T U g k (store_of i T l r s) c.1

    pub value_kept : (v : ValueTerm) → CoversValue i T l r v → value_of i U l r v ≡ value_of i T l r v
    value_kept (num z) c = refl
    value_kept (get x is s) c = λ j. read_in (store_kept s c.1 j) (cell_at i x (values_kept is c.0 j))
    value_kept (ev k s) c = λ j. value_in (store_kept s c j) (expr_at i k)
    value_kept (add a b) c = λ j. value_kept a c.0 j +ℤ value_kept b c.1 j
    value_kept (sub a b) c = λ j. value_kept a c.0 j -ℤ value_kept b c.1 j
    value_kept (mul a b) c = λ j. value_kept a c.0 j *ℤ value_kept b c.1 j

    pub values_kept : (vs : ValueTerms) → CoversValues i T l r vs → values_of i U l r vs ≡ values_of i T l r vs
    values_kept no_terms c = refl
    values_kept (term v vs) c = λ j. value_kept v c.0 j ∷ values_kept vs c.1 j

  mutual
    unfolding CoversStore CoversValue CoversValues

    pub covers_kept : (u : StoreTerm) → CoversStore i T l r u → CoversStore i U l r u
    covers_kept left_store c = tt
    covers_kept right_store c = tt
    covers_kept (put s x is v) c = (covers_kept s c.0, (covers_values_kept is c.1.0, covers_value_kept v c.1.1))
    covers_kept (run k s) c = (covers_kept s c.0, subst (λ o. Covered U k o) (sym (store_kept s c.0)) (covered_kept T U g k (store_of i T l r s) c.1))

    pub covers_value_kept : (v : ValueTerm) → CoversValue i T l r v → CoversValue i U l r v
    covers_value_kept (num z) c = tt
    covers_value_kept (get x is s) c = (covers_values_kept is c.0, covers_kept s c.1)
    covers_value_kept (ev k s) c = covers_kept s c
    covers_value_kept (add a b) c = (covers_value_kept a c.0, covers_value_kept b c.1)
    covers_value_kept (sub a b) c = (covers_value_kept a c.0, covers_value_kept b c.1)
    covers_value_kept (mul a b) c = (covers_value_kept a c.0, covers_value_kept b c.1)

    pub covers_values_kept : (vs : ValueTerms) → CoversValues i T l r vs → CoversValues i U l r vs
    covers_values_kept no_terms c = tt
    covers_values_kept (term v vs) c = (covers_value_kept v c.0, covers_values_kept vs c.1)

  pub atom_kept : (a : Atom) → CoversAtom i T l r a → atom_truth i U l r a ≡ atom_truth i T l r a
  unfolding atom_truth CoversAtom
  atom_kept (SameName x y) c = refl
  atom_kept (SameStore a b) c = λ j. same_option (store_kept a c.0 j) (store_kept b c.1 j)
  atom_kept (SameValue a b) c = λ j. int_eq (value_kept a c.0 j) (value_kept b c.1 j)
  atom_kept (AtMost a b z) c = λ j. int_le (value_kept a c.0 j) (value_kept b c.1 j +ℤ z)
  atom_kept (Ends s) c = λ j. is_some (store_kept s c j)
  atom_kept (Holds k s) c = λ j. truth_in (store_kept s c j) (test_at i k)

  pub covers_atom_kept : (a : Atom) → CoversAtom i T l r a → CoversAtom i U l r a
  unfolding CoversAtom
  covers_atom_kept (SameName x y) c = tt
  covers_atom_kept (SameStore a b) c = (covers_kept a c.0, covers_kept b c.1)
  covers_atom_kept (SameValue a b) c = (covers_value_kept a c.0, covers_value_kept b c.1)
  covers_atom_kept (AtMost a b z) c = (covers_value_kept a c.0, covers_value_kept b c.1)
  covers_atom_kept (Ends s) c = covers_kept s c
  covers_atom_kept (Holds k s) c = covers_kept s c

  pub literal_kept : (x : Literal) → CoversAtom i T l r x.atom → literal_truth i U l r x ≡ literal_truth i T l r x
  literal_kept x c = ap (signed x.sign) (atom_kept x.atom c)

  pub literals_kept : (xs : List Literal) → CoversLiterals i T l r xs → list_all (literal_truth i U l r) xs ≡ list_all (literal_truth i T l r) xs
  literals_kept [] c = refl
  literals_kept (x ∷ xs) c = λ j. literal_kept x c.0 j && literals_kept xs c.1 j

  pub covers_literals_kept : (xs : List Literal) → CoversLiterals i T l r xs → CoversLiterals i U l r xs
  covers_literals_kept [] c = tt
  covers_literals_kept (x ∷ xs) c = (covers_atom_kept x.atom c.0, covers_literals_kept xs c.1)

  gives_kept : (x : Option Literal) → CoversGives i T l r x → gives_truth i U l r x ≡ gives_truth i T l r x
  gives_kept None c = refl
  gives_kept (Some x) c = literal_kept x c

  covers_gives_kept : (x : Option Literal) → CoversGives i T l r x → CoversGives i U l r x
  covers_gives_kept None c = tt
  covers_gives_kept (Some x) c = covers_atom_kept x.atom c

  pub conjunct_kept : (c : Conjunct) → CoversConjunct i T l r c → conjunct_truth i U l r c ≡ conjunct_truth i T l r c
  conjunct_kept c h = λ j. not (literals_kept c.when h.0 j) || gives_kept c.gives h.1 j

  pub covers_conjunct_kept : (c : Conjunct) → CoversConjunct i T l r c → CoversConjunct i U l r c
  covers_conjunct_kept c h = (covers_literals_kept c.when h.0, covers_gives_kept c.gives h.1)

  pub conjuncts_kept : (cs : List Conjunct) → CoversConjuncts i T l r cs → list_all (conjunct_truth i U l r) cs ≡ list_all (conjunct_truth i T l r) cs
  conjuncts_kept [] c = refl
  conjuncts_kept (x ∷ xs) c = λ j. conjunct_kept x c.0 j && conjuncts_kept xs c.1 j

  pub covers_conjuncts_kept : (cs : List Conjunct) → CoversConjuncts i T l r cs → CoversConjuncts i U l r cs
  covers_conjuncts_kept [] c = tt
  covers_conjuncts_kept (x ∷ xs) c = (covers_conjunct_kept x c.0, covers_conjuncts_kept xs c.1)
