-- Items by numbers stand for what they stood for, as the pool grows; and lists of them, one item more.
use Rattle.std.specs.Prelude.{◌≡◌, ℕ, ◌+◌, ◌<◌, Bool, true, ℤ, List, [], ◌∷◌, ◌++◌, length, map, take, Option, Some, None, Result, Ok, Err, IfOk, refl}
use Rattle.std.specs.List.{list_all, flat_map}
use Rattle.std.proofs.Common.{sym, ◌∙◌, ap, subst, get_or}
use Rattle.std.proofs.lemmas.List.{append-nil, take_more, map-append}
use Rattle.std.proofs.lemmas.Grind.{flat_map-append}
use Rattle.rule_terms.specs.Term.{StoreTerm, ValueTerm}
use Rattle.rule_terms.specs.declared.obligation.Atom.{Atom}
use Rattle.rule_terms.specs.declared.obligation.Atom.TheVariants as tree
use Rattle.rule_terms.specs.declared.obligation.Literal.{Literal}
use Rattle.rule_terms.specs.declared.obligation.Conjunct.{Conjunct}
use Rattle.rule_terms.specs.declared.obligation.Obligation.{Obligation}
use Rattle.term_pool.specs.declared.node.Node.{Node}
use Rattle.term_pool.specs.declared.pooled.PooledAtom.{PooledAtom}
use Rattle.term_pool.specs.declared.pooled.PooledAtom.TheVariants.{SameName, SameStore, SameValue, AtMost, Ends, Holds}
use Rattle.term_pool.specs.declared.pooled.PooledLiteral.{PooledLiteral}
use Rattle.term_pool.specs.declared.pooled.PooledConjunct.{PooledConjunct}
use Rattle.term_pool.specs.declared.pooled.PooledObligation.{PooledObligation}
use Rattle.term_pool.specs.Numbered.{Term, a_store, a_value, as_store, as_value, is_store_there, is_value_there, has_store, has_value, terms_of_nodes, IsNumber, Within}
use Rattle.term_pool.specs.Growth.{Adds}
use Rattle.term_pool.specs.ObligationTerms.{atom_terms, literal_terms, literals_terms, conjunct_terms, conjuncts_terms}
use Rattle.term_pool.specs.Pooled.{atom_in, atom_numbered, literal_in, literal_numbered, gives_in, gives_numbered, conjunct_in, conjunct_numbered, obligation_in, obligation_numbered, AtomOf, LiteralOf, LiteralsOf, GivesOf, ConjunctOf, ConjunctsOf}
use Rattle.term_pool.proofs.Places.{both, and_true}
use Rattle.term_pool.proofs.Grown.{store_stays, has_store_stays, value_stays, has_value_stays}
use Rattle.term_pool.proofs.Growing.{adds_both, adds_nothing, adds_within}
use Rattle.term_pool.proofs.PutTerms.{stays}

-- ---- what stands for an item still does
module _ (ts us : List Term) (w : Within ts us) where
  atom_stays : (x : PooledAtom) → atom_in ts x ≡ true → (atom_in us x ≡ true) × (atom_numbered us x ≡ atom_numbered ts x)
  unfolding atom_in atom_numbered
  atom_stays (SameName x y) h = (refl, refl)
  atom_stays (SameStore a b) h =
      let c = both (has_store ts a) (has_store ts b) h in
      (and_true (has_store_stays ts us w a c.0) (has_store_stays ts us w b c.1), λ j. tree.SameStore (store_stays ts us w a c.0 j) (store_stays ts us w b c.1 j))
  atom_stays (SameValue a b) h =
      let c = both (has_value ts a) (has_value ts b) h in
      (and_true (has_value_stays ts us w a c.0) (has_value_stays ts us w b c.1), λ j. tree.SameValue (value_stays ts us w a c.0 j) (value_stays ts us w b c.1 j))
  atom_stays (AtMost a b z) h =
      let c = both (has_value ts a) (has_value ts b) h in
      (and_true (has_value_stays ts us w a c.0) (has_value_stays ts us w b c.1), λ j. tree.AtMost (value_stays ts us w a c.0 j) (value_stays ts us w b c.1 j) z)
  atom_stays (Ends s) h = (has_store_stays ts us w s h, λ j. tree.Ends (store_stays ts us w s h j))
  atom_stays (Holds k s) h = (has_store_stays ts us w s h, λ j. tree.Holds k (store_stays ts us w s h j))

  literal_stays : (x : PooledLiteral) → literal_in ts x ≡ true → (literal_in us x ≡ true) × (literal_numbered us x ≡ literal_numbered ts x)
  literal_stays x h = let a = atom_stays x.atom h in (a.0, λ j. record { sign = x.sign; atom = a.1 j })

  gives_stays : (x : Option PooledLiteral) → gives_in ts x ≡ true → (gives_in us x ≡ true) × (gives_numbered us x ≡ gives_numbered ts x)
  gives_stays None h = (refl, refl)
  gives_stays (Some x) h = let l = literal_stays x h in (l.0, ap Some l.1)

-- items of a list, where each stays
module _ {X Y : Type 0} (inside : List Term → X → Bool) (of : List Term → X → Y)
    (stay : (ts us : List Term) → Within ts us → (x : X) → inside ts x ≡ true → (inside us x ≡ true) × (of us x ≡ of ts x)) where
  abbrev All : List Term → List X → List Y → Type 0
  All ts xs ys = (list_all (inside ts) xs ≡ true) × (map (of ts) xs ≡ ys)

  items_stay : (ts us : List Term) → Within ts us → (xs : List X) → list_all (inside ts) xs ≡ true → All us xs (map (of ts) xs)
  items_stay ts us w [] h = (refl, refl)
  items_stay ts us w (x ∷ xs) h =
      let b = both (inside ts x) (list_all (inside ts) xs) h in
      let one = stay ts us w x b.0 in
      let rest = items_stay ts us w xs b.1 in
      (and_true one.0 rest.0, λ j. one.1 j ∷ rest.1 j)

  all_more : (ts : List Term) (xs : List X) (x : X) → list_all (inside ts) xs ≡ true → inside ts x ≡ true → list_all (inside ts) (xs ++ x ∷ []) ≡ true
  all_more ts [] x h k = and_true k refl
  all_more ts (y ∷ xs) x h k = let b = both (inside ts y) (list_all (inside ts) xs) h in and_true b.0 (all_more ts xs x b.1 k)

  next_item : (ts us : List Term) → Within ts us → (items : List Y) (i : ℕ) (y : Y) (xs : List X) (x : X) → All ts xs (take i items) → inside us x ≡ true → of us x ≡ y
      → i < length items → y ≡ get_or items i y → All us (xs ++ x ∷ []) (take (i + 1) items)
  next_item ts us w items i y xs x h k e l is =
      let s = items_stay ts us w xs h.0 in (
        all_more us xs x s.0 k,
        map-append (of us) xs (x ∷ []) ∙ (λ j. (s.1 ∙ h.1) j ++ (e ∙ is) j ∷ []) ∙ sym (take_more items i y l),
      )

-- what a list of items adds, with one item more
next_terms : {Y : Type 0} (f : Y → List Term) (items : List Y) (i : ℕ) (y : Y) → i < length items → y ≡ get_or items i y → flat_map f (take (i + 1) items) ≡ flat_map f (take i items) ++ f y
next_terms f items i y l is =
    ap (flat_map f) (take_more items i y l ∙ ap (λ z. take i items ++ z ∷ []) (sym is))
    ∙ flat_map-append f (take i items) (y ∷ [])
    ∙ ap (λ ys. flat_map f (take i items) ++ ys) (append-nil (f y))

abbrev conjunct_stays : (ts us : List Term) → Within ts us → (x : PooledConjunct) → conjunct_in ts x ≡ true → (conjunct_in us x ≡ true) × (conjunct_numbered us x ≡ conjunct_numbered ts x)
conjunct_stays ts us w x h =
    let b = both (list_all (literal_in ts) x.when) (gives_in ts x.gives) h in
    let l = items_stay literal_in literal_numbered literal_stays ts us w x.when b.0 in
    let g = gives_stays ts us w x.gives b.1 in
    (and_true l.0 g.0, λ j. record { when = l.1 j; gives = g.1 j })

pub next_literals : {mid new : List Node} (items : List Literal) (i : ℕ) (l : Literal) (xs : List PooledLiteral) (x : PooledLiteral) → LiteralsOf mid xs (take i items) → Adds mid new (literal_terms l) → LiteralOf new x l
    → i < length items → l ≡ get_or items i l → LiteralsOf new (xs ++ x ∷ []) (take (i + 1) items)
next_literals {mid} {new} items i l xs x h a k m is = next_item literal_in literal_numbered literal_stays (terms_of_nodes mid) (terms_of_nodes new) (adds_within a) items i l xs x h k.0 k.1 m is

pub next_literals_terms : {old mid new : List Node} (items : List Literal) (i : ℕ) (l : Literal) → Adds old mid (literals_terms (take i items)) → Adds mid new (literal_terms l)
    → i < length items → l ≡ get_or items i l → Adds old new (literals_terms (take (i + 1) items))
next_literals_terms {old} {mid} {new} items i l a b m is = subst (Adds old new) (sym (next_terms literal_terms items i l m is)) (adds_both a b)

pub next_conjuncts : {mid new : List Node} (items : List Conjunct) (i : ℕ) (c : Conjunct) (xs : List PooledConjunct) (x : PooledConjunct) → ConjunctsOf mid xs (take i items) → Adds mid new (conjunct_terms c) → ConjunctOf new x c
    → i < length items → c ≡ get_or items i c → ConjunctsOf new (xs ++ x ∷ []) (take (i + 1) items)
next_conjuncts {mid} {new} items i c xs x h a k m is = next_item conjunct_in conjunct_numbered conjunct_stays (terms_of_nodes mid) (terms_of_nodes new) (adds_within a) items i c xs x h k.0 k.1 m is

pub next_conjuncts_terms : {old mid new : List Node} (items : List Conjunct) (i : ℕ) (c : Conjunct) → Adds old mid (conjuncts_terms (take i items)) → Adds mid new (conjunct_terms c)
    → i < length items → c ≡ get_or items i c → Adds old new (conjuncts_terms (take (i + 1) items))
next_conjuncts_terms {old} {mid} {new} items i c a b m is = subst (Adds old new) (sym (next_terms conjunct_terms items i c m is)) (adds_both a b)

-- what stood for items before
pub literals_stay : {a b : List Node} {ts : List Term} (xs : List PooledLiteral) (ls : List Literal) → Adds a b ts → LiteralsOf a xs ls → LiteralsOf b xs ls
literals_stay {a} {b} xs ls g h =
    let s = items_stay literal_in literal_numbered literal_stays (terms_of_nodes a) (terms_of_nodes b) (adds_within g) xs h.0 in
    (s.0, s.1 ∙ h.1)

pub conjuncts_stay : {a b : List Node} {ts : List Term} (xs : List PooledConjunct) (cs : List Conjunct) → Adds a b ts → ConjunctsOf a xs cs → ConjunctsOf b xs cs
conjuncts_stay {a} {b} xs cs g h =
    let s = items_stay conjunct_in conjunct_numbered conjunct_stays (terms_of_nodes a) (terms_of_nodes b) (adds_within g) xs h.0 in
    (s.0, s.1 ∙ h.1)

pub conjunct_of : {a b : List Node} {ts : List Term} (when : List PooledLiteral) (gives : Option PooledLiteral) (c : Conjunct) → LiteralsOf a when c.when → Adds a b ts → GivesOf b gives c.gives
    → ConjunctOf b (record { when = when; gives = gives }) c
conjunct_of when gives c h g k =
    let l = literals_stay when c.when g h in
    (and_true l.0 k.0, λ j. record { when = l.1 j; gives = k.1 j })

-- ---- atoms
pub same_store_of : {a b : List Node} {xs : List Term} (i k : ℕ) (s t : StoreTerm) → IsNumber a i (a_store s) → Adds a b xs → IsNumber b k (a_store t) → AtomOf b (SameStore i k) (tree.SameStore s t)
unfolding atom_in atom_numbered
same_store_of i k s t h g m = let n = stays i (a_store s) g h in (and_true (ap is_store_there n) (ap is_store_there m), λ j. tree.SameStore (as_store (n j)) (as_store (m j)))

pub same_value_of : {a b : List Node} {xs : List Term} (i k : ℕ) (v w : ValueTerm) → IsNumber a i (a_value v) → Adds a b xs → IsNumber b k (a_value w) → AtomOf b (SameValue i k) (tree.SameValue v w)
unfolding atom_in atom_numbered
same_value_of i k v w h g m = let n = stays i (a_value v) g h in (and_true (ap is_value_there n) (ap is_value_there m), λ j. tree.SameValue (as_value (n j)) (as_value (m j)))

pub at_most_of : {a b : List Node} {xs : List Term} (i k : ℕ) (v w : ValueTerm) (y z : ℤ) → IsNumber a i (a_value v) → Adds a b xs → IsNumber b k (a_value w) → y ≡ z → AtomOf b (AtMost i k y) (tree.AtMost v w z)
unfolding atom_in atom_numbered
at_most_of i k v w y z h g m e = let n = stays i (a_value v) g h in (and_true (ap is_value_there n) (ap is_value_there m), λ j. tree.AtMost (as_value (n j)) (as_value (m j)) (e j))

pub ends_of : (a : List Node) (i : ℕ) (s : StoreTerm) → IsNumber a i (a_store s) → AtomOf a (Ends i) (tree.Ends s)
unfolding atom_in atom_numbered
ends_of a i s h = (ap is_store_there h, λ j. tree.Ends (as_store (h j)))

pub holds_of : (a : List Node) (k i : ℕ) (s : StoreTerm) → IsNumber a i (a_store s) → AtomOf a (Holds k i) (tree.Holds k s)
unfolding atom_in atom_numbered
holds_of a k i s h = (ap is_store_there h, λ j. tree.Holds k (as_store (h j)))

pub same_name_of : (a : List Node) (x y : ℕ) → AtomOf a (SameName x y) (tree.SameName x y)
unfolding atom_in atom_numbered
same_name_of a x y = (refl, refl)

pub no_items : (ns : List Node) → Adds ns ns []
no_items ns = adds_nothing ns

-- what the terms of an atom add, by its shape
pub shaped : {old new : List Node} {xs : List Term} (a b : Atom) → b ≡ a → atom_terms a ≡ xs → Adds old new xs → Adds old new (atom_terms b)
shaped {old} {new} a b e is h = subst (Adds old new) (sym (ap atom_terms e ∙ is)) h

pub obligation_of : {a b c : List Node} {xs ys : List Term} (ob : Obligation) (known : List PooledConjunct) (path : List PooledLiteral) (goal : PooledConjunct) (p : PooledObligation)
    → ConjunctsOf a known ob.known → Adds a b xs → LiteralsOf b path ob.path → Adds b c ys → ConjunctOf c goal ob.goal
    → p ≡ record { params = ob.params; conditions = ob.conditions; known = known; path = path; goal = goal } → (obligation_in c p ≡ true) × (obligation_numbered c p ≡ ob)
obligation_of {a} {b} {c} ob known path goal p h g k m n e =
    let first = conjuncts_stay known ob.known m (conjuncts_stay known ob.known g h) in
    let second = literals_stay path ob.path m k in
    subst (λ q. (obligation_in c q ≡ true) × (obligation_numbered c q ≡ ob)) (sym e) (
      and_true first.0 (and_true second.0 n.0),
      λ j. record { params = ob.params; conditions = ob.conditions; known = first.1 j; path = second.1 j; goal = n.1 j },
    )

pub mapped : {X E : Type 0} (P Q : X → Type 0) (r : Result X E) → ((x : X) → P x → Q x) → IfOk r P → IfOk r Q
mapped P Q (Ok x) f h = f x h
mapped P Q (Err e) f h = tt
