-- Atoms, literals and conjuncts with two stores in place of L and R, from what stands in place of their numbers and parts.
use Rattle.std.specs.Prelude.{◌≡◌, ℕ, ◌+◌, ◌<◌, Bool, true, ℤ, List, [], ◌∷◌, ◌++◌, length, map, take, Option, None, Some, option_map, refl}
use Rattle.std.specs.List.{list_all, flat_map}
use Rattle.std.proofs.Common.{sym, ◌∙◌, ap, subst, get_or}
use Rattle.std.proofs.lemmas.List.{append-nil, take_more, map-append}
use Rattle.std.proofs.lemmas.Grind.{flat_map-append}
use Rattle.rule_terms.specs.Term.{StoreTerm}
use Rattle.rule_terms.specs.Substitute.{store_at, value_term_at, atom_at, literal_at, conjunct_at}
use Rattle.rule_terms.specs.declared.obligation.Atom.TheVariants as tree
use Rattle.term_pool.specs.declared.node.Node.{Node}
use Rattle.term_pool.specs.declared.pooled.PooledAtom.{PooledAtom}
use Rattle.term_pool.specs.declared.pooled.PooledAtom.TheVariants.{SameName, SameStore, SameValue, AtMost, Ends, Holds}
use Rattle.term_pool.specs.declared.pooled.PooledLiteral.{PooledLiteral}
use Rattle.term_pool.specs.declared.pooled.PooledConjunct.{PooledConjunct}
use Rattle.term_pool.specs.Numbered.{Term, a_store, a_value, store_numbered, value_numbered, terms_of_nodes, has_store, has_value, IsNumber, Within}
use Rattle.term_pool.specs.Growth.{Adds, Extends}
use Rattle.term_pool.specs.ObligationTerms.{atom_terms, literal_terms, gives_terms, conjunct_terms}
use Rattle.term_pool.specs.Pooled.{atom_in, atom_numbered, literal_in, literal_numbered, gives_in, gives_numbered, conjunct_in, conjunct_numbered}
use Rattle.term_pool.proofs.Places.{both, and_true}
use Rattle.term_pool.proofs.Grown.{store_found, value_found, store_stays, has_store_stays, value_stays, has_value_stays}
use Rattle.term_pool.proofs.Growing.{adds_both, adds_nothing}
use Rattle.term_pool.proofs.PutItems.{same_store_of, same_value_of, at_most_of, ends_of, holds_of}
use Rattle.pool_goals.specs.Replaced.{NumberAt, ItemAt, AtomAt, LiteralAt, LiteralsAt, GivesAt, ConjunctAt, ConjunctsAt}
use Rattle.pool_goals.proofs.Arms.{extends_within, later}

-- ---- what stands for an item still does
atom_stays : (ts us : List Term) → Within ts us → (x : PooledAtom) → atom_in ts x ≡ true → (atom_in us x ≡ true) × (atom_numbered us x ≡ atom_numbered ts x)
unfolding atom_in atom_numbered
atom_stays ts us w (SameName x y) h = (refl, refl)
atom_stays ts us w (SameStore a b) h =
    let c = both (has_store ts a) (has_store ts b) h in
    (and_true (has_store_stays ts us w a c.0) (has_store_stays ts us w b c.1), λ j. tree.SameStore (store_stays ts us w a c.0 j) (store_stays ts us w b c.1 j))
atom_stays ts us w (SameValue a b) h =
    let c = both (has_value ts a) (has_value ts b) h in
    (and_true (has_value_stays ts us w a c.0) (has_value_stays ts us w b c.1), λ j. tree.SameValue (value_stays ts us w a c.0 j) (value_stays ts us w b c.1 j))
atom_stays ts us w (AtMost a b z) h =
    let c = both (has_value ts a) (has_value ts b) h in
    (and_true (has_value_stays ts us w a c.0) (has_value_stays ts us w b c.1), λ j. tree.AtMost (value_stays ts us w a c.0 j) (value_stays ts us w b c.1 j) z)
atom_stays ts us w (Ends s) h = (has_store_stays ts us w s h, λ j. tree.Ends (store_stays ts us w s h j))
atom_stays ts us w (Holds k s) h = (has_store_stays ts us w s h, λ j. tree.Holds k (store_stays ts us w s h j))

pub literal_stays : (ts us : List Term) → Within ts us → (x : PooledLiteral) → literal_in ts x ≡ true → (literal_in us x ≡ true) × (literal_numbered us x ≡ literal_numbered ts x)
literal_stays ts us w x h = let a = atom_stays ts us w x.atom h in (a.0, λ j. record { sign = x.sign; atom = a.1 j })

gives_stays : (ts us : List Term) → Within ts us → (x : Option PooledLiteral) → gives_in ts x ≡ true → (gives_in us x ≡ true) × (gives_numbered us x ≡ gives_numbered ts x)
gives_stays ts us w None h = (refl, refl)
gives_stays ts us w (Some x) h = let l = literal_stays ts us w x h in (l.0, ap Some l.1)

-- an item that is of a known shape
pub shaped : {X Y : Type 0} {inside : List Term → X → Bool} {of : List Term → X → Y} {put : StoreTerm → StoreTerm → Y → Y} {terms : Y → List Term} {a b : List Node} {left right : ℕ} {x z y : X}
    → x ≡ z → ItemAt inside of put terms a b left right z y → ItemAt inside of put terms a b left right x y
shaped {inside = inside} {of = of} {put = put} {terms = terms} {a = a} {b = b} {left = left} {right = right} {y = y} e f = subst (λ w. ItemAt inside of put terms a b left right w y) (sym e) f

-- ---- atoms
module _ (a : List Node) (left right : ℕ) where
  pub same_name_at : (x y : ℕ) → AtomAt a a left right (SameName x y) (SameName x y)
  unfolding atom_in atom_numbered atom_at atom_terms
  same_name_at x y = record { at = λ l r hl hr h. ((refl, refl), adds_nothing a) }

  pub same_store_at : {b c : List Node} (x y i k : ℕ) → NumberAt a b left right x i → Extends a b → NumberAt b c left right y k → AtomAt a c left right (SameStore x y) (SameStore i k)
  unfolding atom_in atom_numbered atom_at atom_terms
  same_store_at {b} {c} x y i k f ab g = record {
    at = λ l r hl hr h.
        let ts = terms_of_nodes a in
        let e = both (has_store ts x) (has_store ts y) h in
        let one = f.at l r (a_store (store_numbered ts x)) hl hr (store_found ts x e.0) in
        let other = later a left right x ab g l r (a_store (store_numbered ts y)) hl hr (store_found ts y e.1) in
        (same_store_of i k (store_at l r (store_numbered ts x)) (store_at l r (store_numbered ts y)) one.0 other.1 other.0, adds_both one.1 other.1);
  }

  pub same_value_at : {b c : List Node} (x y i k : ℕ) → NumberAt a b left right x i → Extends a b → NumberAt b c left right y k → AtomAt a c left right (SameValue x y) (SameValue i k)
  unfolding atom_in atom_numbered atom_at atom_terms
  same_value_at {b} {c} x y i k f ab g = record {
    at = λ l r hl hr h.
        let ts = terms_of_nodes a in
        let e = both (has_value ts x) (has_value ts y) h in
        let one = f.at l r (a_value (value_numbered ts x)) hl hr (value_found ts x e.0) in
        let other = later a left right x ab g l r (a_value (value_numbered ts y)) hl hr (value_found ts y e.1) in
        (same_value_of i k (value_term_at l r (value_numbered ts x)) (value_term_at l r (value_numbered ts y)) one.0 other.1 other.0, adds_both one.1 other.1);
  }

  pub at_most_at : {b c : List Node} (x y i k : ℕ) (z w : ℤ) → NumberAt a b left right x i → Extends a b → NumberAt b c left right y k → w ≡ z → AtomAt a c left right (AtMost x y z) (AtMost i k w)
  unfolding atom_in atom_numbered atom_at atom_terms
  at_most_at {b} {c} x y i k z w f ab g same = record {
    at = λ l r hl hr h.
        let ts = terms_of_nodes a in
        let e = both (has_value ts x) (has_value ts y) h in
        let one = f.at l r (a_value (value_numbered ts x)) hl hr (value_found ts x e.0) in
        let other = later a left right x ab g l r (a_value (value_numbered ts y)) hl hr (value_found ts y e.1) in
        (at_most_of i k (value_term_at l r (value_numbered ts x)) (value_term_at l r (value_numbered ts y)) w z one.0 other.1 other.0 same, adds_both one.1 other.1);
  }

  pub ends_at : {b : List Node} (x i : ℕ) → NumberAt a b left right x i → AtomAt a b left right (Ends x) (Ends i)
  unfolding atom_in atom_numbered atom_at atom_terms
  ends_at {b} x i f = record {
    at = λ l r hl hr h.
        let ts = terms_of_nodes a in
        let one = f.at l r (a_store (store_numbered ts x)) hl hr (store_found ts x h) in
        (ends_of b i (store_at l r (store_numbered ts x)) one.0, one.1);
  }

  pub holds_at : {b : List Node} (j x i : ℕ) → NumberAt a b left right x i → AtomAt a b left right (Holds j x) (Holds j i)
  unfolding atom_in atom_numbered atom_at atom_terms
  holds_at {b} j x i f = record {
    at = λ l r hl hr h.
        let ts = terms_of_nodes a in
        let one = f.at l r (a_store (store_numbered ts x)) hl hr (store_found ts x h) in
        (holds_of b j i (store_at l r (store_numbered ts x)) one.0, one.1);
  }

  -- ---- literals
  pub literal_by : {b : List Node} (x : PooledLiteral) (y : PooledAtom) → AtomAt a b left right x.atom y → LiteralAt a b left right x (record { sign = x.sign; atom = y })
  literal_by x y f = record { at = λ l r hl hr h. let k = f.at l r hl hr h in ((k.0.0, λ j. record { sign = x.sign; atom = k.0.1 j }), k.1) }

-- ---- lists of items
module _ {X Y : Type 0} (inside : List Term → X → Bool) (of : List Term → X → Y) (at : StoreTerm → StoreTerm → Y → Y) (terms : Y → List Term)
    (stay : (ts us : List Term) → Within ts us → (x : X) → inside ts x ≡ true → (inside us x ≡ true) × (of us x ≡ of ts x)) where
  abbrev OneAt : List Node → List Node → ℕ → ℕ → X → X → Type 0
  OneAt = ItemAt inside of at terms

  abbrev AllAt : List Node → List Node → ℕ → ℕ → List X → List X → Type 0
  AllAt = ItemAt (λ ts xs. list_all (inside ts) xs) (λ ts xs. map (of ts) xs) (λ l r ys. map (at l r) ys) (λ ys. flat_map terms ys)

  pub all_stay : (ts us : List Term) → Within ts us → (xs : List X) → list_all (inside ts) xs ≡ true → (list_all (inside us) xs ≡ true) × (map (of us) xs ≡ map (of ts) xs)
  all_stay ts us w [] h = (refl, refl)
  all_stay ts us w (x ∷ xs) h =
      let b = both (inside ts x) (list_all (inside ts) xs) h in
      let one = stay ts us w x b.0 in
      let rest = all_stay ts us w xs b.1 in
      (and_true one.0 rest.0, λ j. one.1 j ∷ rest.1 j)

  all_parts : (ts : List Term) (xs : List X) (x : X) → list_all (inside ts) (xs ++ x ∷ []) ≡ true → (list_all (inside ts) xs ≡ true) × (inside ts x ≡ true)
  all_parts ts [] x h = (refl, (both (inside ts x) true h).0)
  all_parts ts (y ∷ xs) x h =
      let b = both (inside ts y) (list_all (inside ts) (xs ++ x ∷ [])) h in
      let c = all_parts ts xs x b.1 in
      (and_true b.0 c.0, c.1)

  all_pushed : (ts : List Term) (xs : List X) (x : X) → list_all (inside ts) xs ≡ true → inside ts x ≡ true → list_all (inside ts) (xs ++ x ∷ []) ≡ true
  all_pushed ts [] x h k = and_true k refl
  all_pushed ts (y ∷ xs) x h k = let b = both (inside ts y) (list_all (inside ts) xs) h in and_true b.0 (all_pushed ts xs x b.1 k)

  pub item_later : (a : List Node) {b c : List Node} {left right : ℕ} (x y : X) → Extends a b → OneAt b c left right x y → (l r : StoreTerm) → IsNumber a left (a_store l) → IsNumber a right (a_store r)
      → inside (terms_of_nodes a) x ≡ true
      → ((inside (terms_of_nodes c) y ≡ true) × (of (terms_of_nodes c) y ≡ at l r (of (terms_of_nodes a) x))) × Adds b c (terms (at l r (of (terms_of_nodes a) x)))
  item_later a {b} {c} {left} {right} x y ab f l r hl hr h =
      let w = extends_within a b ab in
      let s = stay (terms_of_nodes a) (terms_of_nodes b) w x h in
      subst (λ z. ((inside (terms_of_nodes c) y ≡ true) × (of (terms_of_nodes c) y ≡ at l r z)) × Adds b c (terms (at l r z))) s.1
      (f.at l r (w left (a_store l) hl) (w right (a_store r) hr) s.0)

  items_push : {a b c : List Node} {left right : ℕ} (xs ys : List X) (x y : X) → AllAt a b left right xs ys → Extends a b → OneAt b c left right x y → Extends b c
      → AllAt a c left right (xs ++ x ∷ []) (ys ++ y ∷ [])
  items_push {a} {b} {c} {left} {right} xs ys x y f ab g bc = record {
    at = λ l r hl hr h.
        let ts = terms_of_nodes a in
        let k = all_parts ts xs x h in
        let first = f.at l r hl hr k.0 in
        let second = item_later a x y ab g l r hl hr k.1 in
        let stayed = all_stay (terms_of_nodes b) (terms_of_nodes c) (extends_within b c bc) ys first.0.0 in
        let whole : map (at l r) (map (of ts) (xs ++ x ∷ [])) ≡ map (at l r) (map (of ts) xs) ++ at l r (of ts x) ∷ []
        = ap (map (at l r)) (map-append (of ts) xs (x ∷ [])) ∙ map-append (at l r) (map (of ts) xs) (of ts x ∷ []) in
        let added : flat_map terms (map (at l r) (map (of ts) (xs ++ x ∷ []))) ≡ flat_map terms (map (at l r) (map (of ts) xs)) ++ terms (at l r (of ts x))
        = ap (flat_map terms) whole ∙ flat_map-append terms (map (at l r) (map (of ts) xs)) (at l r (of ts x) ∷ [])
        ∙ ap (λ zs. flat_map terms (map (at l r) (map (of ts) xs)) ++ zs) (append-nil (terms (at l r (of ts x)))) in (
          (
            all_pushed (terms_of_nodes c) ys y stayed.0 second.0.0,
            map-append (of (terms_of_nodes c)) ys (y ∷ []) ∙ (λ j. (stayed.1 ∙ first.0.1) j ++ second.0.1 j ∷ []) ∙ sym whole,
          ),
          subst (Adds a c) (sym added) (adds_both first.1 second.1),
        );
  }

  pub items_next : {a b c : List Node} {left right : ℕ} (items : List X) (i : ℕ) (d : X) (ys : List X) (y : X) → AllAt a b left right (take i items) ys → Extends a b → OneAt b c left right (get_or items i d) y → Extends b c
      → i < length items → AllAt a c left right (take (i + 1) items) (ys ++ y ∷ [])
  items_next {a} {b} {c} {left} {right} items i d ys y f ab g bc h =
      subst (λ xs. AllAt a c left right xs (ys ++ y ∷ [])) (sym (take_more items i d h)) (items_push (take i items) ys (get_or items i d) y f ab g bc)

  pub items_none : (a : List Node) (left right : ℕ) → AllAt a a left right [] []
  items_none a left right = record { at = λ l r hl hr h. ((refl, refl), adds_nothing a) }

conjunct_stays : (ts us : List Term) → Within ts us → (x : PooledConjunct) → conjunct_in ts x ≡ true → (conjunct_in us x ≡ true) × (conjunct_numbered us x ≡ conjunct_numbered ts x)
conjunct_stays ts us w x h =
    let b = both (list_all (literal_in ts) x.when) (gives_in ts x.gives) h in
    let l = all_stay literal_in literal_numbered literal_at literal_terms literal_stays ts us w x.when b.0 in
    let g = gives_stays ts us w x.gives b.1 in
    (and_true l.0 g.0, λ j. record { when = l.1 j; gives = g.1 j })

pub literals_next : {a b c : List Node} {left right : ℕ} (items : List PooledLiteral) (i : ℕ) (d : PooledLiteral) (ys : List PooledLiteral) (y : PooledLiteral) → LiteralsAt a b left right (take i items) ys → Extends a b
    → LiteralAt b c left right (get_or items i d) y → Extends b c → i < length items → LiteralsAt a c left right (take (i + 1) items) (ys ++ y ∷ [])
literals_next items i d ys y f ab g bc h = items_next literal_in literal_numbered literal_at literal_terms literal_stays items i d ys y f ab g bc h

pub literals_none : (a : List Node) (left right : ℕ) → LiteralsAt a a left right [] []
literals_none a left right = items_none literal_in literal_numbered literal_at literal_terms literal_stays a left right

pub conjuncts_next : {a b c : List Node} {left right : ℕ} (items : List PooledConjunct) (i : ℕ) (d : PooledConjunct) (ys : List PooledConjunct) (y : PooledConjunct) → ConjunctsAt a b left right (take i items) ys → Extends a b
    → ConjunctAt b c left right (get_or items i d) y → Extends b c → i < length items → ConjunctsAt a c left right (take (i + 1) items) (ys ++ y ∷ [])
conjuncts_next items i d ys y f ab g bc h = items_next conjunct_in conjunct_numbered conjunct_at conjunct_terms conjunct_stays items i d ys y f ab g bc h

pub conjuncts_none : (a : List Node) (left right : ℕ) → ConjunctsAt a a left right [] []
conjuncts_none a left right = items_none conjunct_in conjunct_numbered conjunct_at conjunct_terms conjunct_stays a left right

pub none_given : (a : List Node) (left right : ℕ) → GivesAt a a left right None None
none_given a left right = record { at = λ l r hl hr h. ((refl, refl), adds_nothing a) }

pub some_given : {a b : List Node} {left right : ℕ} (x y : PooledLiteral) → LiteralAt a b left right x y → GivesAt a b left right (Some x) (Some y)
some_given x y f = record { at = λ l r hl hr h. let k = f.at l r hl hr h in ((k.0.0, ap Some k.0.1), k.1) }

-- ---- conjuncts
pub conjunct_by : {a b c : List Node} {left right : ℕ} (x : PooledConjunct) (when : List PooledLiteral) (gives : Option PooledLiteral) → LiteralsAt a b left right x.when when → Extends a b
    → GivesAt b c left right x.gives gives → Extends b c → ConjunctAt a c left right x (record { when = when; gives = gives })
conjunct_by {a} {b} {c} {left} {right} x when gives f ab g bc = record {
  at = λ l r hl hr h.
      let ts = terms_of_nodes a in
      let k = both (list_all (literal_in ts) x.when) (gives_in ts x.gives) h in
      let first = f.at l r hl hr k.0 in
      let second = item_later gives_in gives_numbered (λ l r o. option_map (literal_at l r) o) gives_terms gives_stays a x.gives gives ab g l r hl hr k.1 in
      let stayed = all_stay literal_in literal_numbered literal_at literal_terms literal_stays (terms_of_nodes b) (terms_of_nodes c) (extends_within b c bc) when first.0.0 in (
        (and_true stayed.0 second.0.0, λ j. record { when = (stayed.1 ∙ first.0.1) j; gives = second.0.1 j }),
        adds_both first.1 second.1,
      );
}
