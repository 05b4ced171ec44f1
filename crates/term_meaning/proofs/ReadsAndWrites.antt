-- The laws of reads and writes: what a read says after a write, when stores with writes are equal, and which terms end.
-- None of them has a condition, and none asks that the table is faithful.
use Rattle.std.specs.Prelude.{◌≡◌, ◌≢◌, ◌⊎◌, ℕ, zero, suc, true, false, ℤ, pos, List, [], ◌∷◌, length, Option, Some, None, is_some, refl}
use Rattle.std.proofs.Common.{sym, ◌∙◌, ap, inl, inr, true≢false}
use Rattle.toy_imp.specs.declared.instance.Instance.{Instance}
use Rattle.toy_imp.specs.Cell.{Cell, spelled}
use Rattle.toy_imp.specs.Store.{Store, read, write}
use Rattle.toy_imp.specs.Fill.{name_at}
use Rattle.toy_imp.proofs.Stores.{write_is_read, write_keeps_others, agreeing_is_equal, cells_decided}
use Rattle.rule_terms.specs.Term.{StoreTerm, left_store, right_store, put, run, ValueTerm, get, ValueTerms, no_terms, term, Place}
use Rattle.term_meaning.specs.MaybeStore.{put_in, read_in}
use Rattle.term_meaning.specs.Table.{Entry, after}
use Rattle.term_meaning.specs.Meaning.{cell_at, store_of, value_of, values_of}
use Rattle.term_meaning.specs.Indices.{count, index_at}
use Rattle.term_meaning.specs.Writes.{base_of, written_in}

-- ---- over stores or nothing
pub read_put : (o : Option Store) (c d : Cell) (v : ℤ) → is_some (put_in o c v) ≡ true → d ≡ c → read_in (put_in o c v) d ≡ v
read_put None c d v there same = absurd (true≢false (sym there))
read_put (Some s) c d v there same = ap (read (write s c v)) same ∙ write_is_read s c v

pub read_past_put : (o : Option Store) (c d : Cell) (v : ℤ) → d ≢ c → read_in (put_in o c v) d ≡ read_in o d
read_past_put None c d v apart = refl
read_past_put (Some s) c d v apart = write_keeps_others s c v d apart

pub put_there : (o : Option Store) (c : Cell) (v : ℤ) → is_some (put_in o c v) ≡ is_some o
put_there None c v = refl
put_there (Some s) c v = refl

-- stores or nothing, of which both are there or neither, and which agree at every cell
pub options_agree : (o p : Option Store) → is_some o ≡ is_some p → ((c : Cell) → read_in o c ≡ read_in p c) → o ≡ p
options_agree None None there agree = refl
options_agree None (Some t) there agree = absurd (true≢false (sym there))
options_agree (Some s) None there agree = absurd (true≢false there)
options_agree (Some s) (Some t) there agree = ap Some (agreeing_is_equal s t agree)

pub after_there : (T : List Entry) (k : ℕ) (o : Option Store) → is_some (after T k o) ≡ true → is_some o ≡ true
after_there T k None there = there
after_there T k (Some s) there = refl

-- ---- over terms
module _ (i : Instance) (T : List Entry) (l r : Store) where
  -- as many indices, each of the same value
  abbrev pub IndicesAlike : ValueTerms → ValueTerms → Type 0
  IndicesAlike no_terms no_terms = Unit {0}
  IndicesAlike no_terms (term w ws) = ⊥
  IndicesAlike (term v vs) no_terms = ⊥
  IndicesAlike (term v vs) (term w ws) = (value_of i T l r v ≡ value_of i T l r w) × IndicesAlike vs ws

  pub indices_alike : (vs ws : ValueTerms) → IndicesAlike vs ws → values_of i T l r vs ≡ values_of i T l r ws
  unfolding values_of
  indices_alike no_terms no_terms h = refl
  indices_alike no_terms (term w ws) h = absurd h
  indices_alike (term v vs) no_terms h = absurd h
  indices_alike (term v vs) (term w ws) h = λ j. h.0 j ∷ indices_alike vs ws h.1 j

  counted : (vs : ValueTerms) → length (values_of i T l r vs) ≡ count vs
  unfolding values_of
  counted no_terms = refl
  counted (term v vs) = ap suc (counted vs)

  abbrev number : List ℤ → ℕ → ℤ
  number [] k = pos 0
  number (z ∷ zs) zero = z
  number (z ∷ zs) (suc k) = number zs k

  numbered : (vs : ValueTerms) (k : ℕ) (v : ValueTerm) → index_at vs k ≡ Some v → number (values_of i T l r vs) k ≡ value_of i T l r v
  unfolding values_of
  numbered no_terms k v e = cc
  numbered (term w vs) zero v e = ap (λ o. value_or o) e
    where
      value_or : Option ValueTerm → ℤ
      value_or None = pos 0
      value_or (Some x) = value_of i T l r x
  numbered (term w vs) (suc k) v e = numbered vs k v e

  module _ (s : StoreTerm) (x : ℕ) (is : ValueTerms) (v : ValueTerm) where
    -- a read after a write into its cell
    pub read_after_write : (y : ℕ) (js : ValueTerms) → is_some (store_of i T l r (put s x is v)) ≡ true → spelled (name_at i y) ≡ spelled (name_at i x) → IndicesAlike js is → value_of i T l r (get y js (put s x is v)) ≡ value_of i T l r v
    unfolding store_of value_of
    read_after_write y js there names alike = read_put (store_of i T l r s) _ _ _ there (λ j. (names j, indices_alike js is alike j))

    -- a read past a write into another cell
    past : (y : ℕ) (js : ValueTerms) → cell_at i y (values_of i T l r js) ≢ cell_at i x (values_of i T l r is) → value_of i T l r (get y js (put s x is v)) ≡ value_of i T l r (get y js s)
    unfolding store_of value_of
    past y js apart = read_past_put (store_of i T l r s) _ _ _ apart

    pub read_past_another_name : (y : ℕ) (js : ValueTerms) → spelled (name_at i y) ≢ spelled (name_at i x) → value_of i T l r (get y js (put s x is v)) ≡ value_of i T l r (get y js s)
    read_past_another_name y js apart = past y js (λ e. apart (ap (λ (c : Cell). c.0) e))

    pub read_past_another_index : (y : ℕ) (js : ValueTerms) (k : ℕ) (a b : ValueTerm) → index_at js k ≡ Some a → index_at is k ≡ Some b → value_of i T l r a ≢ value_of i T l r b → value_of i T l r (get y js (put s x is v)) ≡ value_of i T l r (get y js s)
    read_past_another_index y js k a b at_a at_b apart = past y js (λ e. apart (sym (numbered js k a at_a) ∙ ap (λ (c : Cell). number c.1 k) e ∙ numbered is k b at_b))

    pub read_past_another_count : (y : ℕ) (js : ValueTerms) → count js ≢ count is → value_of i T l r (get y js (put s x is v)) ≡ value_of i T l r (get y js s)
    read_past_another_count y js apart = past y js (λ e. apart (sym (counted js) ∙ ap (λ (c : Cell). length c.1) e ∙ counted is))

    -- a write ends exactly where what is written into does
    pub write_ends : is_some (store_of i T l r s) ≡ true → is_some (store_of i T l r (put s x is v)) ≡ true
    unfolding store_of
    write_ends there = put_there (store_of i T l r s) _ _ ∙ there

    pub written_ends : is_some (store_of i T l r (put s x is v)) ≡ true → is_some (store_of i T l r s) ≡ true
    unfolding store_of
    written_ends there = sym (put_there (store_of i T l r s) _ _) ∙ there

  pub sides_end : (is_some (store_of i T l r left_store) ≡ true) × (is_some (store_of i T l r right_store) ≡ true)
  unfolding store_of
  sides_end = (refl, refl)

  -- a run that ends has a store to run from
  pub run_starts : (k : ℕ) (s : StoreTerm) → is_some (store_of i T l r (run k s)) ≡ true → is_some (store_of i T l r s) ≡ true
  unfolding store_of
  run_starts k s there = after_there T k (store_of i T l r s) there

  -- store terms of which neither ends are equal
  pub neither_ends : (a c : StoreTerm) → is_some (store_of i T l r a) ≡ false → is_some (store_of i T l r c) ≡ false → store_of i T l r a ≡ store_of i T l r c
  neither_ends a c no_a no_c = both_nothing (store_of i T l r a) (store_of i T l r c) no_a no_c
    where
      both_nothing : (o p : Option Store) → is_some o ≡ false → is_some p ≡ false → o ≡ p
      both_nothing None None f g = refl
      both_nothing None (Some t) f g = absurd (true≢false g)
      both_nothing (Some s) p f g = absurd (true≢false f)

  -- ---- stores with equal writes
  abbrev placed : Place → Cell
  placed p = cell_at i p.name (values_of i T l r p.indices)

  abbrev Apart : Cell → List Place → Type 0
  Apart q [] = Unit {0}
  Apart q (p ∷ ps) = (q ≢ placed p) × Apart q ps

  abbrev ReadAlike : StoreTerm → StoreTerm → List Place → Type 0
  ReadAlike a c [] = Unit {0}
  ReadAlike a c (p ∷ ps) = (value_of i T l r (get p.name p.indices a) ≡ value_of i T l r (get p.name p.indices c)) × ReadAlike a c ps

  -- a cell into which nothing is written is read in the base
  read_base : (a : StoreTerm) (q : Cell) → Apart q (written_in a) → read_in (store_of i T l r a) q ≡ read_in (store_of i T l r (base_of a)) q
  unfolding store_of base_of written_in
  read_base left_store q apart = refl
  read_base right_store q apart = refl
  read_base (put s x is v) q apart = read_past_put (store_of i T l r s) _ q _ apart.0 ∙ read_base s q apart.1
  read_base (run k s) q apart = refl

  base_there : (a : StoreTerm) → is_some (store_of i T l r a) ≡ is_some (store_of i T l r (base_of a))
  unfolding store_of base_of
  base_there left_store = refl
  base_there right_store = refl
  base_there (put s x is v) = put_there (store_of i T l r s) _ _ ∙ base_there s
  base_there (run k s) = refl

  -- a cell is apart from the places, or is read alike
  located : (a c : StoreTerm) (q : Cell) (ps : List Place) → ReadAlike a c ps → Apart q ps ⊎ (read_in (store_of i T l r a) q ≡ read_in (store_of i T l r c) q)
  unfolding value_of
  located a c q [] alike = inl tt
  located a c q (p ∷ ps) alike =
      elim (cells_decided q (placed p)) as (λ _. Apart q (p ∷ ps) ⊎ (read_in (store_of i T l r a) q ≡ read_in (store_of i T l r c) q)) [
        | inl e ↦ inr (ap (read_in (store_of i T l r a)) e ∙ alike.0 ∙ ap (read_in (store_of i T l r c)) (sym e))
        | inr apart ↦ elim (located a c q ps alike.1) as (λ _. Apart q (p ∷ ps) ⊎ (read_in (store_of i T l r a) q ≡ read_in (store_of i T l r c) q)) [
          | inl others ↦ inl (apart, others)
          | inr same ↦ inr same
        ]
      ]

  pub stores_with_equal_writes : (a c : StoreTerm) → store_of i T l r (base_of a) ≡ store_of i T l r (base_of c) → ReadAlike a c (written_in a) → ReadAlike a c (written_in c) → store_of i T l r a ≡ store_of i T l r c
  stores_with_equal_writes a c bases in_a in_c = options_agree _ _ (base_there a ∙ ap is_some bases ∙ sym (base_there c)) reads
    where
      reads : (q : Cell) → read_in (store_of i T l r a) q ≡ read_in (store_of i T l r c) q
      reads q = elim (located a c q (written_in a) in_a) as (λ _. read_in (store_of i T l r a) q ≡ read_in (store_of i T l r c) q) [
        | inl not_a ↦ elim (located a c q (written_in c) in_c) as (λ _. read_in (store_of i T l r a) q ≡ read_in (store_of i T l r c) q) [
          | inl not_c ↦ read_base a q not_a ∙ ap (λ o. read_in o q) bases ∙ sym (read_base c q not_c)
          | inr same ↦ same
        ]
        | inr same ↦ same
      ]
