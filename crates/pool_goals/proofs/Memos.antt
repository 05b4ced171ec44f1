-- What is kept while numbers are replaced, and numbers of indices one after another.
use Rattle.std.specs.Prelude.{◌≡◌, ℕ, ◌+◌, ◌<◌, Bool, true, false, cond, nat_eq, List, [], ◌∷◌, ◌++◌, length, take, Some, Result, Ok, Err, OnOk, refl, ◌≤◌}
use Rattle.std.proofs.Common.{sym, ◌∙◌, ap, subst, arith, get_or}
use Rattle.std.proofs.lemmas.Bool.{eqb-true}
use Rattle.std.proofs.lemmas.List.{append_assoc, append-nil, take_more}
use Rattle.std.proofs.lemmas.Option.{none-some, same_Some, slice_get_within}
use Rattle.rule_terms.specs.Term.{StoreTerm, ValueTerm, ValueTerms, no_terms, term}
use Rattle.rule_terms.specs.Substitute.{value_term_at, terms_at}
use Rattle.term_pool.specs.declared.node.Node.{Node}
use Rattle.term_pool.specs.Numbered.{Term, a_store, a_value, as_store, as_value, is_value_there, store_numbered, value_numbered, values_numbered, terms_of_nodes, has_store, has_value, has_values, IsNumber, IsPool, Within}
use Rattle.term_pool.specs.Growth.{Adds, Extends, value_terms, indices_terms}
use Rattle.term_pool.proofs.Places.{there, both, and_true}
use Rattle.term_pool.proofs.Grown.{length_grown, store_found, value_found, has_store_stays}
use Rattle.term_pool.proofs.Growing.{adds_both, adds_extends, adds_nothing}
use Rattle.term_pool.proofs.PutTerms.{all_stay}
use Rattle.pool_goals.specs.Replaced.{term_at, NumberAt, NumbersAt, made_at, Makes, Replaced, Sound}
use Rattle.pool_goals.proofs.There.{adds_there}
use Rattle.pool_goals.proofs.Arms.{extends_within, later}

pub nothing_kept : (ns : List Node) (left right : ℕ) → has_store (terms_of_nodes ns) left ≡ true → has_store (terms_of_nodes ns) right ≡ true → Sound ns left right []
nothing_kept ns left right hl hr = record { left_is = hl; right_is = hr; kept = λ n m h. absurd (none-some m h) }

replaced_stays : {a b : List Node} {left right n m : ℕ} → Within (terms_of_nodes a) (terms_of_nodes b) → Replaced a left right n m → Replaced b left right n m
replaced_stays {left = left} {right = right} {n = n} {m = m} w p = record {
  l = p.l;
  r = p.r;
  t = p.t;
  left_is = w left (a_store p.l) p.left_is;
  right_is = w right (a_store p.r) p.right_is;
  from = w n p.t p.from;
  is = w m (term_at p.l p.r p.t) p.is;
}

pub sound_stays : (a b : List Node) {left right : ℕ} {made : List (ℕ × ℕ)} → Extends a b → Sound a left right made → Sound b left right made
sound_stays a b {left} {right} e s =
    let w = extends_within a b e in
    record {
      left_is = has_store_stays (terms_of_nodes a) (terms_of_nodes b) w left s.left_is;
      right_is = has_store_stays (terms_of_nodes a) (terms_of_nodes b) w right s.right_is;
      kept = λ n m h. replaced_stays w (s.kept n m h);
    }

pub sound_added : {E : Type 0} {left right : ℕ} {made : List (ℕ × ℕ)} (d e : List Node) (xs : List Term) (res : Result ℕ E) → OnOk res (Adds d e xs) → Sound d left right made → OnOk res (Sound e left right made)
sound_added d e xs (Ok m) h s = sound_stays d e (adds_extends h) s
sound_added d e xs (Err x) h s = tt

-- what is kept for a number stands in its place
pub known_at : {a : List Node} {left right n m : ℕ} {made : List (ℕ × ℕ)} → IsPool a → Sound a left right made → made_at made n ≡ Some m → NumberAt a a left right n m
known_at {a} {left} {right} {n} {m} pool s h = record {
  at = λ l r t hl hr ht.
      let k = s.kept n m h in
      let el : k.l ≡ l = ap as_store (sym k.left_is ∙ hl) in
      let er : k.r ≡ r = ap as_store (sym k.right_is ∙ hr) in
      let et : k.t ≡ t = same_Some k.t t (sym k.from ∙ ht) in
      let is : IsNumber a m (term_at l r t) = k.is ∙ (λ j. Some (term_at (el j) (er j) (et j))) in
      (is, adds_there a pool m (term_at l r t) is);
}

-- a number past the end is of no term
pub past_at : {a : List Node} {left right : ℕ} (n m : ℕ) → length a ≤ n → NumberAt a a left right n m
past_at {a} n m h = record { at = λ l r t hl hr ht. absurd (omega (arith, slice_get_within (terms_of_nodes a) n t ht, length_grown [] a, h)) }

pub made_sound : {a b : List Node} {left right n m : ℕ} {first old new : List (ℕ × ℕ)} → Sound a left right first → n < length a → NumberAt a b left right n m → Extends a b → Sound b left right old → Makes old new n m
    → Sound b left right new
made_sound {a} {b} {left} {right} {n} {m} {first} {old} {new} s few f e now makes =
    record { left_is = now.left_is; right_is = now.right_is; kept = λ k q h. by k q (nat_eq n k) refl h }
  where
    this : Replaced b left right n m
    this =
        let ts = terms_of_nodes a in
        let w = extends_within a b e in
        let t = there ts n (omega (arith, few, length_grown [] a)) in
        let hl = store_found ts left s.left_is in
        let hr = store_found ts right s.right_is in
        record {
          l = store_numbered ts left;
          r = store_numbered ts right;
          t = t.0;
          left_is = w left (a_store (store_numbered ts left)) hl;
          right_is = w right (a_store (store_numbered ts right)) hr;
          from = w n t.0 t.1;
          is = (f.at (store_numbered ts left) (store_numbered ts right) t.0 hl hr t.1).0;
        }

    by : (k q : ℕ) (c : Bool) → nat_eq n k ≡ c → made_at new k ≡ Some q → Replaced b left right k q
    by k q true i h =
        let same : m ≡ q = same_Some m q (sym (ap (λ c. cond c (Some m) (made_at old k)) i) ∙ sym (makes k) ∙ h) in
        let place : n ≡ k = eqb-true n k i in
        subst (λ x. Replaced b left right x q) place (subst (λ x. Replaced b left right n x) same this)
    by k q false i h = now.kept k q (sym (ap (λ c. cond c (Some m) (made_at old k)) i) ∙ sym (makes k) ∙ h)

-- ---- indices, one after another
snoc : ValueTerms → ValueTerm → ValueTerms
snoc no_terms w = term w no_terms
snoc (term u us) w = term u (snoc us w)

values_snoc : (ts : List Term) (js : List ℕ) (n : ℕ) → values_numbered ts (js ++ n ∷ []) ≡ snoc (values_numbered ts js) (value_numbered ts n)
unfolding values_numbered snoc
values_snoc ts [] n = refl
values_snoc ts (i ∷ js) n = ap (term (value_numbered ts i)) (values_snoc ts js n)

terms_at_snoc : (l r : StoreTerm) (vs : ValueTerms) (v : ValueTerm) → terms_at l r (snoc vs v) ≡ snoc (terms_at l r vs) (value_term_at l r v)
unfolding terms_at snoc
terms_at_snoc l r no_terms v = refl
terms_at_snoc l r (term u us) v = ap (term (value_term_at l r u)) (terms_at_snoc l r us v)

indices_snoc : (vs : ValueTerms) (v : ValueTerm) → indices_terms (snoc vs v) ≡ indices_terms vs ++ value_terms v
unfolding indices_terms snoc
indices_snoc no_terms v = append-nil (value_terms v)
indices_snoc (term u us) v = ap (λ l. value_terms u ++ l) (indices_snoc us v) ∙ sym (append_assoc (value_terms u) (indices_terms us) (value_terms v))

has_pushed : (ts : List Term) (js : List ℕ) (n : ℕ) → has_values ts js ≡ true → has_value ts n ≡ true → has_values ts (js ++ n ∷ []) ≡ true
unfolding has_values
has_pushed ts [] n h k = and_true k refl
has_pushed ts (i ∷ js) n h k = let b = both (has_value ts i) (has_values ts js) h in and_true b.0 (has_pushed ts js n b.1 k)

has_parts : (ts : List Term) (js : List ℕ) (n : ℕ) → has_values ts (js ++ n ∷ []) ≡ true → (has_values ts js ≡ true) × (has_value ts n ≡ true)
unfolding has_values
has_parts ts [] n h = (refl, (both (has_value ts n) true h).0)
has_parts ts (i ∷ js) n h =
    let b = both (has_value ts i) (has_values ts (js ++ n ∷ [])) h in
    let c = has_parts ts js n b.1 in
    (and_true b.0 c.0, c.1)

numbers_push : {a b c : List Node} {left right : ℕ} (xs ms : List ℕ) (n m : ℕ) → NumbersAt a b left right xs ms → Extends a b → NumberAt b c left right n m → NumbersAt a c left right (xs ++ n ∷ []) (ms ++ m ∷ [])
numbers_push {a} {b} {c} {left} {right} xs ms n m f ab g = record {
  at = λ l r hl hr h.
      let ts = terms_of_nodes a in
      let us = terms_of_nodes c in
      let k = has_parts ts xs n h in
      let first = f.at l r hl hr k.0 in
      let second = later a left right n ab g l r (a_value (value_numbered ts n)) hl hr (value_found ts n k.1) in
      let stayed = all_stay ms (terms_at l r (values_numbered ts xs)) second.1 first.0 in
      let whole : terms_at l r (values_numbered ts (xs ++ n ∷ [])) ≡ snoc (terms_at l r (values_numbered ts xs)) (value_term_at l r (value_numbered ts n))
      = ap (terms_at l r) (values_snoc ts xs n) ∙ terms_at_snoc l r (values_numbered ts xs) (value_numbered ts n) in (
        (has_pushed us ms m stayed.0 (ap is_value_there second.0), values_snoc us ms m ∙ (λ j. snoc (stayed.1 j) (as_value (second.0 j))) ∙ sym whole),
        subst (Adds a c) (sym (ap indices_terms whole ∙ indices_snoc (terms_at l r (values_numbered ts xs)) (value_term_at l r (value_numbered ts n)))) (adds_both first.1 second.1),
      );
}

pub numbers_next : {a b c : List Node} {left right : ℕ} (numbers : List ℕ) (i d : ℕ) (ms : List ℕ) (m : ℕ) → NumbersAt a b left right (take i numbers) ms → Extends a b
    → NumberAt b c left right (get_or numbers i d) m → i < length numbers → NumbersAt a c left right (take (i + 1) numbers) (ms ++ m ∷ [])
numbers_next {a} {b} {c} {left} {right} numbers i d ms m f ab g h =
    subst (λ xs. NumbersAt a c left right xs (ms ++ m ∷ [])) (sym (take_more numbers i d h)) (numbers_push (take i numbers) ms (get_or numbers i d) m f ab g)

pub numbers_none : (a : List Node) (left right : ℕ) → NumbersAt a a left right [] []
unfolding has_values values_numbered terms_at indices_terms
numbers_none a left right = record { at = λ l r hl hr h. ((refl, refl), adds_nothing a) }
