-- A node with two stores in place of L and R, from what stands in place of the numbers that it names.
use Rattle.std.specs.Prelude.{◌≡◌, ℕ, true, ◌&&◌, ℤ, List, [], ◌∷◌, None, slice_get, Result, Ok, Err, IfOk, OnOk, OnErr, refl}
use Rattle.std.proofs.Common.{sym, ◌∙◌, ap, subst}
use Rattle.std.proofs.lemmas.Option.{none-some, same_Some}
use Rattle.rule_terms.specs.Term.{StoreTerm, num}
use Rattle.rule_terms.specs.Substitute.{store_at, value_term_at, terms_at}
use Rattle.term_pool.specs.declared.node.Node.{Node}
use Rattle.term_pool.specs.declared.node.Node.TheVariants.{L, R, Put, Run, Num, Get, Ev, Add, Sub, Mul}
use Rattle.term_pool.specs.declared.node.PooledPlace.{PooledPlace}
use Rattle.term_pool.specs.Numbered.{Term, a_store, a_value, store_numbered, value_numbered, values_numbered, built, terms_of_nodes, has_store, has_value, has_values, names_earlier, IsNumber, AreNumbers, IsPool, Within, Stands}
use Rattle.term_pool.specs.Growth.{Adds, Extends, indices_terms}
use Rattle.term_pool.proofs.Places.{both}
use Rattle.term_pool.proofs.Grown.{grown_append, within_grown, store_found, value_found, values_stay, has_values_stay, stands_built, stands_names}
use Rattle.term_pool.proofs.Different.{number_has_node}
use Rattle.term_pool.proofs.Growing.{adds_extends, extends_none, extends_both}
use Rattle.term_pool.proofs.PutTerms.{Ready, ready_number, ready_added, put_ready, run_ready, get_ready, ev_ready, add_ready, sub_ready, mul_ready}
use Rattle.pool_goals.specs.Replaced.{term_at, term_terms, NumberAt, NumbersAt}
use Rattle.pool_goals.proofs.There.{adds_there}

pub extends_within : (a b : List Node) → Extends a b → Within (terms_of_nodes a) (terms_of_nodes b)
extends_within a b e i t h = ap (λ l. slice_get (terms_of_nodes l) i) e.1 ∙ ap (λ l. slice_get l i) (grown_append [] a e.0) ∙ within_grown (terms_of_nodes a) e.0 i t h

-- what stands ready in place of a number
pub record ReadyAt (a d : List Node) (left right n : ℕ) (node : Node) : Type 0 where
  pub at : (l r : StoreTerm) (t : Term) → IsNumber a left (a_store l) → IsNumber a right (a_store r) → IsNumber a n t → Ready a d node (term_at l r t) (term_terms (term_at l r t))

pub replaced : {E : Type 0} {a d : List Node} {left right n : ℕ} {node : Node} (e : List Node) (res : Result ℕ E) → ReadyAt a d left right n node
    → IfOk res (λ m. IsNumber e m (built (terms_of_nodes d) node)) → OnOk res (Adds d e (built (terms_of_nodes d) node ∷ [])) → IfOk res (λ m. NumberAt a e left right n m)
replaced {E = E} e (Ok m) ready h k = record { at = λ l r t hl hr ht. let q = ready.at l r t hl hr ht in (ready_number {E = E} (Ok m) e q h, ready_added {E = E} (Ok m) e q k) }
replaced e (Err x) ready h k = tt

pub named : {a d : List Node} {left right n : ℕ} {node was : Node} → ReadyAt a d left right n node → has_store (terms_of_nodes a) left ≡ true → has_store (terms_of_nodes a) right ≡ true
    → Stands (terms_of_nodes a) n was → names_earlier (terms_of_nodes d) node ≡ true
named {a} {d} {left} {right} {n} {node} {was} ready hl hr st =
    (ready.at (store_numbered (terms_of_nodes a) left) (store_numbered (terms_of_nodes a) right) (built (terms_of_nodes a) was)
    (store_found (terms_of_nodes a) left hl) (store_found (terms_of_nodes a) right hr) (stands_built st)).named

pub grows : {E : Type 0} (d e : List Node) (xs : List Term) (res : Result ℕ E) → OnOk res (Adds d e xs) → OnErr res (e ≡ d) → Extends d e
grows d e xs (Ok m) h k = adds_extends h
grows d e xs (Err x) h k = subst (Extends d) (sym k) (extends_none d)

module _ (a : List Node) (left right n : ℕ) where
  pub later : {b c : List Node} {j m : ℕ} → Extends a b → NumberAt b c left right j m → (l r : StoreTerm) (t : Term) → IsNumber a left (a_store l) → IsNumber a right (a_store r) → IsNumber a j t
      → IsNumber c m (term_at l r t) × Adds b c (term_terms (term_at l r t))
  later {b} {j = j} e f l r t hl hr ht = let w = extends_within a b e in f.at l r t (w left (a_store l) hl) (w right (a_store r) hr) (w j t ht)

  all_later : {b c : List Node} {js ms : List ℕ} → Extends a b → NumbersAt b c left right js ms → (l r : StoreTerm) → IsNumber a left (a_store l) → IsNumber a right (a_store r)
      → has_values (terms_of_nodes a) js ≡ true
      → AreNumbers c ms (terms_at l r (values_numbered (terms_of_nodes a) js)) × Adds b c (indices_terms (terms_at l r (values_numbered (terms_of_nodes a) js)))
  all_later {b} {c} {js} {ms} e f l r hl hr h =
      let w = extends_within a b e in
      let vs = values_stay (terms_of_nodes a) (terms_of_nodes b) w js h in
      subst (λ us. AreNumbers c ms (terms_at l r us) × Adds b c (indices_terms (terms_at l r us))) vs
      (f.at l r (w left (a_store l) hl) (w right (a_store r) hr) (has_values_stay (terms_of_nodes a) (terms_of_nodes b) w js h))

  by_node : {d : List Node} {node : Node} (was : Node) → Stands (terms_of_nodes a) n was
      → ((l r : StoreTerm) → IsNumber a left (a_store l) → IsNumber a right (a_store r)
      → Ready a d node (term_at l r (built (terms_of_nodes a) was)) (term_terms (term_at l r (built (terms_of_nodes a) was))))
      → ReadyAt a d left right n node
  by_node {d} {node} was st f = record {
    at = λ l r t hl hr ht.
        subst (λ u. Ready a d node (term_at l r u) (term_terms (term_at l r u))) (same_Some (built (terms_of_nodes a) was) t (sym (stands_built st) ∙ ht)) (f l r hl hr);
  }

  pub put_at : {b c d : List Node} (s v i k : ℕ) (p : PooledPlace) (js : List ℕ) → Stands (terms_of_nodes a) n (Put s p v) → NumberAt a b left right s i → Extends a b
      → NumbersAt b c left right p.indices js → Extends b c → NumberAt c d left right v k → ReadyAt a d left right n (Put i (record { name = p.name; indices = js }) k)
  unfolding names_earlier built store_at
  put_at {b} {c} {d} s v i k p js st f ab g bc h = by_node (Put s p v) st (λ l r hl hr.
      let ts = terms_of_nodes a in
      let x = both (has_store ts s) (has_values ts p.indices && has_value ts v) (stands_names st) in
      let y = both (has_values ts p.indices) (has_value ts v) x.1 in
      let first = f.at l r (a_store (store_numbered ts s)) hl hr (store_found ts s x.0) in
      let second = all_later ab g l r hl hr y.0 in
      let third = later (extends_both a b c ab bc) h l r (a_value (value_numbered ts v)) hl hr (value_found ts v y.1) in
      put_ready i p.name k js (store_at l r (store_numbered ts s)) (terms_at l r (values_numbered ts p.indices)) (value_term_at l r (value_numbered ts v))
      _ first.1 first.0 second.1 second.0 third.1 third.0 refl)

  pub run_at : {b : List Node} (j s i : ℕ) → Stands (terms_of_nodes a) n (Run j s) → NumberAt a b left right s i → ReadyAt a b left right n (Run j i)
  unfolding names_earlier built store_at
  run_at j s i st f = by_node (Run j s) st (λ l r hl hr.
      let ts = terms_of_nodes a in
      let first = f.at l r (a_store (store_numbered ts s)) hl hr (store_found ts s (stands_names st)) in
      run_ready j i (store_at l r (store_numbered ts s)) _ first.1 first.0 refl)

  pub get_at : {b c : List Node} (s i : ℕ) (p : PooledPlace) (js : List ℕ) → Stands (terms_of_nodes a) n (Get p s) → NumbersAt a b left right p.indices js → Extends a b
      → NumberAt b c left right s i → ReadyAt a c left right n (Get (record { name = p.name; indices = js }) i)
  unfolding names_earlier built store_at
  get_at {b} {c} s i p js st g ab f = by_node (Get p s) st (λ l r hl hr.
      let ts = terms_of_nodes a in
      let x = both (has_values ts p.indices) (has_store ts s) (stands_names st) in
      let first = g.at l r hl hr x.0 in
      let second = later ab f l r (a_store (store_numbered ts s)) hl hr (store_found ts s x.1) in
      get_ready p.name i js (terms_at l r (values_numbered ts p.indices)) (store_at l r (store_numbered ts s)) _ first.1 first.0 second.1 second.0 refl)

  pub ev_at : {b : List Node} (j s i : ℕ) → Stands (terms_of_nodes a) n (Ev j s) → NumberAt a b left right s i → ReadyAt a b left right n (Ev j i)
  unfolding names_earlier built store_at
  ev_at j s i st f = by_node (Ev j s) st (λ l r hl hr.
      let ts = terms_of_nodes a in
      let first = f.at l r (a_store (store_numbered ts s)) hl hr (store_found ts s (stands_names st)) in
      ev_ready j i (store_at l r (store_numbered ts s)) _ first.1 first.0 refl)

  -- two values
  record Two (b c : List Node) (x y i k : ℕ) (l r : StoreTerm) : Type 0 where
    pub first : IsNumber b i (a_value (value_term_at l r (value_numbered (terms_of_nodes a) x)))
    pub first_added : Adds a b (term_terms (a_value (value_term_at l r (value_numbered (terms_of_nodes a) x))))
    pub second : IsNumber c k (a_value (value_term_at l r (value_numbered (terms_of_nodes a) y)))
    pub second_added : Adds b c (term_terms (a_value (value_term_at l r (value_numbered (terms_of_nodes a) y))))

  two : {b c : List Node} (x y i k : ℕ) → (has_value (terms_of_nodes a) x && has_value (terms_of_nodes a) y) ≡ true → NumberAt a b left right x i → Extends a b → NumberAt b c left right y k
      → (l r : StoreTerm) → IsNumber a left (a_store l) → IsNumber a right (a_store r) → Two b c x y i k l r
  two x y i k h f ab g l r hl hr =
      let ts = terms_of_nodes a in
      let e = both (has_value ts x) (has_value ts y) h in
      let one = f.at l r (a_value (value_numbered ts x)) hl hr (value_found ts x e.0) in
      let other = later ab g l r (a_value (value_numbered ts y)) hl hr (value_found ts y e.1) in
      record { first = one.0; first_added = one.1; second = other.0; second_added = other.1 }

  pub add_at : {b c : List Node} (x y i k : ℕ) → Stands (terms_of_nodes a) n (Add x y) → NumberAt a b left right x i → Extends a b → NumberAt b c left right y k → ReadyAt a c left right n (Add i k)
  unfolding names_earlier built store_at
  add_at x y i k st f ab g = by_node (Add x y) st (λ l r hl hr.
      let ts = terms_of_nodes a in
      let q = two x y i k (stands_names st) f ab g l r hl hr in
      add_ready i k (value_term_at l r (value_numbered ts x)) (value_term_at l r (value_numbered ts y)) _ q.first_added q.first q.second_added q.second refl)

  pub sub_at : {b c : List Node} (x y i k : ℕ) → Stands (terms_of_nodes a) n (Sub x y) → NumberAt a b left right x i → Extends a b → NumberAt b c left right y k → ReadyAt a c left right n (Sub i k)
  unfolding names_earlier built store_at
  sub_at x y i k st f ab g = by_node (Sub x y) st (λ l r hl hr.
      let ts = terms_of_nodes a in
      let q = two x y i k (stands_names st) f ab g l r hl hr in
      sub_ready i k (value_term_at l r (value_numbered ts x)) (value_term_at l r (value_numbered ts y)) _ q.first_added q.first q.second_added q.second refl)

  pub mul_at : {b c : List Node} (x y i k : ℕ) → Stands (terms_of_nodes a) n (Mul x y) → NumberAt a b left right x i → Extends a b → NumberAt b c left right y k → ReadyAt a c left right n (Mul i k)
  unfolding names_earlier built store_at
  mul_at x y i k st f ab g = by_node (Mul x y) st (λ l r hl hr.
      let ts = terms_of_nodes a in
      let q = two x y i k (stands_names st) f ab g l r hl hr in
      mul_ready i k (value_term_at l r (value_numbered ts x)) (value_term_at l r (value_numbered ts y)) _ q.first_added q.first q.second_added q.second refl)

  -- what stays: the two sides, and constants
  same_term : (was : Node) (t : Term) → Stands (terms_of_nodes a) n was → IsNumber a n t → built (terms_of_nodes a) was ≡ t
  same_term was t st ht = same_Some (built (terms_of_nodes a) was) t (sym (stands_built st) ∙ ht)

  pub left_at : IsPool a → Stands (terms_of_nodes a) n L → NumberAt a a left right n left
  unfolding built store_at
  left_at pool st = record {
    at = λ l r t hl hr ht.
        subst (λ u. IsNumber a left (term_at l r u) × Adds a a (term_terms (term_at l r u))) (same_term L t st ht) (hl, adds_there a pool left (a_store l) hl);
  }

  pub right_at : IsPool a → Stands (terms_of_nodes a) n R → NumberAt a a left right n right
  unfolding built store_at
  right_at pool st = record {
    at = λ l r t hl hr ht.
        subst (λ u. IsNumber a right (term_at l r u) × Adds a a (term_terms (term_at l r u))) (same_term R t st ht) (hr, adds_there a pool right (a_store r) hr);
  }

  pub num_at : (z : ℤ) → IsPool a → Stands (terms_of_nodes a) n (Num z) → NumberAt a a left right n n
  unfolding built store_at
  num_at z pool st = record {
    at = λ l r t hl hr ht.
        subst (λ u. IsNumber a n (term_at l r u) × Adds a a (term_terms (term_at l r u))) (same_term (Num z) t st ht) (stands_built st, adds_there a pool n (a_value (num z)) (stands_built st));
  }

  -- a number of no node
  pub none_at : (m : ℕ) → None ≡ slice_get a n → NumberAt a a left right n m
  none_at m h = record { at = λ l r t hl hr ht. let k = number_has_node a n t ht in absurd (none-some k.0 (h ∙ k.1)) }
