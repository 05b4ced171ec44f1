-- Stores in place of L and R: nodes, depth and parts of what is replaced.
use Rattle.std.specs.Prelude.{◌≡◌, ◌+◌, ◌≤◌, suc, max, List, [], ◌∷◌, ◌++◌, Contains, refl}
use Rattle.std.proofs.Common.{sym, ap, subst, arith, ◌⊎◌, inl, inr}
use Rattle.rule_terms.specs.Term.{StoreTerm, left_store, right_store, put, run, ValueTerm, num, get, ev, add, sub, mul, ValueTerms, no_terms, term, store_depth, value_depth, terms_depth}
use Rattle.rule_terms.specs.Parts.{Part, a_store, a_value, a_place, an_expr, store_parts, value_parts, terms_parts}
use Rattle.rule_terms.specs.Counts.{store_nodes, value_nodes, terms_nodes}
use Rattle.rule_terms.specs.Substitute.{store_at, value_term_at, terms_at}
use Rattle.rule_terms.specs.SubstituteLaws.{store_weight, value_weight, terms_weight, part_at, NodesReplaced, DepthReplaced, SidesStay, ReplacedTwice, PartsReplaced, NothingElse}
use Rattle.rule_terms.proofs.Members.{In, in_from, from_in, in_left, in_right, in_either}

mutual
  unfolding store_at store_nodes store_weight

  store_counted : (l r s : StoreTerm) → store_nodes (store_at l r s) ≡ store_weight (store_nodes l) (store_nodes r) s
  store_counted l r left_store = refl
  store_counted l r right_store = refl
  store_counted l r (put s x is v) = λ i. suc (store_counted l r s i + (terms_counted l r is i + value_counted l r v i))
  store_counted l r (run k s) = λ i. suc (store_counted l r s i)

  value_counted : (l r : StoreTerm) (v : ValueTerm) → value_nodes (value_term_at l r v) ≡ value_weight (store_nodes l) (store_nodes r) v
  value_counted l r (num z) = refl
  value_counted l r (get x is s) = λ i. suc (terms_counted l r is i + store_counted l r s i)
  value_counted l r (ev k s) = λ i. suc (store_counted l r s i)
  value_counted l r (add a b) = λ i. suc (value_counted l r a i + value_counted l r b i)
  value_counted l r (sub a b) = λ i. suc (value_counted l r a i + value_counted l r b i)
  value_counted l r (mul a b) = λ i. suc (value_counted l r a i + value_counted l r b i)

  terms_counted : (l r : StoreTerm) (vs : ValueTerms) → terms_nodes (terms_at l r vs) ≡ terms_weight (store_nodes l) (store_nodes r) vs
  terms_counted l r no_terms = refl
  terms_counted l r (term v vs) = λ i. value_counted l r v i + terms_counted l r vs i

pub nodes_replaced : NodesReplaced
nodes_replaced = (store_counted, value_counted)

deep : (s : StoreTerm) → 1 ≤ store_depth s
deep left_store = omega arith
deep right_store = omega arith
deep (put s x is v) = omega arith
deep (run k s) = omega arith

mutual
  unfolding store_at

  store_deeper : (l r s : StoreTerm) → suc (store_depth (store_at l r s)) ≤ store_depth s + max (store_depth l) (store_depth r)
  store_deeper l r left_store = omega arith
  store_deeper l r right_store = omega arith
  store_deeper l r (put s x is v) = omega (arith, store_deeper l r s, terms_deeper l r is, value_deeper l r v)
  store_deeper l r (run k s) = omega (arith, store_deeper l r s)

  value_deeper : (l r : StoreTerm) (v : ValueTerm) → suc (value_depth (value_term_at l r v)) ≤ value_depth v + max (store_depth l) (store_depth r)
  value_deeper l r (num z) = omega (arith, deep l)
  value_deeper l r (get x is s) = omega (arith, terms_deeper l r is, store_deeper l r s)
  value_deeper l r (ev k s) = omega (arith, store_deeper l r s)
  value_deeper l r (add a b) = omega (arith, value_deeper l r a, value_deeper l r b)
  value_deeper l r (sub a b) = omega (arith, value_deeper l r a, value_deeper l r b)
  value_deeper l r (mul a b) = omega (arith, value_deeper l r a, value_deeper l r b)

  terms_deeper : (l r : StoreTerm) (vs : ValueTerms) → suc (terms_depth (terms_at l r vs)) ≤ terms_depth vs + max (store_depth l) (store_depth r)
  terms_deeper l r no_terms = omega (arith, deep l)
  terms_deeper l r (term v vs) = omega (arith, value_deeper l r v, terms_deeper l r vs)

pub depth_replaced : DepthReplaced
depth_replaced = (store_deeper, value_deeper)

mutual
  unfolding store_at

  store_stays : (s : StoreTerm) → store_at left_store right_store s ≡ s
  store_stays left_store = refl
  store_stays right_store = refl
  store_stays (put s x is v) = λ i. put (store_stays s i) x (terms_stay is i) (value_stays v i)
  store_stays (run k s) = λ i. run k (store_stays s i)

  value_stays : (v : ValueTerm) → value_term_at left_store right_store v ≡ v
  value_stays (num z) = refl
  value_stays (get x is s) = λ i. get x (terms_stay is i) (store_stays s i)
  value_stays (ev k s) = λ i. ev k (store_stays s i)
  value_stays (add a b) = λ i. add (value_stays a i) (value_stays b i)
  value_stays (sub a b) = λ i. sub (value_stays a i) (value_stays b i)
  value_stays (mul a b) = λ i. mul (value_stays a i) (value_stays b i)

  terms_stay : (vs : ValueTerms) → terms_at left_store right_store vs ≡ vs
  terms_stay no_terms = refl
  terms_stay (term v vs) = λ i. term (value_stays v i) (terms_stay vs i)

pub sides_stay : SidesStay
sides_stay = (store_stays, value_stays)

mutual
  unfolding store_at

  store_twice : (l r a b s : StoreTerm) → store_at l r (store_at a b s) ≡ store_at (store_at l r a) (store_at l r b) s
  store_twice l r a b left_store = refl
  store_twice l r a b right_store = refl
  store_twice l r a b (put s x is v) = λ i. put (store_twice l r a b s i) x (terms_twice l r a b is i) (value_twice l r a b v i)
  store_twice l r a b (run k s) = λ i. run k (store_twice l r a b s i)

  value_twice : (l r a b : StoreTerm) (v : ValueTerm) → value_term_at l r (value_term_at a b v) ≡ value_term_at (store_at l r a) (store_at l r b) v
  value_twice l r a b (num z) = refl
  value_twice l r a b (get x is s) = λ i. get x (terms_twice l r a b is i) (store_twice l r a b s i)
  value_twice l r a b (ev k s) = λ i. ev k (store_twice l r a b s i)
  value_twice l r a b (add v w) = λ i. add (value_twice l r a b v i) (value_twice l r a b w i)
  value_twice l r a b (sub v w) = λ i. sub (value_twice l r a b v i) (value_twice l r a b w i)
  value_twice l r a b (mul v w) = λ i. mul (value_twice l r a b v i) (value_twice l r a b w i)

  terms_twice : (l r a b : StoreTerm) (vs : ValueTerms) → terms_at l r (terms_at a b vs) ≡ terms_at (store_at l r a) (store_at l r b) vs
  terms_twice l r a b no_terms = refl
  terms_twice l r a b (term v vs) = λ i. term (value_twice l r a b v i) (terms_twice l r a b vs i)

pub replaced_twice : ReplacedTwice
replaced_twice = (store_twice, value_twice)

-- what is in lists beside one another is in lists beside one another
in_two : {X : Type 0} (xs ys us ws : List X) (p q : X) → (In p xs → In q us) → (In p ys → In q ws) → In p (xs ++ ys) → In q (us ++ ws)
in_two xs ys us ws p q f g h = elim (in_either xs ys p h) [ inl a ↦ in_left us ws q (f a) | inr b ↦ in_right us ws q (g b) ]

top_store : (s : StoreTerm) → In (a_store s) (store_parts s)
unfolding store_parts
top_store left_store = inl refl
top_store right_store = inl refl
top_store (put s x is v) = inl refl
top_store (run k s) = inl refl

-- behind the top of a term
behind : (l r : StoreTerm) (top p : Part) (ps qs : List Part) → (In p ps → In (part_at l r p) qs) → In p (top ∷ ps) → In (part_at l r p) (part_at l r top ∷ qs)
behind l r top p ps qs f (inl e) = inl (ap (part_at l r) e)
behind l r top p ps qs f (inr h) = inr (f h)

mutual
  unfolding store_at store_parts

  store_moves : (l r s : StoreTerm) (p : Part) → In p (store_parts s) → In (part_at l r p) (store_parts (store_at l r s))
  store_moves l r left_store p (inl e) = subst (λ q. In (part_at l r q) (store_parts l)) e (top_store l)
  store_moves l r left_store p (inr h) = elim h [ ]
  store_moves l r right_store p (inl e) = subst (λ q. In (part_at l r q) (store_parts r)) e (top_store r)
  store_moves l r right_store p (inr h) = elim h [ ]
  store_moves l r (put s x is v) p h =
      behind l r (a_store (put s x is v)) p (a_place (record { name = x; indices = is }) ∷ (store_parts s ++ (terms_parts is ++ value_parts v))) (a_place (record { name = x; indices = terms_at l r is }) ∷ (store_parts (store_at l r s) ++ (terms_parts (terms_at l r is) ++ value_parts (value_term_at l r v))))
      (behind l r (a_place (record { name = x; indices = is })) p (store_parts s ++ (terms_parts is ++ value_parts v)) _
      (in_two (store_parts s) (terms_parts is ++ value_parts v) _ _ p (part_at l r p) (store_moves l r s p)
      (in_two (terms_parts is) (value_parts v) _ _ p (part_at l r p) (terms_move l r is p) (value_moves l r v p)))) h
  store_moves l r (run k s) p h = behind l r (a_store (run k s)) p (store_parts s) _ (store_moves l r s p) h

  value_moves : (l r : StoreTerm) (v : ValueTerm) (p : Part) → In p (value_parts v) → In (part_at l r p) (value_parts (value_term_at l r v))
  value_moves l r (num z) p h = behind l r (a_value (num z)) p [] [] (λ k. elim k [ ]) h
  value_moves l r (get x is s) p h =
      behind l r (a_value (get x is s)) p (a_place (record { name = x; indices = is }) ∷ (terms_parts is ++ store_parts s)) (a_place (record { name = x; indices = terms_at l r is }) ∷ (terms_parts (terms_at l r is) ++ store_parts (store_at l r s)))
      (behind l r (a_place (record { name = x; indices = is })) p (terms_parts is ++ store_parts s) _
      (in_two (terms_parts is) (store_parts s) _ _ p (part_at l r p) (terms_move l r is p) (store_moves l r s p))) h
  value_moves l r (ev k s) p h = behind l r (a_value (ev k s)) p (an_expr k ∷ store_parts s) (an_expr k ∷ store_parts (store_at l r s)) (behind l r (an_expr k) p (store_parts s) _ (store_moves l r s p)) h
  value_moves l r (add a b) p h = behind l r (a_value (add a b)) p (value_parts a ++ value_parts b) _ (in_two (value_parts a) (value_parts b) _ _ p (part_at l r p) (value_moves l r a p) (value_moves l r b p)) h
  value_moves l r (sub a b) p h = behind l r (a_value (sub a b)) p (value_parts a ++ value_parts b) _ (in_two (value_parts a) (value_parts b) _ _ p (part_at l r p) (value_moves l r a p) (value_moves l r b p)) h
  value_moves l r (mul a b) p h = behind l r (a_value (mul a b)) p (value_parts a ++ value_parts b) _ (in_two (value_parts a) (value_parts b) _ _ p (part_at l r p) (value_moves l r a p) (value_moves l r b p)) h

  terms_move : (l r : StoreTerm) (vs : ValueTerms) (p : Part) → In p (terms_parts vs) → In (part_at l r p) (terms_parts (terms_at l r vs))
  terms_move l r no_terms p h = elim h [ ]
  terms_move l r (term v vs) p h = in_two (value_parts v) (terms_parts vs) _ _ p (part_at l r p) (value_moves l r v p) (terms_move l r vs p) h

pub parts_replaced : PartsReplaced
parts_replaced = (
  (λ l r s p c. from_in (store_parts (store_at l r s)) (part_at l r p) (store_moves l r s p (in_from (store_parts s) p c))),
  (λ l r v p c. from_in (value_parts (value_term_at l r v)) (part_at l r p) (value_moves l r v p (in_from (value_parts v) p c))),
)

-- where a part of a replaced term comes from
data Comes (l r : StoreTerm) (ps : List Part) (q : Part) : Type 0 where
  moved : (p : Part) → In p ps → q ≡ part_at l r p → Comes l r ps q
  of_left : In q (store_parts l) → Comes l r ps q
  of_right : In q (store_parts r) → Comes l r ps q

wider : {l r : StoreTerm} (ps qs : List Part) (q : Part) → ((p : Part) → In p ps → In p qs) → Comes l r ps q → Comes l r qs q
wider ps qs q f (moved p h e) = moved p (f p h) e
wider ps qs q f (of_left h) = of_left h
wider ps qs q f (of_right h) = of_right h

from_top : {l r : StoreTerm} (top q : Part) (ps qs : List Part) → (In q qs → Comes l r ps q) → In q (part_at l r top ∷ qs) → Comes l r (top ∷ ps) q
from_top top q ps qs f (inl e) = moved top (inl refl) (sym e)
from_top top q ps qs f (inr h) = wider ps (top ∷ ps) q (λ p k. inr k) (f h)

from_two : {l r : StoreTerm} (xs ys us ws : List Part) (q : Part) → (In q us → Comes l r xs q) → (In q ws → Comes l r ys q) → In q (us ++ ws) → Comes l r (xs ++ ys) q
from_two xs ys us ws q f g h = elim (in_either us ws q h) [
  | inl a ↦ wider xs (xs ++ ys) q (λ p k. in_left xs ys p k) (f a)
  | inr b ↦ wider ys (xs ++ ys) q (λ p k. in_right xs ys p k) (g b)
]

mutual
  unfolding store_at store_parts

  store_comes : (l r s : StoreTerm) (q : Part) → In q (store_parts (store_at l r s)) → Comes l r (store_parts s) q
  store_comes l r left_store q h = of_left h
  store_comes l r right_store q h = of_right h
  store_comes l r (put s x is v) q h =
      from_top (a_store (put s x is v)) q (a_place (record { name = x; indices = is }) ∷ (store_parts s ++ (terms_parts is ++ value_parts v))) (a_place (record { name = x; indices = terms_at l r is }) ∷ (store_parts (store_at l r s) ++ (terms_parts (terms_at l r is) ++ value_parts (value_term_at l r v))))
      (from_top (a_place (record { name = x; indices = is })) q (store_parts s ++ (terms_parts is ++ value_parts v)) _
      (from_two (store_parts s) (terms_parts is ++ value_parts v) _ _ q (store_comes l r s q)
      (from_two (terms_parts is) (value_parts v) _ _ q (terms_come l r is q) (value_comes l r v q)))) h
  store_comes l r (run k s) q h = from_top (a_store (run k s)) q (store_parts s) _ (store_comes l r s q) h

  value_comes : (l r : StoreTerm) (v : ValueTerm) (q : Part) → In q (value_parts (value_term_at l r v)) → Comes l r (value_parts v) q
  value_comes l r (num z) q h = from_top (a_value (num z)) q [] [] (λ k. elim k [ ]) h
  value_comes l r (get x is s) q h =
      from_top (a_value (get x is s)) q (a_place (record { name = x; indices = is }) ∷ (terms_parts is ++ store_parts s)) (a_place (record { name = x; indices = terms_at l r is }) ∷ (terms_parts (terms_at l r is) ++ store_parts (store_at l r s)))
      (from_top (a_place (record { name = x; indices = is })) q (terms_parts is ++ store_parts s) _
      (from_two (terms_parts is) (store_parts s) _ _ q (terms_come l r is q) (store_comes l r s q))) h
  value_comes l r (ev k s) q h = from_top (a_value (ev k s)) q (an_expr k ∷ store_parts s) (an_expr k ∷ store_parts (store_at l r s)) (from_top (an_expr k) q (store_parts s) _ (store_comes l r s q)) h
  value_comes l r (add a b) q h = from_top (a_value (add a b)) q (value_parts a ++ value_parts b) _ (from_two (value_parts a) (value_parts b) _ _ q (value_comes l r a q) (value_comes l r b q)) h
  value_comes l r (sub a b) q h = from_top (a_value (sub a b)) q (value_parts a ++ value_parts b) _ (from_two (value_parts a) (value_parts b) _ _ q (value_comes l r a q) (value_comes l r b q)) h
  value_comes l r (mul a b) q h = from_top (a_value (mul a b)) q (value_parts a ++ value_parts b) _ (from_two (value_parts a) (value_parts b) _ _ q (value_comes l r a q) (value_comes l r b q)) h

  terms_come : (l r : StoreTerm) (vs : ValueTerms) (q : Part) → In q (terms_parts (terms_at l r vs)) → Comes l r (terms_parts vs) q
  terms_come l r no_terms q h = elim h [ ]
  terms_come l r (term v vs) q h = from_two (value_parts v) (terms_parts vs) _ _ q (value_comes l r v q) (terms_come l r vs q) h

abbrev Told : StoreTerm → StoreTerm → List Part → Part → Type 0
Told l r ps q = ((p : Part) × Contains ps p × (q ≡ part_at l r p)) ⊎ (Contains (store_parts l) q ⊎ Contains (store_parts r) q)

told : (l r : StoreTerm) (ps : List Part) (q : Part) → Comes l r ps q → Told l r ps q
told l r ps q (moved p h e) = inl (p, from_in ps p h, e)
told l r ps q (of_left h) = inr (inl (from_in (store_parts l) q h))
told l r ps q (of_right h) = inr (inr (from_in (store_parts r) q h))

pub nothing_else : NothingElse
nothing_else = (
  (λ l r s q c. told l r (store_parts s) q (store_comes l r s q (in_from (store_parts (store_at l r s)) q c))),
  (λ l r v q c. told l r (value_parts v) q (value_comes l r v q (in_from (value_parts (value_term_at l r v)) q c))),
)
