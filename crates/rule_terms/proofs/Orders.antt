-- The order of terms is total, and two terms are equal exactly where neither is before the other.
-- A term is spelled as a list of symbols, one for each constructor; the order is the lexicographic one of these lists.
use Rattle.std.specs.Prelude.{◌≡◌, ◌↔◌, ℕ, ℤ, pos, List, [], ◌∷◌, refl}
use Rattle.std.proofs.Common.{sym, ◌∙◌, ap, subst}
use Rattle.std.specs.Ordering.{nat_cmp, int_cmp, ordering_then, on}
use Rattle.std.specs.declared.cmp.Ordering.{Ordering}
use Rattle.std.specs.declared.cmp.Ordering.TheVariants.{Less, Equal, Greater}
use Rattle.std.specs.Cmp.{IsTotalOrder}
use Rattle.std.specs.Cmp.Lexicographic.{slice_cmp}
use Rattle.std.proofs.lemmas.Cmp.{ranked, int_ranked, nat_cmp_total, int_cmp_total, tied_itself, on_total, then_total, lists_total}
use Rattle.rule_terms.specs.Term.{StoreTerm, left_store, right_store, put, run, ValueTerm, num, get, ev, add, sub, mul, ValueTerms, no_terms, term, Place}
use Rattle.rule_terms.specs.Parts.{Part, a_store, a_value, a_place, an_expr, a_test}
use Rattle.rule_terms.specs.Order.{store_cmp, value_cmp, terms_cmp, place_cmp, part_cmp}

abbrev Symbol : Type 0
Symbol = ℕ × (ℕ × ℤ)

abbrev symbol_cmp : Symbol → Symbol → Ordering
symbol_cmp a b = ordering_then (nat_cmp a.0 b.0) (ordering_then (nat_cmp a.1.0 b.1.0) (int_cmp a.1.1 b.1.1))

symbol_total : IsTotalOrder symbol_cmp
symbol_total = then_total (on_total (λ (a : Symbol). a.0) nat_cmp_total) (then_total (on_total (λ (a : Symbol). a.1.0) nat_cmp_total) (on_total (λ (a : Symbol). a.1.1) int_cmp_total))

abbrev sign : ℕ → ℕ → Symbol
sign c k = (c, (k, pos 0))

-- the symbols of a term, in front of others
abbrev mutual
  store_symbols : StoreTerm → List Symbol → List Symbol
  store_symbols left_store more = sign 0 0 ∷ more
  store_symbols right_store more = sign 1 0 ∷ more
  store_symbols (put s x is v) more = sign 2 x ∷ store_symbols s (terms_symbols is (value_symbols v more))
  store_symbols (run k s) more = sign 3 k ∷ store_symbols s more

  value_symbols : ValueTerm → List Symbol → List Symbol
  value_symbols (num z) more = (0, (0, z)) ∷ more
  value_symbols (get x is s) more = sign 1 x ∷ terms_symbols is (store_symbols s more)
  value_symbols (ev k s) more = sign 2 k ∷ store_symbols s more
  value_symbols (add a b) more = sign 3 0 ∷ value_symbols a (value_symbols b more)
  value_symbols (sub a b) more = sign 4 0 ∷ value_symbols a (value_symbols b more)
  value_symbols (mul a b) more = sign 5 0 ∷ value_symbols a (value_symbols b more)

  terms_symbols : ValueTerms → List Symbol → List Symbol
  terms_symbols no_terms more = sign 0 0 ∷ more
  terms_symbols (term v vs) more = sign 1 0 ∷ value_symbols v (terms_symbols vs more)

abbrev spelled : List Symbol → List Symbol → Ordering
spelled j k = slice_cmp symbol_cmp j k

then_equal : (a : Ordering) → ordering_then a Equal ≡ a
then_equal Less = refl
then_equal Equal = refl
then_equal Greater = refl

then_then : (a b c : Ordering) → ordering_then a (ordering_then b c) ≡ ordering_then (ordering_then a b) c
then_then Less b c = refl
then_then Equal b c = refl
then_then Greater b c = refl

-- a symbol with a number, then one, two or three arguments
one : (a b e : Ordering) → ordering_then (ordering_then a Equal) (ordering_then b e) ≡ ordering_then (ordering_then a b) e
one Less b e = refl
one Equal b e = refl
one Greater b e = refl

two : (a b c e : Ordering) → ordering_then (ordering_then a Equal) (ordering_then b (ordering_then c e)) ≡ ordering_then (ordering_then a (ordering_then b c)) e
two Less b c e = refl
two Equal b c e = then_then b c e
two Greater b c e = refl

three : (a b c d e : Ordering) → ordering_then (ordering_then a Equal) (ordering_then b (ordering_then c (ordering_then d e))) ≡ ordering_then (ordering_then a (ordering_then b (ordering_then c d))) e
three Less b c d e = refl
three Equal b c d e = ap (ordering_then b) (then_then c d e) ∙ then_then b (ordering_then c d) e
three Greater b c d e = refl

mutual
  unfolding store_cmp

  store_spelled : (s t : StoreTerm) (j k : List Symbol) → spelled (store_symbols s j) (store_symbols t k) ≡ ordering_then (store_cmp s t) (spelled j k)
  store_spelled left_store left_store j k = refl
  store_spelled right_store right_store j k = refl
  store_spelled (put s x is v) (put t y js w) j k =
      ap (ordering_then (ordering_then (nat_cmp x y) Equal))
      (store_spelled s t (terms_symbols is (value_symbols v j)) (terms_symbols js (value_symbols w k))
      ∙ ap (ordering_then (store_cmp s t)) (terms_spelled is js (value_symbols v j) (value_symbols w k) ∙ ap (ordering_then (terms_cmp is js)) (value_spelled v w j k)))
      ∙ three (nat_cmp x y) (store_cmp s t) (terms_cmp is js) (value_cmp v w) (spelled j k)
  store_spelled (run x s) (run y t) j k = ap (ordering_then (ordering_then (nat_cmp x y) Equal)) (store_spelled s t j k) ∙ one (nat_cmp x y) (store_cmp s t) (spelled j k)
  store_spelled s t j k = refl

  value_spelled : (v w : ValueTerm) (j k : List Symbol) → spelled (value_symbols v j) (value_symbols w k) ≡ ordering_then (value_cmp v w) (spelled j k)
  value_spelled (num y) (num z) j k = refl
  value_spelled (get x is s) (get y js t) j k =
      ap (ordering_then (ordering_then (nat_cmp x y) Equal))
      (terms_spelled is js (store_symbols s j) (store_symbols t k) ∙ ap (ordering_then (terms_cmp is js)) (store_spelled s t j k))
      ∙ two (nat_cmp x y) (terms_cmp is js) (store_cmp s t) (spelled j k)
  value_spelled (ev x s) (ev y t) j k = ap (ordering_then (ordering_then (nat_cmp x y) Equal)) (store_spelled s t j k) ∙ one (nat_cmp x y) (store_cmp s t) (spelled j k)
  value_spelled (add a b) (add c d) j k = value_spelled a c (value_symbols b j) (value_symbols d k) ∙ ap (ordering_then (value_cmp a c)) (value_spelled b d j k) ∙ then_then (value_cmp a c) (value_cmp b d) (spelled j k)
  value_spelled (sub a b) (sub c d) j k = value_spelled a c (value_symbols b j) (value_symbols d k) ∙ ap (ordering_then (value_cmp a c)) (value_spelled b d j k) ∙ then_then (value_cmp a c) (value_cmp b d) (spelled j k)
  value_spelled (mul a b) (mul c d) j k = value_spelled a c (value_symbols b j) (value_symbols d k) ∙ ap (ordering_then (value_cmp a c)) (value_spelled b d j k) ∙ then_then (value_cmp a c) (value_cmp b d) (spelled j k)
  value_spelled v w j k = refl

  terms_spelled : (vs ws : ValueTerms) (j k : List Symbol) → spelled (terms_symbols vs j) (terms_symbols ws k) ≡ ordering_then (terms_cmp vs ws) (spelled j k)
  terms_spelled no_terms no_terms j k = refl
  terms_spelled no_terms (term w ws) j k = refl
  terms_spelled (term v vs) no_terms j k = refl
  terms_spelled (term v vs) (term w ws) j k = value_spelled v w (terms_symbols vs j) (terms_symbols ws k) ∙ ap (ordering_then (value_cmp v w)) (terms_spelled vs ws j k) ∙ then_then (value_cmp v w) (terms_cmp vs ws) (spelled j k)

abbrev part_symbols : Part → List Symbol
part_symbols (a_store s) = sign 0 0 ∷ store_symbols s []
part_symbols (a_place p) = sign 1 p.name ∷ terms_symbols p.indices []
part_symbols (an_expr k) = sign 2 k ∷ []
part_symbols (a_test k) = sign 3 k ∷ []
part_symbols (a_value v) = sign 4 0 ∷ value_symbols v []

part_spelled : (p q : Part) → spelled (part_symbols p) (part_symbols q) ≡ part_cmp p q
unfolding part_cmp
part_spelled (a_store s) (a_store t) = store_spelled s t [] [] ∙ then_equal (store_cmp s t)
part_spelled (a_place p) (a_place q) =
    ap (ordering_then (ordering_then (nat_cmp p.name q.name) Equal)) (terms_spelled p.indices q.indices [] [] ∙ then_equal (terms_cmp p.indices q.indices))
    ∙ ap (λ o. ordering_then o (terms_cmp p.indices q.indices)) (then_equal (nat_cmp p.name q.name))
part_spelled (an_expr j) (an_expr k) = then_equal (ordering_then (nat_cmp j k) Equal) ∙ then_equal (nat_cmp j k)
part_spelled (a_test j) (a_test k) = then_equal (ordering_then (nat_cmp j k) Equal) ∙ then_equal (nat_cmp j k)
part_spelled (a_value v) (a_value w) = value_spelled v w [] [] ∙ then_equal (value_cmp v w)
part_spelled p q = refl

pub part_total : IsTotalOrder part_cmp
part_total =
    let same : on part_symbols (slice_cmp symbol_cmp) ≡ part_cmp = λ i p q. part_spelled p q i in
    subst IsTotalOrder same (on_total part_symbols (lists_total symbol_total))

-- equality

then_parts : (a b : Ordering) → ordering_then a b ≡ Equal → (a ≡ Equal) × (b ≡ Equal)
then_parts Less b h = cc
then_parts Equal b h = (refl, h)
then_parts Greater b h = cc

nat_equal : (x y : ℕ) → nat_cmp x y ≡ Equal → x ≡ y
nat_equal x y h = ranked x y Equal (sym h)

int_equal : (x y : ℤ) → int_cmp x y ≡ Equal → x ≡ y
int_equal x y h = int_ranked x y Equal (sym h)

mutual
  unfolding store_cmp

  pub store_equal : (s t : StoreTerm) → store_cmp s t ≡ Equal → s ≡ t
  store_equal left_store left_store h = refl
  store_equal right_store right_store h = refl
  store_equal (put s x is v) (put t y js w) h =
      let a = then_parts (nat_cmp x y) (ordering_then (store_cmp s t) (ordering_then (terms_cmp is js) (value_cmp v w))) h in
      let b = then_parts (store_cmp s t) (ordering_then (terms_cmp is js) (value_cmp v w)) a.1 in
      let c = then_parts (terms_cmp is js) (value_cmp v w) b.1 in
      λ i. put (store_equal s t b.0 i) (nat_equal x y a.0 i) (terms_equal is js c.0 i) (value_equal v w c.1 i)
  store_equal (run j s) (run k t) h =
      let a = then_parts (nat_cmp j k) (store_cmp s t) h in
      λ i. run (nat_equal j k a.0 i) (store_equal s t a.1 i)
  store_equal s t h = cc

  pub value_equal : (v w : ValueTerm) → value_cmp v w ≡ Equal → v ≡ w
  value_equal (num y) (num z) h = λ i. num (int_equal y z h i)
  value_equal (get x is s) (get y js t) h =
      let a = then_parts (nat_cmp x y) (ordering_then (terms_cmp is js) (store_cmp s t)) h in
      let b = then_parts (terms_cmp is js) (store_cmp s t) a.1 in
      λ i. get (nat_equal x y a.0 i) (terms_equal is js b.0 i) (store_equal s t b.1 i)
  value_equal (ev j s) (ev k t) h =
      let a = then_parts (nat_cmp j k) (store_cmp s t) h in
      λ i. ev (nat_equal j k a.0 i) (store_equal s t a.1 i)
  value_equal (add a b) (add c d) h = let e = then_parts (value_cmp a c) (value_cmp b d) h in λ i. add (value_equal a c e.0 i) (value_equal b d e.1 i)
  value_equal (sub a b) (sub c d) h = let e = then_parts (value_cmp a c) (value_cmp b d) h in λ i. sub (value_equal a c e.0 i) (value_equal b d e.1 i)
  value_equal (mul a b) (mul c d) h = let e = then_parts (value_cmp a c) (value_cmp b d) h in λ i. mul (value_equal a c e.0 i) (value_equal b d e.1 i)
  value_equal v w h = cc

  pub terms_equal : (vs ws : ValueTerms) → terms_cmp vs ws ≡ Equal → vs ≡ ws
  terms_equal no_terms no_terms h = refl
  terms_equal no_terms (term w ws) h = cc
  terms_equal (term v vs) no_terms h = cc
  terms_equal (term v vs) (term w ws) h = let e = then_parts (value_cmp v w) (terms_cmp vs ws) h in λ i. term (value_equal v w e.0 i) (terms_equal vs ws e.1 i)

pub place_equal : (p q : Place) → place_cmp p q ≡ Equal → p ≡ q
place_equal p q h =
    let e = then_parts (nat_cmp p.name q.name) (terms_cmp p.indices q.indices) h in
    λ i. record { name = nat_equal p.name q.name e.0 i; indices = terms_equal p.indices q.indices e.1 i }

pub part_equal : (p q : Part) → part_cmp p q ≡ Equal → p ≡ q
unfolding part_cmp
part_equal (a_store s) (a_store t) h = ap a_store (store_equal s t h)
part_equal (a_place p) (a_place q) h = ap a_place (place_equal p q h)
part_equal (an_expr j) (an_expr k) h = ap an_expr (nat_equal j k h)
part_equal (a_test j) (a_test k) h = ap a_test (nat_equal j k h)
part_equal (a_value v) (a_value w) h = ap a_value (value_equal v w h)
part_equal p q h = cc

store_itself : (s : StoreTerm) → store_cmp s s ≡ Equal
unfolding part_cmp
store_itself s = tied_itself part_total (a_store s)

value_itself : (v : ValueTerm) → value_cmp v v ≡ Equal
unfolding part_cmp
value_itself v = tied_itself part_total (a_value v)

place_itself : (p : Place) → place_cmp p p ≡ Equal
unfolding part_cmp
place_itself p = tied_itself part_total (a_place p)

pub store_decides : (s t : StoreTerm) → (store_cmp s t ≡ Equal) ↔ (s ≡ t)
store_decides s t = (store_equal s t, λ e. subst (λ u. store_cmp s u ≡ Equal) e (store_itself s))

pub value_decides : (v w : ValueTerm) → (value_cmp v w ≡ Equal) ↔ (v ≡ w)
value_decides v w = (value_equal v w, λ e. subst (λ u. value_cmp v u ≡ Equal) e (value_itself v))

pub place_decides : (p q : Place) → (place_cmp p q ≡ Equal) ↔ (p ≡ q)
place_decides p q = (place_equal p q, λ e. subst (λ u. place_cmp p u ≡ Equal) e (place_itself p))
