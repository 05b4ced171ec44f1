-- Parts by numbers: equality as a test, and different ones stand for different parts.
use Rattle.std.specs.Prelude.{◌≡◌, ◌≢◌, ℕ, zero, suc, ◌<◌, Bool, true, false, ◌&&◌, nat_eq, pos, List, [], ◌∷◌, length, map, AllPairs, slice_get, Some, refl}
use Rattle.std.specs.Cmp.Lexicographic.{pointwise, bytes_decides}
use Rattle.std.specs.List.{list_all}
use Rattle.std.proofs.Common.{sym, ◌∙◌, ap, subst, arith, get_or, true≢false, inl, inr}
use Rattle.std.proofs.lemmas.Bool.{eqb-true, eq-eqb}
use Rattle.rule_terms.specs.Term as terms
use Rattle.rule_terms.specs.Parts.{Part, a_store, a_value, a_place, an_expr, a_test}
use Rattle.rule_terms.proofs.Members.{In, from_in, in_place}
use Rattle.term_universe.proofs.Apart.{Apart}
use Rattle.term_pool.specs.declared.node.PooledPlace.{PooledPlace}
use Rattle.term_pool.specs.Numbered.{Term, store_numbered, value_numbered, values_numbered, has_store, has_value, has_values, Once}
use Rattle.term_pool.specs.Numbered as numbered
use Rattle.term_pool.proofs.Places.{both, and_true}
use Rattle.term_pool.proofs.Grown.{store_found, value_found}
use Rattle.pool_universe.specs.declared.part.PooledPart.{PooledPart}
use Rattle.pool_universe.specs.declared.part.PooledPart.TheVariants.{Store, Value, Place, Expr, Test}
use Rattle.pool_universe.specs.contracts.part.PooledPartPartialEq.TheImpl as part_eq
use Rattle.pool_universe.specs.PooledParts.{part_numbered, part_in}

place_is : (p q : PooledPlace) → (nat_eq p.name q.name && pointwise nat_eq p.indices q.indices) ≡ true → p ≡ q
place_is p q h =
    let b = both (nat_eq p.name q.name) (pointwise nat_eq p.indices q.indices) h in
    λ j. record { name = eqb-true p.name q.name b.0 j; indices = (bytes_decides p.indices q.indices).0 b.1 j }

abbrev pub same : PooledPart → PooledPart → Bool
same p q = (part_eq.ghosts).eq p q

pub part_is : (p q : PooledPart) → same p q ≡ true → p ≡ q
part_is (Store a) (Store b) h = ap Store (eqb-true a b h)
part_is (Value a) (Value b) h = ap Value (eqb-true a b h)
part_is (Place p) (Place q) h = ap Place (place_is p q h)
part_is (Expr j) (Expr k) h = ap Expr (eqb-true j k h)
part_is (Test j) (Test k) h = ap Test (eqb-true j k h)
part_is p q h = absurd (true≢false (sym h))

pub part_self : (p : PooledPart) → same p p ≡ true
part_self (Store a) = eq-eqb a a refl
part_self (Value a) = eq-eqb a a refl
part_self (Place p) = and_true (eq-eqb p.name p.name refl) ((bytes_decides p.indices p.indices).1 refl)
part_self (Expr k) = eq-eqb k k refl
part_self (Test k) = eq-eqb k k refl

abbrev store_of : Part → terms.StoreTerm
store_of (a_store s) = s
store_of _ = terms.left_store

abbrev value_of : Part → terms.ValueTerm
value_of (a_value v) = v
value_of _ = terms.num (pos 0)

abbrev place_of : Part → terms.Place
place_of (a_place p) = p
place_of _ = record { name = 0; indices = terms.no_terms }

abbrev expr_of : Part → ℕ
expr_of (an_expr k) = k
expr_of _ = 0

abbrev test_of : Part → ℕ
test_of (a_test k) = k
test_of _ = 0

abbrev first_of : terms.ValueTerms → terms.ValueTerm
first_of (terms.term v vs) = v
first_of terms.no_terms = terms.num (pos 0)

abbrev rest_of : terms.ValueTerms → terms.ValueTerms
rest_of (terms.term v vs) = vs
rest_of terms.no_terms = terms.no_terms

module _ (ts : List Term) (once : Once ts) where
  store_apart : (a b : ℕ) → has_store ts a ≡ true → has_store ts b ≡ true → store_numbered ts a ≡ store_numbered ts b → a ≡ b
  store_apart a b h k e = once a b (numbered.a_store (store_numbered ts b)) (store_found ts a h ∙ ap (λ s. Some (numbered.a_store s)) e) (store_found ts b k)

  value_apart : (a b : ℕ) → has_value ts a ≡ true → has_value ts b ≡ true → value_numbered ts a ≡ value_numbered ts b → a ≡ b
  value_apart a b h k e = once a b (numbered.a_value (value_numbered ts b)) (value_found ts a h ∙ ap (λ v. Some (numbered.a_value v)) e) (value_found ts b k)

  values_apart : (ns ks : List ℕ) → has_values ts ns ≡ true → has_values ts ks ≡ true → values_numbered ts ns ≡ values_numbered ts ks → ns ≡ ks
  unfolding has_values values_numbered
  values_apart [] [] h k e = refl
  values_apart [] (b ∷ ks) h k e = cc
  values_apart (a ∷ ns) [] h k e = cc
  values_apart (a ∷ ns) (b ∷ ks) h k e =
      let x = both (has_value ts a) (has_values ts ns) h in
      let y = both (has_value ts b) (has_values ts ks) k in
      λ j. value_apart a b x.0 y.0 (ap first_of e) j ∷ values_apart ns ks x.1 y.1 (ap rest_of e) j

  pub apart_numbered : (p q : PooledPart) → part_in ts p ≡ true → part_in ts q ≡ true → part_numbered ts p ≡ part_numbered ts q → p ≡ q
  apart_numbered (Store a) (Store b) h k e = ap Store (store_apart a b h k (ap store_of e))
  apart_numbered (Value a) (Value b) h k e = ap Value (value_apart a b h k (ap value_of e))
  apart_numbered (Place p) (Place q) h k e =
      λ j. Place (record { name = (ap place_of e j).name; indices = values_apart p.indices q.indices h k (λ i. (ap place_of e i).indices) j })
  apart_numbered (Expr a) (Expr b) h k e = ap Expr (ap expr_of e)
  apart_numbered (Test a) (Test b) h k e = ap Test (ap test_of e)
  apart_numbered (Store a) (Value b) h k e = cc
  apart_numbered (Store a) (Place b) h k e = cc
  apart_numbered (Store a) (Expr b) h k e = cc
  apart_numbered (Store a) (Test b) h k e = cc
  apart_numbered (Value a) (Store b) h k e = cc
  apart_numbered (Value a) (Place b) h k e = cc
  apart_numbered (Value a) (Expr b) h k e = cc
  apart_numbered (Value a) (Test b) h k e = cc
  apart_numbered (Place a) (Store b) h k e = cc
  apart_numbered (Place a) (Value b) h k e = cc
  apart_numbered (Place a) (Expr b) h k e = cc
  apart_numbered (Place a) (Test b) h k e = cc
  apart_numbered (Expr a) (Store b) h k e = cc
  apart_numbered (Expr a) (Value b) h k e = cc
  apart_numbered (Expr a) (Place b) h k e = cc
  apart_numbered (Expr a) (Test b) h k e = cc
  apart_numbered (Test a) (Store b) h k e = cc
  apart_numbered (Test a) (Value b) h k e = cc
  apart_numbered (Test a) (Place b) h k e = cc
  apart_numbered (Test a) (Expr b) h k e = cc

-- lists of different items, mapped by what keeps them apart
module _ {X Y : Type 0} (f : X → Y) where
  pub record From (xs : List X) (y : Y) : Type 0 where
    pub item : X
    pub there : In item xs
    pub is : f item ≡ y

  pub from_map : (xs : List X) (y : Y) → In y (map f xs) → From xs y
  from_map [] y h = elim h [ ]
  from_map (x ∷ xs) y (inl e) = record { item = x; there = inl refl; is = e }
  from_map (x ∷ xs) y (inr h) = let r : From xs y = from_map xs y h in record { item = r.item; there = inr r.there; is = r.is }

  pub to_map : (xs : List X) (x : X) → In x xs → In (f x) (map f xs)
  to_map [] x h = elim h [ ]
  to_map (z ∷ zs) x (inl e) = inl (ap f e)
  to_map (z ∷ zs) x (inr h) = inr (to_map zs x h)

  pub apart_map : (xs : List X) → ((x y : X) → In x xs → In y xs → f x ≡ f y → x ≡ y) → Apart xs → Apart (map f xs)
  apart_map [] g a = tt
  apart_map (x ∷ xs) g a = (
    (λ h. let r : From xs (f x) = from_map xs (f x) h in
        a.0 (subst (λ z. In z xs) (g r.item x (inr r.there) (inl refl) r.is) r.there)),
    apart_map xs (λ y z p q e. g y z (inr p) (inr q) e) a.1,
  )

pub pairs_apart : {X : Type 0} (xs : List X) → Apart xs → AllPairs (λ a b. a ≢ b) xs
pairs_apart [] a i j d lt within = absurd (omega arith)
pairs_apart (x ∷ xs) a i zero d lt within = absurd (omega arith)
pairs_apart (x ∷ xs) a zero (suc j) d lt within = λ e. a.0 (subst (λ z. In z xs) (sym e) (member xs j d (omega (arith, within))))
  where
    member : {X : Type 0} (xs : List X) (j : ℕ) (d : X) → j < length xs → In (get_or xs j d) xs
    member [] j d h = absurd (omega arith)
    member (x ∷ xs) zero d h = inl refl
    member (x ∷ xs) (suc j) d h = inr (member xs j d (omega arith))
pairs_apart (x ∷ xs) a (suc i) (suc j) d lt within = pairs_apart xs a.1 i j d (omega arith) (omega arith)

pub all_inside : {X : Type 0} (test : X → Bool) (xs : List X) → ((x : X) → In x xs → test x ≡ true) → list_all test xs ≡ true
all_inside test [] h = refl
all_inside test (x ∷ xs) h = and_true (h x (inl refl)) (all_inside test xs (λ y k. h y (inr k)))

pub each_inside : {X : Type 0} (test : X → Bool) (xs : List X) → list_all test xs ≡ true → (x : X) → In x xs → test x ≡ true
each_inside test [] h x k = elim k [ ]
each_inside test (z ∷ zs) h x (inl e) = subst (λ y. test y ≡ true) e (both (test z) (list_all test zs) h).0
each_inside test (z ∷ zs) h x (inr k) = each_inside test zs (both (test z) (list_all test zs) h).1 x k
