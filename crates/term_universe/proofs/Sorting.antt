-- A list sorted by what its items stand for, once equal neighbours are gone, stands for each item of the whole list once.
use Rattle.std.specs.Prelude.{◌≡◌, ◌≢◌, true, List, [], ◌∷◌, map, Contains, AllPairs, refl}
use Rattle.std.proofs.Common.{sym, ◌∙◌, ap, subst, arith, inl, inr}
use Rattle.std.specs.declared.cmp.Ordering.{Ordering}
use Rattle.std.specs.declared.cmp.Ordering.TheVariants.{Less, Equal}
use Rattle.std.specs.Ordering.{is_lt, is_eq, eq_by_cmp}
use Rattle.std.specs.Cmp.{IsTotalOrder}
use Rattle.std.specs.List.{AllByRecursion, Any, dedup}
use Rattle.std.specs.List.Sorted.{IsPermutation, IsSortedBy, IsStrictlySortedBy}
use Rattle.std.proofs.lemmas.Cmp.{on_total, tied_itself, eq_by_cmp_equiv}
use Rattle.std.proofs.lemmas.List.Elements.{Contains-get_or}
use Rattle.std.proofs.lemmas.List.Kept.{AllPairs-cons, Any-dedup, Contains-from_dedup, IsStrictlySortedBy-dedup}
use Rattle.std.proofs.lemmas.List.Sorted.{Contains-permutation, IsPermutation-sym}
use Rattle.term_universe.specs.Universe.{ListsOnce}
use Rattle.term_universe.proofs.Apart.{Apart}
use Rattle.rule_terms.proofs.Members.{In, in_from, from_in}
use Rattle.term_universe.proofs.Nexts.{same_equal}

pairs_apart : {X : Type 0} (xs : List X) → Apart xs → AllPairs (λ a b. a ≢ b) xs
pairs_apart [] a = λ i j d h k. absurd (omega (arith, k))
pairs_apart (x ∷ xs) a = AllPairs-cons (λ a b. a ≢ b) x xs
    (λ k d lt e. a.0 (subst (λ z. In z xs) (sym e) (in_from xs _ (Contains-get_or xs k d lt))))
    (pairs_apart xs a.1)

module _ {A X : Type 0} (v : A → X) where
  -- the item that stands for it
  record Stands (xs : List A) (x : X) : Type 0 where
    pub item : A
    pub there : In item xs
    pub is : v item ≡ x

  stands : (xs : List A) (x : X) → In x (map v xs) → Stands xs x
  stands [] x h = elim h [ ]
  stands (a ∷ bs) x (inl e) = record { item = a; there = inl refl; is = e }
  stands (a ∷ bs) x (inr h) = let s : Stands bs x = stands bs x h in record { item = s.item; there = inr s.there; is = s.is }

  in_map : (xs : List A) (a : A) → In a xs → In (v a) (map v xs)
  in_map [] a h = elim h [ ]
  in_map (b ∷ bs) a (inl e) = inl (ap v e)
  in_map (b ∷ bs) a (inr h) = inr (in_map bs a h)

module _ {A X : Type 0} (v : A → X) (cmp : X → X → Ordering) (total : IsTotalOrder cmp) (equal : (x y : X) → cmp x y ≡ Equal → x ≡ y) where
  abbrev by : A → A → Ordering
  by x y = cmp (v x) (v y)

  less_equal : {o : Ordering} → o ≡ Less → o ≡ Equal → ⊥
  less_equal h k = cc

  not_below : (a : A) (xs : List A) → AllByRecursion (λ y. by a y ≡ Less) xs → In (v a) (map v xs) → ⊥
  not_below a [] h k = elim k [ ]
  not_below a (b ∷ bs) h (inl e) = less_equal h.0 (subst (λ y. cmp (v a) y ≡ Equal) (sym e) (tied_itself total (v a)))
  not_below a (b ∷ bs) h (inr k) = not_below a bs h.1 k

  strictly_apart : (xs : List A) → IsStrictlySortedBy by xs → Apart (map v xs)
  unfolding IsStrictlySortedBy
  strictly_apart [] h = tt
  strictly_apart (x ∷ xs) h = (not_below x xs h.0, strictly_apart xs h.1)

  pub once_each : (all sorted left : List A) → IsPermutation all sorted → IsSortedBy (λ x y. is_lt (cmp (v x) (v y))) sorted
      → left ≡ dedup (λ x y. is_eq (cmp (v x) (v y))) sorted → ListsOnce (map v left) (map v all)
  once_each all sorted left moved up is =
      subst (λ ys. ListsOnce (map v ys) (map v all)) (sym is) (record {
        exact = λ x. (
          (λ c.
              let m : Stands v (dedup (eq_by_cmp by) sorted) x = stands v (dedup (eq_by_cmp by) sorted) x (in_from (map v (dedup (eq_by_cmp by) sorted)) x c) in
              let there : Contains sorted m.item = Contains-from_dedup (eq_by_cmp by) sorted m.item (from_in (dedup (eq_by_cmp by) sorted) m.item m.there) in
              let back : Contains all m.item = Contains-permutation sorted all m.item (IsPermutation-sym all sorted moved) there in
              subst (Contains (map v all)) m.is (from_in (map v all) (v m.item) (in_map v all m.item (in_from all m.item back)))),
          (λ c.
              let m : Stands v all x = stands v all x (in_from (map v all) x c) in
              let there : Contains sorted m.item = Contains-permutation all sorted m.item moved (from_in all m.item m.there) in
              let k : Any (λ y. eq_by_cmp by m.item y ≡ true) (dedup (eq_by_cmp by) sorted) = Any-dedup (eq_by_cmp_equiv (on_total v total)) sorted m.item there in
              let same : v m.item ≡ v k.1 = same_equal cmp total equal (v m.item) (v k.1) k.4 in
              subst (Contains (map v (dedup (eq_by_cmp by) sorted))) (sym same ∙ m.is)
              (from_in (map v (dedup (eq_by_cmp by) sorted)) (v k.1) (in_map v (dedup (eq_by_cmp by) sorted) k.1 (in_from (dedup (eq_by_cmp by) sorted) k.1 (k.0, k.2, k.3))))),
        );
        once = pairs_apart (map v (dedup (eq_by_cmp by) sorted))
            (strictly_apart (dedup (eq_by_cmp by) sorted) (IsStrictlySortedBy-dedup (on_total v total) (λ x y. refl) sorted up));
      })
