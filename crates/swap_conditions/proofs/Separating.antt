-- Where a region's demand is met, no cell of the name is touched both by a run of the first block and by one of the second,
-- with the counters at a pair of tuples of the region.
use Rattle.std.specs.Prelude.{◌≡◌, ◌≢◌, ◌⊎◌, ◌<ℤ◌, ◌≤ℤ◌, ℕ, ℤ, ◌+ℤ◌, Bool, true, false, not, ◌&&◌, ◌||◌, List, [], ◌∷◌, Option, Some, None, refl}
use Rattle.std.specs.Ordering.{int_eq}
use Rattle.std.proofs.Common.{sym, ◌∙◌, ap, inl, inr, arith, true≢false}
use Rattle.std.proofs.lemmas.Int.{ints}
use Rattle.toy_imp.specs.declared.name.Name.{Name}
use Rattle.toy_imp.specs.declared.condition.Region.{Region}
use Rattle.toy_imp.specs.declared.condition.Region.TheVariants as region
use Rattle.toy_imp.specs.Cell.{Cell, spelled, variable}
use Rattle.toy_imp.specs.Store.{Store, read}
use Rattle.toy_imp.specs.Value.{values}
use Rattle.toy_imp.specs.Expr.{Exprs}
use Rattle.toy_imp.specs.Block.{Block}
use Rattle.toy_imp.specs.Swaps.{IsBefore, IsWithin}
use Rattle.side_conditions.specs.Seeking.{named, writes_name}
use Rattle.side_conditions.proofs.Sufficing.{first_yes, second_yes}
use Rattle.swap_conditions.specs.Standing.{block_has, every_place}
use Rattle.swap_conditions.specs.Placing.{count, distance, is_just, not_above}
use Rattle.swap_conditions.specs.SwapText.{all_just, constant_at, has_constant, order_at, has_order, is_apart, touches, leaves}
use Rattle.swap_conditions.proofs.Members.{Stands, at_standing}
use Rattle.swap_conditions.proofs.Positions.{below_found}
use Rattle.swap_conditions.proofs.Passing.{and_true}
use Rattle.swap_conditions.proofs.Exchanging.{touched}
use Rattle.swap_conditions.proofs.Placed.{no_of, touched_good}
use Rattle.swap_conditions.proofs.Offsetting.{number_at, distance_tells, just_tells, under_tells, under_none, equal_of, apart_at, ordered_at}
use Rattle.swap_conditions.proofs.Sharing.{touches_none}

module _ (S T : Block) (z k : List ℕ) (n p : ℕ) (v w : ℤ) (i j : ℕ) (s t : Store) (c : Cell)
    (first_leaves : writes_name S k ≡ false) (second_leaves : writes_name T k ≡ false)
    (first_holds : read s (k, []) ≡ v) (second_holds : read t (k, []) ≡ w)
    (first_stands : Stands (touched i S s) c) (second_stands : Stands (touched j T t) c) (same : c.0 ≡ z) where
  far : Exprs → Option ℤ
  far es = distance k n p es

  -- ---- one constant at all places, and numbers of the counter that differ
  just_separates : (d : ℤ) → v ≢ w → every_place z (λ es. is_just d (distance k n p es)) S ≡ true → every_place z (λ es. is_just d (distance k n p es)) T ≡ true → ⊥
  just_separates d differ first second =
      let here : (c.0 ≡ z → number_at p c.1 ≡ Some (v +ℤ d)) = at_standing (λ (q : Cell). q.0 ≡ z → number_at p q.1 ≡ Some (v +ℤ d)) (touched i S s) c
      (touched_good z k v (λ es. is_just d (distance k n p es)) (λ is. number_at p is ≡ Some (v +ℤ d))
      (λ es u holds e. distance_tells k n p es d v u holds (just_tells d (distance k n p es) e)) S first first_leaves i s first_holds) first_stands in
      let there : (c.0 ≡ z → number_at p c.1 ≡ Some (w +ℤ d)) = at_standing (λ (q : Cell). q.0 ≡ z → number_at p q.1 ≡ Some (w +ℤ d)) (touched j T t) c
      (touched_good z k w (λ es. is_just d (distance k n p es)) (λ is. number_at p is ≡ Some (w +ℤ d))
      (λ es u holds e. distance_tells k n p es d w u holds (just_tells d (distance k n p es) e)) T second second_leaves j t second_holds) second_stands in
      apart_at p c.1 v w d differ (here same) (there same)

  pub all_just_separates : (o : Option ℤ) → v ≢ w → all_just k n p z S T o ≡ true → ⊥
  all_just_separates (Some d) differ e = just_separates d differ (first_yes _ _ e) (second_yes _ _ e)
  all_just_separates None differ e = true≢false (sym e)

  -- ---- no constant in the first below one in the second, and the first's number the greater
  under : Option ℤ → Bool
  under o = every_place z (λ js. not_above (distance k n p js) o) T

  AtLeast : List ℤ → Type 0
  AtLeast is = (d : ℤ) × (number_at p is ≡ Some (v +ℤ d)) × (under (Some d) ≡ true)

  AtMost : ℤ → List ℤ → Type 0
  AtMost d is = (e : ℤ) × (number_at p is ≡ Some (w +ℤ e)) × (e ≤ℤ d)

  never_under : touches T z ≡ true → under None ≡ true → ⊥
  unfolding under
  never_under shared e =
      let none : block_has (named z) T ≡ false =
      ap (λ kind. block_has kind T) (λ a x es. (sym (and_true (named z x es)) ∙ ap (λ b. named z x es && not b) (sym (under_none (distance k n p es)))) a) ∙ no_of _ e in
      true≢false (sym shared ∙ touches_none T z none)

  place_at_least : touches T z ≡ true → (es : Exprs) (u : Store) → read u (k, []) ≡ v → (o : Option ℤ) → distance k n p es ≡ o → under o ≡ true → AtLeast (values es u)
  unfolding AtLeast
  place_at_least shared es u holds (Some d) far e = (d, distance_tells k n p es d v u holds far, e)
  place_at_least shared es u holds None far e = absurd (never_under shared e)

  place_at_most : (d : ℤ) (es : Exprs) (u : Store) → read u (k, []) ≡ w → not_above (distance k n p es) (Some d) ≡ true → AtMost d (values es u)
  unfolding AtMost
  place_at_most d es u holds e =
      let told = under_tells (distance k n p es) d e in
      (told.0, distance_tells k n p es told.0 w u holds told.1, told.2)

  pub order_separates : touches T z ≡ true → w <ℤ v → every_place z (λ es. every_place z (λ js. not_above (distance k n p js) (distance k n p es)) T) S ≡ true → ⊥
  unfolding under AtLeast AtMost
  order_separates shared less e =
      let here = at_standing (λ (q : Cell). q.0 ≡ z → AtLeast q.1) (touched i S s) c
      (touched_good z k v (λ es. under (distance k n p es)) AtLeast
      (λ es u holds f. place_at_least shared es u holds (distance k n p es) refl f) S e first_leaves i s first_holds) first_stands in
      let mine = here same in
      let there = at_standing (λ (q : Cell). q.0 ≡ z → AtMost mine.0 q.1) (touched j T t) c
      (touched_good z k w (λ es. not_above (distance k n p es) (Some mine.0)) (AtMost mine.0)
      (λ es u holds f. place_at_most mine.0 es u holds f) T mine.2 second_leaves j t second_holds) second_stands in
      let other = there same in
      ordered_at p c.1 v w mine.0 other.0 less other.2 mine.1 other.1

-- ---- a store in which the counters have these numbers
abbrev pub Counted : List Name → List ℤ → Store → Type 0
Counted [] [] s = Unit {0}
Counted [] (v ∷ vs) s = ⊥
Counted (k ∷ ks) [] s = ⊥
Counted (k ∷ ks) (v ∷ vs) s = (read s (variable k) ≡ v) × Counted ks vs s

-- ---- region by region
differ_or_not : (a b : ℤ) → (a ≡ b) ⊎ (a ≢ b)
differ_or_not a b =
    elim (int_eq a b) as (λ e. int_eq a b ≡ e → (a ≡ b) ⊎ (a ≢ b)) [
      | true ↦ λ e. inl (sym (equal_of a b e))
      | false ↦ λ e. inr (λ same. true≢false (sym (itself b) ∙ ap (λ x. int_eq x b) (sym same) ∙ e))
    ] refl
  where
    itself : (b : ℤ) → int_eq b b ≡ true
    itself b = grind (arith, ints)

pair_differs : (a b x y : ℤ) → (a ∷ b ∷ []) ≢ (x ∷ y ∷ []) → (a ≢ x) ⊎ (b ≢ y)
pair_differs a b x y h =
    elim (differ_or_not a x) [
      | inl same ↦ inr (λ e. h (ap (λ u. u ∷ b ∷ []) same ∙ ap (λ u. x ∷ u ∷ []) e))
      | inr other ↦ inl other
    ]

less_differs : (a b : ℤ) → b <ℤ a → a ≢ b
less_differs a b less e = absurd (omega (arith, ints))

module _ (S T : Block) (z : List ℕ) (is : Exprs) (i j : ℕ) (s t : Store) (c : Cell)
    (first_stands : Stands (touched i S s) c) (second_stands : Stands (touched j T t) c) (same : c.0 ≡ z) where
  constant_separates : (k : Name) (v w : ℤ) → writes_name S (spelled k) ≡ false → writes_name T (spelled k) ≡ false → read s (variable k) ≡ v → read t (variable k) ≡ w
      → v ≢ w → has_constant k z is S T ≡ true → ⊥
  constant_separates k v w f g h l differ e =
      let found = below_found (count is) (constant_at k z is S T) e in
      all_just_separates S T z (spelled k) (count is) found.0 v w i j s t c f g h l first_stands second_stands same (distance (spelled k) (count is) found.0 is) differ found.2

  ordered_separates : (k : Name) (v w : ℤ) → writes_name S (spelled k) ≡ false → writes_name T (spelled k) ≡ false → read s (variable k) ≡ v → read t (variable k) ≡ w
      → touches T z ≡ true → w <ℤ v → has_order k z is S T ≡ true → ⊥
  ordered_separates k v w f g h l shared less e =
      let found = below_found (count is) (order_at k z is S T) e in
      order_separates S T z (spelled k) (count is) found.0 v w i j s t c f g h l first_stands second_stands same shared less found.2

  unwritten : (k : Name) (b : Block) (rest : Bool) → (not (writes_name b (spelled k)) && rest) ≡ true → writes_name b (spelled k) ≡ false
  unwritten k b rest e = no_of _ (first_yes _ _ e)

  one_separates : (r : Region) (k : Name) (v w : ℤ) → leaves (k ∷ []) S ≡ true → leaves (k ∷ []) T ≡ true → read s (variable k) ≡ v → read t (variable k) ≡ w
      → touches T z ≡ true → IsWithin r (v ∷ []) (w ∷ []) → is_apart r (k ∷ []) z is S T ≡ true → ⊥
  one_separates region.Distinct k v w f g h l shared within e =
      constant_separates k v w (unwritten k S true f) (unwritten k T true g) h l (λ same. within (ap (λ u. u ∷ []) same)) e
  one_separates region.Earlier k v w f g h l shared (inl less) e =
      ordered_separates k v w (unwritten k S true f) (unwritten k T true g) h l shared less e
  one_separates region.Earlier k v w f g h l shared (inr equal) e = equal.1
  one_separates region.Crossing k v w f g h l shared within e = within

  module _ (k m : Name) (v x w y : ℤ) (first : leaves (k ∷ m ∷ []) S ≡ true) (second : leaves (k ∷ m ∷ []) T ≡ true)
      (first_k : read s (variable k) ≡ v) (first_m : read s (variable m) ≡ x) (second_k : read t (variable k) ≡ w) (second_m : read t (variable m) ≡ y) where
    by_outer : v ≢ w → has_constant k z is S T ≡ true → ⊥
    by_outer differ e = constant_separates k v w (no_of _ (first_yes _ _ first)) (no_of _ (first_yes _ _ second)) first_k second_k differ e

    by_inner : x ≢ y → has_constant m z is S T ≡ true → ⊥
    by_inner differ e =
        constant_separates m x y (no_of _ (first_yes _ _ (second_yes (not (writes_name S (spelled k))) _ first))) (no_of _ (first_yes _ _ (second_yes (not (writes_name T (spelled k))) _ second)))
        first_m second_m differ e

    by_either : (v ≢ w) ⊎ (x ≢ y) → (has_constant k z is S T && has_constant m z is S T) ≡ true → ⊥
    by_either (inl differ) e = by_outer differ (first_yes _ _ e)
    by_either (inr differ) e = by_inner differ (second_yes (has_constant k z is S T) _ e)

    one_of : (a b : Bool) → (a || b) ≡ true → (a ≡ true → ⊥) → (b ≡ true → ⊥) → ⊥
    one_of true b e f g = f refl
    one_of false b e f g = g e

    earlier_differs : IsBefore (w ∷ y ∷ []) (v ∷ x ∷ []) → (v ≢ w) ⊎ (x ≢ y)
    earlier_differs (inl less) = inl (less_differs v w less)
    earlier_differs (inr rest) = inr (inner rest.1)
      where
        inner : IsBefore (y ∷ []) (x ∷ []) → x ≢ y
        inner (inl less) = less_differs x y less
        inner (inr equal) = absurd equal.1

    crossing_differs : ((v <ℤ w) × (y <ℤ x)) ⊎ ((w <ℤ v) × (x <ℤ y)) → (v ≢ w) × (x ≢ y)
    crossing_differs (inl both) = (λ e. less_differs w v both.0 (sym e), less_differs x y both.1)
    crossing_differs (inr both) = (less_differs v w both.0, λ e. less_differs y x both.1 (sym e))

    pub two_separate : (r : Region) → IsWithin r (v ∷ x ∷ []) (w ∷ y ∷ []) → is_apart r (k ∷ m ∷ []) z is S T ≡ true → ⊥
    two_separate region.Distinct within e = by_either (pair_differs v x w y within) e
    two_separate region.Earlier within e = by_either (earlier_differs within) e
    two_separate region.Crossing within e =
        let differ = crossing_differs within in
        one_of (has_constant k z is S T) (has_constant m z is S T) e (by_outer differ.0) (by_inner differ.1)

  no_demand : (r : Region) → is_apart r [] z is S T ≡ true → ⊥
  no_demand region.Distinct e = true≢false (sym e)
  no_demand region.Earlier e = true≢false (sym e)
  no_demand region.Crossing e = true≢false (sym e)

  no_demand_of_three : (r : Region) (k l m : Name) (ks : List Name) → is_apart r (k ∷ l ∷ m ∷ ks) z is S T ≡ true → ⊥
  no_demand_of_three region.Distinct k l m ks e = true≢false (sym e)
  no_demand_of_three region.Earlier k l m ks e = true≢false (sym e)
  no_demand_of_three region.Crossing k l m ks e = true≢false (sym e)

  pub region_separates : (r : Region) (ks : List Name) (a b : List ℤ) → leaves ks S ≡ true → leaves ks T ≡ true → Counted ks a s → Counted ks b t
      → touches T z ≡ true → IsWithin r a b → is_apart r ks z is S T ≡ true → ⊥
  region_separates r [] a b f g h l shared within e = no_demand r e
  region_separates r (k ∷ []) (v ∷ []) (w ∷ []) f g h l shared within e = one_separates r k v w f g h.0 l.0 shared within e
  region_separates r (k ∷ []) [] b f g h l shared within e = h
  region_separates r (k ∷ []) (v ∷ x ∷ a) b f g h l shared within e = h.1
  region_separates r (k ∷ []) (v ∷ []) [] f g h l shared within e = l
  region_separates r (k ∷ []) (v ∷ []) (w ∷ y ∷ b) f g h l shared within e = l.1
  region_separates r (k ∷ m ∷ []) (v ∷ x ∷ []) (w ∷ y ∷ []) f g h l shared within e = two_separate k m v x w y f g h.0 h.1.0 l.0 l.1.0 r within e
  region_separates r (k ∷ m ∷ []) [] b f g h l shared within e = h
  region_separates r (k ∷ m ∷ []) (v ∷ []) b f g h l shared within e = h.1
  region_separates r (k ∷ m ∷ []) (v ∷ x ∷ u ∷ a) b f g h l shared within e = h.1.1
  region_separates r (k ∷ m ∷ []) (v ∷ x ∷ []) [] f g h l shared within e = l
  region_separates r (k ∷ m ∷ []) (v ∷ x ∷ []) (w ∷ []) f g h l shared within e = l.1
  region_separates r (k ∷ m ∷ []) (v ∷ x ∷ []) (w ∷ y ∷ u ∷ b) f g h l shared within e = l.1.1
  region_separates r (k ∷ m ∷ q ∷ ks) a b f g h l shared within e = no_demand_of_three r k m q ks e
