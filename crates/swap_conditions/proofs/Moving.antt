-- What a region demands of a name may be asked at any of its places, of either block, where the name stands in both. So a clash
-- may be sought in either of two blocks.
use Rattle.std.specs.Prelude.{◌≡◌, ◌<◌, ℕ, ℤ, Bool, true, false, not, cond, ◌&&◌, ◌||◌, ◌==◌, List, [], ◌∷◌, Option, Some, None, option_and_then, refl}
use Rattle.std.proofs.Common.{sym, ◌∙◌, ap, ap₂, subst, arith, true≢false}
use Rattle.std.proofs.lemmas.Bool.Decides.{nat_tests}
use Rattle.std.proofs.lemmas.Slice.Eq.{bytes_eq-Decides}
use Rattle.toy_imp.specs.declared.name.Name.{Name}
use Rattle.toy_imp.specs.declared.condition.Region.{Region}
use Rattle.toy_imp.specs.declared.condition.Region.TheVariants as region
use Rattle.toy_imp.specs.Cell.{spelled}
use Rattle.toy_imp.specs.Expr.{Exprs}
use Rattle.toy_imp.specs.Block.{Block}
use Rattle.side_conditions.specs.Offsets.{offset_of}
use Rattle.side_conditions.specs.Seeking.{named, reads_name, writes_name}
use Rattle.side_conditions.proofs.Sufficing.{first_yes, second_yes}
use Rattle.swap_conditions.specs.Standing.{block_has, every_place}
use Rattle.swap_conditions.specs.Placing.{count, index_at, distance, is_just, not_above}
use Rattle.swap_conditions.specs.SwapText.{all_just, constant_at, has_constant, all_ordered, order_at, has_order, is_apart, touches, shares, clashes}
use Rattle.swap_conditions.proofs.Positions.{below_found, found_below}
use Rattle.swap_conditions.proofs.Placed.{yes_of, no_of}
use Rattle.swap_conditions.proofs.Offsetting.{just_tells, under_none}
use Rattle.swap_conditions.proofs.Sharing.{HasPlace, has_place, touched_place}

-- ---- a place with a distance has as many indices
count_of : (a n : ℕ) → (a == n) ≡ true → a ≡ n
count_of a n e = grind (arith, nat_tests)

some_counted : {A : Type 0} (b : Bool) (o : Option A) (c : A) → cond b o None ≡ Some c → b ≡ true
some_counted true o c e = refl
some_counted false o c e = cc

distance_counts : (k : List ℕ) (n p : ℕ) (es : Exprs) (c : ℤ) → distance k n p es ≡ Some c → count es ≡ n
distance_counts k n p es c e = count_of (count es) n (some_counted (count es == n) (option_and_then (offset_of k) (index_at p es)) c e)

-- ---- the demand at one place, asked at another
module _ (S T : Block) (z : List ℕ) (es js : Exprs)
    (stands : (good : Exprs → Bool) → every_place z good S ≡ true → every_place z good T ≡ true → good js ≡ true) where
  just_moves : (k : Name) (p : ℕ) (o : Option ℤ) → p < count es → all_just (spelled k) (count es) p z S T o ≡ true → has_constant k z js S T ≡ true
  just_moves k p (Some c) less e =
      let far : distance (spelled k) (count es) p js ≡ Some c = just_tells c _ (stands (λ hs. is_just c (distance (spelled k) (count es) p hs)) (first_yes _ _ e) (second_yes _ _ e)) in
      let same : count js ≡ count es = distance_counts (spelled k) (count es) p js c far in
      let here : constant_at k z js S T p ≡ true =
      ap (λ n. all_just (spelled k) n p z S T (distance (spelled k) n p js)) same ∙ ap (all_just (spelled k) (count es) p z S T) far ∙ e in
      found_below (count js) p (constant_at k z js S T) (subst (λ n. p < n) (sym same) less) here
  just_moves k p None less e = absurd (true≢false (sym e))

  constant_moves : (k : Name) → has_constant k z es S T ≡ true → has_constant k z js S T ≡ true
  constant_moves k e =
      let found = below_found (count es) (constant_at k z es S T) e in
      just_moves k found.0 (distance (spelled k) (count es) found.0 es) found.1 found.2

module _ (S T : Block) (z : List ℕ) (es js : Exprs) where
  -- .. where its distances, if it has none, make the order fail
  order_moves : (k : Name) → ((p : ℕ) → all_ordered (spelled k) (count es) p z S T ≡ true → count js ≡ count es) → has_order k z es S T ≡ true → has_order k z js S T ≡ true
  order_moves k counts e =
      let found = below_found (count es) (order_at k z es S T) e in
      let same : count js ≡ count es = counts found.0 found.2 in
      found_below (count js) found.0 (order_at k z js S T) (subst (λ n. found.0 < n) (sym same) found.1)
      (ap (λ n. all_ordered (spelled k) n found.0 z S T) same ∙ found.2)

is_some : (k : List ℕ) (n p : ℕ) (es : Exprs) (o : Option ℤ) → distance k n p es ≡ o → (o ≡ None → ⊥) → count es ≡ n
is_some k n p es (Some c) e never = distance_counts k n p es c e
is_some k n p es None e never = absurd (never refl)

above_none : (o : Option ℤ) → not_above None o ≡ false
above_none (Some c) = refl
above_none None = refl

-- a good place of a name, among all those of a block
pub good_of : (b : Block) (z : List ℕ) (kind : Name → Exprs → Bool) (place : HasPlace kind (λ k. block_has k b)) → spelled place.name ≡ z
    → (good : Exprs → Bool) → every_place z good b ≡ true → good place.indices ≡ true
good_of b z kind place same good e =
    yes_of (named z place.name place.indices) (good place.indices) ((bytes_eq-Decides (spelled place.name) z).1 same)
    (place.stands (λ x es. named z x es && not (good es)) (no_of _ e))

named_place : (z : List ℕ) (x : Name) (es : Exprs) → named z x es ≡ true → spelled x ≡ z
named_place z x es e = (bytes_eq-Decides (spelled x) z).0 e

pub place_is_good : (b : Block) (z : List ℕ) (shared : touches b z ≡ true) (good : Exprs → Bool) → every_place z good b ≡ true → good ((touched_place b z shared).indices) ≡ true
place_is_good b z shared good e =
    let place : HasPlace (named z) (λ k. block_has k b) = touched_place b z shared in
    good_of b z (named z) place (named_place z place.name place.indices place.is) good e

module _ (S T : Block) (z : List ℕ) (js : Exprs) (k : List ℕ) (n p : ℕ) (ordered : all_ordered k n p z S T ≡ true) where
  -- a place of the first block, above any of the second
  first_counts : touches T z ≡ true → ((good : Exprs → Bool) → every_place z good S ≡ true → good js ≡ true) → count js ≡ n
  first_counts shared stands =
      let other : Exprs = (touched_place T z shared).indices in
      let most : not_above (distance k n p other) (distance k n p js) ≡ true =
      place_is_good T z shared (λ hs. not_above (distance k n p hs) (distance k n p js))
      (stands (λ es. every_place z (λ hs. not_above (distance k n p hs) (distance k n p es)) T) ordered) in
      is_some k n p js (distance k n p js) refl
      (λ none. true≢false (sym most ∙ ap (not_above (distance k n p other)) none ∙ under_none (distance k n p other)))

  -- .. of the second, below any of the first
  second_counts : touches S z ≡ true → ((good : Exprs → Bool) → every_place z good T ≡ true → good js ≡ true) → count js ≡ n
  second_counts shared stands =
      let other : Exprs = (touched_place S z shared).indices in
      let most : not_above (distance k n p js) (distance k n p other) ≡ true =
      stands (λ hs. not_above (distance k n p hs) (distance k n p other))
      (place_is_good S z shared (λ es. every_place z (λ hs. not_above (distance k n p hs) (distance k n p es)) T) ordered) in
      is_some k n p js (distance k n p js) refl
      (λ none. true≢false (sym most ∙ ap (λ o. not_above o (distance k n p other)) none ∙ above_none (distance k n p other)))

-- ---- region by region
both_move : (a b c d : Bool) → (a ≡ true → c ≡ true) → (b ≡ true → d ≡ true) → (a && b) ≡ true → (c && d) ≡ true
both_move true b c d f g e = ap₂ (λ x y. x && y) (f refl) (g e)
both_move false b c d f g e = absurd (true≢false (sym e))

either_moves : (a b c d : Bool) → (a ≡ true → c ≡ true) → (b ≡ true → d ≡ true) → (a || b) ≡ true → (c || d) ≡ true
either_moves true b c d f g e = ap (λ x. x || d) (f refl)
either_moves false b true d f g e = refl
either_moves false b false d f g e = g e

module _ (S T : Block) (z : List ℕ) (es js : Exprs)
    (stands : (good : Exprs → Bool) → every_place z good S ≡ true → every_place z good T ≡ true → good js ≡ true)
    (counts : (k : List ℕ) (p : ℕ) → all_ordered k (count es) p z S T ≡ true → count js ≡ count es) where
  moves : (k : Name) → has_constant k z es S T ≡ true → has_constant k z js S T ≡ true
  moves k e = constant_moves S T z es js stands k e

  pub demand_moves : (r : Region) (ks : List Name) → is_apart r ks z es S T ≡ true → is_apart r ks z js S T ≡ true
  demand_moves region.Distinct [] e = e
  demand_moves region.Earlier [] e = e
  demand_moves region.Crossing [] e = e
  demand_moves region.Distinct (k ∷ []) e = moves k e
  demand_moves region.Earlier (k ∷ []) e = order_moves S T z es js k (λ p h. counts (spelled k) p h) e
  demand_moves region.Crossing (k ∷ []) e = e
  demand_moves region.Distinct (k ∷ l ∷ []) e = both_move _ _ _ _ (moves k) (moves l) e
  demand_moves region.Earlier (k ∷ l ∷ []) e = both_move _ _ _ _ (moves k) (moves l) e
  demand_moves region.Crossing (k ∷ l ∷ []) e = either_moves (has_constant k z es S T) (has_constant l z es S T) (has_constant k z js S T) (has_constant l z js S T) (moves k) (moves l) e
  demand_moves region.Distinct (k ∷ l ∷ m ∷ ks) e = e
  demand_moves region.Earlier (k ∷ l ∷ m ∷ ks) e = e
  demand_moves region.Crossing (k ∷ l ∷ m ∷ ks) e = e

-- ---- a name that two blocks share stands in both
or_second : (a b : Bool) → b ≡ true → (a || b) ≡ true
or_second true b e = refl
or_second false b e = e

both_touch : (S T : Block) (z : List ℕ) (a b c d : Bool) → ((a && (d || c)) || (c && (b || a))) ≡ true → ((b || a) ≡ true) × ((d || c) ≡ true)
both_touch S T z true b c d e = (or_second b true refl, of_first b c d e)
  where
    of_first : (b c d : Bool) → ((d || c) || (c && (b || true))) ≡ true → (d || c) ≡ true
    of_first b c true e = refl
    of_first b true false e = refl
    of_first b false false e = e
both_touch S T z false true true d e = (refl, or_second d true refl)
both_touch S T z false true false d e = absurd (true≢false (sym e))
both_touch S T z false false true d e = absurd (true≢false (sym e))
both_touch S T z false false false d e = absurd (true≢false (sym e))

pub shared_by_both : (S T : Block) (z : List ℕ) → shares S T z ≡ true → (touches S z ≡ true) × (touches T z ≡ true)
shared_by_both S T z e = both_touch S T z (writes_name S z) (reads_name S z) (writes_name T z) (reads_name T z) e

-- ---- a clash may be sought in either
no_clash : (a b : Bool) → a ≡ true → (a && not b) ≡ false → b ≡ true
no_clash a b e f = yes_of a b e f

module _ (r : Region) (ks : List Name) (S T : Block) where
  -- where no place of one block clashes, none of the other does
  module _ (b : Block) (touch : (z : List ℕ) → shares S T z ≡ true → touches b z ≡ true) (c : Block) (place : HasPlace (clashes r ks S T) (λ k. block_has k c))
      (counted : (z : List ℕ) (n p : ℕ) (k : List ℕ) → shares S T z ≡ true → spelled place.name ≡ z → all_ordered k n p z S T ≡ true → count place.indices ≡ n)
      (stands : (z : List ℕ) → spelled place.name ≡ z → (good : Exprs → Bool) → every_place z good S ≡ true → every_place z good T ≡ true → good place.indices ≡ true) where
    never_clashes : block_has (clashes r ks S T) b ≡ false → ⊥
    never_clashes none =
        let z : List ℕ = spelled place.name in
        let shared : shares S T z ≡ true = first_yes _ _ place.is in
        let other : HasPlace (named z) (λ k. block_has k b) = touched_place b z (touch z shared) in
        let same : spelled other.name ≡ z = named_place z other.name other.indices other.is in
        let clear : clashes r ks S T other.name other.indices ≡ false = other.stands (clashes r ks S T) none in
        let demand : is_apart r ks z other.indices S T ≡ true =
        subst (λ y. is_apart r ks y other.indices S T ≡ true) same
        (no_clash (shares S T (spelled other.name)) (is_apart r ks (spelled other.name) other.indices S T) (ap (shares S T) same ∙ shared) clear) in
        let moved : is_apart r ks z place.indices S T ≡ true =
        demand_moves S T z other.indices place.indices (stands z refl) (λ k p h. counted z (count other.indices) p k shared refl h) r ks demand in
        true≢false (sym moved ∙ no_of _ (second_yes (shares S T z) _ place.is))

  first_tells : block_has (clashes r ks S T) S ≡ false → block_has (clashes r ks S T) T ≡ true → ⊥
  first_tells none some =
      let place : HasPlace (clashes r ks S T) (λ k. block_has k T) = has_place (clashes r ks S T) T some in
      never_clashes S (λ z shared. (shared_by_both S T z shared).0) T place
      (λ z n p k shared same h. second_counts S T z place.indices k n p h ((shared_by_both S T z shared).0) (good_of T z (clashes r ks S T) place same))
      (λ z same good first second. good_of T z (clashes r ks S T) place same good second) none

  second_tells : block_has (clashes r ks S T) T ≡ false → block_has (clashes r ks S T) S ≡ true → ⊥
  second_tells none some =
      let place : HasPlace (clashes r ks S T) (λ k. block_has k S) = has_place (clashes r ks S T) S some in
      never_clashes T (λ z shared. (shared_by_both S T z shared).1) S place
      (λ z n p k shared same h. first_counts S T z place.indices k n p h ((shared_by_both S T z shared).1) (good_of S z (clashes r ks S T) place same))
      (λ z same good first second. good_of S z (clashes r ks S T) place same good first) none

  same_answer : (a b : Bool) → (a ≡ false → b ≡ true → ⊥) → (b ≡ false → a ≡ true → ⊥) → b ≡ a
  same_answer true true f g = refl
  same_answer true false f g = absurd (g refl refl)
  same_answer false true f g = absurd (f refl refl)
  same_answer false false f g = refl

  pub either_block : block_has (clashes r ks S T) T ≡ block_has (clashes r ks S T) S
  either_block = same_answer (block_has (clashes r ks S T) S) (block_has (clashes r ks S T) T) first_tells second_tells
