-- The least item of a list above a mark, in a total order: going from one to the next meets each different item once.
-- What passed a mark is what is not above it.
use Rattle.std.specs.Prelude.{◌≡◌, ℕ, ◌+◌, ◌<◌, Bool, true, false, not, cond, ◌&&◌, ◌||◌, List, [], ◌∷◌, length, Option, Some, None, refl}
use Rattle.std.proofs.Common.{sym, ◌∙◌, ap, subst, arith, ◌⊎◌, inl, inr}
use Rattle.std.proofs.lemmas.Bool.{both_ways, false_from_ne_true, and_parts}
use Rattle.std.specs.List.{list_any, filter}
use Rattle.std.specs.Ordering.{is_lt, is_gt, is_eq, ordering_reverse}
use Rattle.std.specs.declared.cmp.Ordering.{Ordering}
use Rattle.std.specs.declared.cmp.Ordering.TheVariants.{Less, Equal, Greater}
use Rattle.std.specs.Cmp.{IsTotalOrder}
use Rattle.std.proofs.lemmas.Cmp.{upto, tied_itself}
use Rattle.term_universe.specs.Least.{is_above, is_before, lesser, least_above}
use Rattle.term_universe.specs.Tallies.{different}
use Rattle.term_universe.proofs.Different.{by_bool, Adds, Agree, one_more, filter_agreeing, fewer}

by_ordering : {G : Type 0} (o : Ordering) → (o ≡ Less → G) → (o ≡ Equal → G) → (o ≡ Greater → G) → G
by_ordering Less p q r = p refl
by_ordering Equal p q r = q refl
by_ordering Greater p q r = r refl

lt_reverse : (o : Ordering) → is_lt (ordering_reverse o) ≡ is_gt o
lt_reverse Less = refl
lt_reverse Equal = refl
lt_reverse Greater = refl

lt_less : (o : Ordering) → is_lt o ≡ true → o ≡ Less
lt_less Less h = refl
lt_less Equal h = cc
lt_less Greater h = cc

eq_equal : (o : Ordering) → is_eq o ≡ true → o ≡ Equal
eq_equal Less h = cc
eq_equal Equal h = refl
eq_equal Greater h = cc

lt_not_gt : (o : Ordering) → is_lt o ≡ true → is_gt o ≡ false
lt_not_gt Less h = refl
lt_not_gt Equal h = cc
lt_not_gt Greater h = cc

or_true : (a b : Bool) → b ≡ true → (a || b) ≡ true
or_true true b h = refl
or_true false b h = h

and_false : (a b : Bool) → (a && b) ≡ false → a ≡ true → b ≡ false
and_false true b h k = h
and_false false b h k = cc

left_false : (a b : Bool) → (a && b) ≡ false → b ≡ true → a ≡ false
left_false false b h k = refl
left_false true b h k = absurd (both_ways b h k)

and_nothing : (a : Bool) → (a && false) ≡ false
and_nothing true = refl
and_nothing false = refl

and_all : (a : Bool) → (a && true) ≡ a
and_all true = refl
and_all false = refl

spread : (a b c : Bool) → (c ≡ true → a ≡ true) → (a && (b || c)) ≡ ((a && b) || c)
spread true b c h = refl
spread false b true h = absurd (both_ways true (sym (h refl)) refl)
spread false b false h = refl

shed : (a b c : Bool) → (c ≡ true → a ≡ false) → (a && (b || c)) ≡ (a && b)
shed false b c h = refl
shed true b true h = absurd (both_ways true (h refl) refl)
shed true true false h = refl
shed true false false h = refl

some_none : {X : Type 0} (x : X) → Some x ≡ None → ⊥
some_none x h = cc

module _ {X : Type 0} (cmp : X → X → Ordering) (total : IsTotalOrder cmp) (equal : (x y : X) → cmp x y ≡ Equal → x ≡ y) where
  abbrev pub same : X → X → Bool
  same x y = is_eq (cmp x y)

  lt_gt : (x y : X) → is_lt (cmp x y) ≡ is_gt (cmp y x)
  lt_gt x y = ap is_lt (total.antisymm x y) ∙ lt_reverse (cmp y x)

  pub not_lt_itself : (x : X) → is_lt (cmp x x) ≡ false
  not_lt_itself x = ap is_lt (tied_itself total x)

  above_more : (low : Option X) (m x : X) → is_above cmp low m ≡ true → cmp m x ≡ Less → is_above cmp low x ≡ true
  above_more None m x h k = refl
  above_more (Some l) m x h k = ap is_lt (total.trans l m x (lt_less (cmp l m) h) k)

  -- m is a least item above the mark: no item of a list above the mark is before m
  abbrev pub NoneBefore : Option X → X → List X → Type 0
  NoneBefore low m [] = Unit {0}
  NoneBefore low m (x ∷ xs) = (is_above cmp low x ≡ true → is_lt (cmp x m) ≡ false) × NoneBefore low m xs

  abbrev pub NoneAbove : Option X → List X → Type 0
  NoneAbove low [] = Unit {0}
  NoneAbove low (x ∷ xs) = (is_above cmp low x ≡ false) × NoneAbove low xs

  pub record Found (low best : Option X) (xs : List X) (m : X) : Type 0 where
    pub origin : (best ≡ Some m) ⊎ ((list_any (same m) xs ≡ true) × (is_above cmp low m ≡ true))
    pub before_best : (b : X) → best ≡ Some b → is_lt (cmp b m) ≡ false
    pub least : NoneBefore low m xs

  open_origin : (low best : Option X) (x : X) (xs : List X) (m : X) → (is_above cmp low x ≡ true) → (Some x ≡ Some m) ⊎ ((list_any (same m) xs ≡ true) × (is_above cmp low m ≡ true)) → (list_any (same m) (x ∷ xs) ≡ true) × (is_above cmp low m ≡ true)
  open_origin low best x xs m h (inl e) =
      let is : x ≡ m = cc in
      (ap (λ b. b || list_any (same m) xs) (subst (λ y. same m y ≡ true) (sym is) (ap is_eq (tied_itself total m))), subst (λ y. is_above cmp low y ≡ true) is h)
  open_origin low best x xs m h (inr e) = (or_true (same m x) (list_any (same m) xs) e.0, e.1)

  kept_origin : (low best : Option X) (x : X) (xs : List X) (m : X) → (best ≡ Some m) ⊎ ((list_any (same m) xs ≡ true) × (is_above cmp low m ≡ true)) → (best ≡ Some m) ⊎ ((list_any (same m) (x ∷ xs) ≡ true) × (is_above cmp low m ≡ true))
  kept_origin low best x xs m (inl e) = inl e
  kept_origin low best x xs m (inr e) = inr (or_true (same m x) (list_any (same m) xs) e.0, e.1)

  -- b is at or behind x, and x at or behind m: b is not before m
  not_before : (x b m : X) → is_lt (cmp b x) ≡ false → is_lt (cmp x m) ≡ false → is_lt (cmp b m) ≡ false
  not_before x b m h k =
      let up : is_gt (cmp x b) ≡ false = sym (lt_gt b x) ∙ h in
      let down : is_gt (cmp m x) ≡ false = sym (lt_gt x m) ∙ k in
      lt_gt b m ∙ upto total m x b down up

  before_is : (x b : X) → is_lt (cmp x b) ≡ true → is_lt (cmp b x) ≡ false
  before_is x b h = lt_gt b x ∙ lt_not_gt (cmp x b) h

  behind : (best : Option X) (x m : X) → ((b : X) → best ≡ Some b → is_lt (cmp b m) ≡ false) → is_before cmp best x ≡ false → is_lt (cmp x m) ≡ false
  behind None x m h k = cc
  behind (Some b) x m h k = not_before b x m k (h b refl)

  pub found : (low best : Option X) (xs : List X) (m : X) → least_above cmp low best xs ≡ Some m → Found low best xs m
  unfolding least_above
  found low best [] m h = record {
    origin = inl h;
    before_best = λ b e. let is : b ≡ m = cc in subst (λ y. is_lt (cmp b y) ≡ false) is (not_lt_itself b);
    least = tt;
  }
  found low best (x ∷ xs) m h = by_bool (is_above cmp low x && is_before cmp best x)
      (λ t.
      let now : lesser cmp low best x ≡ Some x = ap (λ b. cond b (Some x) best) t in
      let later : Found low (Some x) xs m = found low (Some x) xs m (sym (ap (λ b. least_above cmp low b xs) now) ∙ h) in
      let parts : (is_above cmp low x ≡ true) × (is_before cmp best x ≡ true) = and_parts (is_above cmp low x) (is_before cmp best x) t in
      record {
        origin = inr (open_origin low best x xs m parts.0 later.origin);
        before_best = λ b e. not_before x b m (before_is x b (subst (λ o. is_before cmp o x ≡ true) e parts.1)) (later.before_best x refl);
        least = (λ k. later.before_best x refl, later.least);
      })
      (λ t.
      let now : lesser cmp low best x ≡ best = ap (λ b. cond b (Some x) best) t in
      let later : Found low best xs m = found low best xs m (sym (ap (λ b. least_above cmp low b xs) now) ∙ h) in
      record {
        origin = kept_origin low best x xs m later.origin;
        before_best = later.before_best;
        least = (λ k. behind best x m later.before_best (and_false (is_above cmp low x) (is_before cmp best x) t k), later.least);
      })

  pub found_none : (low : Option X) (xs : List X) (best : Option X) → least_above cmp low best xs ≡ None → (best ≡ None) × NoneAbove low xs
  unfolding least_above
  found_none low [] best h = (h, tt)
  found_none low (x ∷ xs) best h = by_bool (is_above cmp low x && is_before cmp best x)
      (λ t.
      let now : lesser cmp low best x ≡ Some x = ap (λ b. cond b (Some x) best) t in
      let later : (Some x ≡ None) × NoneAbove low xs = found_none low xs (Some x) (sym (ap (λ b. least_above cmp low b xs) now) ∙ h) in
      absurd (some_none x later.0))
      (λ t.
      let now : lesser cmp low best x ≡ best = ap (λ b. cond b (Some x) best) t in
      let later : (best ≡ None) × NoneAbove low xs = found_none low xs best (sym (ap (λ b. least_above cmp low b xs) now) ∙ h) in
      let first : is_before cmp best x ≡ true = subst (λ o. is_before cmp o x ≡ true) (sym later.0) refl in
      (later.0, (left_false (is_above cmp low x) (is_before cmp best x) t first, later.1)))

  -- what did not pass the mark m is what did not pass the mark before it, and m
  upto_next : (low : Option X) (m x : X) → is_above cmp low m ≡ true → (is_above cmp low x ≡ true → is_lt (cmp x m) ≡ false) → not (is_above cmp (Some m) x) ≡ (not (is_above cmp low x) || same m x)
  upto_next low m x h k = by_ordering (cmp m x)
      (λ e. let a : is_above cmp low x ≡ true = above_more low m x h e in
      ap (λ o. not (is_lt o)) e ∙ sym (ap (λ b. not b || same m x) a ∙ ap is_eq e))
      (λ e. ap (λ o. not (is_lt o)) e ∙ sym (or_true (not (is_above cmp low x)) (same m x) (ap is_eq e)))
      (λ e. let back : is_lt (cmp x m) ≡ true = lt_gt x m ∙ ap is_gt e in
      let a : is_above cmp low x ≡ false = false_from_ne_true (is_above cmp low x) (λ t. both_ways (is_lt (cmp x m)) (k t) back) in
      ap (λ o. not (is_lt o)) e ∙ sym (ap (λ b. not b || same m x) a))

  -- so above the mark before it is what is above m, and m
  pub above_next : (low : Option X) (m x : X) → is_above cmp low m ≡ true → (is_above cmp low x ≡ true → is_lt (cmp x m) ≡ false) → is_above cmp low x ≡ (is_above cmp (Some m) x || same m x)
  above_next low m x h k = by_ordering (cmp m x)
      (λ e. above_more low m x h e ∙ sym (ap (λ o. is_lt o || is_eq o) e))
      (λ e. let is : m ≡ x = equal m x e in subst (λ y. is_above cmp low y ≡ true) is h ∙ sym (ap (λ o. is_lt o || is_eq o) e))
      (λ e. let back : is_lt (cmp x m) ≡ true = lt_gt x m ∙ ap is_gt e in
      false_from_ne_true (is_above cmp low x) (λ t. both_ways (is_lt (cmp x m)) (k t) back) ∙ sym (ap (λ o. is_lt o || is_eq o) e))

  pub same_equal : (x y : X) → same x y ≡ true → x ≡ y
  same_equal x y h = equal x y (eq_equal (cmp x y) h)

  -- the items of a kind that did not pass a mark
  abbrev pub passed : (X → Bool) → Option X → X → Bool
  passed kind low x = kind x && not (is_above cmp low x)

  adds : (kind : X → Bool) (low : Option X) (m : X) → kind m ≡ true → is_above cmp low m ≡ true → (xs : List X) → NoneBefore low m xs → Adds same same_equal (passed kind low) (passed kind (Some m)) m xs
  adds kind low m k h [] least = tt
  adds kind low m k h (x ∷ xs) least = (
    ap (λ b. kind x && b) (upto_next low m x h least.0) ∙ spread (kind x) (not (is_above cmp low x)) (same m x) (λ e. subst (λ y. kind y ≡ true) (same_equal m x e) k),
    adds kind low m k h xs least.1,
  )

  agrees : (kind : X → Bool) (low : Option X) (m : X) → kind m ≡ false → is_above cmp low m ≡ true → (xs : List X) → NoneBefore low m xs → Agree same same_equal (passed kind low) (passed kind (Some m)) xs
  agrees kind low m k h [] least = tt
  agrees kind low m k h (x ∷ xs) least = (
    ap (λ b. kind x && b) (upto_next low m x h least.0) ∙ shed (kind x) (not (is_above cmp low x)) (same m x) (λ e. subst (λ y. kind y ≡ false) (same_equal m x e) k),
    agrees kind low m k h xs least.1,
  )

  not_begun : {m : X} → None ≡ Some m → ⊥
  not_begun h = cc

  pub member : (low : Option X) (xs : List X) (m : X) → least_above cmp low None xs ≡ Some m → (list_any (same m) xs ≡ true) × (is_above cmp low m ≡ true)
  member low xs m h = elim ((found low None xs m h).origin) [ inl e ↦ absurd (not_begun e) | inr e ↦ e ]

  pub next_counts : (kind : X → Bool) (low : Option X) (xs : List X) (m : X) → least_above cmp low None xs ≡ Some m →
      different same (filter (passed kind (Some m)) xs) ≡ different same (filter (passed kind low) xs) + cond (kind m) 1 0
  next_counts kind low xs m h =
      let f : Found low None xs m = found low None xs m h in
      let at : (list_any (same m) xs ≡ true) × (is_above cmp low m ≡ true) = member low xs m h in
      by_bool (kind m)
      (λ k. one_more same same_equal (passed kind low) (passed kind (Some m)) m (ap (λ b. kind m && not b) at.1 ∙ and_nothing (kind m)) xs (adds kind low m k at.1 xs f.least)
      ∙ ap (λ b. different same (filter (passed kind low) xs) + cond b 1 0) (at.0 ∙ sym k))
      (λ k. ap (different same) (filter_agreeing same same_equal (passed kind low) (passed kind (Some m)) xs (agrees kind low m k at.1 xs f.least))
      ∙ (let n = different same (filter (passed kind low) xs) in let same_sum : n ≡ n + 0 = omega arith in same_sum)
      ∙ ap (λ b. different same (filter (passed kind low) xs) + cond b 1 0) (sym k))

  none_passed : (kind : X → Bool) (xs : List X) → filter (passed kind None) xs ≡ []
  none_passed kind [] = refl
  none_passed kind (x ∷ xs) = ap (λ b. cond b (x ∷ filter (passed kind None) xs) (filter (passed kind None) xs)) (and_nothing (kind x)) ∙ none_passed kind xs

  pub starts_at_none : (kind : X → Bool) (xs : List X) → different same (filter (passed kind None) xs) ≡ 0
  unfolding different
  starts_at_none kind xs = ap (different same) (none_passed kind xs)

  whole : (kind : X → Bool) (low : Option X) (xs : List X) → NoneAbove low xs → Agree same same_equal kind (passed kind low) xs
  whole kind low [] h = tt
  whole kind low (x ∷ xs) h = (ap (λ b. kind x && not b) h.0 ∙ and_all (kind x), whole kind low xs h.1)

  -- no item is above the mark: all passed
  pub all_passed : (kind : X → Bool) (low : Option X) (xs : List X) → least_above cmp low None xs ≡ None → different same (filter (passed kind low) xs) ≡ different same (filter kind xs)
  all_passed kind low xs h = ap (different same) (filter_agreeing same same_equal kind (passed kind low) xs (whole kind low xs (found_none low xs None h).1))

  lesser_whole : (kind : X → Bool) (low : Option X) (m : X) → ((x : X) → kind x ≡ true → is_lt (cmp x m) ≡ true) → (xs : List X) → NoneBefore low m xs → Agree same same_equal kind (passed kind low) xs
  lesser_whole kind low m k [] least = tt
  lesser_whole kind low m k (x ∷ xs) least = (
    by_bool (is_above cmp low x)
        (λ a. let out : kind x ≡ false = false_from_ne_true (kind x) (λ t. both_ways (is_lt (cmp x m)) (least.0 a) (k x t)) in ap (λ b. b && not (is_above cmp low x)) out ∙ sym out)
        (λ a. ap (λ b. kind x && not b) a ∙ and_all (kind x)),
    lesser_whole kind low m k xs least.1,
  )

  -- the next item is behind all of a kind: all of that kind passed
  pub kind_passed : (kind : X → Bool) (low : Option X) (xs : List X) (m : X) → ((x : X) → kind x ≡ true → is_lt (cmp x m) ≡ true) → least_above cmp low None xs ≡ Some m → different same (filter (passed kind low) xs) ≡ different same (filter kind xs)
  kind_passed kind low xs m k h = ap (different same) (filter_agreeing same same_equal kind (passed kind low) xs (lesser_whole kind low m k xs (found low None xs m h).least))

  above_adds : (low : Option X) (m : X) → is_above cmp low m ≡ true → (xs : List X) → NoneBefore low m xs → Adds same same_equal (is_above cmp (Some m)) (is_above cmp low) m xs
  above_adds low m h [] least = tt
  above_adds low m h (x ∷ xs) least = (above_next low m x h least.0, above_adds low m h xs least.1)

  -- fewer items are above the next mark
  pub closer : (low : Option X) (xs : List X) (m : X) → least_above cmp low None xs ≡ Some m → length (filter (is_above cmp (Some m)) xs) < length (filter (is_above cmp low) xs)
  closer low xs m h =
      let at : (list_any (same m) xs ≡ true) × (is_above cmp low m ≡ true) = member low xs m h in
      let least : NoneBefore low m xs = (found low None xs m h).least in
      let few = fewer same same_equal (is_above cmp low) (is_above cmp (Some m)) m (not_lt_itself m) xs (above_adds low m at.1 xs least) in
      let one : ◌≡◌ {A = ℕ} (cond (list_any (same m) xs) 1 0) 1 = ap (λ b. cond b 1 0) at.0 in
      omega (arith, few, one)
