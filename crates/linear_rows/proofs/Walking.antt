-- What is left of walks along two lists and along a stage's lines.
use Rattle.std.proofs.Common.{◌≡◌, ℕ, suc, ◌+◌, ◌<◌, ◌≤◌, min, ℤ, pos, ◌+ℤ◌, ◌*ℤ◌, List, [], ◌∷◌, ◌++◌, map, length, Bool, true, false, cond, Some, None, Ok, arith, refl, sym, ap, ◌∙◌, get_or, drop, ⊎_elim}
use Rattle.std.specs.Prelude.{◌||◌, ◌^◌, negsuc, neg_ℤ, unsigned_abs, int_div, All}
use Rattle.std.specs.List.{list_any, list_all, fold}
use Rattle.std.specs.Ordering.{int_eq}
use Rattle.std.specs.Cmp.Lexicographic.{pointwise}
use Rattle.std.proofs.lemmas.List.{drop_more, drop_all, append_assoc, append-nil, ext_get_or, get_or-map, length-map, map-append}
use Rattle.std.proofs.lemmas.List.Elements.{All-nil, All-cons, All-head, All-tail, All-push}
use Rattle.std.proofs.Math.Nat.{div-one}
use Rattle.std.proofs.lemmas.Bool.{cases_lt, lt-leb, leb-true, and_parts, cond-false}
use Rattle.linear_rows.specs.declared.fraction.Fraction.{Fraction}
use Rattle.linear_rows.specs.Fractions.{product, difference, is_small}
use Rattle.linear_rows.specs.Stage.{mixed, is_always_met, is_dropped, taken, cut_of, lowest, IsWide, IsSmall, first, without_first}
use Rattle.linear_rows.specs.Divisor.{divisor, common_divisor}
use Rattle.linear_rows.proofs.Divisors.{divisor_within_most}
use Rattle.linear_rows.specs.Elimination.{left_over}

-- one more number of a sum of two lines
pub mixed_more : (a b : ℤ) (p q : List ℤ) (i : ℕ) → i < length p → i < length q →
    mixed a (drop i p) b (drop i q) ≡ ((a *ℤ get_or p i (pos 0)) +ℤ (b *ℤ get_or q i (pos 0))) ∷ mixed a (drop (i + 1) p) b (drop (i + 1) q)
mixed_more a b p q i lt_p lt_q = rw (drop_more p i (pos 0) lt_p, drop_more q i (pos 0) lt_q) refl

mixed_none : (a b : ℤ) (p : List ℤ) → mixed a p b [] ≡ []
mixed_none a b [] = refl
mixed_none a b (x ∷ p) = refl

pub mixed_ends : (a b : ℤ) (p q : List ℤ) (i : ℕ) → min (length p) (length q) ≤ i → mixed a (drop i p) b (drop i q) ≡ []
mixed_ends a b p q i le =
    ⊎_elim
    (λ inside. rw (drop_all i q (omega arith)) (mixed_none a b (drop i p)))
    (λ past. rw (drop_all i p past) refl)
    (cases_lt i (length p))

-- a number is put at the end of the sum so far
pub mixed_push : (a b : ℤ) (p q whole line items : List ℤ) (i : ℕ) (z : ℤ) → i < length p → i < length q →
    whole ≡ line ++ mixed a (drop i p) b (drop i q) → items ≡ line ++ z ∷ [] → z ≡ (a *ℤ get_or p i (pos 0)) +ℤ (b *ℤ get_or q i (pos 0)) →
    whole ≡ items ++ mixed a (drop (i + 1) p) b (drop (i + 1) q)
mixed_push a b p q whole line items i z lt_p lt_q e items_is z_is =
    e ∙ ap (λ rest. line ++ rest) (mixed_more a b p q i lt_p lt_q)
    ∙ sym (append_assoc line (((a *ℤ get_or p i (pos 0)) +ℤ (b *ℤ get_or q i (pos 0))) ∷ []) (mixed a (drop (i + 1) p) b (drop (i + 1) q)))
    ∙ ap (λ y. (line ++ y ∷ []) ++ mixed a (drop (i + 1) p) b (drop (i + 1) q)) (sym z_is)
    ∙ ap (λ l. l ++ mixed a (drop (i + 1) p) b (drop (i + 1) q)) (sym items_is)

-- the whole sum
pub mixed_whole : (a b : ℤ) (p q whole line : List ℤ) (i : ℕ) → min (length p) (length q) ≤ i → whole ≡ line ++ mixed a (drop i p) b (drop i q) → line ≡ whole
mixed_whole a b p q whole line i le e = sym (e ∙ ap (λ rest. line ++ rest) (mixed_ends a b p q i le) ∙ append-nil line)

-- a list whose numbers are all divided
pub divided_all : (old new : List ℤ) (cut i : ℕ) → length new ≡ length old → length old ≤ i →
    ((k : ℕ) → k < i → get_or new k (pos 0) ≡ int_div (get_or old k (pos 0)) (pos cut)) → new ≡ map (λ z. int_div z (pos cut)) old
divided_all old new cut i e le done =
    ext_get_or (pos 0) new (map (λ z. int_div z (pos cut)) old) (e ∙ sym (length-map old (λ z. int_div z (pos cut))))
    (λ k lt. done k (omega arith) ∙ sym (get_or-map (λ z. int_div z (pos cut)) old k (pos 0) (pos 0) (omega arith)))

pub div_one : (z : ℤ) → int_div z (pos 1) ≡ z
div_one (pos n) = ap pos (div-one n)
div_one (negsuc n) = ap (λ m. neg_ℤ (pos m)) (div-one (suc n))

map_div_one : (line : List ℤ) → map (λ z. int_div z (pos 1)) line ≡ line
map_div_one [] = refl
map_div_one (z ∷ line) = λ i. div_one z i ∷ map_div_one line i

-- what is divided by 1 stays
pub lowest_already : (line : List ℤ) → cut_of line ≡ 1 → lowest line ≡ line
lowest_already line e = ap (λ g. map (λ z. int_div z (pos g)) line) e ∙ map_div_one line

-- the common divisor is no greater than the numbers may be
common_most : (m : ℕ) (line : List ℤ) (g : ℕ) → g ≤ m → All (λ z. unsigned_abs z ≤ m) line → fold (λ c z. divisor c (unsigned_abs z)) g line ≤ m
common_most m [] g le all = le
common_most m (z ∷ line) g le all =
    common_most m line (divisor g (unsigned_abs z)) (divisor_within_most g (unsigned_abs z) m le (All-head (λ y. unsigned_abs y ≤ m) z line all)) (All-tail (λ y. unsigned_abs y ≤ m) z line all)

pub common_fits : (line : List ℤ) → IsWide line → common_divisor line ≤ 2 ^ 126
common_fits line all = common_most (2 ^ 126) line 0 (omega arith) all

-- one more product is taken off
pub left_over_more : (sum : Fraction) (cs : List ℤ) (xs : List Fraction) (i : ℕ) (d : Fraction) (p rest : Fraction) → i < length cs → i < length xs →
    product (get_or cs i (pos 0)) (get_or xs i d) ≡ Some p → difference sum p ≡ Some rest →
    left_over sum (drop i cs) (drop i xs) ≡ left_over rest (drop (i + 1) cs) (drop (i + 1) xs)
left_over_more sum cs xs i d p rest lt lt' p_is rest_is = rw (drop_more cs i (pos 0) lt, drop_more xs i d lt', p_is) (rw rest_is refl)

-- a product passes the limit
pub left_over_product : (sum : Fraction) (cs : List ℤ) (xs : List Fraction) (i : ℕ) (d : Fraction) → i < length cs → i < length xs →
    product (get_or cs i (pos 0)) (get_or xs i d) ≡ None → left_over sum (drop i cs) (drop i xs) ≡ None
left_over_product sum cs xs i d lt lt' none = rw (drop_more cs i (pos 0) lt, drop_more xs i d lt', none) refl

-- a partial sum passes the limit
pub left_over_sum : (sum : Fraction) (cs : List ℤ) (xs : List Fraction) (i : ℕ) (d : Fraction) (p : Fraction) → i < length cs → i < length xs →
    product (get_or cs i (pos 0)) (get_or xs i d) ≡ Some p → difference sum p ≡ None → left_over sum (drop i cs) (drop i xs) ≡ None
left_over_sum sum cs xs i d p lt lt' p_is none = rw (drop_more cs i (pos 0) lt, drop_more xs i d lt', p_is) (rw none refl)

left_over_none : (sum : Fraction) (cs : List ℤ) → left_over sum cs [] ≡ Some sum
left_over_none sum [] = refl
left_over_none sum (a ∷ cs) = refl

pub left_over_ends : (sum : Fraction) (cs : List ℤ) (xs : List Fraction) (i : ℕ) → min (length cs) (length xs) ≤ i →
    left_over sum (drop i cs) (drop i xs) ≡ Some sum
left_over_ends sum cs xs i le =
    ⊎_elim
    (λ inside. rw (drop_all i xs (omega arith)) (left_over_none sum (drop i cs)))
    (λ past. rw (drop_all i cs past) refl)
    (cases_lt i (length cs))

list_any-map : {X Y : Type 0} (test : Y → Bool) (f : X → Y) (xs : List X) → list_any (λ x. test (f x)) xs ≡ list_any test (map f xs)
list_any-map test f [] = refl
list_any-map test f (x ∷ xs) = ap (λ b. test (f x) || b) (list_any-map test f xs)

-- a line that is not always met is dropped where an equal one is there
pub dropped_else : {X : Type 0} (items : X → List ℤ) (keys : List X) (line : List ℤ) (found : Bool) → is_always_met line ≡ false →
    found ≡ list_any (λ key. pointwise int_eq line (items key)) keys → found ≡ is_dropped (map items keys) line
dropped_else items keys line found not_met is = is ∙ list_any-map (pointwise int_eq line) items keys ∙ ap (λ b. b || list_any (pointwise int_eq line) (map items keys)) (sym not_met)

-- a line that is not dropped and passes no limit goes last
pub taken_last : (stage new : List (List ℤ)) (line : List ℤ) → is_dropped stage line ≡ false → length stage < 4096 → list_all is_small line ≡ true → new ≡ stage ++ line ∷ [] →
    taken stage line ≡ Ok new
taken_last stage new line kept few small is = rw (kept, lt-leb 4096 (length stage) few, small, is) refl

small_line : (line : List ℤ) → list_all is_small line ≡ true → IsSmall line
small_line [] test = All-nil (λ z. unsigned_abs z ≤ 2 ^ 62)
small_line (z ∷ line) test =
    let both = and_parts _ _ test in
    let le : unsigned_abs z ≤ 2 ^ 62 = leb-true (unsigned_abs z) (2 ^ 62) both.0 in
    All-cons (λ y. unsigned_abs y ≤ 2 ^ 62) z line le (small_line line both.1)

-- then its numbers are small, as those of the others
pub small_last : (stage new : List (List ℤ)) (line : List ℤ) → All IsSmall stage → list_all is_small line ≡ true → new ≡ stage ++ line ∷ [] → All IsSmall new
small_last stage new line small test is = rw is (All-push IsSmall stage line small (small_line line test))

-- a line that is not there goes last among those that a set has
pub added_line : {X : Type 0} (items : X → List ℤ) (keys new : List X) (line : X) → list_any (pointwise int_eq (items line)) (map items keys) ≡ false →
    new ≡ cond (list_any (λ key. pointwise int_eq (items line) (items key)) keys) keys (keys ++ line ∷ []) → map items new ≡ map items keys ++ items line ∷ []
added_line items keys new line absent is =
    let none : list_any (λ key. pointwise int_eq (items line) (items key)) keys ≡ false = list_any-map (pointwise int_eq (items line)) items keys ∙ absent in
    ap (map items) (is ∙ cond-false _ keys (keys ++ line ∷ []) none) ∙ map-append items keys (line ∷ [])

-- where a line's first number that is left stands
pub first_small : (line : List ℤ) → IsSmall line → unsigned_abs (first line) ≤ 2 ^ 62
first_small [] small = omega arith
first_small (b ∷ []) small = omega arith
first_small (b ∷ a ∷ cs) small = All-head (λ z. unsigned_abs z ≤ 2 ^ 62) a cs (All-tail (λ z. unsigned_abs z ≤ 2 ^ 62) b (a ∷ cs) small)

pub without_first_all : (P : ℤ → Type 0) (line : List ℤ) → All P line → All P (without_first line)
without_first_all P [] all = all
without_first_all P (b ∷ []) all = all
without_first_all P (b ∷ a ∷ cs) all = All-cons P b cs (All-head P b (a ∷ cs) all) (All-tail P a cs (All-tail P b (a ∷ cs) all))

pub small_wide : (line : List ℤ) → IsSmall line → IsWide line
small_wide line small k d lt = let le = small k d lt in omega arith
