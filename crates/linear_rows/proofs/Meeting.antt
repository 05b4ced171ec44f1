-- When the variables over a denominator d meet a line, and that this is kept by what makes a stage: division by
-- the common divisor, what is dropped, and the sums that cancel a variable.
use Rattle.std.proofs.Common.{◌≡◌, ℕ, suc, ℤ, pos, ◌+ℤ◌, ◌-ℤ◌, ◌*ℤ◌, ◌≤ℤ◌, ◌<ℤ◌, List, [], ◌∷◌, ◌++◌, map, length, Bool, true, false, cond, Result, Ok, Err, arith, refl, sym, ap, ◌∙◌, subst, ⊎_elim, ◌⊎◌, inl, inr}
use Rattle.std.specs.Prelude.{int_div, int_le, nat_le}
use Rattle.std.specs.List.{AllByRecursion, list_any, list_all}
use Rattle.std.specs.Ordering.{int_eq}
use Rattle.std.specs.Cmp.Lexicographic.{pointwise}
use Rattle.std.specs.Cmp.Rules.{signed_items}
use Rattle.std.proofs.lemmas.Int.{ints}
use Rattle.std.proofs.lemmas.Bool.{and_parts, or_cases, false≢true}
use Rattle.linear_rows.specs.declared.answer.RowKind.{RowKind}
use Rattle.linear_rows.specs.declared.answer.RowKind.TheVariants.{Rows, Coefficient}
use Rattle.linear_rows.specs.Row.{products}
use Rattle.linear_rows.specs.Fractions.{is_small}
use Rattle.linear_rows.specs.Stage.{first, without_first, is_always_met, is_dropped, cut_of, lowest, taken, and_then, gathered, mixed, multiplier, cancelled}
use Rattle.linear_rows.proofs.Products.{sum_times, product_of_sum, product_commutes, product_associates, first_exchanged, difference_times, product_of_difference}
use Rattle.linear_rows.proofs.Weighing.{products_zero}
use Rattle.linear_rows.proofs.Crosswise.{times_most}
use Rattle.linear_rows.proofs.Lowering.{cut_positive, cut_exact}
use Rattle.linear_rows.proofs.Each.{each_first, each_second, each_append}
use Rattle.std.proofs.lemmas.List.{length-map}

-- the sum of coefficients times variables is at most the bound, both times d
abbrev pub IsMetAt : ℤ → List ℤ → List ℤ → Type 0
IsMetAt d zs [] = Unit {0}
IsMetAt d zs (b ∷ cs) = products cs zs ≤ℤ (b *ℤ d)

-- each coefficient is a multiple
products_lowered : (g : ℤ) (f : ℤ → ℤ) (cs zs : List ℤ) → AllByRecursion (λ z. f z *ℤ g ≡ z) cs → products cs zs ≡ g *ℤ products (map f cs) zs
products_lowered g f [] zs each = omega (arith, ints, product_commutes g (pos 0))
products_lowered g f (c ∷ cs) [] each = omega (arith, ints, product_commutes g (pos 0))
products_lowered g f (c ∷ cs) (z ∷ zs) each =
    let rest = products_lowered g f cs zs each.1 in
    let here : c *ℤ z ≡ g *ℤ (f c *ℤ z) = ap (λ y. y *ℤ z) (sym each.0) ∙ ap (λ y. y *ℤ z) (product_commutes (f c) g) ∙ product_associates g (f c) z in
    let parts = product_of_sum g (f c *ℤ z) (products (map f cs) zs) in
    omega (arith, ints)

lowered_met : (g : ℤ) (f : ℤ → ℤ) (d : ℤ) (zs line : List ℤ) → pos 0 <ℤ g → AllByRecursion (λ z. f z *ℤ g ≡ z) line → IsMetAt d zs (map f line) → IsMetAt d zs line
lowered_met g f d zs [] positive each met = tt
lowered_met g f d zs (b ∷ cs) positive each met =
    let whole = products_lowered g f cs zs each.1 in
    let here : b *ℤ d ≡ g *ℤ (f b *ℤ d) = ap (λ y. y *ℤ d) (sym each.0) ∙ ap (λ y. y *ℤ d) (product_commutes (f b) g) ∙ product_associates g (f b) d in
    let most = times_most g (products (map f cs) zs) (f b *ℤ d) (omega (arith, ints)) met in
    omega (arith, ints)

-- a line in lowest terms says what the line says
pub lowest_met : (d : ℤ) (zs line : List ℤ) → IsMetAt d zs (lowest line) → IsMetAt d zs line
lowest_met d zs line met =
    let positive = cut_positive line in
    lowered_met (pos (cut_of line)) (λ z. int_div z (pos (cut_of line))) d zs line (omega (arith, ints)) (cut_exact line) met

by_test : (a b : ℤ) → int_le a b ≡ true → a ≤ℤ b
by_test a b test = grind (arith, ints)

-- what is always met
always_met : (d : ℤ) (zs line : List ℤ) → pos 0 <ℤ d → is_always_met line ≡ true → IsMetAt d zs line
always_met d zs [] positive is = tt
always_met d zs (b ∷ cs) positive is =
    let both = and_parts _ _ is in
    let none = products_zero cs zs both.0 in
    let least = times_most d (pos 0) b (omega (arith, ints)) (by_test (pos 0) b both.1) in
    omega (arith, ints, product_commutes d (pos 0), product_commutes d b)

equal_met : (d : ℤ) (zs line : List ℤ) (stage : List (List ℤ)) → list_any (pointwise int_eq line) stage ≡ true → AllByRecursion (IsMetAt d zs) stage → IsMetAt d zs line
equal_met d zs line [] is met = absurd (false≢true is)
equal_met d zs line (other ∷ stage) is met =
    ⊎_elim
    (λ here. subst (IsMetAt d zs) (sym ((signed_items line other).0 here)) met.0)
    (λ there. equal_met d zs line stage there met.1)
    (or_cases _ _ is)

dropped_met : (d : ℤ) (zs line : List ℤ) (stage : List (List ℤ)) → pos 0 <ℤ d → is_dropped stage line ≡ true → AllByRecursion (IsMetAt d zs) stage → IsMetAt d zs line
dropped_met d zs line stage positive is met =
    ⊎_elim
    (λ always. always_met d zs line positive always)
    (λ equal. equal_met d zs line stage equal met)
    (or_cases _ _ is)

abbrev stage_or : List (List ℤ) → Result (List (List ℤ)) RowKind → List (List ℤ)
stage_or d (Ok stage) = stage
stage_or d (Err what) = d

abbrev is_whole : Result (List (List ℤ)) RowKind → Bool
is_whole (Ok stage) = true
is_whole (Err what) = false

-- a stage that is whole is the one that it is said to be
same_Ok : (old new : List (List ℤ)) → ◌≡◌ {A = Result (List (List ℤ)) RowKind} (Ok old) (Ok new) → old ≡ new
same_Ok old new e = ap (stage_or []) e

err-ok : (what : RowKind) (new : List (List ℤ)) → ◌≡◌ {A = Result (List (List ℤ)) RowKind} (Err what) (Ok new) → ⊥
err-ok what new e = false≢true (ap is_whole e)

-- a line that was taken was dropped or went last
taken_by : (b c s : Bool) (stage new : List (List ℤ)) (line : List ℤ) →
    cond b (Ok stage) (cond c (Err Rows) (cond s (Ok (stage ++ line ∷ [])) (Err Coefficient))) ≡ Ok new → ((b ≡ true) × (stage ≡ new)) ⊎ (stage ++ line ∷ [] ≡ new)
taken_by true c s stage new line is = inl (refl, same_Ok stage new is)
taken_by false true s stage new line is = absurd (err-ok Rows new is)
taken_by false false true stage new line is = inr (same_Ok (stage ++ line ∷ []) new is)
taken_by false false false stage new line is = absurd (err-ok Coefficient new is)

pub taken_tells : (stage new : List (List ℤ)) (line : List ℤ) → taken stage line ≡ Ok new → ((is_dropped stage line ≡ true) × (stage ≡ new)) ⊎ (stage ++ line ∷ [] ≡ new)
taken_tells stage new line is = taken_by (is_dropped stage line) (nat_le 4096 (length stage)) (list_all is_small line) stage new line is

pub and_then_tells : (f : List (List ℤ) → Result (List (List ℤ)) RowKind) (r : Result (List (List ℤ)) RowKind) (new : List (List ℤ)) → and_then f r ≡ Ok new →
    (s : List (List ℤ)) × (r ≡ Ok s) × (f s ≡ Ok new)
and_then_tells f (Ok s) new is = (s, refl, is)
and_then_tells f (Err what) new is = absurd (err-ok what new is)

-- what meets the lines that were gathered meets those that they were gathered from
pub gathered_met : (d : ℤ) (zs : List ℤ) (lines old new : List (List ℤ)) → pos 0 <ℤ d → gathered old lines ≡ Ok new → AllByRecursion (IsMetAt d zs) new →
    AllByRecursion (IsMetAt d zs) old × AllByRecursion (IsMetAt d zs) lines
gathered_met d zs [] old new positive is met = (subst (AllByRecursion (IsMetAt d zs)) (sym (same_Ok old new is)) met, tt)
gathered_met d zs (line ∷ lines) old new positive is met =
    let (more, more_is, rest_is) = and_then_tells (λ s. gathered s lines) (taken old (lowest line)) new is in
    let rest = gathered_met d zs lines more new positive rest_is met in
    ⊎_elim
    (λ dropped.
    let met_old : AllByRecursion (IsMetAt d zs) old = subst (AllByRecursion (IsMetAt d zs)) (sym dropped.1) rest.0 in
    (met_old, (lowest_met d zs line (dropped_met d zs (lowest line) old positive dropped.0 met_old), rest.1)))
    (λ last.
    let both : AllByRecursion (IsMetAt d zs) (old ++ lowest line ∷ []) = subst (AllByRecursion (IsMetAt d zs)) (sym last) rest.0 in
    (each_first (IsMetAt d zs) old (lowest line ∷ []) both, (lowest_met d zs line (each_second (IsMetAt d zs) old (lowest line ∷ []) both).0, rest.1)))
    (taken_tells old more (lowest line) more_is)

-- all lines of a stage have one length
abbrev pub HasLength : ℕ → List ℤ → Type 0
HasLength n line = length line ≡ n

pub length-lowest : (line : List ℤ) → length (lowest line) ≡ length line
length-lowest line = length-map line (λ z. int_div z (pos (cut_of line)))

pub gathered_lengths : (n : ℕ) (lines old new : List (List ℤ)) → gathered old lines ≡ Ok new → AllByRecursion (HasLength n) old → AllByRecursion (HasLength n) lines →
    AllByRecursion (HasLength n) new
gathered_lengths n [] old new is before all = subst (AllByRecursion (HasLength n)) (same_Ok old new is) before
gathered_lengths n (line ∷ lines) old new is before all =
    let (more, more_is, rest_is) = and_then_tells (λ s. gathered s lines) (taken old (lowest line)) new is in
    let count : length (lowest line) ≡ n = length-lowest line ∙ all.0 in
    let kept : AllByRecursion (HasLength n) more =
    ⊎_elim
    (λ dropped. subst (AllByRecursion (HasLength n)) dropped.1 before)
    (λ last. subst (AllByRecursion (HasLength n)) last (each_append (HasLength n) old (lowest line ∷ []) before (count, tt)))
    (taken_tells old more (lowest line) more_is) in
    gathered_lengths n lines more new rest_is kept all.1

pub products_mixed : (a b : ℤ) (p q zs : List ℤ) → length p ≡ length q → products (mixed a p b q) zs ≡ (a *ℤ products p zs) +ℤ (b *ℤ products q zs)
products_mixed a b [] [] zs e = omega (arith, ints, product_commutes a (pos 0), product_commutes b (pos 0))
products_mixed a b [] (y ∷ q) zs e = absurd (omega arith)
products_mixed a b (x ∷ p) [] zs e = absurd (omega arith)
products_mixed a b (x ∷ p) (y ∷ q) [] e = omega (arith, ints, product_commutes a (pos 0), product_commutes b (pos 0))
products_mixed a b (x ∷ p) (y ∷ q) (z ∷ zs) e =
    let rest = products_mixed a b p q zs (omega arith) in
    let here = sum_times (a *ℤ x) (b *ℤ y) z in
    let first = product_of_sum a (x *ℤ z) (products p zs) in
    let first' = product_associates a x z in
    let second = product_of_sum b (y *ℤ z) (products q zs) in
    let second' = product_associates b y z in
    omega (arith, ints)

pub length-mixed : (a b : ℤ) (p q : List ℤ) → length p ≡ length q → length (mixed a p b q) ≡ length p
length-mixed a b [] [] e = refl
length-mixed a b [] (y ∷ q) e = absurd (omega arith)
length-mixed a b (x ∷ p) [] e = absurd (omega arith)
length-mixed a b (x ∷ p) (y ∷ q) e = let rest = length-mixed a b p q (omega arith) in omega arith

pub length-without_first : (n : ℕ) (line : List ℤ) → length line ≡ suc (suc n) → length (without_first line) ≡ suc n
length-without_first n [] e = absurd (omega arith)
length-without_first n (b ∷ []) e = absurd (omega arith)
length-without_first n (b ∷ a ∷ cs) e = omega arith

pub length-cancelled : (n : ℕ) (p q : List ℤ) → length p ≡ suc (suc n) → length q ≡ suc (suc n) → length (cancelled p q) ≡ suc n
length-cancelled n p q p_is q_is =
    let by = pos (multiplier (first q) (first p)) in
    let times = pos (multiplier (first p) (first q)) in
    length-without_first n (mixed by p times q) (length-mixed by times p q (p_is ∙ sym q_is) ∙ p_is)

-- what a line leaves to a multiple of its first variable, over d
abbrev pub room : ℤ → List ℤ → ℤ → List ℤ → ℤ
room d zs b cs = (b *ℤ d) -ℤ products cs zs

-- a sum of two lines that is met leaves room
pub sum_room : (d by times : ℤ) (zs : List ℤ) (b : ℤ) (cs : List ℤ) (c : ℤ) (es : List ℤ) → length cs ≡ length es →
    products (mixed by cs times es) zs ≤ℤ (((by *ℤ b) +ℤ (times *ℤ c)) *ℤ d) → pos 0 ≤ℤ ((by *ℤ room d zs b cs) +ℤ (times *ℤ room d zs c es))
sum_room d by times zs b cs c es e met =
    let whole = products_mixed by times cs es zs e in
    let right = sum_times (by *ℤ b) (times *ℤ c) d in
    let first = product_of_difference by (b *ℤ d) (products cs zs) in
    let first' = product_associates by b d in
    let second = product_of_difference times (c *ℤ d) (products es zs) in
    let second' = product_associates times c d in
    omega (arith, ints)

-- variables over a denominator with one more factor
products_scaled : (t : ℤ) (cs zs : List ℤ) → products cs (map (λ z. t *ℤ z) zs) ≡ t *ℤ products cs zs
products_scaled t [] zs = omega (arith, ints, product_commutes t (pos 0))
products_scaled t (c ∷ cs) [] = omega (arith, ints, product_commutes t (pos 0))
products_scaled t (c ∷ cs) (z ∷ zs) =
    let rest = products_scaled t cs zs in
    let here = first_exchanged c t z in
    let parts = product_of_sum t (c *ℤ z) (products cs zs) in
    omega (arith, ints)

-- a value x over t of the first variable that is within the room meets the line
pub room_met : (d t x b a : ℤ) (zs cs : List ℤ) → (a *ℤ (x *ℤ d)) ≤ℤ (room d zs b cs *ℤ t) → IsMetAt (d *ℤ t) ((x *ℤ d) ∷ map (λ z. t *ℤ z) zs) (b ∷ a ∷ cs)
room_met d t x b a zs cs le =
    let rest = products_scaled t cs zs in
    let right = difference_times (b *ℤ d) (products cs zs) t in
    let right' = product_associates b d t in
    let turned = product_commutes (products cs zs) t in
    omega (arith, ints)

-- in a line without the first variable its value does not matter
pub kept_met : (d t x b a : ℤ) (zs cs : List ℤ) → pos 0 <ℤ t → a ≡ pos 0 → IsMetAt d zs (b ∷ cs) → IsMetAt (d *ℤ t) ((x *ℤ d) ∷ map (λ z. t *ℤ z) zs) (b ∷ a ∷ cs)
kept_met d t x b a zs cs positive none met =
    let left : a *ℤ (x *ℤ d) ≡ pos 0 = ap (λ y. y *ℤ (x *ℤ d)) none ∙ product_commutes (pos 0) (x *ℤ d) ∙ omega (arith, ints) in
    let most = times_most t (pos 0) (room d zs b cs) (omega (arith, ints)) (omega (arith, ints)) in
    let turned = product_commutes t (room d zs b cs) in
    let nothing = product_commutes t (pos 0) in
    room_met d t x b a zs cs (omega (arith, ints))
