-- What a step makes in a column, and what is left of the steps after some of them.
use Rattle.std.proofs.Common.{◌≡◌, ℕ, ◌+◌, ◌^◌, ◌<◌, ◌≤◌, ◌%◌, ◌&&◌, true, leb, ltb, eqb, ℤ, pos, negsuc, ◌+ℤ◌, ◌*ℤ◌, List, [], ◌∷◌, ◌++◌, length, Option, Some, None, arith, refl, sym, ap, ◌∙◌, get_or, take, drop, set}
use Rattle.std.specs.Prelude.{unsigned_abs, int_div, int_rem, slice_get, neg_ℤ}
use Rattle.std.specs.Option.{unwrap_or}
use Rattle.std.specs.List.{last_or}
use Rattle.std.proofs.lemmas.Int.{ints, quot-rem}
use Rattle.std.proofs.lemmas.List.{drop_more, drop_all, take_more_set, append_assoc}
use Rattle.std.proofs.lemmas.Option.{none-some, cond_some, slice_get_within, get_or_from_slice_get, unwrap_or-slice_get}
use Rattle.std.proofs.lemmas.Bool.{and_parts, eqb-true, ltb-true}
use Rattle.linear_rows.specs.declared.step.RowStep.{RowStep}
use Rattle.linear_rows.specs.Steps.{multiple, share, share_of_two, made_of, made, last_by}
use Rattle.linear_rows.proofs.Products.{product_commutes}

-- the last number of a list that is longer by one
last_or_push : (o : Option ℤ) (xs : List ℤ) (z : ℤ) → last_or o (xs ++ z ∷ []) ≡ Some z
last_or_push o [] z = refl
last_or_push o (x ∷ xs) z = last_or_push (Some x) xs z

pub last_pushed : (column numbers : List ℤ) (i : ℕ) (z : ℤ) → i < length numbers → last_or None (column ++ take (i + 1) (set numbers i z)) ≡ Some z
last_pushed column numbers i z lt =
    rw (take_more_set numbers i z lt) (rw (← append_assoc column (take i numbers) (z ∷ [])) (last_or_push None (column ++ take i numbers) z))

-- where a step can't be made, there is no last number
pub last_stops : (column : List ℤ) (steps : List RowStep) (i : ℕ) (d : RowStep) → i < length steps → made (get_or steps i d) column ≡ None →
    last_by column (drop i steps) ≡ None
last_stops column steps i d lt none = rw (drop_more steps i d lt) (rw none refl)

-- after a step that is made
pub last_goes_on : (column : List ℤ) (steps : List RowStep) (i : ℕ) (d : RowStep) (z : ℤ) → i < length steps → made (get_or steps i d) column ≡ Some z →
    last_by column (drop i steps) ≡ last_by (column ++ z ∷ []) (drop (i + 1) steps)
last_goes_on column steps i d z lt some = rw (drop_more steps i d lt) (rw some refl)

-- after the last step
pub last_ends : (column : List ℤ) (steps : List RowStep) (i : ℕ) (z : ℤ) → length steps ≤ i → last_or None column ≡ Some z →
    last_by column (drop i steps) ≡ Some z
last_ends column steps i z le is = rw (drop_all i steps le) is

pub next_column : (column numbers : List ℤ) (i : ℕ) (z : ℤ) → i < length numbers → column ++ take (i + 1) (set numbers i z) ≡ (column ++ take i numbers) ++ z ∷ []
next_column column numbers i z lt = ap (λ n. column ++ n) (take_more_set numbers i z lt) ∙ sym (append_assoc column (take i numbers) (z ∷ []))

-- what is known of a step that is made
pub record Makes (step : RowStep) (column : List ℤ) (z : ℤ) : Type 0 where
  pub first : step.first < length column
  pub second : step.second < length column
  pub cut : 0 < step.cut
  pub exact : pos step.cut *ℤ z ≡ (pos step.by *ℤ get_or column step.first (pos 0)) +ℤ (pos step.times *ℤ get_or column step.second (pos 0))

-- a multiple is the product
multiple_is : (by : ℕ) (z a : ℤ) → multiple by z ≡ Some a → pos by *ℤ z ≡ a
multiple_is by z a is = (cond_some _ _ _ is).1

-- what nothing of is divided by is no remainder
pub rem_none : (sum : ℤ) (cut : ℕ) → unsigned_abs sum % cut ≡ 0 → int_rem sum (pos cut) ≡ pos 0
rem_none (pos n) cut e = ap pos e
rem_none (negsuc n) cut e = ap (λ r. neg_ℤ (pos r)) e

-- a share times what it was divided by is the sum
pub share_exact : (sum : ℤ) (cut : ℕ) (z : ℤ) → share sum cut ≡ Some z → (0 < cut) × (pos cut *ℤ z ≡ sum)
share_exact sum cut z is =
    let both = cond_some _ _ _ is in
    let tests : ((leb (unsigned_abs sum) (2 ^ 126) && ltb 0 cut) ≡ true) × (eqb (unsigned_abs sum % cut) 0 ≡ true) = and_parts _ _ both.0 in
    let first : (leb (unsigned_abs sum) (2 ^ 126) ≡ true) × (ltb 0 cut ≡ true) = and_parts _ _ tests.0 in
    let none : int_rem sum (pos cut) ≡ pos 0 = rem_none sum cut (eqb-true _ _ tests.1) in
    let quotient : int_div sum (pos cut) ≡ z = both.1 in
    let whole = quot-rem sum (pos cut) in
    let turned = product_commutes (pos cut) z in
    let same : int_div sum (pos cut) *ℤ pos cut ≡ z *ℤ pos cut = ap (λ q. q *ℤ pos cut) quotient in
    (ltb-true _ _ first.1, omega (arith, ints))

-- a sum of two multiples, divided exactly
share_of_two_exact : (x y : Option ℤ) (cut : ℕ) (z : ℤ) → share_of_two x y cut ≡ Some z →
    (a : ℤ) × (b : ℤ) × (x ≡ Some a) × (y ≡ Some b) × (0 < cut) × (pos cut *ℤ z ≡ a +ℤ b)
share_of_two_exact (Some a) (Some b) cut z is = let both = share_exact (a +ℤ b) cut z is in (a, b, refl, refl, both.0, both.1)
share_of_two_exact None (Some b) cut z is = absurd (none-some z is)
share_of_two_exact (Some a) None cut z is = absurd (none-some z is)
share_of_two_exact None None cut z is = absurd (none-some z is)

makes_of : (step : RowStep) (column : List ℤ) (z : ℤ) (x y : Option ℤ) → slice_get column step.first ≡ x → slice_get column step.second ≡ y →
    made_of step x y ≡ Some z → Makes step column z
makes_of step column z (Some a) (Some b) first second is =
    let (p, q, p_is, q_is, cut, exact) = share_of_two_exact _ _ step.cut z is in
    let a_is : get_or column step.first (pos 0) ≡ a = get_or_from_slice_get column step.first a (pos 0) first in
    let b_is : get_or column step.second (pos 0) ≡ b = get_or_from_slice_get column step.second b (pos 0) second in
    let p_exact = multiple_is step.by a p p_is in
    let q_exact = multiple_is step.times b q q_is in
    let by_a : pos step.by *ℤ get_or column step.first (pos 0) ≡ pos step.by *ℤ a = ap (λ n. pos step.by *ℤ n) a_is in
    let times_b : pos step.times *ℤ get_or column step.second (pos 0) ≡ pos step.times *ℤ b = ap (λ n. pos step.times *ℤ n) b_is in
    record {
      first = slice_get_within column step.first a first;
      second = slice_get_within column step.second b second;
      cut = cut;
      exact = omega (arith, ints);
    }
makes_of step column z None (Some b) first second is = absurd (none-some z is)
makes_of step column z (Some a) None first second is = absurd (none-some z is)
makes_of step column z None None first second is = absurd (none-some z is)

pub makes : (step : RowStep) (column : List ℤ) (z : ℤ) → made step column ≡ Some z → Makes step column z
makes step column z is = makes_of step column z (slice_get column step.first) (slice_get column step.second) refl refl is

-- a number that is not there is the one given for it
pub number_past : (xs : List ℤ) (i : ℕ) (d : ℤ) → slice_get xs i ≡ None → get_or xs i d ≡ d
number_past xs i d none = sym (unwrap_or-slice_get xs i d) ∙ ap (λ o. unwrap_or o d) none
