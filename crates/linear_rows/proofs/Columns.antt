-- What steps make of a column: more numbers behind those that were there.
use Rattle.std.proofs.Common.{◌≡◌, ℕ, zero, suc, ◌+◌, ◌^◌, ◌<◌, ◌≤◌, ◌%◌, ◌&&◌, leb, ltb, eqb, ℤ, pos, ◌+ℤ◌, ◌*ℤ◌, List, [], ◌∷◌, ◌++◌, length, Option, Some, None, arith, refl, sym, ap, ◌∙◌, take, drop, append_assoc}
use Rattle.std.specs.Prelude.{unsigned_abs, int_div, slice_get}
use Rattle.std.specs.Int.{◌∣◌}
use Rattle.std.specs.Option.{option_and_then}
use Rattle.std.specs.List.{last_or}
use Rattle.std.proofs.lemmas.Int.{ints}
use Rattle.std.proofs.lemmas.List.{append-nil, take-append-drop, length-take}
use Rattle.std.proofs.lemmas.Option.{none-some, same_Some}
use Rattle.std.proofs.lemmas.Bool.{and_from, le-leb, lt-ltb, eq-eqb, cond-true}
use Rattle.std.proofs.lemmas.Nat.Gcd.{mod-eq-zero_of_dvd}
use Rattle.linear_rows.specs.declared.step.RowStep.{RowStep}
use Rattle.linear_rows.specs.Steps.{multiple, share, share_of_two, made, column_by}
use Rattle.linear_rows.proofs.Making.{share_exact}
use Rattle.linear_rows.proofs.Walking.{div_one}
use Rattle.linear_rows.proofs.Valuing.{then_some}

-- steps after steps
append_by : (o : Option ℤ) (c : List ℤ) (xs ys : List RowStep) → ((d : List ℤ) → column_by d (xs ++ ys) ≡ option_and_then (λ all. column_by all ys) (column_by d xs)) →
    option_and_then (λ z. column_by (c ++ z ∷ []) (xs ++ ys)) o ≡ option_and_then (λ all. column_by all ys) (option_and_then (λ z. column_by (c ++ z ∷ []) xs) o)
append_by None c xs ys same = refl
append_by (Some z) c xs ys same = same (c ++ z ∷ [])

pub column_by-append : (xs ys : List RowStep) (c : List ℤ) → column_by c (xs ++ ys) ≡ option_and_then (λ all. column_by all ys) (column_by c xs)
column_by-append [] ys c = refl
column_by-append (x ∷ xs) ys c = append_by (made x c) c xs ys (λ d. column_by-append xs ys d)

-- one more step
pub column_pushed : (steps : List RowStep) (step : RowStep) (c all : List ℤ) (z : ℤ) → column_by c steps ≡ Some all → made step all ≡ Some z →
    column_by c (steps ++ step ∷ []) ≡ Some (all ++ z ∷ [])
column_pushed steps step c all z is made_is =
    column_by-append steps (step ∷ []) c ∙ ap (option_and_then (λ all. column_by all (step ∷ []))) is
    ∙ ap (option_and_then (λ z. Some (all ++ z ∷ []))) made_is

-- what was there stays in front
pub column_grows : (steps : List RowStep) (c all : List ℤ) → column_by c steps ≡ Some all → (more : List ℤ) × (all ≡ c ++ more) × (length more ≡ length steps)
column_grows [] c all is = ([], sym (same_Some c all is) ∙ sym (append-nil c), refl)
column_grows (step ∷ steps) c all is =
    let (z, _, rest_is) = then_some (λ z. column_by (c ++ z ∷ []) steps) (made step c) all is in
    let (more, all_is, count) = column_grows steps (c ++ z ∷ []) all rest_is in
    (z ∷ more, all_is ∙ append_assoc c (z ∷ []) more, omega arith)

pub column_length : (steps : List RowStep) (c all : List ℤ) → column_by c steps ≡ Some all → length all ≡ length c + length steps
column_length [] c all is = let e : length c ≡ length all = ap length (same_Some c all is) in omega arith
column_length (step ∷ steps) c all is =
    let (z, _, rest_is) = then_some (λ z. column_by (c ++ z ∷ []) steps) (made step c) all is in
    let rest = column_length steps (c ++ z ∷ []) all rest_is in
    let count = length_pushed c z in
    omega arith
  where
    length_pushed : (xs : List ℤ) (x : ℤ) → length (xs ++ x ∷ []) ≡ length xs + 1
    length_pushed [] x = refl
    length_pushed (y ∷ xs) x = let e = length_pushed xs x in omega arith

-- a number of the front
pub slice_get_front : (xs ys : List ℤ) (i : ℕ) (z : ℤ) → slice_get xs i ≡ Some z → slice_get (xs ++ ys) i ≡ Some z
slice_get_front [] ys i z is = absurd (none-some z is)
slice_get_front (x ∷ xs) ys zero z is = is
slice_get_front (x ∷ xs) ys (suc i) z is = slice_get_front xs ys i z is

pub slice_get_pushed : (xs : List ℤ) (z : ℤ) → slice_get (xs ++ z ∷ []) (length xs) ≡ Some z
slice_get_pushed [] z = refl
slice_get_pushed (x ∷ xs) z = slice_get_pushed xs z

pub slice_get_of_front : (xs ys : List ℤ) (i : ℕ) → i < length xs → slice_get xs i ≡ slice_get (xs ++ ys) i
slice_get_of_front [] ys i lt = absurd (omega arith)
slice_get_of_front (x ∷ xs) ys zero lt = refl
slice_get_of_front (x ∷ xs) ys (suc i) lt = slice_get_of_front xs ys i (omega arith)

last_is : (xs : List ℤ) (o : Option ℤ) (i : ℕ) → length xs ≡ suc i → last_or o xs ≡ slice_get xs i
last_is [] o i e = absurd (omega arith)
last_is (x ∷ []) o zero e = refl
last_is (x ∷ []) o (suc i) e = absurd (omega arith)
last_is (x ∷ y ∷ xs) o zero e = absurd (omega arith)
last_is (x ∷ y ∷ xs) o (suc i) e = last_is (y ∷ xs) (Some x) i (omega arith)

-- the first steps of all: their last number is the one that stands there among all
pub last_of_first : (steps : List RowStep) (m i : ℕ) (c all : List ℤ) (z : ℤ) → column_by c steps ≡ Some all → m ≤ length steps → length c + m ≡ suc i → slice_get all i ≡ Some z →
    option_and_then (λ part. last_or None part) (column_by c (take m steps)) ≡ Some z
last_of_first steps m i c all z is le count z_is =
    let whole : column_by c (take m steps ++ drop m steps) ≡ Some all = ap (column_by c) (take-append-drop m steps) ∙ is in
    let (part, part_is, rest_is) = then_some (λ part. column_by part (drop m steps)) (column_by c (take m steps)) all (sym (column_by-append (take m steps) (drop m steps) c) ∙ whole) in
    let (more, all_is, _) = column_grows (drop m steps) part all rest_is in
    let front : length part ≡ length c + length (take m steps) = column_length (take m steps) c part part_is in
    let taken : length (take m steps) ≡ m = length_first steps m le in
    let last : last_or None part ≡ slice_get part i = last_is part None i (omega arith) in
    ap (option_and_then (λ part. last_or None part)) part_is ∙ last ∙ slice_get_of_front part more i (omega arith) ∙ ap (λ xs. slice_get xs i) (sym all_is) ∙ z_is
  where
    length_first : (xs : List RowStep) (m : ℕ) → m ≤ length xs → length (take m xs) ≡ m
    length_first xs m le = let e = length-take m xs in omega arith

-- a step that makes a sum, undivided
pub sum_made : (by times : ℕ) (a b z : ℤ) → unsigned_abs (pos by *ℤ a) ≤ 2 ^ 126 → unsigned_abs (pos times *ℤ b) ≤ 2 ^ 126 → (pos by *ℤ a) +ℤ (pos times *ℤ b) ≡ z → unsigned_abs z ≤ 2 ^ 126 →
    share_of_two (multiple by a) (multiple times b) 1 ≡ Some z
sum_made by times a b z first second z_is small =
    let x = pos by *ℤ a in
    let y = pos times *ℤ b in
    let first_is : multiple by a ≡ Some x = cond-true (leb (unsigned_abs x) (2 ^ 126)) (Some x) None (le-leb (unsigned_abs x) (2 ^ 126) first) in
    let second_is : multiple times b ≡ Some y = cond-true (leb (unsigned_abs y) (2 ^ 126)) (Some y) None (le-leb (unsigned_abs y) (2 ^ 126) second) in
    (λ i. share_of_two (first_is i) (second_is i) 1) ∙ ap (λ s. share s 1) z_is ∙ share_one z small
  where
    share_one : (s : ℤ) → unsigned_abs s ≤ 2 ^ 126 → share s 1 ≡ Some s
    share_one s le =
        cond-true (leb (unsigned_abs s) (2 ^ 126) && ltb 0 1 && eqb (unsigned_abs s % 1) 0) (Some (int_div s (pos 1))) None
        (and_from _ _ (and_from _ _ (le-leb (unsigned_abs s) (2 ^ 126) le) refl) (eq-eqb (unsigned_abs s % 1) 0 (omega arith)))
        ∙ ap Some (div_one s)

-- the same step with a division that is exact
pub share_divided : (x y : Option ℤ) (cut : ℕ) (z : ℤ) → 0 < cut → cut ∣ unsigned_abs z → unsigned_abs z ≤ 2 ^ 126 → share_of_two x y 1 ≡ Some z → share_of_two x y cut ≡ Some (int_div z (pos cut))
share_divided (Some a) (Some b) cut z positive divides small is =
    let exact = (share_exact (a +ℤ b) 1 z is).1 in
    let sum : a +ℤ b ≡ z = sym exact ∙ one_times z in
    ap (λ s. share s cut) sum
    ∙ cond-true (leb (unsigned_abs z) (2 ^ 126) && ltb 0 cut && eqb (unsigned_abs z % cut) 0) (Some (int_div z (pos cut))) None
    (and_from _ _ (and_from _ _ (le-leb (unsigned_abs z) (2 ^ 126) small) (lt-ltb 0 cut positive)) (eq-eqb (unsigned_abs z % cut) 0 (mod-eq-zero_of_dvd cut divides)))
  where
    one_times : (z : ℤ) → pos 1 *ℤ z ≡ z
    one_times z = omega (arith, ints)
share_divided None (Some b) cut z positive divides small is = absurd (none-some z is)
share_divided (Some a) None cut z positive divides small is = absurd (none-some z is)
share_divided None None cut z positive divides small is = absurd (none-some z is)
