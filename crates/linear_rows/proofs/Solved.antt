-- A point of the elimination meets the rows: by induction on the variables that are left.
use Rattle.std.proofs.Common.{◌≡◌, ℕ, zero, suc, ◌+◌, ℤ, pos, ◌*ℤ◌, ◌≤ℤ◌, ◌<ℤ◌, List, [], ◌∷◌, map, length, All, Bool, true, false, cond, Option, Some, None, Result, Ok, Err, arith, refl, ap, ◌∙◌, subst}
use Rattle.std.specs.Prelude.{int_lt, unsigned_abs}
use Rattle.std.specs.Ordering.{int_eq}
use Rattle.std.specs.List.{filter, list_any, AllByRecursion, AllZip}
use Rattle.std.proofs.lemmas.Int.{ints}
use Rattle.std.proofs.lemmas.Bool.{false≢true, or_parts}
use Rattle.std.proofs.lemmas.List.Elements.{All-from_recursion, recursion_from_All}
use Rattle.linear_rows.specs.declared.row.Row.{Row}
use Rattle.linear_rows.specs.declared.fraction.Fraction.{Fraction}
use Rattle.linear_rows.specs.declared.answer.Rows.{Rows}
use Rattle.linear_rows.specs.declared.answer.Rows.TheVariants as answer
use Rattle.linear_rows.specs.declared.answer.RowKind.{RowKind}
use Rattle.linear_rows.specs.declared.answer.RowMark.{RowMark}
use Rattle.linear_rows.specs.Row.{IsMet, IsRowOver}
use Rattle.linear_rows.specs.Stage.{line_of, first, without_first, cancelled, is_lower, is_upper, is_never_met, gathered, sums_of, kept_lines, cancelled_lines, next_lines, next_stage}
use Rattle.linear_rows.specs.Elimination.{Outcome, empty, point, limit, value, put_before, with_first, after_stage, outcome_of, eliminated, IsEliminated}
use Rattle.linear_rows.specs.Solution.{IsInLowestTerms, IsSolution, MeetsRows}
use Rattle.linear_rows.proofs.Sizes.{positive_product}
use Rattle.linear_rows.proofs.Products.{product_commutes}
use Rattle.linear_rows.proofs.Each.{each_weaker, each_first, each_second, each_append, each_map, each_from_map, each_filter, each_flat_map}
use Rattle.linear_rows.proofs.Meeting.{IsMetAt, HasLength, gathered_met, gathered_lengths, length-without_first, length-cancelled}
use Rattle.linear_rows.proofs.Valuing.{IsValue, IsPositive, values_with_first}
use Rattle.linear_rows.proofs.Solving.{stage_met}

-- fractions that meet lines, over a common denominator d
pub record IsSolved (n : ℕ) (lines : List (List ℤ)) (xs : List Fraction) : Type 0 where
  pub d : ℤ
  pub zs : List ℤ
  pub positive : pos 0 <ℤ d
  pub count : length xs ≡ n
  pub lowest : AllByRecursion IsInLowestTerms xs
  pub values : AllZip (IsValue d) zs xs
  pub met : AllByRecursion (IsMetAt d zs) lines

abbrev points : Outcome → List Fraction
points empty = []
points (point xs) = xs
points (limit mark) = []

abbrev is_point : Outcome → Bool
is_point empty = false
is_point (point xs) = true
is_point (limit mark) = false

same_point : (xs ys : List Fraction) → point xs ≡ point ys → xs ≡ ys
same_point xs ys e = ap points e

empty-point : (xs : List Fraction) → empty ≡ point xs → ⊥
empty-point xs e = false≢true (ap is_point e)

limit-point : (mark : RowMark) (xs : List Fraction) → limit mark ≡ point xs → ⊥
limit-point mark xs e = false≢true (ap is_point e)

-- what a point came from
cond_tells : (b : Bool) (o : Outcome) (xs : List Fraction) → cond b empty o ≡ point xs → (b ≡ false) × (o ≡ point xs)
cond_tells true o xs is = absurd (empty-point xs is)
cond_tells false o xs is = (refl, is)

after_tells : (f : List (List ℤ) → Outcome) (k : ℕ) (r : Result (List (List ℤ)) RowKind) (xs : List Fraction) → after_stage f k r ≡ point xs →
    (s : List (List ℤ)) × (r ≡ Ok s) × (f s ≡ point xs)
after_tells f k (Ok s) xs is = (s, refl, is)
after_tells f k (Err what) xs is = absurd (limit-point _ xs is)

put_tells : (k : ℕ) (ys : List Fraction) (v : Option Fraction) (xs : List Fraction) → put_before k ys v ≡ point xs → (x : Fraction) × (v ≡ Some x) × (x ∷ ys ≡ xs)
put_tells k ys None xs is = absurd (limit-point _ xs is)
put_tells k ys (Some x) xs is = (x, refl, same_point (x ∷ ys) xs is)

with_first_tells : (k : ℕ) (stage : List (List ℤ)) (o : Outcome) (xs : List Fraction) → with_first k stage o ≡ point xs →
    (ys : List Fraction) × (x : Fraction) × (o ≡ point ys) × (value stage ys ≡ Some x) × (x ∷ ys ≡ xs)
with_first_tells k stage empty xs is = absurd (empty-point xs is)
with_first_tells k stage (point ys) xs is = let (x, x_is, xs_is) = put_tells k ys (value stage ys) xs is in (ys, x, refl, x_is, xs_is)
with_first_tells k stage (limit mark) xs is = absurd (limit-point mark xs is)

-- without variables a line that is not never met is met
not_below : (b : ℤ) → int_lt b (pos 0) ≡ false → pos 0 ≤ℤ b
not_below b test = grind (arith, ints)

one_times : (z : ℤ) → pos 1 *ℤ z ≡ z
one_times z = omega (arith, ints)

bound_met : (b : ℤ) → int_lt b (pos 0) ≡ false → pos 0 ≤ℤ (b *ℤ pos 1)
bound_met b test =
    let least = not_below b test in
    let e : b *ℤ pos 1 ≡ b = product_commutes b (pos 1) ∙ one_times b in
    omega (arith, ints)

last_met : (stage : List (List ℤ)) → AllByRecursion (HasLength 1) stage → list_any is_never_met stage ≡ false → AllByRecursion (IsMetAt (pos 1) []) stage
last_met [] long none = tt
last_met ([] ∷ stage) long none = let e = long.0 in absurd (omega arith)
last_met ((b ∷ []) ∷ stage) long none = let both = or_parts (is_never_met (b ∷ [])) (list_any is_never_met stage) none in (bound_met b both.0, last_met stage long.1 both.1)
last_met ((b ∷ c ∷ cs) ∷ stage) long none = let e = long.0 in absurd (omega arith)

-- the lines of the next stage are shorter by one
kept_lengths : (n : ℕ) (stage : List (List ℤ)) → AllByRecursion (HasLength (suc (suc n))) stage → AllByRecursion (HasLength (suc n)) (kept_lines stage)
kept_lengths n stage long =
    each_map (HasLength (suc n)) without_first (filter (λ line. int_eq (first line) (pos 0)) stage)
    (each_filter (λ line. HasLength (suc n) (without_first line)) (λ line. int_eq (first line) (pos 0)) stage
    (each_weaker (HasLength (suc (suc n))) (λ line. int_eq (first line) (pos 0) ≡ true → HasLength (suc n) (without_first line)) (λ line e _. length-without_first n line e) stage long))

sums_lengths : (n : ℕ) (p : List ℤ) (stage : List (List ℤ)) → HasLength (suc (suc n)) p → AllByRecursion (HasLength (suc (suc n))) stage → AllByRecursion (HasLength (suc n)) (sums_of p stage)
sums_lengths n p stage p_long long =
    each_map (HasLength (suc n)) (cancelled p) (filter is_upper stage)
    (each_filter (λ q. HasLength (suc n) (cancelled p q)) is_upper stage
    (each_weaker (HasLength (suc (suc n))) (λ q. is_upper q ≡ true → HasLength (suc n) (cancelled p q)) (λ q e _. length-cancelled n p q p_long e) stage long))

cancelled_lengths : (n : ℕ) (stage : List (List ℤ)) → AllByRecursion (HasLength (suc (suc n))) stage → AllByRecursion (HasLength (suc n)) (cancelled_lines stage)
cancelled_lengths n stage long =
    each_flat_map (HasLength (suc n)) (λ p. sums_of p stage) (filter is_lower stage)
    (each_filter (λ p. AllByRecursion (HasLength (suc n)) (sums_of p stage)) is_lower stage
    (each_weaker (HasLength (suc (suc n))) (λ p. is_lower p ≡ true → AllByRecursion (HasLength (suc n)) (sums_of p stage)) (λ p e _. sums_lengths n p stage e long) stage long))

next_lengths : (n : ℕ) (stage next : List (List ℤ)) → next_stage stage ≡ Ok next → AllByRecursion (HasLength (suc (suc n))) stage → AllByRecursion (HasLength (suc n)) next
next_lengths n stage next is long =
    gathered_lengths (suc n) (next_lines stage) [] next is tt
    (each_append (HasLength (suc n)) (kept_lines stage) (cancelled_lines stage) (kept_lengths n stage long) (cancelled_lengths n stage long))

-- with the value of the first variable
more_solved : (n : ℕ) (stage next : List (List ℤ)) (ys : List Fraction) (x : Fraction) → AllByRecursion (HasLength (suc (suc n))) stage → next_stage stage ≡ Ok next →
    value stage ys ≡ Some x → IsSolved n next ys → IsSolved (suc n) stage (x ∷ ys)
more_solved n stage next ys x long next_is x_is rest =
    let lines = (gathered_met rest.d rest.zs (next_lines stage) [] next rest.positive next_is rest.met).1 in
    let kept = each_first (IsMetAt rest.d rest.zs) (kept_lines stage) (cancelled_lines stage) lines in
    let sums = each_second (IsMetAt rest.d rest.zs) (kept_lines stage) (cancelled_lines stage) lines in
    let positive : AllByRecursion IsPositive ys = each_weaker IsInLowestTerms IsPositive (λ y lowest. lowest.positive) ys rest.lowest in
    let all = stage_met rest.d rest.zs ys rest.positive positive rest.values n stage long kept sums x x_is in
    record {
      d = rest.d *ℤ x.under;
      zs = (x.over *ℤ rest.d) ∷ map (λ z. x.under *ℤ z) rest.zs;
      positive = positive_product rest.d x.under rest.positive all.0.positive;
      count = (let e = rest.count in omega arith);
      lowest = (all.0, rest.lowest);
      values = values_with_first rest.d x rest.zs ys rest.values;
      met = all.1;
    }

stage_solved : (n k : ℕ) (stage : List (List ℤ)) (xs : List Fraction) → AllByRecursion (HasLength (suc n)) stage → outcome_of n k stage ≡ point xs → IsSolved n stage xs
stage_solved zero k stage xs long is =
    let both = cond_tells (list_any is_never_met stage) (point []) xs is in
    subst (IsSolved zero stage) (same_point [] xs both.1)
    (record { d = pos 1; zs = []; positive = omega (arith, ints); count = refl; lowest = tt; values = tt; met = last_met stage long both.0 })
stage_solved (suc n) k stage xs long is =
    let both = cond_tells (list_any is_never_met stage) (after_stage (λ next. with_first k stage (outcome_of n (k + 1) next)) (k + 1) (next_stage stage)) xs is in
    let (next, next_is, after) = after_tells (λ next. with_first k stage (outcome_of n (k + 1) next)) (k + 1) (next_stage stage) xs both.1 in
    let (ys, x, ys_is, x_is, xs_is) = with_first_tells k stage (outcome_of n (k + 1) next) xs after in
    let rest = stage_solved n (k + 1) next ys (next_lengths n stage next next_is long) ys_is in
    subst (IsSolved (suc n) stage) xs_is (more_solved n stage next ys x long next_is x_is rest)

positive_is : (d : ℤ) → pos 0 <ℤ d → d ≡ pos (unsigned_abs d)
positive_is d positive = omega (arith, ints)

-- over a natural denominator they are a point that meets the rows
solution : (n : ℕ) (rows : List Row) (xs : List Fraction) → IsSolved n (map line_of rows) xs → IsSolution n rows xs
solution n rows xs solved =
    let d_is = positive_is solved.d solved.positive in
    let met = each_from_map (IsMetAt solved.d solved.zs) line_of rows solved.met in
    record {
      count = solved.count;
      lowest = All-from_recursion IsInLowestTerms xs solved.lowest;
      point = record { over = solved.zs; under = unsigned_abs solved.d; positive = (let positive = solved.positive in omega (arith, ints)) };
      same = subst (λ (d : ℤ). AllZip (IsValue d) solved.zs xs) d_is solved.values;
      met = All-from_recursion (IsMet (record { over = solved.zs; under = unsigned_abs solved.d; positive = (let positive = solved.positive in omega (arith, ints)) })) rows
          (subst (λ (d : ℤ). AllByRecursion (λ row. IsMetAt d solved.zs (line_of row)) rows) d_is met);
    }

rows_lengths : (n : ℕ) (rows : List Row) → All (IsRowOver n) rows → AllByRecursion (HasLength (suc n)) (map line_of rows)
rows_lengths n rows over =
    each_map (HasLength (suc n)) line_of rows
    (each_weaker (IsRowOver n) (λ row. HasLength (suc n) (line_of row)) (λ row is. let e = is.count in omega arith) rows (recursion_from_All (IsRowOver n) rows over))

eliminated_solved : (n : ℕ) (rows : List Row) (xs : List Fraction) → All (IsRowOver n) rows → eliminated n rows ≡ point xs → IsSolution n rows xs
eliminated_solved n rows xs over is =
    let (stage, stage_is, after) = after_tells (outcome_of n 0) 0 (gathered [] (map line_of rows)) xs is in
    let long = gathered_lengths (suc n) (map line_of rows) [] stage stage_is tt (rows_lengths n rows over) in
    let solved = stage_solved n 0 stage xs long after in
    solution n rows xs (record {
      d = solved.d;
      zs = solved.zs;
      positive = solved.positive;
      count = solved.count;
      lowest = solved.lowest;
      values = solved.values;
      met = (gathered_met solved.d solved.zs (map line_of rows) [] stage solved.positive stage_is solved.met).1;
    })

-- an answer of the elimination that is a point is a solution
pub eliminated_meets : (n : ℕ) (rows : List Row) → All (IsRowOver n) rows → (r : Rows) → IsEliminated n rows r → MeetsRows n rows r
eliminated_meets n rows over (answer.Empty steps) is = tt
eliminated_meets n rows over (answer.Point xs) is = eliminated_solved n rows xs over is
eliminated_meets n rows over (answer.Limit mark) is = tt
