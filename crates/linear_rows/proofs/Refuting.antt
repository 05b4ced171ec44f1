-- The steps up to a row that is never met are a refutation.
use Rattle.std.proofs.Common.{◌≡◌, ℕ, zero, suc, ◌+◌, ◌-◌, ◌<◌, ◌≤◌, Bool, true, ℤ, pos, List, [], ◌∷◌, length, All, Option, Some, arith, refl, sym, ap, ◌∙◌, subst, get_or, take, ⊎_elim}
use Rattle.std.specs.Prelude.{int_lt, slice_get}
use Rattle.std.specs.Ordering.{int_eq}
use Rattle.std.specs.List.{list_any, list_all}
use Rattle.std.proofs.lemmas.List.{length-map, get_or-map, length-take}
use Rattle.std.proofs.lemmas.Option.{same_Some, slice_get-get_or, slice_get_within}
use Rattle.std.proofs.lemmas.Bool.{and_parts, and_from, or_left, or_right, cases_lt, false≢true}
use Rattle.std.proofs.lemmas.Bool.Decides.{nat_tests}
use Rattle.linear_rows.specs.declared.row.Row.{Row}
use Rattle.linear_rows.specs.declared.step.RowStep.{RowStep}
use Rattle.linear_rows.specs.declared.record.Record.{Record}
use Rattle.linear_rows.specs.Row.{IsRowOver}
use Rattle.linear_rows.specs.Stage.{is_never_met}
use Rattle.linear_rows.specs.Steps.{number_in, column_of, column_by, last_by, is_contradiction, AreRefutation}
use Rattle.linear_rows.specs.Recorded.{line_number, Says, row_number, IsNeverRecorded, Shows}
use Rattle.linear_rows.proofs.Weighing.{steps_check}
use Rattle.linear_rows.proofs.Columns.{column_grows, column_length, slice_get_of_front, last_of_first}
use Rattle.linear_rows.proofs.Valuing.{then_some}

is_zero : (a : ℤ) → int_eq a (pos 0) ≡ true → a ≡ pos 0
is_zero a h = grind (arith, nat_tests)

zero_is : (a : ℤ) → a ≡ pos 0 → int_eq a (pos 0) ≡ true
zero_is a h = ap (λ z. int_eq z (pos 0)) h

-- what a line that is never met says
zero_at : (cs : List ℤ) (column : ℕ) (b : ℤ) → list_all (λ a. int_eq a (pos 0)) cs ≡ true → column < length cs → get_or cs column b ≡ pos 0
zero_at [] column b all lt = absurd (omega arith)
zero_at (c ∷ cs) zero b all lt = is_zero c (and_parts _ _ all).0
zero_at (c ∷ cs) (suc column) b all lt = zero_at cs column b (and_parts (int_eq c (pos 0)) (list_all (λ a. int_eq a (pos 0)) cs) all).1 (omega arith)

number_zero : (k column : ℕ) (b : ℤ) (cs : List ℤ) → list_all (λ a. int_eq a (pos 0)) cs ≡ true → column < k + length cs → line_number k column (b ∷ cs) ≡ pos 0
number_zero zero column b cs all lt = zero_at cs column b all (omega arith)
number_zero (suc k) zero b cs all lt = refl
number_zero (suc k) (suc column) b cs all lt = number_zero k column b cs all (omega arith)

past_all : (cs : List ℤ) (column : ℕ) (b : ℤ) → column ≡ length cs → get_or cs column b ≡ b
past_all [] column b e = refl
past_all (c ∷ cs) zero b e = absurd (omega arith)
past_all (c ∷ cs) (suc column) b e = past_all cs column b (omega arith)

number_bound : (k column : ℕ) (b : ℤ) (cs : List ℤ) → column ≡ k + length cs → line_number k column (b ∷ cs) ≡ b
number_bound zero column b cs e = past_all cs column b (omega arith)
number_bound (suc k) zero b cs e = absurd (omega arith)
number_bound (suc k) (suc column) b cs e = number_bound k column b cs (omega arith)

-- no coefficients, and a bound below 0
record IsBelow (n : ℕ) (numbers : ℕ → Option ℤ) : Type 0 where
  coefficients : (column : ℕ) → column < n → numbers column ≡ Some (pos 0)
  bound : ℤ
  bound_is : numbers n ≡ Some bound
  negative : int_lt bound (pos 0) ≡ true

below : (n k : ℕ) (numbers : ℕ → Option ℤ) (line : List ℤ) → Says n k numbers line → is_never_met line ≡ true → IsBelow n numbers
below n k numbers [] says never = absurd (false≢true never)
below n k numbers (b ∷ cs) says never =
    let both : (list_all (λ a. int_eq a (pos 0)) cs ≡ true) × (int_lt b (pos 0) ≡ true) = and_parts (list_all (λ a. int_eq a (pos 0)) cs) (int_lt b (pos 0)) never in
    let count = says.count in
    record {
      coefficients = λ column lt. says.each column (omega arith) ∙ ap Some (number_zero k column b cs both.0 (omega arith));
      bound = b;
      bound_is = says.each n (omega arith) ∙ ap Some (number_bound k n b cs (omega arith));
      negative = both.1;
    }

no_row : Row
no_row = record { coefficients = []; bound = pos 0 }

all_zero : (cs : List ℤ) (b : ℤ) → ((column : ℕ) → column < length cs → get_or cs column b ≡ pos 0) → list_all (λ a. int_eq a (pos 0)) cs ≡ true
all_zero [] b zeros = refl
all_zero (c ∷ cs) b zeros =
    and_from (int_eq c (pos 0)) (list_all (λ a. int_eq a (pos 0)) cs) (zero_is c (zeros zero (omega arith))) (all_zero cs b (λ column lt. zeros (suc column) (omega arith)))

any_at : (test : Row → Bool) (rows : List Row) (i : ℕ) (d : Row) → i < length rows → test (get_or rows i d) ≡ true → list_any test rows ≡ true
any_at test [] i d lt is = absurd (omega arith)
any_at test (row ∷ rows) zero d lt is = or_left (test row) (list_any test rows) is
any_at test (row ∷ rows) (suc i) d lt is = or_right (test row) (list_any test rows) (any_at test rows i d (omega arith) is)

-- a given row in a column
given_number : (rows : List Row) (steps : List RowStep) (i j : ℕ) (z : ℤ) → i < length rows → row_number rows steps i j ≡ Some z → number_in j (get_or rows i no_row) ≡ z
given_number rows steps i j z lt is =
    let (all, all_is, z_is) = then_some (λ all. slice_get all i) (column_by (column_of rows j) steps) z is in
    let (more, grown, _) = column_grows steps (column_of rows j) all all_is in
    let count : length (column_of rows j) ≡ length rows = length-map rows (number_in j) in
    let here : slice_get (column_of rows j) i ≡ Some z = slice_get_of_front (column_of rows j) more i (omega arith) ∙ ap (λ xs. slice_get xs i) (sym grown) ∙ z_is in
    let at : slice_get (column_of rows j) i ≡ Some (get_or (column_of rows j) i (pos 0)) = slice_get-get_or (column_of rows j) i (pos 0) (omega arith) in
    sym (get_or-map (number_in j) rows i no_row (pos 0) lt) ∙ same_Some (get_or (column_of rows j) i (pos 0)) z (sym at ∙ here)

given_refutes : (n : ℕ) (rows : List Row) (steps : List RowStep) (i : ℕ) → i < length rows → All (IsRowOver n) rows → IsBelow n (row_number rows steps i) → list_any is_contradiction rows ≡ true
given_refutes n rows steps i lt over is =
    let row = get_or rows i no_row in
    let count = (over i no_row lt).count in
    let bound_is : get_or row.coefficients n row.bound ≡ is.bound = given_number rows steps i n is.bound lt is.bound_is in
    let same : row.bound ≡ is.bound = sym (past_all row.coefficients n row.bound (sym count)) ∙ bound_is in
    any_at is_contradiction rows i no_row lt
    (and_from (list_all (λ a. int_eq a (pos 0)) row.coefficients) (int_lt row.bound (pos 0))
    (all_zero row.coefficients row.bound (λ column lt'. given_number rows steps i column (pos 0) lt (is.coefficients column (omega arith))))
    (ap (λ b. int_lt b (pos 0)) same ∙ is.negative))

-- the last of the first steps in a column
last_number : (rows : List Row) (steps : List RowStep) (number m j : ℕ) (z : ℤ) → length rows + m ≡ suc number → row_number rows steps number j ≡ Some z → last_by (column_of rows j) (take m steps) ≡ Some z
last_number rows steps number m j z count is =
    let (all, all_is, z_is) = then_some (λ all. slice_get all number) (column_by (column_of rows j) steps) z is in
    let whole = column_length steps (column_of rows j) all all_is in
    let within = slice_get_within all number z z_is in
    let rows_count : length (column_of rows j) ≡ length rows = length-map rows (number_in j) in
    last_of_first steps m number (column_of rows j) all z all_is (omega arith) (omega arith) z_is

-- there are so many steps
steps_there : (rows : List Row) (steps : List RowStep) (number m j : ℕ) (z : ℤ) → length rows + m ≡ suc number → row_number rows steps number j ≡ Some z → m ≤ length steps
steps_there rows steps number m j z count is =
    let (all, all_is, z_is) = then_some (λ all. slice_get all number) (column_by (column_of rows j) steps) z is in
    let whole = column_length steps (column_of rows j) all all_is in
    let within = slice_get_within all number z z_is in
    let rows_count : length (column_of rows j) ≡ length rows = length-map rows (number_in j) in
    omega arith

made_refutes : (n : ℕ) (rows : List Row) (steps : List RowStep) (number m : ℕ) → length rows + m ≡ suc number → 0 < m → IsBelow n (row_number rows steps number) → AreRefutation n rows (take m steps)
made_refutes n rows steps number m count some is =
    let there = steps_there rows steps number m n is.bound count is.bound_is in
    let taken = length-take m steps in
    steps_check n rows (take m steps) is.bound (λ none. (let e : length (take m steps) ≡ 0 = none in omega arith))
    (λ j lt. last_number rows steps number m j (pos 0) count (is.coefficients j lt))
    (last_number rows steps number m n is.bound count is.bound_is) is.negative

none_taken : (n : ℕ) (rows : List Row) (steps : List RowStep) (m : ℕ) → m ≡ 0 → list_any is_contradiction rows ≡ true → AreRefutation n rows (take m steps)
none_taken n rows steps m none is = subst (λ (i : ℕ). AreRefutation n rows (take i steps)) (sym none) (given n rows steps is)
  where
    given : (n : ℕ) (rows : List Row) (steps : List RowStep) → list_any is_contradiction rows ≡ true → AreRefutation n rows (take 0 steps)
    given n rows [] is = is
    given n rows (step ∷ steps) is = is

pub never_refutes : (n : ℕ) (rows : List Row) (r : Record) (number m : ℕ) → All (IsRowOver n) rows → m ≡ number + 1 - r.given → IsNeverRecorded n rows r number → AreRefutation n rows (take m r.steps.items)
never_refutes n rows r number m over m_is never =
    let is = below n never.k (row_number rows r.steps.items number) never.line never.is never.never in
    let given = never.given in
    ⊎_elim
    (λ first. none_taken n rows r.steps.items m (omega arith) (given_refutes n rows r.steps.items number first over is))
    (λ later. made_refutes n rows r.steps.items number m (omega arith) (omega arith) is)
    (cases_lt number (length rows))

pub shows_by : (history : Record) (number m : ℕ) (steps : List RowStep) → steps ≡ take m history.steps.items → m ≡ number + 1 - history.given → Shows history number steps
shows_by history number m steps steps_is m_is n rows over never = subst (AreRefutation n rows) (sym steps_is) (never_refutes n rows history number m over m_is never)
