-- What the record knows, from call to call of what gathers a stage.
use Rattle.std.proofs.Common.{◌≡◌, ℕ, zero, suc, ◌+◌, ◌<◌, ◌≤◌, ◌^◌, true, ℤ, pos, List, [], ◌∷◌, ◌++◌, length, All, Option, Some, None, arith, sym, ap, ◌∙◌, subst, get_or}
use Rattle.std.specs.declared.vec.Vec.{Vec}
use Rattle.std.specs.declared.alloc.Global.{Global}
use Rattle.std.proofs.lemmas.List.{length-map, get_or-map}
use Rattle.std.proofs.lemmas.Option.{slice_get-get_or}
use Rattle.linear_rows.specs.declared.row.Row.{Row}
use Rattle.linear_rows.specs.declared.step.RowStep.{RowStep}
use Rattle.linear_rows.specs.declared.record.Record.{Record}
use Rattle.linear_rows.specs.declared.stage.Stage.{Stage}
use Rattle.linear_rows.specs.declared.answer.RowKind.{RowKind}
use Rattle.linear_rows.specs.declared.elimination.Found.{Found}
use Rattle.linear_rows.specs.declared.elimination.Found.TheVariants as found
use Rattle.linear_rows.specs.Row.{IsRowOver}
use Rattle.linear_rows.specs.Stage.{line_of, first, without_first, mixed, multiplier, cut_of, lowest, is_lower, is_upper, is_never_met, IsSmall, IsWide}
use Rattle.linear_rows.specs.Lines.{items_of, lines_of}
use Rattle.linear_rows.specs.Found.{gathered_by, IsFirst, IsFound}
use Rattle.linear_rows.specs.Elimination.{Outcome, point, outcome_of, after_stage, eliminated, IsEliminated}
use Rattle.linear_rows.specs.declared.answer.Rows.{Rows}
use Rattle.linear_rows.specs.declared.answer.Rows.TheVariants as answer
use Rattle.linear_rows.specs.declared.answer.RowMark.{RowMark}
use Rattle.linear_rows.specs.declared.fraction.Fraction.{Fraction}
use Rattle.linear_rows.specs.Steps.{number_in, column_of}
use Rattle.linear_rows.specs.declared.elimination.Gathered.TheVariants as gathering
use Rattle.linear_rows.specs.Recorded.{same_row, row_number, next_number, IsLineOf, MakesLine, AreLinesOf, IsRecorded, IsGatheredRecorded, IsFoundRecorded}
use Rattle.linear_rows.specs.Recorded.{Numbers, RecordsStep, RecordsLine, RecordsRows, RecordsNext, RecordsSum, RecordsSums, RecordsAll, RecordsFirst, RecordsGathered, RecordsFound, StaysFound, IsNumberOfNever, Shows, Answers}
use Rattle.linear_rows.proofs.Recording.{records_same, records_then, records_added, step_recorded, step_unrecorded, step_divided, same_makes, sum_makes, says_eliminated, lines_stay}

-- a step that has a number
pub numbers_pushed : (old new : Record) (step : RowStep) (number : ℕ) → new.given ≡ old.given → new.steps.items ≡ old.steps.items ++ step ∷ [] → number ≡ old.given + length old.steps.items →
    Numbers old step new number
numbers_pushed old new step number given_is steps_is number_is n k rows line given makes = step_recorded n k rows old new step number line given_is steps_is number_is given makes

pub numbers_same : (r : Record) (step : RowStep) → step.by ≡ 1 → step.times ≡ 0 → step.cut ≡ 1 → Numbers r step r step.first
numbers_same r step by times cut n k rows line given makes = step_unrecorded n k rows r step line by times cut makes

pub step_taken : (step : RowStep) (line : List ℤ) (number : ℕ) (old new : Record) (stage next : Stage) → Numbers old step new number → lines_of next ≡ lines_of stage ++ line ∷ [] →
    next.numbers.items ≡ stage.numbers.items ++ number ∷ [] → RecordsStep step line old stage new next
step_taken step line number old new stage next numbers lines_is numbers_is n k rows makes =
    records_added n k rows old new stage next number line lines_is numbers_is (λ given. numbers n k rows line given makes)

-- the step of a line before its division
pub step_lowered : (step cut_step : RowStep) (line low : List ℤ) (old new : Record) (stage next : Stage) → IsWide line → step.cut ≡ 1 → cut_step ≡ record step { cut = cut_of line } → low ≡ lowest line →
    RecordsStep cut_step low old stage new next → RecordsStep step line old stage new next
step_lowered step cut_step line low old new stage next wide one cut_is low_is records n k rows makes =
    let undivided : MakesLine n k rows old (record { first = step.first; by = step.by; second = step.second; times = step.times; cut = 1 }) line =
    subst (λ (c : ℕ). MakesLine n k rows old (record { first = step.first; by = step.by; second = step.second; times = step.times; cut = c }) line) one makes in
    let divided = step_divided n k rows old step.first step.by step.second step.times line wide undivided in
    records n k rows (subst (λ (s : RowStep). MakesLine n k rows old s low) (sym cut_is)
    (subst (MakesLine n k rows old (record step { cut = cut_of line })) (sym low_is) divided))

-- a row as it is
pub line_by_step : (number : ℕ) (step : RowStep) (line items : List ℤ) (old new : Record) (stage next : Stage) → IsSmall line → step ≡ same_row number → items ≡ line → RecordsStep step items old stage new next →
    RecordsLine number line old stage new next
line_by_step number step line items old new stage next small step_is items_is records n k rows is =
    records n k rows (subst (λ (s : RowStep). MakesLine n k rows old s items) (sym step_is)
    (subst (MakesLine n k rows old (same_row number)) (sym items_is) (same_makes n k rows old number line small is)))

-- a line without the variable
pub next_by_step : (number : ℕ) (step : RowStep) (line items : List ℤ) (old new : Record) (stage next : Stage) → IsSmall line → first line ≡ pos 0 → step ≡ same_row number → items ≡ without_first line →
    RecordsStep step items old stage new next → RecordsNext number line old stage new next
next_by_step number step line items old new stage next small none step_is items_is records n k rows lt is =
    records n (suc k) rows (subst (λ (s : RowStep). MakesLine n (suc k) rows old s items) (sym step_is)
    (subst (MakesLine n (suc k) rows old (same_row number)) (sym items_is)
    (says_eliminated n k (next_number rows old.steps.items (same_row number)) line lt none (same_makes n k rows old number line small is))))

-- a sum
pub sum_by_step : (number by other times : ℕ) (step : RowStep) (p q items : List ℤ) (old new : Record) (stage next : Stage) → by ≤ 2 ^ 62 → times ≤ 2 ^ 62 → IsSmall p → IsSmall q → is_lower p ≡ true → is_upper q ≡ true →
    by ≡ multiplier (first q) (first p) → times ≡ multiplier (first p) (first q) → items ≡ without_first (mixed (pos by) p (pos times) q) →
    step ≡ record { first = number; by = by; second = other; times = times; cut = 1 } →
    RecordsStep step items old stage new next → RecordsSum number p other q old stage new next
sum_by_step number by other times step p q items old new stage next by_small times_small p_small q_small lower upper by_is times_is items_is step_is records n k rows lt one two =
    records n (suc k) rows (subst (λ (s : RowStep). MakesLine n (suc k) rows old s items) (sym step_is)
    (sum_makes n k rows old number by other times p q items lt by_small times_small p_small q_small lower upper by_is times_is items_is one two))

pub sums_same : (number : ℕ) (p : List ℤ) (numbers : List ℕ) (lines : List (List ℤ)) (r : Record) (s : Stage) → RecordsSums number p numbers lines r s r s
sums_same number p numbers lines r s n k rows lt one all = records_same n (suc k) rows r s

pub all_same : (numbers : List ℕ) (lines : List (List ℤ)) (r : Record) (s : Stage) → RecordsAll numbers lines r s r s
all_same numbers lines r s n k rows lt all = records_same n (suc k) rows r s

-- as many numbers as lines
lines_get : (n k : ℕ) (rows : List Row) (r : Record) (numbers : List ℕ) (lines : List (List ℤ)) (i : ℕ) → i < length lines → AreLinesOf n k rows r numbers lines →
    IsLineOf n k rows r (get_or numbers i 0) (get_or lines i [])
lines_get n k rows r [] [] i lt all = absurd (omega arith)
lines_get n k rows r [] (line ∷ lines) i lt all = absurd all
lines_get n k rows r (number ∷ numbers) [] i lt all = absurd all
lines_get n k rows r (number ∷ numbers) (line ∷ lines) zero lt all = all.0
lines_get n k rows r (number ∷ numbers) (line ∷ lines) (suc i) lt all = lines_get n k rows r numbers lines i (omega arith) all.1

-- the line of this place
line_at : (n k : ℕ) (rows : List Row) (r : Record) (numbers : List ℕ) (keys : List (Vec ℤ Global)) (i : ℕ) (d : Vec ℤ Global) (number : ℕ) (line : List ℤ) → i < length keys →
    number ≡ get_or numbers i 0 → line ≡ (get_or keys i d).items → AreLinesOf n k rows r numbers (items_of keys) → IsLineOf n k rows r number line
line_at n k rows r numbers keys i d number line lt number_is line_is all =
    let count : length (items_of keys) ≡ length keys = length-map keys (λ l. l.items) in
    let here : IsLineOf n k rows r (get_or numbers i 0) (get_or (items_of keys) i []) = lines_get n k rows r numbers (items_of keys) i (omega arith) all in
    let at : get_or (items_of keys) i [] ≡ line = get_or-map (λ l. l.items) keys i d [] lt ∙ sym line_is in
    subst (λ (m : ℕ). IsLineOf n k rows r m line) (sym number_is) (subst (IsLineOf n k rows r (get_or numbers i 0)) at here)

-- one line after another
pub all_next : (numbers : List ℕ) (keys : List (Vec ℤ Global)) (i : ℕ) (d : Vec ℤ Global) (number : ℕ) (line : List ℤ) (r0 r1 r2 : Record) (s0 s1 s2 : Stage) → i < length keys →
    number ≡ get_or numbers i 0 → line ≡ (get_or keys i d).items → RecordsAll numbers (items_of keys) r0 s0 r1 s1 → RecordsNext number line r1 s1 r2 s2 → RecordsAll numbers (items_of keys) r0 s0 r2 s2
all_next numbers keys i d number line r0 r1 r2 s0 s1 s2 within number_is line_is before after n k rows lt all =
    records_then n (suc k) rows r0 r1 r2 s0 s1 s2 (before n k rows lt all)
    (λ goes. after n k rows lt (goes.stay k number line (line_at n k rows r0 numbers keys i d number line within number_is line_is all)))

pub sums_next : (first' : ℕ) (p : List ℤ) (numbers : List ℕ) (keys : List (Vec ℤ Global)) (i : ℕ) (d : Vec ℤ Global) (number : ℕ) (line : List ℤ) (r0 r1 r2 : Record) (s0 s1 s2 : Stage) → i < length keys →
    number ≡ get_or numbers i 0 → line ≡ (get_or keys i d).items → RecordsSums first' p numbers (items_of keys) r0 s0 r1 s1 → RecordsSum first' p number line r1 s1 r2 s2 →
    RecordsSums first' p numbers (items_of keys) r0 s0 r2 s2
sums_next first' p numbers keys i d number line r0 r1 r2 s0 s1 s2 within number_is line_is before after n k rows lt one all =
    records_then n (suc k) rows r0 r1 r2 s0 s1 s2 (before n k rows lt one all)
    (λ goes. after n k rows lt (goes.stay k first' p one) (goes.stay k number line (line_at n k rows r0 numbers keys i d number line within number_is line_is all)))

pub all_sums : (numbers : List ℕ) (keys : List (Vec ℤ Global)) (i : ℕ) (d : Vec ℤ Global) (number : ℕ) (line : List ℤ) (r0 r1 r2 : Record) (s0 s1 s2 : Stage) → i < length keys →
    number ≡ get_or numbers i 0 → line ≡ (get_or keys i d).items → RecordsAll numbers (items_of keys) r0 s0 r1 s1 → RecordsSums number line numbers (items_of keys) r1 s1 r2 s2 →
    RecordsAll numbers (items_of keys) r0 s0 r2 s2
all_sums numbers keys i d number line r0 r1 r2 s0 s1 s2 within number_is line_is before after n k rows lt all =
    records_then n (suc k) rows r0 r1 r2 s0 s1 s2 (before n k rows lt all)
    (λ goes. after n k rows lt (goes.stay k number line (line_at n k rows r0 numbers keys i d number line within number_is line_is all)) (lines_stay n k rows r0 r1 numbers (items_of keys) goes all))

-- a given row is the row of its place, before any step
row_at : (n : ℕ) (rows : List Row) (r : Record) (i : ℕ) (row : Row) → i < length rows → row ≡ get_or rows i row → All (IsRowOver n) rows → r.steps.items ≡ [] → IsLineOf n zero rows r i (line_of row)
row_at n rows r i row lt row_is over none = record {
  count = (let e : length row.coefficients ≡ n = subst (λ (x : Row). length x.coefficients ≡ n) (sym row_is) (over i row lt).count in omega arith);
  each = λ j le. (let count : length (column_of rows j) ≡ length rows = length-map rows (number_in j) in
      let at : get_or (column_of rows j) i (number_in j row) ≡ number_in j row = get_or-map (number_in j) rows i row (number_in j row) lt ∙ ap (number_in j) (sym row_is) in
      ap (λ steps. row_number rows steps i j) none ∙ slice_get-get_or (column_of rows j) i (number_in j row) (omega arith) ∙ ap Some at);
}

pub rows_next : (rows : List Row) (i : ℕ) (row : Row) (number : ℕ) (r0 r1 r2 : Record) (s0 s1 s2 : Stage) → i < length rows → row ≡ get_or rows i row → number ≡ i → RecordsRows rows r0 s0 r1 s1 →
    RecordsLine number (line_of row) r1 s1 r2 s2 → RecordsRows rows r0 s0 r2 s2
rows_next rows i row number r0 r1 r2 s0 s1 s2 within row_is number_is before after n over none =
    records_then n zero rows r0 r1 r2 s0 s1 s2 (before n over none)
    (λ goes. after n zero rows (goes.stay zero number (line_of row) (subst (λ (m : ℕ). IsLineOf n zero rows r0 m (line_of row)) (sym number_is) (row_at n rows r0 i row within row_is over none))))

-- all that a stage is made from: the lines that are kept, and then the sums
pub all_then : (numbers : List ℕ) (lines : List (List ℤ)) (r0 r1 r2 : Record) (s0 s1 s2 : Stage) → RecordsAll numbers lines r0 s0 r1 s1 → RecordsAll numbers lines r1 s1 r2 s2 → RecordsAll numbers lines r0 s0 r2 s2
all_then numbers lines r0 r1 r2 s0 s1 s2 before after n k rows lt all =
    records_then n (suc k) rows r0 r1 r2 s0 s1 s2 (before n k rows lt all) (λ goes. after n k rows lt (lines_stay n k rows r0 r1 numbers lines goes all))

-- the stage, where it is whole
gathered_recorded : (n k : ℕ) (rows : List Row) (r : Record) (stage : Stage) (what : Option RowKind) → IsRecorded n k rows r stage → IsGatheredRecorded n k rows r (gathered_by stage what)
gathered_recorded n k rows r stage None all = all
gathered_recorded n k rows r stage (Some what) all = tt

none_recorded : (n k : ℕ) (rows : List Row) (r : Record) (stage : Stage) → stage.numbers.items ≡ [] → lines_of stage ≡ [] → IsRecorded n k rows r stage
none_recorded n k rows r stage numbers_is lines_is =
    subst (λ (l : List ℕ). AreLinesOf n k rows r l (lines_of stage)) (sym numbers_is) (subst (λ (l : List (List ℤ)). AreLinesOf n k rows r [] l) (sym lines_is) tt)

pub first_recorded : (rows : List Row) (old new : Record) (start stage : Stage) (what : Option RowKind) → start.numbers.items ≡ [] → lines_of start ≡ [] → RecordsRows rows old start new stage →
    RecordsFirst rows old new (gathered_by stage what)
first_recorded rows old new start stage what numbers_is lines_is records n over none given =
    let both = records n over none given (none_recorded n zero rows old start numbers_is lines_is) in
    (both.0, gathered_recorded n zero rows new stage what both.1)

-- a row that is never met
pub never_found : (n k : ℕ) (stage : Stage) (r : Record) (number : ℕ) → IsNumberOfNever stage.numbers.items (lines_of stage) number → RecordsFound n k stage r r (found.Never number)
never_found n k stage r number is rows given all =
    let here : IsLineOf (k + n) k rows r (get_or stage.numbers.items is.i 0) (get_or (lines_of stage) is.i []) = lines_get (k + n) k rows r stage.numbers.items (lines_of stage) is.i is.within all in
    record {
      given = given;
      k = k;
      line = get_or (lines_of stage) is.i [];
      is = subst (λ (m : ℕ). IsLineOf (k + n) k rows r m (get_or (lines_of stage) is.i [])) (sym is.is) here;
      never = is.never;
    }

-- what comes to a stage by the next one
pub found_next : (n k m k' : ℕ) (stage next : Stage) (r0 r1 r2 : Record) (less more : Found) → n ≡ suc m → k' ≡ suc k → RecordsGathered stage r0 r1 (gathering.Whole next) →
    RecordsFound m k' next r1 r2 less → StaysFound less more → RecordsFound n k stage r0 r2 more
found_next n k m k' stage next r0 r1 r2 less more n_is k_is gathered rest stays rows given all =
    let both = gathered (k + n) k rows (omega arith) given all in
    let same : k' + m ≡ k + n = omega arith in
    let first : IsRecorded (k' + m) k' rows r1 next =
    subst (λ (w : ℕ). IsRecorded w k' rows r1 next) (sym same) (subst (λ (i : ℕ). IsRecorded (k + n) i rows r1 next) (sym k_is) both.1) in
    let found : IsFoundRecorded (k' + m) rows r2 less = rest rows (both.0.given ∙ given) first in
    stays (k + n) rows r2 (subst (λ (w : ℕ). IsFoundRecorded w rows r2 less) same found)

pub never_at : (numbers : List ℕ) (keys : List (Vec ℤ Global)) (i : ℕ) (d : Vec ℤ Global) (number : ℕ) (line : List ℤ) → i < length keys → number ≡ get_or numbers i 0 → line ≡ (get_or keys i d).items →
    is_never_met line ≡ true → IsNumberOfNever numbers (items_of keys) number
never_at numbers keys i d number line lt number_is line_is never =
    let count : length (items_of keys) ≡ length keys = length-map keys (λ l. l.items) in
    let at : get_or (items_of keys) i [] ≡ line = get_or-map (λ l. l.items) keys i d [] lt ∙ sym line_is in
    record { i = i; within = omega arith; is = number_is; never = ap is_never_met at ∙ never }

-- the whole way, from no step to the answer
pub whole_answer : (n : ℕ) (rows : List Row) (r0 r1 r2 : Record) (stage : Stage) (more : Found) (r : Rows) → All (IsRowOver n) rows → r0.given ≡ length rows → r0.steps.items ≡ [] →
    RecordsFirst rows r0 r1 (gathering.Whole stage) → IsFirst rows (gathering.Whole stage) → RecordsFound n zero stage r1 r2 more → IsFound (outcome_of n zero (lines_of stage)) more →
    Answers r2 more r → IsEliminated n rows r
whole_answer n rows r0 r1 r2 stage more r over given none records first_is records_found found_is answers =
    let both = records n over none given in
    let same : n ≡ zero + n = omega arith in
    let all : IsRecorded (zero + n) zero rows r1 stage = subst (λ (w : ℕ). IsRecorded w zero rows r1 stage) same both.1 in
    let found : IsFoundRecorded n rows r2 more = subst (λ (w : ℕ). IsFoundRecorded w rows r2 more) (sym same) (records_found rows (both.0.given ∙ given) all) in
    let outcome_is : eliminated n rows ≡ outcome_of n zero (lines_of stage) = ap (after_stage (outcome_of n zero) zero) first_is.0 in
    answers n rows over (subst (λ (o : Outcome). IsFound o more) (sym outcome_is) found_is) found

-- the answers by what was found
pub limit_answer : (history : Record) (mark : RowMark) → Answers history (found.Limit mark) (answer.Limit mark)
limit_answer history mark n rows over is recorded = is

pub point_answer : (history : Record) (xs : Vec Fraction Global) (items : List Fraction) → items ≡ xs.items → Answers history (found.Point xs) (answer.Point items)
point_answer history xs items e n rows over is recorded = is.0 ∙ ap point (sym e)

pub never_answer : (history : Record) (number : ℕ) (steps : List RowStep) → Shows history number steps → Answers history (found.Never number) (answer.Empty steps)
never_answer history number steps shows n rows over is recorded = (is, shows n rows over recorded)
