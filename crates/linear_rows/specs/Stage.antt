-- Stages of Fourier-Motzkin elimination (Motzkin 1936). A line is a row as a list of numbers: the bound, and
-- then the coefficients of the variables that are not eliminated yet; those of the others are 0.
-- A stage is a list of lines, each in lowest terms, no two of them equal.
use Rattle.std.specs.Prelude.{ℕ, ◌/◌, ◌^◌, ℤ, pos, ◌+ℤ◌, ◌*ℤ◌, ◌&&◌, ◌||◌, Bool, cond, max, nat_le, int_lt, int_le, int_div, unsigned_abs, ◌≤◌, All, List, [], ◌∷◌, ◌++◌, map, length, true, Result, Ok, Err}
use Rattle.std.specs.List.{filter, list_any, list_all, flat_map}
use Rattle.std.specs.Ordering.{int_eq}
use Rattle.std.specs.Cmp.Lexicographic.{pointwise}
use Rattle.linear_rows.specs.declared.row.Row.{Row}
use Rattle.linear_rows.specs.declared.answer.RowKind.{RowKind}
use Rattle.linear_rows.specs.declared.answer.RowKind.TheVariants.{Rows, Coefficient}
use Rattle.linear_rows.specs.Divisor.{divisor, common_divisor}
use Rattle.linear_rows.specs.Fractions.{is_small}

abbrev pub line_of : Row → List ℤ
line_of row = row.bound ∷ row.coefficients

abbrev pub bound : List ℤ → ℤ
bound [] = pos 0
bound (b ∷ coefficients) = b

-- the coefficient of the first variable that is left
abbrev pub first : List ℤ → ℤ
first (b ∷ a ∷ coefficients) = a
first _ = pos 0

-- the line without that variable
abbrev pub without_first : List ℤ → List ℤ
without_first (b ∷ a ∷ coefficients) = b ∷ coefficients
without_first line = line

-- no coefficient but 0
abbrev pub has_no_variables : List ℤ → Bool
has_no_variables [] = true
has_no_variables (b ∷ coefficients) = list_all (λ a. int_eq a (pos 0)) coefficients

-- no variables, and a bound of at least 0 or below 0
abbrev pub is_always_met : List ℤ → Bool
is_always_met line = has_no_variables line && int_le (pos 0) (bound line)

abbrev pub is_never_met : List ℤ → Bool
is_never_met line = has_no_variables line && int_lt (bound line) (pos 0)

-- the greatest common divisor of all its numbers, or 1 where all are 0
abbrev pub cut_of : List ℤ → ℕ
cut_of line = max 1 (common_divisor line)

-- divided by it
abbrev pub lowest : List ℤ → List ℤ
lowest line = map (λ z. int_div z (pos (cut_of line))) line

-- the stage so far with one more line: one that is always met or equals an earlier line is dropped; else the
-- limit of 4,096 lines comes first, and then that of 2^62 on each number
abbrev pub is_dropped : List (List ℤ) → List ℤ → Bool
is_dropped stage line = is_always_met line || list_any (pointwise int_eq line) stage

abbrev pub taken : List (List ℤ) → List ℤ → Result (List (List ℤ)) RowKind
taken stage line =
    cond (is_dropped stage line) (Ok stage) (cond (nat_le 4096 (length stage)) (Err Rows) (cond (list_all is_small line) (Ok (stage ++ line ∷ [])) (Err Coefficient)))

abbrev pub and_then : (List (List ℤ) → Result (List (List ℤ)) RowKind) → Result (List (List ℤ)) RowKind → Result (List (List ℤ)) RowKind
and_then f (Ok stage) = f stage
and_then f (Err what) = Err what

-- lines taken one after another, each in lowest terms
abbrev pub gathered : List (List ℤ) → List (List ℤ) → Result (List (List ℤ)) RowKind
gathered stage [] = Ok stage
gathered stage (line ∷ lines) = and_then (λ more. gathered more lines) (taken stage (lowest line))

-- the sum of a lower bound p and an upper bound q by the least multipliers that cancel the first variable
abbrev pub mixed : ℤ → List ℤ → ℤ → List ℤ → List ℤ
mixed a (x ∷ xs) b (y ∷ ys) = ((a *ℤ x) +ℤ (b *ℤ y)) ∷ mixed a xs b ys
mixed a _ b _ = []

-- how often a line is taken, so that a coefficient a of the other one is cancelled: a's magnitude by their
-- common divisor
abbrev pub multiplier : ℤ → ℤ → ℕ
multiplier a b = unsigned_abs a / divisor (unsigned_abs a) (unsigned_abs b)

abbrev pub cancelled : List ℤ → List ℤ → List ℤ
cancelled p q = without_first (mixed (pos (multiplier (first q) (first p))) p (pos (multiplier (first p) (first q))) q)

abbrev pub is_lower : List ℤ → Bool
is_lower line = int_lt (first line) (pos 0)

abbrev pub is_upper : List ℤ → Bool
is_upper line = int_lt (pos 0) (first line)

-- what the next stage is made from: the lines without the variable, and then for each lower bound, and within
-- that for each upper bound, the sum that cancels it
abbrev pub kept_lines : List (List ℤ) → List (List ℤ)
kept_lines stage = map without_first (filter (λ line. int_eq (first line) (pos 0)) stage)

abbrev pub sums_of : List ℤ → List (List ℤ) → List (List ℤ)
sums_of p lines = map (cancelled p) (filter is_upper lines)

abbrev pub sums_with : List (List ℤ) → List (List ℤ) → List (List ℤ)
sums_with stage lines = flat_map (λ p. sums_of p stage) (filter is_lower lines)

abbrev pub cancelled_lines : List (List ℤ) → List (List ℤ)
cancelled_lines stage = sums_with stage stage

abbrev pub next_lines : List (List ℤ) → List (List ℤ)
next_lines stage = kept_lines stage ++ cancelled_lines stage

abbrev pub next_stage : List (List ℤ) → Result (List (List ℤ)) RowKind
next_stage stage = gathered [] (next_lines stage)

-- numbers of magnitude at most 2^62, as in a stage, and at most 2^126, as before a division
abbrev pub IsSmall : List ℤ → Type 0
IsSmall line = All (λ z. unsigned_abs z ≤ 2 ^ 62) line

abbrev pub IsWide : List ℤ → Type 0
IsWide line = All (λ z. unsigned_abs z ≤ 2 ^ 126) line
