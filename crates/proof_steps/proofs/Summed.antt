-- Rows of a sum one by one, and constants by the shape of a term.
use Rattle.std.specs.Prelude.{◌≡◌, ◌≢◌, ℤ, ◌+ℤ◌, Bool, true, false, ◌&&◌, List, [], ◌∷◌, length, Option, Some, None, refl}
use Rattle.std.proofs.Common.{ap, ◌∙◌, arith}
use Rattle.std.specs.Ordering.{int_eq}
use Rattle.rule_terms.specs.Term.{ValueTerm, num, get, ev, add, sub, mul}
use Rattle.rule_terms.specs.Order.{value_cmp, value_same}
use Rattle.refutations.specs.declared.refutation.Step.{Step}
use Rattle.refutations.specs.declared.refutation.SumRow.{SumRow}
use Rattle.proof_steps.specs.Sums.{Bound, row_bound, goes_on, goes_on_by, adds_up}
use Rattle.proof_steps.specs.Rows.{gone_on, next_reached}
use Rattle.proof_steps.specs.Steps.{has_rows}

abbrev pub is_number : ℤ → ValueTerm → Bool
is_number z (num y) = int_eq z y
is_number z _ = false

-- a constant is the same as a term exactly where the term is that constant
pub num_first : (z : ℤ) (w : ValueTerm) → value_same (num z) w ≡ is_number z w
unfolding value_cmp
num_first z (num y) = refl
num_first z (get x is s) = refl
num_first z (ev k s) = refl
num_first z (add a b) = refl
num_first z (sub a b) = refl
num_first z (mul a b) = refl

-- ---- one row
abbrev pub goes_from : (ValueTerm → ℤ → Bool) → Option (ValueTerm × ℤ) → Bool
goes_from next None = false
goes_from next (Some here) = next here.0 here.1

gone_from : (g : Bool) (b : Bound) (sum : ℤ) (next : ValueTerm → ℤ → Bool) → (g && next b.high (sum +ℤ b.by)) ≡ goes_from next (gone_on g b sum)
gone_from true b sum next = refl
gone_from false b sum next = refl

goes_by_next : (o : Option Bound) (a : ValueTerm) (sum : ℤ) (next : ValueTerm → ℤ → Bool) → goes_on_by o a sum next ≡ goes_from next (next_reached o (a, sum))
goes_by_next None a sum next = refl
goes_by_next (Some b) a sum next = gone_from (goes_on b a sum) b sum next

pub row_more : (earlier : List Step) (row : SumRow) (rows : List SumRow) (a : ValueTerm) (sum : ℤ) (z : ValueTerm) (c : ℤ) →
    adds_up earlier (row ∷ rows) a sum z c ≡ goes_from (λ b more. adds_up earlier rows b more z c) (next_reached (row_bound earlier row) (a, sum))
unfolding adds_up
row_more earlier row rows a sum z c = goes_by_next (row_bound earlier row) a sum (λ b more. adds_up earlier rows b more z c)

pub row_taken : (earlier : List Step) (row : SumRow) (rows : List SumRow) (a : ValueTerm) (sum : ℤ) (z : ValueTerm) (c : ℤ) (b : ValueTerm) (more : ℤ) →
    next_reached (row_bound earlier row) (a, sum) ≡ Some (b, more) → adds_up earlier (row ∷ rows) a sum z c ≡ adds_up earlier rows b more z c
row_taken earlier row rows a sum z c b more e = row_more earlier row rows a sum z c ∙ ap (goes_from (λ v by. adds_up earlier rows v by z c)) e

pub row_refused : (earlier : List Step) (row : SumRow) (rows : List SumRow) (a : ValueTerm) (sum : ℤ) (z : ValueTerm) (c : ℤ) →
    next_reached (row_bound earlier row) (a, sum) ≡ None → adds_up earlier (row ∷ rows) a sum z c ≡ false
row_refused earlier row rows a sum z c e = row_more earlier row rows a sum z c ∙ ap (goes_from (λ v by. adds_up earlier rows v by z c)) e

-- ---- whether there are any
pub no_rows : (rows : List SumRow) → length rows ≡ 0 → has_rows rows ≡ false
no_rows [] e = refl
no_rows (row ∷ rows) e = absurd (omega arith)

pub some_rows : (rows : List SumRow) → length rows ≢ 0 → has_rows rows ≡ true
some_rows [] e = absurd (e refl)
some_rows (row ∷ rows) e = refl
