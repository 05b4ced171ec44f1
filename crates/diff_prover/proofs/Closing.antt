-- How a check that reads the places one after another says what is left to show, and that a cycle bounds every assignment.
use Rattle.std.proofs.Common.{◌≡◌, ℕ, ◌+◌, ◌<◌, ◌≤◌, ◌↔◌, ℤ, pos, ◌+ℤ◌, ◌<ℤ◌, ◌≤ℤ◌, List, [], ◌∷◌, length, All, IsTrue, arith, sym, ap, ◌∙◌, get_or, drop}
use Rattle.std.specs.Prelude.{int_lt}
use Rattle.std.proofs.lemmas.Int.{ints}
use Rattle.std.proofs.lemmas.List.{drop_more, drop_all}
use Rattle.std.proofs.lemmas.List.Elements.{All-nil, All-cons, All-head, All-tail}
use Rattle.diff_prover.specs.declared.row.DiffRow.{DiffRow}
use Rattle.diff_prover.specs.Row.{IsMet, Meets, HaveNoSolution}
use Rattle.diff_prover.specs.Cycle.{IsWalk, sum_of, row_at, rows_at, IsNegativeCycle}

-- the places that are left take a walk from `at` back to `start`, and the sum with theirs is negative
pub record Closes (rows : List DiffRow) (start at : ℕ) (sum : ℤ) (places : List ℕ) : Type 0 where
  pub in_range : All (λ place. place < length rows) places
  pub closes : IsWalk at (rows_at rows places) start
  pub negative : (sum +ℤ sum_of (rows_at rows places)) <ℤ pos 0

abbrev InRange : List DiffRow → ℕ → Type 0
InRange rows = λ place. place < length rows

-- the first place is settled
pub closes_first : (rows : List DiffRow) (places others : List ℕ) (first : ℕ) (row : DiffRow) (sum : ℤ) → places ≡ first ∷ others →
    first < length rows → row ≡ row_at rows first → sum ≡ row.by →
    IsNegativeCycle rows places ↔ Closes rows row.left row.right sum others
closes_first rows places others first row sum e lt is by =
    rw (e, by, is) (
      λ h. record { in_range = All-tail (InRange rows) first others h.in_range; closes = h.closes; negative = h.negative },
      λ h. record { in_range = All-cons (InRange rows) first others lt h.in_range; closes = h.closes; negative = h.negative },
    )

next_places : (places : List ℕ) (i place : ℕ) → i < length places → place ≡ get_or places i 0 → drop i places ≡ place ∷ drop (i + 1) places
next_places places i place lt is = rw is (drop_more places i 0 lt)

-- a place out of range closes nothing
pub not_in_range : (rows : List DiffRow) (whole : Type 0) (start at : ℕ) (sum : ℤ) (places : List ℕ) (i place : ℕ) →
    i < length places → place ≡ get_or places i 0 → length rows ≤ place →
    whole ↔ Closes rows start at sum (drop i places) → whole → ⊥
not_in_range rows whole start at sum places i place lt is past iff h =
    let closes : Closes rows start at sum (place ∷ drop (i + 1) places) = rw (next_places places i place lt is) at (iff.0 h) in
    let within = All-head (InRange rows) place (drop (i + 1) places) closes.in_range in
    omega arith

-- one more place is settled
pub closes_next : (rows : List DiffRow) (whole : Type 0) (start at : ℕ) (sum next : ℤ) (places : List ℕ) (i place : ℕ) (row : DiffRow) →
    i < length places → place ≡ get_or places i 0 → place < length rows → row ≡ row_at rows place → row.left ≡ at → next ≡ sum +ℤ row.by →
    whole ↔ Closes rows start at sum (drop i places) →
    whole ↔ Closes rows start row.right next (drop (i + 1) places)
closes_next rows whole start at sum next places i place row lt is in_range row_is left sum_is iff =
    let others = drop (i + 1) places in
    let unfolds : (row_at rows place).left ≡ at = ap (λ (r : DiffRow). r.left) (sym row_is) ∙ left in
    let same : next ≡ sum +ℤ (row_at rows place).by = sum_is ∙ ap (λ (r : DiffRow). sum +ℤ r.by) row_is in (
      λ h.
          let closes : Closes rows start at sum (place ∷ others) = rw (next_places places i place lt is) at (iff.0 h) in
          let n = closes.negative in
          rw row_is (record { in_range = All-tail (InRange rows) place others closes.in_range; closes = closes.closes.1; negative = omega (arith, ints) }),
      λ closes.
          let after : Closes rows start (row_at rows place).right next others = rw row_is at closes in
          let n = after.negative in
          let before : Closes rows start at sum (place ∷ others) =
          record { in_range = All-cons (InRange rows) place others in_range after.in_range; closes = (unfolds, after.closes); negative = omega (arith, ints) } in
          iff.1 (rw (next_places places i place lt is) before),
    )

-- with no place left, a walk back at the start and a negative sum close the cycle
pub closes_last : (rows : List DiffRow) (whole : Type 0) (start at : ℕ) (sum : ℤ) (places : List ℕ) (i : ℕ) → length places ≤ i →
    at ≡ start → IsTrue (int_lt sum (pos 0)) → whole ↔ Closes rows start at sum (drop i places) → whole
closes_last rows whole start at sum places i le back below iff =
    let negative : sum <ℤ pos 0 = grind (arith, ints) in
    let closes : Closes rows start at sum [] = record { in_range = All-nil (InRange rows); closes = back; negative = omega (arith, ints) } in
    iff.1 (rw (drop_all i places le) closes)

-- along a walk an assignment that meets the rows rises by at most the sum
pub walk_bounds : (x : ℕ → ℤ) (rows : List DiffRow) (places : List ℕ) (a b : ℕ) → Meets x rows → All (λ place. place < length rows) places →
    IsWalk a (rows_at rows places) b → x a ≤ℤ (x b +ℤ sum_of (rows_at rows places))
walk_bounds x rows [] a b meets within walk =
    let e : x a ≡ x b = ap x walk in omega (arith, ints)
walk_bounds x rows (place ∷ places) a b meets within walk =
    let lt = All-head (InRange rows) place places within in
    let met : IsMet x (row_at rows place) = meets place _ lt in
    let rest = walk_bounds x rows places (row_at rows place).right b meets (All-tail (InRange rows) place places within) walk.1 in
    let e : x (row_at rows place).left ≡ x a = ap x walk.0 in
    omega (arith, ints)

-- a cycle with a negative sum refutes the rows
pub no_solution : (rows : List DiffRow) (places : List ℕ) → IsNegativeCycle rows places → HaveNoSolution rows
no_solution rows [] h x meets = h.closes
no_solution rows (place ∷ places) h x meets =
    let lt = All-head (InRange rows) place places h.in_range in
    let met : IsMet x (row_at rows place) = meets place _ lt in
    let rest = walk_bounds x rows places (row_at rows place).right (row_at rows place).left meets (All-tail (InRange rows) place places h.in_range) h.closes in
    let n = h.negative in
    omega (arith, ints)
