-- A pass over the rows in one of the two orders comes to each of them.
use Rattle.std.proofs.Common.{◌≡◌, ℕ, ◌+◌, ◌-◌, ◌<◌, ◌≤◌, ◌^◌, ℤ, Bool, true, false, cond, List, [], ◌∷◌, length, All, arith, refl, sym, below_more}
use Rattle.std.specs.Prelude.{sum_by}
use Rattle.std.proofs.lemmas.Bool.{false≢true}
use Rattle.std.proofs.lemmas.List.Elements.{All-from_get_or, All-head}
use Rattle.diff_prover.specs.declared.row.DiffRow.{DiffRow}
use Rattle.diff_prover.specs.Row.{IsMet, IsWithin, Meets, assignment}
use Rattle.diff_prover.specs.Cycle.{row_at}
use Rattle.diff_prover.specs.Search.{height}

-- the place that comes at turn k
abbrev pub place_in : Bool → ℕ → ℕ → ℕ
place_in backward count k = cond backward (count - 1 - k) k

-- the rows of the first k turns are met
abbrev MetBefore : List DiffRow → Bool → List ℤ → ℕ → Type 0
MetBefore rows backward values i = (k : ℕ) → k < i → IsMet (assignment values) (row_at rows (place_in backward (length rows) k))

-- what a pass has done after its first turns
pub record Passes (rows : List DiffRow) (backward : Bool) (old values : List ℤ) (lowered : Bool) (turns : ℕ) : Type 0 where
  pub within : All (IsWithin (2 ^ 81)) values
  pub no_higher : sum_by height values ≤ sum_by height old
  pub lower : lowered ≡ true → sum_by height values < sum_by height old
  pub same : lowered ≡ false → values ≡ old
  pub met : lowered ≡ false → MetBefore rows backward values turns

pub passes_none : (rows : List DiffRow) (backward : Bool) (values : List ℤ) → All (IsWithin (2 ^ 81)) values → Passes rows backward values values false 0
passes_none rows backward values within = record {
  within = within;
  no_higher = omega arith;
  lower = λ e. absurd (false≢true e);
  same = λ _. refl;
  met = λ _ k lt. absurd (omega arith);
}

module _ (rows : List DiffRow) (backward : Bool) (old values new : List ℤ) (lowered : Bool) (turns place : ℕ)
    (passes : Passes rows backward old values lowered turns) where
  -- a row that is met
  pub passes_met : place ≡ place_in backward (length rows) turns → new ≡ values → Meets (assignment new) (row_at rows place ∷ []) →
      Passes rows backward old new lowered (turns + 1)
  passes_met here same meets =
      let row : IsMet (assignment values) (row_at rows (place_in backward (length rows) turns)) =
      let at_place : IsMet (assignment new) (row_at rows place) = All-head (IsMet (assignment new)) (row_at rows place) [] meets in
      rw (here, same) at at_place in
      rw same (record {
        within = passes.within;
        no_higher = passes.no_higher;
        lower = passes.lower;
        same = passes.same;
        met = λ e. below_more (λ k. IsMet (assignment values) (row_at rows (place_in backward (length rows) k))) turns (passes.met e) row;
      })

  -- a row that lowered a value
  pub passes_lowered : sum_by height new < sum_by height values → All (IsWithin (2 ^ 81)) new → Passes rows backward old new true (turns + 1)
  passes_lowered less within =
      let before = passes.no_higher in
      record {
        within = within;
        no_higher = omega arith;
        lower = λ _. omega arith;
        same = λ e. absurd (false≢true (sym e));
        met = λ e. absurd (false≢true (sym e));
      }

-- a pass that lowered nothing comes to each row
pub passes_all : (rows : List DiffRow) (backward : Bool) (old values : List ℤ) (turns : ℕ) → length rows ≤ turns →
    Passes rows backward old values false turns → (values ≡ old) × Meets (assignment values) rows
passes_all rows backward old values turns le passes =
    (passes.same refl, All-from_get_or (IsMet (assignment values)) rows _ (each backward (passes.met refl)))
  where
    each : (backward : Bool) → MetBefore rows backward values turns → (k : ℕ) → k < length rows → IsMet (assignment values) (row_at rows k)
    each false met k lt = met k (omega arith)
    each true met k lt =
        let e : length rows - 1 - (length rows - 1 - k) ≡ k = omega arith in
        rw e at (met (length rows - 1 - k) (omega arith))
