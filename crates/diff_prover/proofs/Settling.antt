-- A cycle that was found settles the rows, and below the lowest value one is always found.
use Rattle.std.proofs.Common.{◌≡◌, ℕ, ◌≤◌, ◌^◌, ℤ, pos, neg_ℤ, ◌<ℤ◌, true, List, [], All, Option, Some, None, Result, Ok, Err, refl, IfOk, OnOk}
use Rattle.std.specs.Prelude.{is_some}
use Rattle.std.proofs.lemmas.Bool.{false≢true}
use Rattle.diff_prover.specs.declared.row.DiffRow.{DiffRow}
use Rattle.diff_prover.specs.Row.{IsRowOver, assignment}
use Rattle.diff_prover.specs.Search.{AreExplained, IsTrail, Follows, MeetsOrRefutes, FallsOrRefutes}
use Rattle.diff_prover.proofs.Descents.{refutation, no_root}

module _ (n : ℕ) (rows : List DiffRow) (values : List ℤ) (parents : List (Option ℕ)) (explained : AreExplained n rows values parents)
    (visits trail : List ℕ) where
  -- a cycle that was found
  pub cycle_falls : (old : List ℤ) (before : List ℕ) (start : ℕ) (found : Option ℕ) → is_some found ≡ true → IsTrail rows parents visits trail →
      Follows rows parents before trail start found → FallsOrRefutes rows old values trail found
  cycle_falls old before start None some is cycle = absurd (false≢true some)
  cycle_falls old before start (Some number) some is cycle = rw explained.count (refutation n rows values parents explained visits trail number is cycle)

  -- the walk from a variable below the lowest value
  pub below_settles : {E : Type 0} (result : Result (Option ℕ) E) (variable : ℕ) → n ≤ 65536 → All (IsRowOver n) rows →
      assignment values variable <ℤ neg_ℤ (pos (2 ^ 81)) → OnOk result (IsTrail rows parents visits trail) →
      IfOk result (Follows rows parents [] trail variable) → IfOk result (MeetsOrRefutes rows values trail)
  below_settles (Ok None) variable few over low is found =
      absurd (no_root n rows values parents explained visits trail variable few over is low (found refl))
  below_settles (Ok (Some number)) variable few over low is cycle =
      rw explained.count (refutation n rows values parents explained visits trail number is cycle)
  below_settles (Err e) variable few over low is found = tt

  -- likewise where the values were to fall
  pub below_falls : {E : Type 0} (old : List ℤ) (result : Result (Option ℕ) E) (variable : ℕ) → n ≤ 65536 → All (IsRowOver n) rows →
      assignment values variable <ℤ neg_ℤ (pos (2 ^ 81)) → OnOk result (IsTrail rows parents visits trail) →
      IfOk result (Follows rows parents [] trail variable) → IfOk result (FallsOrRefutes rows old values trail)
  below_falls old (Ok None) variable few over low is found =
      absurd (no_root n rows values parents explained visits trail variable few over is low (found refl))
  below_falls old (Ok (Some number)) variable few over low is cycle =
      rw explained.count (refutation n rows values parents explained visits trail number is cycle)
  below_falls old (Err e) variable few over low is found = tt
