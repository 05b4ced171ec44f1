-- A number below a count that is not marked after the walk over a side is that of a parameter that the side omits.
-- The marks are unset before the walk.
use Rattle.std.proofs.Common.{◌≡◌, ◌+◌, ℕ, zero, suc, Bool, false, not, ◌||◌, List, [], ◌∷◌, ◌++◌, length, replicate, refl, sym, ap, ◌∙◌, arith}
use Rattle.std.proofs.Math.Bool.{or-false}
use Rattle.std.proofs.lemmas.List.{length-replicate, replicate_more}
use Rattle.std.proofs.lemmas.List.Folds.{list_any-append}
use Rattle.std.specs.List.{list_any}
use Rattle.toy_imp.specs.Block.{Block}
use Rattle.toy_imp.specs.Faults.{occurs, omits_below}
use Rattle.rule_faults.specs.Marks.{marked_from, marked, block_marked}

marked_last : (k : ℕ) (found : ℕ → Bool) (ms : List Bool) (m : Bool)
    → marked_from k found (ms ++ m ∷ []) ≡ marked_from k found ms ++ (m || found (k + length ms)) ∷ []
marked_last k found [] m = λ j. (m || found (sum j)) ∷ []
  where
    sum : k ≡ k + zero
    sum = omega arith
marked_last k found (x ∷ ms) m = λ j. (x || found k) ∷ (marked_last (suc k) found ms m ∙ ap (λ n. marked_from (suc k) found ms ++ (m || found n) ∷ []) sum) j
  where
    sum : suc k + length ms ≡ k + suc (length ms)
    sum = omega arith

-- marks that are all unset, once a side is walked
some_omitted : (side : Block) (n : ℕ) → list_any not (marked_from 0 (λ k. occurs k side) (replicate n false)) ≡ omits_below n side
some_omitted side zero = refl
some_omitted side (suc n) =
    ap (λ ms. list_any not (marked_from 0 (λ k. occurs k side) ms)) (sym more)
    ∙ ap (list_any not) (marked_last 0 (λ k. occurs k side) (replicate n false) false)
    ∙ list_any-append not (marked_from 0 (λ k. occurs k side) (replicate n false)) ((false || occurs (0 + length (replicate n false)) side) ∷ [])
    ∙ (λ j. some_omitted side n j || (or-false (not (occurs (all j) side)) j))
  where
    all : 0 + length (replicate n false) ≡ n
    all = omega (arith, length-replicate n false)

    next : n + 1 ≡ suc n
    next = omega arith

    more : replicate n false ++ false ∷ [] ≡ replicate (suc n) false
    more = replicate_more n false ∙ ap (λ m. replicate m false) next

pub omitted_unmarked : (side : Block) (n : ℕ) → list_any not (block_marked side (replicate n false)) ≡ omits_below n side
unfolding block_marked marked
omitted_unmarked side n = some_omitted side n
