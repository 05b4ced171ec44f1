-- A walk along the parents keeps its trail, ends, and closes a cycle where it comes round.
use Rattle.std.proofs.Common.{◌≡◌, ◌≢◌, ℕ, ◌+◌, ◌-◌, ◌<◌, ◌≤◌, Bool, cond, List, [], ◌∷◌, ◌++◌, length, set, drop, Option, Some, arith, refl, sym, ap, ◌∙◌, zero, suc, get_or, ⊎_elim, get_or-set_same, get_or-set_other}
use Rattle.std.specs.Prelude.{count_by, nat_lt}
use Rattle.std.proofs.lemmas.List.{length-set, length_push, get_or_append_left, get_or_push, drop-drop, get_or-drop, length-drop, drop_more}
use Rattle.std.proofs.lemmas.List.Sums.{sum_by-set, count_by-le-length}
use Rattle.std.proofs.lemmas.List.Elements.{All-push}
use Rattle.std.proofs.lemmas.Bool.{cases_eq}
use Rattle.std.proofs.lemmas.Bool.Decides.{nat_tests}
use Rattle.diff_prover.specs.declared.row.DiffRow.{DiffRow}
use Rattle.diff_prover.specs.Cycle.{IsWalk, IsCycle, row_at, rows_at}
use Rattle.diff_prover.specs.Search.{parent_of, ArePlaced, IsParent, IsTrail}

abbrev IsVisited : ℕ → Bool
IsVisited number = nat_lt 0 number

-- a visit counts one more
visited_more : (visits : List ℕ) (at number : ℕ) → at < length visits → get_or visits at 0 ≡ 0 → 0 < number →
    count_by IsVisited (set visits at number) ≡ count_by IsVisited visits + 1
visited_more visits at number lt fresh above =
    let one : ℕ → ℕ = λ x. cond (nat_lt 0 x) 1 0 in
    let changed = sum_by-set one visits at number 0 lt in
    let before : one (get_or visits at 0) ≡ 0 = ap one fresh in
    let after : one number ≡ 1 = one_above number above in
    omega arith
  where
    one_above : (x : ℕ) → 0 < x → ◌≡◌ {A = ℕ} (cond (nat_lt 0 x) 1 0) 1
    one_above x above = grind (arith, nat_tests)

-- where a variable was not visited, there were fewer visits than variables
pub not_all_visited : (visits : List ℕ) (at : ℕ) → at < length visits → get_or visits at 0 ≡ 0 → count_by IsVisited visits < length visits
not_all_visited visits at lt fresh =
    let more = visited_more visits at 1 lt fresh (omega arith) in
    let most = count_by-le-length IsVisited (set visits at 1) in
    let same = length-set visits at 1 in
    omega arith

-- a walk goes on by one row
pub walk_push : (rows : List DiffRow) (places : List ℕ) (place a b : ℕ) → IsWalk a (rows_at rows places) b → (row_at rows place).left ≡ b →
    IsWalk a (rows_at rows (places ++ place ∷ [])) (row_at rows place).right
walk_push rows [] place a b walk left = (left ∙ sym walk, refl)
walk_push rows (first ∷ places) place a b walk left = (walk.0, walk_push rows places place (row_at rows first).right b walk.1 left)

-- a part of a walk is a walk
pub walk_drop : (rows : List DiffRow) (places : List ℕ) (i a b : ℕ) → IsWalk a (rows_at rows places) b → i < length places →
    IsWalk (row_at rows (get_or places i 0)).left (rows_at rows (drop i places)) b
walk_drop rows [] i a b walk lt = absurd (omega arith)
walk_drop rows (first ∷ places) zero a b walk lt = (refl, walk.1)
walk_drop rows (first ∷ places) (suc i) a b walk lt = walk_drop rows places i (row_at rows first).right b walk.1 (omega arith)

-- a walk that comes back to a variable of its trail closes a cycle there
pub walk_closes : (rows : List DiffRow) (trail : List ℕ) (base number start at : ℕ) → base ≤ number → number < length trail →
    IsWalk start (rows_at rows (drop base trail)) at → (row_at rows (get_or trail number 0)).left ≡ at →
    IsCycle (rows_at rows (drop number trail))
walk_closes rows trail base number start at le lt walk left =
    let inside : number - base < length (drop base trail) = let l = length-drop base trail in omega arith in
    let there : base + (number - base) ≡ number = omega arith in
    let part = walk_drop rows (drop base trail) (number - base) start at walk inside in
    let first : get_or (drop base trail) (number - base) 0 ≡ get_or trail number 0 = get_or-drop base trail (number - base) 0 ∙ ap (λ k. get_or trail k 0) there in
    let rest : drop (number - base) (drop base trail) ≡ drop number trail = drop-drop (number - base) base trail ∙ ap (λ k. drop k trail) there in
    let more : drop number trail ≡ get_or trail number 0 ∷ drop (number + 1) trail = drop_more trail number 0 lt in
    let whole : IsWalk (row_at rows (get_or trail number 0)).left (rows_at rows (get_or trail number 0 ∷ drop (number + 1) trail)) at =
    rw (first, rest, more) at part in
    rw more (rw left whole.1)

-- one more variable is visited
pub trail_push : (rows : List DiffRow) (parents : List (Option ℕ)) (visits trail : List ℕ) (at place number : ℕ) →
    ArePlaced rows parents → IsTrail rows parents visits trail → at < length parents → get_or visits at 0 ≡ 0 →
    parent_of parents at ≡ Some place → number ≡ length trail + 1 →
    IsTrail rows parents (set visits at number) (trail ++ place ∷ [])
trail_push rows parents visits trail at place number placed is lt fresh parent number_is =
    let inside : at < length visits = omega (arith, is.count) in
    let left = placed.left at place parent in
    let longer = length_push trail place in
    let new = get_or-set_same visits at number 0 inside in
    let old : (v : ℕ) → v ≢ at → get_or (set visits at number) v 0 ≡ get_or visits v 0 = λ v ne. get_or-set_other visits at v number 0 ne in
    record {
      count = length-set visits at number ∙ is.count;
      parent = All-push (IsParent rows parents) trail place is.parent (ap (parent_of parents) left ∙ parent);
      visited = visited_more visits at number inside fresh (omega arith) ∙ (let v = is.visited in omega arith);
      number = λ v above. ⊎_elim
          (λ (e : v ≡ at). let n : get_or (set visits at number) v 0 ≡ number = rw e new in omega arith)
          (λ (ne : v ≢ at). let n = old v ne in let b = is.number v (omega arith) in omega arith)
          (cases_eq v at);
      left = λ v above. ⊎_elim
          (λ (e : v ≡ at).
          let n : get_or (set visits at number) v 0 ≡ number = rw e new in
          let last : get_or (trail ++ place ∷ []) (get_or (set visits at number) v 0 - 1) 0 ≡ place = get_or_push trail place 0 _ (omega arith) in
          rw last (left ∙ sym e))
          (λ (ne : v ≢ at).
          let n = old v ne in
          let b = is.number v (omega arith) in
          let kept : get_or (trail ++ place ∷ []) (get_or (set visits at number) v 0 - 1) 0 ≡ get_or trail (get_or visits v 0 - 1) 0 =
          get_or_append_left trail (place ∷ []) 0 _ (omega arith) ∙ ap (λ k. get_or trail (k - 1) 0) n in
          rw kept (is.left v (omega arith)))
          (cases_eq v at);
    }
