-- The values stay explained where a row that is not met lowers its left variable.
use Rattle.std.proofs.Common.{◌≡◌, ◌≢◌, ℕ, ◌<◌, ◌≤◌, ◌^◌, ℤ, pos, neg_ℤ, ◌+ℤ◌, ◌<ℤ◌, ◌≤ℤ◌, cond, eqb, List, length, set, All, Option, Some, None, arith, refl, sym, ap, ◌∙◌, suc, ⊎_elim, get_or-set_same, get_or-set_other}
use Rattle.std.specs.Prelude.{sum_by, replicate}
use Rattle.std.proofs.lemmas.Int.{ints}
use Rattle.std.proofs.lemmas.List.{set-get_or, length-set, get_or-replicate, get_or_past, length-replicate}
use Rattle.std.proofs.lemmas.List.Sums.{sum_by-set}
use Rattle.std.proofs.lemmas.List.Elements.{All-set}
use Rattle.std.proofs.lemmas.Bool.{cases_eq, cases_lt}
use Rattle.std.proofs.lemmas.Bool.Decides.{nat_tests}
use Rattle.diff_prover.specs.declared.row.DiffRow.{DiffRow}
use Rattle.diff_prover.specs.Row.{IsWithin, IsRowOver, assignment}
use Rattle.diff_prover.specs.Cycle.{row_at}
use Rattle.diff_prover.specs.declared.lowering.Lowered.TheVariants.{Somewhere, Below}
use Rattle.diff_prover.specs.Search.{parent_of, IsTight, Explains, AreExplained, height, Lowers}

-- a lower value stands lower
pub height_falls : (old new : ℤ) → new <ℤ old → neg_ℤ (pos (2 ^ 81)) ≤ℤ new → height new < height old
height_falls old new lower above = omega (arith, ints)

-- what is known of a row and of its variables' values before it is looked at
pub record Bounds (rows : List DiffRow) (values : List ℤ) (place : ℕ) : Type 0 where
  pub over : IsRowOver (length values) (row_at rows place)
  pub left : IsWithin (2 ^ 81) (assignment values (row_at rows place).left)
  pub right : IsWithin (2 ^ 81) (assignment values (row_at rows place).right)

pub bounds : (rows : List DiffRow) (values : List ℤ) (place : ℕ) → All (IsRowOver (length values)) rows → All (IsWithin (2 ^ 81)) values →
    place < length rows → Bounds rows values place
bounds rows values place over within lt =
    let row : IsRowOver (length values) (row_at rows place) = over place _ lt in
    record {
      over = row;
      left = within (row_at rows place).left (pos 0) row.left_below;
      right = within (row_at rows place).right (pos 0) row.right_below;
    }

-- the rank k at one variable, and the others' as they were
abbrev ranked : (ℕ → ℕ) → ℕ → ℕ → ℕ → ℕ
ranked rank variable k w = cond (eqb w variable) k (rank w)

ranked_same : (rank : ℕ → ℕ) (variable k w : ℕ) → w ≡ variable → ranked rank variable k w ≡ k
ranked_same rank variable k w e = grind (arith, nat_tests)

ranked_other : (rank : ℕ → ℕ) (variable k w : ℕ) → w ≢ variable → ranked rank variable k w ≡ rank w
ranked_other rank variable k w e = grind (arith, nat_tests)

module _ (n : ℕ) (rows : List DiffRow) (values : List ℤ) (parents : List (Option ℕ)) (place : ℕ) (bound : ℤ)
    (explained : AreExplained n rows values parents) (in_range : place < length rows) (over : IsRowOver n (row_at rows place))
    (bound_is : bound ≡ assignment values (row_at rows place).right +ℤ (row_at rows place).by)
    (lower : bound <ℤ assignment values (row_at rows place).left) where
  lowered : List ℤ
  lowered = set values (row_at rows place).left bound

  lowered_parents : List (Option ℕ)
  lowered_parents = set parents (row_at rows place).left (Some place)

  lowered_rank : ℕ → ℕ
  lowered_rank = ranked explained.rank (row_at rows place).left (suc (explained.rank (row_at rows place).right))

  at_left : (v : ℕ) → v ≡ (row_at rows place).left → assignment lowered v ≡ bound
  unfolding lowered
  at_left v e = let lt : (row_at rows place).left < length values = omega (arith, explained.count, over.left_below) in
      rw e (get_or-set_same values (row_at rows place).left bound (pos 0) lt)

  elsewhere : (v : ℕ) → v ≢ (row_at rows place).left → assignment lowered v ≡ assignment values v
  unfolding lowered
  elsewhere v ne = get_or-set_other values (row_at rows place).left v bound (pos 0) ne

  never_higher : (v : ℕ) → assignment lowered v ≤ℤ assignment values v
  never_higher v = ⊎_elim
      (λ (e : v ≡ (row_at rows place).left). let a = at_left v e in let b : assignment values v ≡ assignment values (row_at rows place).left = ap (assignment values) e in omega (arith, ints))
      (λ (ne : v ≢ (row_at rows place).left). let a = elsewhere v ne in omega (arith, ints))
      (cases_eq v (row_at rows place).left)

  -- the right variable is set earlier than the left one, now that the left one is set by this row
  tight_here : IsTight lowered lowered_rank (row_at rows place)
  unfolding lowered_rank
  tight_here =
      let left = (row_at rows place).left in
      let right = (row_at rows place).right in
      let here = at_left left refl in
      let down = never_higher right in
      record {
        reaches = omega (arith, ints);
        earlier = λ same.
            let apart : right ≢ left = λ e. let a = at_left right e in let b : assignment values right ≡ assignment values left = ap (assignment values) e in omega (arith, ints) in
            let r = ranked_other explained.rank left (suc (explained.rank right)) right apart in
            let l = ranked_same explained.rank left (suc (explained.rank right)) left refl in
            omega arith;
      }

  -- the other rows stay tight
  tight_other : (row : DiffRow) → row.left ≢ (row_at rows place).left → IsTight values explained.rank row → IsTight lowered lowered_rank row
  unfolding lowered_rank
  tight_other row apart tight =
      let k = suc (explained.rank (row_at rows place).right) in
      let here = elsewhere row.left apart in
      let down = never_higher row.right in
      let reaches = tight.reaches in
      record {
        reaches = omega (arith, ints);
        earlier = λ same.
            let l = ranked_other explained.rank (row_at rows place).left k row.left apart in
            ⊎_elim
            (λ (e : row.right ≡ (row_at rows place).left). let a = at_left row.right e in let b : assignment values row.right ≡ assignment values (row_at rows place).left = ap (assignment values) e in
            absurd (omega (arith, ints)))
            (λ (ne : row.right ≢ (row_at rows place).left).
            let a = elsewhere row.right ne in
            let r = ranked_other explained.rank (row_at rows place).left k row.right ne in
            let was : assignment values row.right +ℤ row.by ≡ assignment values row.left = omega (arith, ints) in
            let before = tight.earlier was in
            omega arith)
            (cases_eq row.right (row_at rows place).left);
      }

  parent_here : (v : ℕ) → v ≡ (row_at rows place).left → parent_of lowered_parents v ≡ Some place
  unfolding lowered_parents
  parent_here v e = let lt : (row_at rows place).left < length parents = omega (arith, explained.parent_count, over.left_below) in
      rw e (get_or-set_same parents (row_at rows place).left (Some place) None lt)

  parent_elsewhere : (v : ℕ) → v ≢ (row_at rows place).left → parent_of lowered_parents v ≡ parent_of parents v
  unfolding lowered_parents
  parent_elsewhere v ne = get_or-set_other parents (row_at rows place).left v (Some place) None ne

  explains_here : (v other : ℕ) → v ≡ (row_at rows place).left → parent_of lowered_parents v ≡ Some other → Explains rows lowered lowered_rank v other
  explains_here v other e is =
      let same : other ≡ place = let p = parent_here v e in cc in
      rw same (record { in_range = in_range; left = sym e; tight = tight_here })

  explains_elsewhere : (v other : ℕ) → v ≢ (row_at rows place).left → parent_of lowered_parents v ≡ Some other → Explains rows lowered lowered_rank v other
  explains_elsewhere v other ne is =
      let was = explained.parent v other (sym (parent_elsewhere v ne) ∙ is) in
      record { in_range = was.in_range; left = was.left; tight = tight_other (row_at rows other) (λ e. ne (sym was.left ∙ e)) was.tight }

  lowered_root : (v : ℕ) → parent_of lowered_parents v ≡ None → assignment lowered v ≡ pos 0
  lowered_root v is = ⊎_elim
      (λ (e : v ≡ (row_at rows place).left). let p = parent_here v e in cc)
      (λ (ne : v ≢ (row_at rows place).left). elsewhere v ne ∙ explained.root v (sym (parent_elsewhere v ne) ∙ is))
      (cases_eq v (row_at rows place).left)

  lowered_count : length lowered ≡ n
  unfolding lowered
  lowered_count = length-set values (row_at rows place).left bound ∙ explained.count

  lowered_parent_count : length lowered_parents ≡ n
  unfolding lowered_parents
  lowered_parent_count = length-set parents (row_at rows place).left (Some place) ∙ explained.parent_count

  pub lowered_explained : AreExplained n rows (set values (row_at rows place).left bound) (set parents (row_at rows place).left (Some place))
  unfolding lowered lowered_parents
  lowered_explained = record {
    count = lowered_count;
    parent_count = lowered_parent_count;
    rank = lowered_rank;
    root = lowered_root;
    parent = λ v other is. ⊎_elim
        (λ (e : v ≡ (row_at rows place).left). explains_here v other e is)
        (λ (ne : v ≢ (row_at rows place).left). explains_elsewhere v other ne is)
        (cases_eq v (row_at rows place).left);
  }

  -- the values stand lower in all
  pub lowered_falls : neg_ℤ (pos (2 ^ 81)) ≤ℤ bound → sum_by height (set values (row_at rows place).left bound) < sum_by height values
  lowered_falls above =
      let lt : (row_at rows place).left < length values = omega (arith, explained.count, over.left_below) in
      let s = sum_by-set height values (row_at rows place).left bound (pos 0) lt in
      let f = height_falls (assignment values (row_at rows place).left) bound lower above in
      omega arith

  pub lowered_below : (looked : List DiffRow) → bound <ℤ neg_ℤ (pos (2 ^ 81)) →
      Lowers looked values (set values (row_at rows place).left bound) (Below (row_at rows place).left)
  unfolding lowered
  lowered_below looked low =
      let here = at_left (row_at rows place).left refl in
      let count = lowered_count in
      (omega (arith, explained.count, over.left_below), omega (arith, ints))

  pub lowered_somewhere : (looked : List DiffRow) → neg_ℤ (pos (2 ^ 81)) ≤ℤ bound → All (IsWithin (2 ^ 81)) values →
      Lowers looked values (set values (row_at rows place).left bound) Somewhere
  lowered_somewhere looked above within =
      let lt : (row_at rows place).left < length values = omega (arith, explained.count, over.left_below) in
      let was = within (row_at rows place).left (pos 0) lt in
      let is : IsWithin (2 ^ 81) bound = record { above = above; below = omega (arith, ints, was.below) } in
      (lowered_falls above, All-set (IsWithin (2 ^ 81)) values (row_at rows place).left bound is within)

-- where no value was lowered yet, all are explained
pub zeros_explained : (n : ℕ) (rows : List DiffRow) → AreExplained n rows (replicate n (pos 0)) (replicate n None)
zeros_explained n rows = record {
  count = length-replicate n (pos 0);
  parent_count = length-replicate n None;
  rank = λ _. 0;
  root = λ v is. zero_at n v;
  parent = λ v place is. let none = none_at n v in cc;
}
  where
    zero_at : (n v : ℕ) → assignment (replicate n (pos 0)) v ≡ pos 0
    zero_at n v = ⊎_elim
        (λ (lt : v < n). get_or-replicate n v (pos 0) (pos 0) lt)
        (λ (le : n ≤ v). let l = length-replicate n (pos 0) in get_or_past (replicate n (pos 0)) v (pos 0) (omega arith))
        (cases_lt v n)

    none_at : (n v : ℕ) → parent_of (replicate n None) v ≡ None
    none_at n v = ⊎_elim
        (λ (lt : v < n). get_or-replicate n v None None lt)
        (λ (le : n ≤ v). let l = length-replicate {A = Option ℕ} n None in get_or_past (replicate n None) v None (omega arith))
        (cases_lt v n)

-- so are fresh values and parents
pub fresh_explained : (n : ℕ) (rows : List DiffRow) (values : List ℤ) (parents : List (Option ℕ)) → values ≡ replicate n (pos 0) →
    parents ≡ replicate n None → AreExplained (length values) rows values parents
fresh_explained n rows values parents v p =
    let count : length values ≡ n = ap length v ∙ length-replicate n (pos 0) in
    rw (count, v, p) (zeros_explained n rows)

-- to write a variable's parent anew changes nothing
pub parent_kept : (parents : List (Option ℕ)) (variable place : ℕ) → parent_of parents variable ≡ Some place → set parents variable (Some place) ≡ parents
parent_kept parents variable place is = rw (← is) (set-get_or parents variable None)
